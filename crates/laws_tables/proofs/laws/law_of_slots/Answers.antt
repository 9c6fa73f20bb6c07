use Rattle.laws_tables.proofs.Slots.{added_slot, changed_slot, found_by, no_entry, one_end, removed_slot}
use Rattle.laws_tables.proofs.laws.law_of_slots.Goals as goal

pub returns-clause-changed : goal.returns-clause-changed
returns-clause-changed c = λ start end_of t x v. changed_slot end_of t x v

pub returns-clause-removed : goal.returns-clause-removed
returns-clause-removed c = λ start end_of t x. removed_slot end_of t x

pub returns-clause-added : goal.returns-clause-added
returns-clause-added c = λ start end_of t f v. added_slot end_of t f v

pub returns-clause-one : goal.returns-clause-one
returns-clause-one c = λ start end_of t x. one_end end_of t x

pub returns-clause-none : goal.returns-clause-none
returns-clause-none c = λ start end_of t f. no_entry end_of t f

pub returns-clause-found : goal.returns-clause-found
returns-clause-found c = λ start test xs x. found_by test xs x
