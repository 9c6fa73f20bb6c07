use Rattle.laws_tables.proofs.Keeps.{makes_reset, puts_event, takes_event, takes_reset}
use Rattle.laws_tables.proofs.laws.law_of_events.Goals as goal

pub returns-clause-put : goal.returns-clause-put
returns-clause-put c = puts_event

pub returns-clause-got : goal.returns-clause-got
returns-clause-got c = takes_event

pub returns-clause-reset_taken : goal.returns-clause-reset_taken
returns-clause-reset_taken c = takes_reset

pub returns-clause-reset_made : goal.returns-clause-reset_made
returns-clause-reset_made c = makes_reset
