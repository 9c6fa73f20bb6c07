use Rattle.laws_tables.proofs.Entries.{added_other, added_same, replaced_other, replaced_same, without_other, without_same}
use Rattle.laws_tables.proofs.laws.law_of_ends.Goals as goal

pub returns-clause-replaced : goal.returns-clause-replaced
returns-clause-replaced c = λ f e now part has. replaced_same f e now part.entries has

pub returns-clause-left : goal.returns-clause-left
returns-clause-left c = λ f part. without_same f part.entries

pub returns-clause-added : goal.returns-clause-added
returns-clause-added c = λ f e part none. added_same f e part.entries none

pub returns-clause-others_replaced : goal.returns-clause-others_replaced
returns-clause-others_replaced c = λ f g e part other. replaced_other f g e part.entries other

pub returns-clause-others_left : goal.returns-clause-others_left
returns-clause-others_left c = λ f g part other. without_other f g part.entries other

pub returns-clause-others_added : goal.returns-clause-others_added
returns-clause-others_added c = λ f g e part other. added_other f g e part.entries other
