use Rattle.vs_page.specs.Log.{side_of, whole_of}
use Rattle.laws_tables.proofs.{Fair.fair_ordered, Fair.older_ordered, Fair.ordered_in_order, Once.once_ordered}
use Rattle.laws_tables.proofs.laws.law_of_order.Goals as goal

pub returns-clause-in_order : goal.returns-clause-in_order
returns-clause-in_order c = ordered_in_order

pub returns-clause-older : goal.returns-clause-older
returns-clause-older c = older_ordered

pub returns-clause-fair : goal.returns-clause-fair
returns-clause-fair c = λ role log fair f. fair_ordered (side_of role f) (whole_of role f log) (fair f)

pub returns-clause-once : goal.returns-clause-once
returns-clause-once c = λ role log once f. once_ordered (side_of role f) (whole_of role f log) (once f).0 (once f).1
