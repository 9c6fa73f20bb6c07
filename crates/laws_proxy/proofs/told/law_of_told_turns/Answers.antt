use Rattle.vs_page.specs.Log.{Device, side_of, whole_of}
use Rattle.laws_tables.proofs.Once.{once_ordered}
use Rattle.laws_proxy.proofs.Telling.{flow_grow_told, new_proxy_told, reset_told, table_told, turn_told}
use Rattle.laws_proxy.proofs.told.law_of_told_turns.Goals as goal

pub returns-clause-new : goal.returns-clause-new
returns-clause-new c = new_proxy_told

pub returns-clause-turn : goal.returns-clause-turn
returns-clause-turn c = λ first size now s a b x holds runs. turn_told first s a b holds size now x runs

pub returns-clause-reset : goal.returns-clause-reset
returns-clause-reset c = λ first cid s a b x fits holds runs. reset_told first s a b holds cid x fits runs

pub returns-clause-grow : goal.returns-clause-grow
returns-clause-grow c = λ first alloc flow s r holds. flow_grow_told flow alloc s first r holds

pub returns-clause-table : goal.returns-clause-table
returns-clause-table c = table_told

pub returns-clause-once : goal.returns-clause-once
returns-clause-once c = λ first s r holds still l is once.
    table_told first s r holds still l is (λ f. once_ordered (side_of Device f) (whole_of Device f l.entries) (once f).0 (once f).1)
