use Rattle.laws_tables.proofs.{Going.may_do, Shutting.{is_past, is_shut, step_past, step_shut}}
use Rattle.laws_tables.proofs.laws.law_of_shutting.Goals as goal

pub returns-clause-begins : goal.returns-clause-begins
returns-clause-begins c = is_shut

pub returns-clause-step : goal.returns-clause-step
returns-clause-step c = λ role f step w other shut. step_shut role f w shut step other

pub returns-clause-decides : goal.returns-clause-decides
returns-clause-decides c = is_past

pub returns-clause-stays : goal.returns-clause-stays
returns-clause-stays c = λ role first c step w may m fair x. step_past role first w m.flows c x step (may_do role step w may) fair
