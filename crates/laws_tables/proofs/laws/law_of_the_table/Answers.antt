use Rattle.laws_tables.proofs.Tables.{all_open, driver_begun, driver_open, end_begun, end_new, none_open, reset_empty, table_distinct, table_open}
use Rattle.laws_tables.proofs.laws.law_of_the_table.Goals as goal

pub returns-clause-once : goal.returns-clause-once
returns-clause-once c = λ role first part log m. table_distinct role first part log m.flows

pub returns-clause-open : goal.returns-clause-open
returns-clause-open c = λ role first part log f m. table_open role first part log f m.flows

pub returns-clause-driver : goal.returns-clause-driver
returns-clause-driver c = λ first part log f m. driver_open first part log f m.flows

pub returns-clause-all : goal.returns-clause-all
returns-clause-all c = λ role first part log f m. all_open role first part log f m.flows

pub returns-clause-closed : goal.returns-clause-closed
returns-clause-closed c = λ role first part log f m none. none_open role first part log f m.flows none

pub returns-clause-reset : goal.returns-clause-reset
returns-clause-reset c = λ role first cid part log m. reset_empty role first cid part log m.flows

pub returns-clause-begun : goal.returns-clause-begun
returns-clause-begun c = λ first part log f e m has. driver_begun first part log f e m.flows has

pub returns-clause-follows : goal.returns-clause-follows
returns-clause-follows c = λ role first part log f e m has old. end_begun role first part log f e m.flows has old

pub returns-clause-new : goal.returns-clause-new
returns-clause-new c = λ role first part log f e m has new.
    let a = end_new role first part log f e m.flows has new in (a.none_awaited, a.asking)

pub returns-clause-kept_once : goal.returns-clause-kept_once
returns-clause-kept_once c = λ role first part log m. m.flows.once
