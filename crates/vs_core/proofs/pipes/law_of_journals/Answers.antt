use Rattle.laws_world.{specs.{Events.run, Pipes.IsFresh, World.opening}, proofs.{Carried.{none_received, received_from_device, sent_to_device}, Opening.{run_goes, run_well}}}
use Rattle.vs_core.proofs.pipes.law_of_journals.Goals as goal

pub returns-clause-right : goal.returns-clause-right
returns-clause-right c = λ how host es. let well = run_well how host es in (well.opened, well.right)

pub returns-clause-on : goal.returns-clause-on
returns-clause-on c = λ how host es more.
    let well = run_well how host es in
    let goes = run_goes (IsFresh host) more (run es (opening how host)) well in
    (well.opened, goes.well.opened, goes.on, well.right, goes.well.right)

pub returns-clause-sent : goal.returns-clause-sent
returns-clause-sent c = λ how host es opened k right. sent_to_device (run es (opening how host)) (run_well how host es) opened right k

pub returns-clause-received : goal.returns-clause-received
returns-clause-received c = λ how host es opened id right. received_from_device (run es (opening how host)) (run_well how host es) opened right id

pub returns-clause-silent : goal.returns-clause-silent
returns-clause-silent c = λ how host es opened id right. none_received (run es (opening how host)) (run_well how host es) opened right id
