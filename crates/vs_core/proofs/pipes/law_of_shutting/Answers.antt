use Rattle.laws_world.{specs.{Events.run, Pipes.IsFresh, World.opening}, proofs.{Carried.{sent_stays, wrote_stays}, Opening.{run_goes, run_well}}}
use Rattle.vs_core.proofs.pipes.law_of_shutting.Goals as goal

pub returns-clause-sent : goal.returns-clause-sent
returns-clause-sent c = λ how host es more opened now k.
    let w = run es (opening how host) in
    let well = run_well how host es in
    sent_stays w (run more w) well (run_goes (IsFresh host) more w well) k opened now

pub returns-clause-wrote : goal.returns-clause-wrote
returns-clause-wrote c = λ how host es more k.
    let w = run es (opening how host) in
    let well = run_well how host es in
    wrote_stays w (run more w) well (run_goes (IsFresh host) more w well) k
