use Rattle.laws_world.{specs.{Events.run, World.opening, Pipes.IsFresh}, proofs.{Opening.{opening_is, reached, run_well}, Runs.{and_then, stays}, Sound.happens_goes}}
use Rattle.vs_core.proofs.laws.law_of_events.Goals as goal

pub returns-clause-each : goal.returns-clause-each
returns-clause-each c = λ how host es e. (happens_goes (IsFresh host) (run es (opening how host)) (run_well how host es) e).runs

pub returns-clause-all : goal.returns-clause-all
returns-clause-all c = λ how host es. and_then _ _ _ (stays _ _ (opening_is how host)) (reached how host es).runs
