use Rattle.laws_world.{proofs.Opening.run_well}
use Rattle.vs_core.proofs.laws.law_of_counts.Goals as goal

pub returns-clause-dropped : goal.returns-clause-dropped
returns-clause-dropped c = λ how host es. (run_well how host es).counted.dropped_is

pub returns-clause-unfailed : goal.returns-clause-unfailed
returns-clause-unfailed c = λ how host es. (run_well how host es).counted.unfailed
