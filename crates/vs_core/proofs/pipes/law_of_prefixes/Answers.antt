use Rattle.laws_world.{specs.{Events.run, World.opening}, proofs.{Carried.{carried, read_front}, Opening.run_well}}
use Rattle.vs_core.proofs.pipes.law_of_prefixes.Goals as goal

pub returns-clause-to_host : goal.returns-clause-to_host
returns-clause-to_host c = λ how host es opened k fresh some right. read_front (run es (opening how host)) (run_well how host es) fresh opened right k some

pub returns-clause-ids : goal.returns-clause-ids
returns-clause-ids c = λ how host es opened id fresh some right. carried (run es (opening how host)) (run_well how host es) fresh opened right id some
