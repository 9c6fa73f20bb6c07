use Rattle.vs_run.proofs.Ran.{ring_size}
use Rattle.vs_run.proofs.load.load_gated.Goals as goal

pub load-requires-clause-queue : goal.load-requires-clause-queue
load-requires-clause-queue g c κs within = ring_size c.args.queue c.requires.queue
