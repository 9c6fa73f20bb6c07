use Rattle.vs_both_ends.proofs.Memory.{fits_at}
use Rattle.vs_both_ends.proofs.standard_rings.memory_size.Goals as goal

pub returns-clause-limit : goal.returns-clause-limit
returns-clause-limit c = rw c.next_multiple_of.ensures.value (rw c.queue_areas-areas.ensures.exact (fits_at c.args.n c.requires).size)
