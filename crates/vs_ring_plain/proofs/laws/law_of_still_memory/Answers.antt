use Rattle.vs_ring_plain.proofs.Still.{still_after, still_bytes}
use Rattle.vs_ring_plain.proofs.laws.law_of_still_memory.Goals as goal

pub returns-clause-bytes : goal.returns-clause-bytes
returns-clause-bytes c = still_bytes

pub returns-clause-still : goal.returns-clause-still
returns-clause-still c = still_after
