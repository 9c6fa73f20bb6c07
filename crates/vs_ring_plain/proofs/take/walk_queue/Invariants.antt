use Rattle.std.{proofs.Common.◌≡◌, proofs.Common.◌-◌, proofs.Common.length, specs.Prelude.vec_capacity}
use Rattle.vs_ring_plain.proofs.Walk.{Comes, along_queue}
use Rattle.vs_ring_plain.proofs.take.walk_queue.Given as goal

abbrev pub invariant-walk : goal.invariant-walk
invariant-walk l =
    Comes (along_queue l.queue l.initial.mem l.fn.head) l.mem l.pieces.items l.number
    × (vec_capacity l.pieces ≡ vec_capacity l.initial.pieces)

abbrev pub decreases-walk : goal.decreases-walk
decreases-walk l = l.queue.n - length l.pieces.items
