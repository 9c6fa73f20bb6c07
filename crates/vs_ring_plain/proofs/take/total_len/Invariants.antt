use Rattle.std.proofs.Common.{◌≡◌, ◌*◌, ◌≤◌, ◌^◌, take}
use Rattle.vs_ring_plain.specs.Chain.{total_len}
use Rattle.vs_ring_plain.proofs.take.total_len.Given as goal

abbrev pub invariant-loop-piece : goal.invariant-loop-piece
invariant-loop-piece l = (l.total ≡ total_len (take l.piece-index l.pieces)) × (l.total ≤ l.piece-index * 2 ^ 32)
