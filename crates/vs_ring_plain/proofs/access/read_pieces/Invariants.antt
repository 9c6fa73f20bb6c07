use Rattle.std.proofs.Common.{length}
use Rattle.vs_ring_plain.proofs.Moving.{Reads}
use Rattle.vs_ring_plain.proofs.access.read_pieces.Given as goal

abbrev pub invariant-loop-piece : goal.invariant-loop-piece
invariant-loop-piece l = Reads l.initial.mem l.pieces l.at (length l.initial.out) l.mem l.piece-index l.skip l.filled l.out
