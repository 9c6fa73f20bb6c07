use Rattle.vs_ring_plain.proofs.Moving.{Writes}
use Rattle.vs_ring_plain.proofs.access.write_pieces.Given as goal

abbrev pub invariant-loop-piece : goal.invariant-loop-piece
invariant-loop-piece l = Writes l.initial.mem l.pieces l.at l.bytes l.mem l.piece-index l.skip l.written
