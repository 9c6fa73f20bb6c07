use Rattle.std.proofs.Common.{◌≡◌, ◌-◌, ◌+◌, vec_len}
use Rattle.vs_peer.specs.{Pieces.ReadsOn, declared.source.TheConstants.SOURCE_MAX}
use Rattle.vs_peer.proofs.source.read_source.Given as goal

-- what was read and what is left are what was left at first
abbrev pub invariant-loop-piece : goal.invariant-loop-piece
invariant-loop-piece g l = record {
  read : ReadsOn (g.S.Source.contents l.fn.source) (g.S.Source.contents l.source) l.bytes.items;
  faults : g.S.Source.faults l.source ≡ g.S.Source.faults l.fn.source;
}

abbrev pub decreases-loop-piece : goal.decreases-loop-piece
decreases-loop-piece g l = SOURCE_MAX + 1 - vec_len l.bytes
