use Rattle.std.proofs.Common.{◌∙◌, arith}
use Rattle.vs_peer.proofs.Pieces.{emits_more, rest_length}
use Rattle.vs_peer.proofs.sink.emit.Goals as goal

pub loop-at-preserved : goal.loop-at-preserved
loop-at-preserved g c = record {
  within = omega (arith, rest_length c.args.bytes.now c.loop-at.at, c.in-Took.ensures.some.0);
  given = emits_more _ _ _ c.args.bytes.now c.loop-at.at c.in-Took.n c.loop-at.invariant.given c.in-Took.ensures.adds;
  faults = c.in-Took.ensures.counts ∙ c.loop-at.invariant.faults;
}
