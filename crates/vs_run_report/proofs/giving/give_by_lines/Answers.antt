use Rattle.std.proofs.Common.{◌∙◌, arith}
use Rattle.vs_run_report.proofs.Cut.{at_fault, piece_failed, piece_given}
use Rattle.vs_peer.proofs.Pieces.{rest_length}
use Rattle.vs_run_report.proofs.giving.give_by_lines.Goals as goal

pub returns-in_err-emit-clause-some : goal.returns-in_err-emit-clause-some
returns-in_err-emit-clause-some g c =
    at_fault c.from_residual.result
    (piece_failed (g.K.Sink.contents c.args.out.now) (g.K.Sink.contents c.loop-at.out) (g.K.Sink.contents c.emit.new.out) c.args.text.now
    c.loop-at.at c.first_line-n.result c.loop-at.invariant.given c.in_err-emit.ensures.some)

pub loop-at-preserved : goal.loop-at-preserved
loop-at-preserved g c = record {
  within = omega (arith, rest_length c.args.text.now c.loop-at.at, c.first_line-n.ensures.within, c.loop-at.invariant.within);
  given =
      piece_given (g.K.Sink.contents c.args.out.now) (g.K.Sink.contents c.loop-at.out) (g.K.Sink.contents c.emit.new.out) c.args.text.now
      c.loop-at.at c.first_line-n.result c.loop-at.invariant.given c.in_ok-emit.ensures.all;
  faults = c.in_ok-emit.ensures.no_fault ∙ c.loop-at.invariant.faults;
}
