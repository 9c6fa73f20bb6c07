use Rattle.std.proofs.Common.{arith}
use Rattle.vs_hostile.proofs.Attacks.{ran_next, ran_until}
use Rattle.vs_hostile.proofs.run.give_lines.Goals as goal

pub returns-in_err-give_line-clause-printed : goal.returns-in_err-give_line-clause-printed
returns-in_err-give_line-clause-printed g c =
    ran_until c.args.lines.now c.loop-line.line-index c.line-item.result c.args.world.now c.loop-line.world
    (g.K.Sink.contents c.args.out.now) (g.K.Sink.contents c.loop-line.out) (g.K.Sink.contents c.give_line.new.out)
    (g.K.Sink.faults c.args.out.now) (g.K.Sink.faults c.loop-line.out) (g.K.Sink.faults c.give_line.new.out)
    c.in_err-give_line.field-0.0 c.from_residual.result (grind (arith, c.from_residual.ensures)) c.loop-line-test.true c.line-item.is
    c.loop-line.invariant.ran c.in_err-give_line.ensures.printed

pub loop-line-preserved : goal.loop-line-preserved
loop-line-preserved g c = record {
  ready = c.in_ok-give_line.ensures.ready;
  ran =
      ran_next c.args.lines.now c.loop-line.line-index c.line-item.result c.args.world.now c.loop-line.world c.give_line.new.world
      (g.K.Sink.contents c.args.out.now) (g.K.Sink.contents c.loop-line.out) (g.K.Sink.contents c.give_line.new.out)
      (g.K.Sink.faults c.args.out.now) (g.K.Sink.faults c.loop-line.out) (g.K.Sink.faults c.give_line.new.out)
      c.loop-line-test.true c.line-item.is c.in_ok-give_line.ensures.state c.loop-line.invariant.ran c.in_ok-give_line.ensures.printed;
}
