use Rattle.std.proofs.{Common.arith, Common.refl, lemmas.Option.slice_get_read}
use Rattle.vs_play.proofs.LinesPlayed.{playable_at, played_next, played_until}
use Rattle.vs_play.proofs.run.play_lines.Goals as goal

pub play_line-requires-clause-playable : goal.play_line-requires-clause-playable
play_line-requires-clause-playable g c =
    playable_at c.args.lines.now c.loop-line.line-index c.line-item.result c.requires.playable
    (slice_get_read c.args.lines.now _ c.loop-line.line-index c.line-item.result refl c.loop-line-test.true c.line-item.is)

pub returns-in_err-play_line-clause-printed : goal.returns-in_err-play_line-clause-printed
returns-in_err-play_line-clause-printed g c =
    played_until c.args.lines.now c.loop-line.line-index c.line-item.result c.args.play.now c.loop-line.play
    (g.K.Sink.contents c.args.out.now) (g.K.Sink.contents c.loop-line.out) (g.K.Sink.contents c.play_line.new.out)
    (g.K.Sink.faults c.args.out.now) (g.K.Sink.faults c.loop-line.out) (g.K.Sink.faults c.play_line.new.out)
    c.loop-line-test.true c.line-item.is c.loop-line.invariant.played c.in_err-play_line.field-0.0 c.from_residual.result
    (grind (arith, c.from_residual.ensures)) c.in_err-play_line.ensures.printed

pub loop-line-preserved : goal.loop-line-preserved
loop-line-preserved g c = record {
  ready = c.in_ok-play_line.ensures.ready;
  played =
      played_next c.args.lines.now c.loop-line.line-index c.line-item.result c.args.play.now c.loop-line.play
      (g.K.Sink.contents c.args.out.now) (g.K.Sink.contents c.loop-line.out) (g.K.Sink.contents c.play_line.new.out)
      (g.K.Sink.faults c.args.out.now) (g.K.Sink.faults c.loop-line.out) (g.K.Sink.faults c.play_line.new.out)
      c.loop-line-test.true c.line-item.is c.loop-line.invariant.played c.play_line.new.play c.in_ok-play_line.ensures.world
      c.in_ok-play_line.ensures.printed;
}
