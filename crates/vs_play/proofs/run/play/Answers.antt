use Rattle.std.proofs.Common.{map, arith}
use Rattle.vs_report.proofs.LinesGiven.{nothing_behind}
use Rattle.vs_script.specs.Script.{numbered_event}
use Rattle.vs_play.{specs.Answer.{events_in, opened_play, texts_of}, proofs.LinesPlayed.{events_of, run_until, run_given}}
use Rattle.vs_play.proofs.run.play.Goals as goal

pub returns-in_err-play_lines : goal.returns-in_err-play_lines
returns-in_err-play_lines g c =
    run_until (g.R.BothEnds.ends c.args.rings).lists.size c.args.first (events_of c.args.lines.now) c.in_ok-play.play
    (g.K.Sink.contents c.args.out.now) (g.K.Sink.contents c.play_lines.new.out) (g.K.Sink.contents c.play_lines.new.out)
    (g.K.Sink.faults c.args.out.now) (g.K.Sink.faults c.play_lines.new.out) (g.K.Sink.faults c.play_lines.new.out)
    c.from_residual-in_err-play_lines.result c.in_ok-play.ensures.world c.in_err-play_lines.field-0.0
    (grind (arith, c.from_residual-in_err-play_lines.ensures)) c.in_err-play_lines.ensures.printed

pub returns : goal.returns
returns g c =
    run_given (g.R.BothEnds.ends c.args.rings).lists.size c.args.first (events_of c.args.lines.now) c.in_ok-play.play
    (g.K.Sink.contents c.args.out.now) (g.K.Sink.contents c.play_lines.new.out) (g.K.Sink.contents c.report.new.out)
    (g.K.Sink.faults c.args.out.now) (g.K.Sink.faults c.play_lines.new.out) (g.K.Sink.faults c.report.new.out)
    c.report.result c.in_ok-play.ensures.world c.play_lines.new.play c.in_ok-play_lines.ensures.world c.in_ok-play_lines.ensures.printed
    c.report.ensures

pub returns-in_err-play : goal.returns-in_err-play
returns-in_err-play g c =
    nothing_behind (g.K.Sink.contents c.args.out.now) (g.K.Sink.faults c.args.out.now)
    (texts_of (events_in (map numbered_event c.args.lines.now)) (opened_play (g.R.BothEnds.ends c.args.rings).lists.size c.args.first)) _ _
    c.from_residual.result (grind (arith, c.from_residual.ensures))
