use Rattle.std.proofs.Common.{Ok, Err, ap, ◌≡◌, map, arith}
use Rattle.vs_hostile.{proofs.Attacks.{attack_given, attack_less, attack_until}, specs.{Answer.{given, lines_of, texts_of}, Run.beginning}}
use Rattle.vs_report.{proofs.LinesGiven.nothing_behind, specs.declared.giving.GiveError.TheVariants.OutOfMemory}
use Rattle.vs_script.specs.Script.{numbered_hostile}
use Rattle.vs_hostile.proofs.run.hostile.Goals as goal

pub returns-in_err-give_lines-clause-lines : goal.returns-in_err-give_lines-clause-lines
returns-in_err-give_lines-clause-lines g c =
    attack_until c.args.lines.now c.in_ok-world.world c.in_ok-world.ensures.beginning (g.K.Sink.contents c.args.out.now)
    (g.K.Sink.contents c.give_lines.new.out) (g.K.Sink.faults c.args.out.now) (g.K.Sink.faults c.give_lines.new.out)
    c.in_err-give_lines.field-0.0 c.from_residual-in_err-give_lines.result (grind (arith, c.from_residual-in_err-give_lines.ensures))
    c.in_err-give_lines.ensures.printed

pub returns-in_err-give_report-clause-lines : goal.returns-in_err-give_report-clause-lines
returns-in_err-give_report-clause-lines g c =
    attack_less c.args.lines.now c.in_ok-world.world c.in_ok-world.ensures.beginning (g.K.Sink.contents c.args.out.now)
    (g.K.Sink.contents c.give_report.new.out) (g.K.Sink.faults c.args.out.now) (g.K.Sink.faults c.give_report.new.out)
    c.give_lines.new.world (g.K.Sink.contents c.give_lines.new.out) (g.K.Sink.faults c.give_lines.new.out)
    c.in_err-give_report.field-0.0 c.from_residual-in_err-give_report.result
    (grind (arith, c.from_residual-in_err-give_report.ensures)) c.in_ok-give_lines.ensures.state c.in_ok-give_lines.ensures.printed
    c.in_err-give_report.ensures

pub returns-clause-lines : goal.returns-clause-lines
returns-clause-lines g c =
    attack_given c.args.lines.now c.in_ok-world.world c.in_ok-world.ensures.beginning (g.K.Sink.contents c.args.out.now)
    (g.K.Sink.contents c.give_report.new.out) (g.K.Sink.faults c.args.out.now) (g.K.Sink.faults c.give_report.new.out)
    c.give_lines.new.world (g.K.Sink.contents c.give_lines.new.out) (g.K.Sink.faults c.give_lines.new.out)
    (Ok c.status.result) c.in_ok-give_lines.ensures.state c.in_ok-give_lines.ensures.printed c.in_ok-give_report.ensures

pub returns-in_err-world-clause-lines : goal.returns-in_err-world-clause-lines
returns-in_err-world-clause-lines g c =
    let failed : c.from_residual.result ≡ Err OutOfMemory = grind (arith, c.from_residual.ensures) in
    nothing_behind (g.K.Sink.contents c.args.out.now) (g.K.Sink.faults c.args.out.now)
    (texts_of (lines_of (map numbered_hostile c.args.lines.now)) beginning) _ _ (given c.from_residual.result) (ap given failed)
