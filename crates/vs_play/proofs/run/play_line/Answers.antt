use Rattle.std.proofs.Common.{[], arith}
use Rattle.vs_report.{proofs.LinesGiven.{at_any_end, at_no_end, given_as, nothing_given}, specs.declared.giving.GiveError.TheVariants.OutOfMemory}
use Rattle.vs_script.specs.Play.{play_view}
use Rattle.vs_play.specs.{Lines.event_played, Ready.world_in}
use Rattle.vs_play.proofs.run.play_line.Goals as goal

pub returns-in_err-line-clause-printed : goal.returns-in_err-line-clause-printed
returns-in_err-line-clause-printed g c =
    nothing_given (g.K.Sink.contents c.args.out.now) (g.K.Sink.faults c.args.out.now) (event_played (play_view c.args.line.now) (world_in c.args.play.now)).1 []
    c.from_residual.result (grind (arith, c.from_residual.ensures))

pub returns-in_err-line-clause-world : goal.returns-in_err-line-clause-world
returns-in_err-line-clause-world g c = at_no_end _ c.from_residual.result OutOfMemory (grind (arith, c.from_residual.ensures))

pub returns-in_err-line-clause-ready : goal.returns-in_err-line-clause-ready
returns-in_err-line-clause-ready g c = at_no_end _ c.from_residual.result OutOfMemory (grind (arith, c.from_residual.ensures))

pub returns-clause-printed : goal.returns-clause-printed
returns-clause-printed g c =
    given_as (g.K.Sink.contents c.args.out.now) (g.K.Sink.contents c.give_text.new.out) (g.K.Sink.faults c.args.out.now)
    (g.K.Sink.faults c.give_text.new.out) c.give_text.result _ _ _ c.clear.ensures.bytes c.in_ok-line.ensures.printed c.give_text.ensures

pub returns-clause-world : goal.returns-clause-world
returns-clause-world g c = at_any_end c.give_text.result c.in_ok-line.ensures.world

pub returns-clause-ready : goal.returns-clause-ready
returns-clause-ready g c = at_any_end c.give_text.result c.in_ok-line.ensures.ready
