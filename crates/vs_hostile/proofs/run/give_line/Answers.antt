use Rattle.std.proofs.Common.{[], arith}
use Rattle.vs_report.{proofs.LinesGiven.{at_any_end, at_no_end, given_as, nothing_given}, specs.declared.giving.GiveError.TheVariants.OutOfMemory}
use Rattle.vs_script.specs.Hostile.{hostile_view}
use Rattle.vs_hostile.specs.{Answer.said_text, Run.hostile_does}
use Rattle.vs_hostile.proofs.run.give_line.Goals as goal

pub returns-in_err-line-clause-printed : goal.returns-in_err-line-clause-printed
returns-in_err-line-clause-printed g c =
    nothing_given (g.K.Sink.contents c.args.out.now) (g.K.Sink.faults c.args.out.now)
    (said_text (hostile_does (hostile_view c.args.line.now) c.args.world.now).1) [] c.from_residual.result (grind (arith, c.from_residual.ensures))

pub returns-in_err-line-clause-state : goal.returns-in_err-line-clause-state
returns-in_err-line-clause-state g c = at_no_end _ c.from_residual.result OutOfMemory (grind (arith, c.from_residual.ensures))

pub returns-in_err-line-clause-ready : goal.returns-in_err-line-clause-ready
returns-in_err-line-clause-ready g c = at_no_end _ c.from_residual.result OutOfMemory (grind (arith, c.from_residual.ensures))

pub returns-clause-printed : goal.returns-clause-printed
returns-clause-printed g c =
    given_as (g.K.Sink.contents c.args.out.now) (g.K.Sink.contents c.give_text.new.out) (g.K.Sink.faults c.args.out.now)
    (g.K.Sink.faults c.give_text.new.out) c.give_text.result _ _ _ c.clear.ensures.bytes c.in_ok-line.ensures.printed c.give_text.ensures

pub returns-clause-state : goal.returns-clause-state
returns-clause-state g c = at_any_end c.give_text.result c.in_ok-line.ensures.state

pub returns-clause-ready : goal.returns-clause-ready
returns-clause-ready g c = at_any_end c.give_text.result c.in_ok-line.ensures.ready
