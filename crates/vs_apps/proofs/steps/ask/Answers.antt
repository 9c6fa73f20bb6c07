use Rattle.laws_apps.proofs.Stepping.{connects_if, looks_if}
use Rattle.vs_apps.proofs.steps.ask.Goals as goal

pub returns-then-progress-clause-calls : goal.returns-then-progress-clause-calls
returns-then-progress-clause-calls g c = λ script apps. looks_if script c.args.app c.args.progress.asked c.id.result _ c.args.port c.look_at.result _ _
    c.if-progress.true c.id.ensures (c.look_at.ensures.calls script (g.R.DriverRing.contents c.args.ring.now) apps)

pub returns-else-progress-clause-calls : goal.returns-else-progress-clause-calls
returns-else-progress-clause-calls g c = λ script apps. connects_if script c.args.app c.args.progress.asked _ c.args.port c.connect.result _ _
    c.if-progress.false (c.connect.ensures.calls script apps)
