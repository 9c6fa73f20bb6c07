use Rattle.laws_apps.proofs.Stepping.{receives_next}
use Rattle.vs_apps.proofs.steps.recv_next.Goals as goal

pub returns-clause-calls : goal.returns-clause-calls
returns-clause-calls c = λ script ring apps. receives_next script c.args.app c.args.progress c.args.len c.id.result c.slice_left.result c.recv.result _ _
    c.id.ensures c.slice_left.ensures.exact (c.recv.ensures.calls script ring apps)
