use Rattle.std.proofs.Common.{arith, refl}
use Rattle.laws_driver.specs.Carried.Calls as call
use Rattle.vs_apps_parts.specs.declared.journal.Called.TheVariants as called
use Rattle.laws_apps.proofs.Making.{calls_as, port_right}
use Rattle.vs_apps.proofs.calls.connect.Goals as goal

pub returns-clause-calls : goal.returns-clause-calls
returns-clause-calls g c = λ script apps. calls_as script c.args.app (call.Connect c.args.port) c.connect-answer.result
    (called.Connect c.args.port c.connect-answer.result c.flow_opened-flow.result) c.connect-answer.new.self _ _ c.args.journal.now.bytes refl (omega arith)
    c.flow_opened-flow.ensures refl _ _ _ apps _ _ (port_right c.args.port (omega arith)) c.connect-answer.ensures.calls
    (c.note_call.ensures.told script c.args.journal.now.bytes) c.note_call.ensures.entries c.note_call.ensures.bytes
