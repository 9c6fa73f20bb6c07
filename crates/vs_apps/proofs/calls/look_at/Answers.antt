use Rattle.std.proofs.Common.{arith, refl}
use Rattle.laws_driver.specs.Carried.Calls as call
use Rattle.vs_apps_parts.specs.declared.journal.Called.TheVariants as called
use Rattle.laws_apps.proofs.Making.{calls_as, look_plays}
use Rattle.vs_apps.proofs.calls.look_at.Goals as goal

pub returns-clause-calls : goal.returns-clause-calls
returns-clause-calls c = λ script ring apps. calls_as script c.args.app (call.LookAt c.args.id) c.state-answer.result
    (called.LookAt c.args.id c.state-answer.result) c.args.driver.now _ _ c.args.journal.now.bytes refl (omega arith) tt refl _ ring ring apps _ _ refl
    (look_plays c.args.id _ _ ring c.state-answer.ensures)
    (c.note_call.ensures.told script c.args.journal.now.bytes) c.note_call.ensures.entries c.note_call.ensures.bytes
