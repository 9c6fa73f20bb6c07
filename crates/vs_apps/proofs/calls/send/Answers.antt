use Rattle.std.proofs.Common.{ℕ, List, length, arith, ap, refl}
use Rattle.vs_apps_parts.specs.Journals.{made_as}
use Rattle.laws_driver.specs.Carried.Calls as call
use Rattle.vs_apps_parts.specs.declared.journal.Called.TheVariants as called
use Rattle.laws_apps.proofs.Making.{calls_as}
use Rattle.vs_apps.proofs.calls.send.Goals as goal

pub returns-clause-calls : goal.returns-clause-calls
returns-clause-calls g c = λ script apps is. calls_as script c.args.app (call.Send c.args.id c.args.bytes.now) c.send-answer.result
    (called.Send c.args.id c.args.at c.args.from (length c.args.bytes.now) c.send-answer.result) c.send-answer.new.self _ _ c.args.journal.now.bytes
    (ap (λ (xs : List ℕ). made_as (call.Send c.args.id xs) c.send-answer.result) is) (omega arith) tt refl _ _ _ apps _ _ refl c.send-answer.ensures.calls
    (c.note_call.ensures.told script c.args.journal.now.bytes) c.note_call.ensures.entries c.note_call.ensures.bytes
