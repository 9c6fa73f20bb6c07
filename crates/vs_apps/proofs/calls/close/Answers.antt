use Rattle.std.proofs.Common.{arith, refl, subst, sym}
use Rattle.vs_driver_parts.specs.Playing.{SamePages}
use Rattle.laws_driver.specs.Carried.Calls as call
use Rattle.laws_driver.proofs.Carried.SamePages.{close_stays}
use Rattle.vs_driver.proofs.RingPages.{ring_same}
use Rattle.vs_apps_parts.specs.declared.journal.Called.TheVariants as called
use Rattle.laws_apps.proofs.Making.{calls_as, close_plays}
use Rattle.vs_apps.proofs.calls.close.Goals as goal

pub returns-clause-ring : goal.returns-clause-ring
returns-clause-ring c = λ n flown staged. ring_same n flown staged _ _
    (subst (SamePages c.args.driver.now) (sym c.close-answer.ensures.state) (close_stays c.args.id c.args.driver.now))

pub returns-clause-calls : goal.returns-clause-calls
returns-clause-calls c = λ script ring apps. calls_as script c.args.app (call.Close c.args.id) c.close-answer.result
    (called.Close c.args.id c.close-answer.result) c.close-answer.new.self _ _ c.args.journal.now.bytes refl (omega arith) tt refl _ ring ring apps _ _ refl
    (close_plays c.args.id _ _ _ ring c.close-answer.ensures.answer c.close-answer.ensures.state)
    (c.note_call.ensures.told script c.args.journal.now.bytes) c.note_call.ensures.entries c.note_call.ensures.bytes
