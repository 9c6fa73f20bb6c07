use Rattle.std.proofs.Common.{arith, refl, subst, sym}
use Rattle.vs_driver_parts.specs.Playing.{SamePages}
use Rattle.laws_driver.specs.Carried.Calls as call
use Rattle.laws_driver.proofs.Carried.SamePages.{accept_stays}
use Rattle.vs_driver.proofs.RingPages.{ring_same}
use Rattle.vs_apps_parts.specs.declared.journal.Called.TheVariants as called
use Rattle.laws_apps.proofs.Making.{accept_plays, calls_as}
use Rattle.vs_apps.proofs.calls.accept.Goals as goal

pub returns-clause-ring : goal.returns-clause-ring
returns-clause-ring c = λ n flown staged. ring_same n flown staged _ _
    (subst (SamePages c.args.driver.now) (sym c.accept-answer.ensures.accepted) (accept_stays c.args.port c.args.driver.now))

pub returns-clause-calls : goal.returns-clause-calls
returns-clause-calls c = λ script ring apps. calls_as script c.args.app (call.Accept c.args.port) c.accept-answer.result
    (called.Accept c.args.port c.accept-answer.result c.flow_accepted-flow.result) c.accept-answer.new.self _ _ c.args.journal.now.bytes refl (omega arith)
    c.flow_accepted-flow.ensures refl _ ring ring apps _ _ refl
    (accept_plays c.args.port _ _ _ ring c.accept-answer.ensures.answer c.accept-answer.ensures.accepted)
    (c.note_call.ensures.told script c.args.journal.now.bytes) c.note_call.ensures.entries c.note_call.ensures.bytes
