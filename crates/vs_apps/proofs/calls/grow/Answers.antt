use Rattle.std.proofs.Common.{arith, refl, subst, sym}
use Rattle.vs_driver_parts.specs.Playing.{SamePages}
use Rattle.laws_driver.specs.Carried.Calls as call
use Rattle.laws_driver.proofs.Carried.SamePages.{grow_stays}
use Rattle.vs_driver.proofs.RingPages.{ring_same}
use Rattle.vs_apps_parts.specs.declared.journal.Called.TheVariants as called
use Rattle.laws_apps.proofs.Making.{calls_as, grow_plays}
use Rattle.vs_apps.proofs.calls.grow.Goals as goal

pub returns-clause-ring : goal.returns-clause-ring
returns-clause-ring c = λ n flown staged. ring_same n flown staged _ _
    (subst (SamePages c.args.driver.now) (sym c.grow-answer.ensures.state) (grow_stays c.args.id c.args.alloc c.args.driver.now))

pub returns-clause-calls : goal.returns-clause-calls
returns-clause-calls c = λ script ring apps. calls_as script c.args.app (call.Grow c.args.id c.args.alloc) c.grow-answer.result
    (called.Grow c.args.id c.args.alloc c.grow-answer.result) c.grow-answer.new.self _ _ c.args.journal.now.bytes refl (omega arith) tt refl _ ring ring apps _ _ refl
    (grow_plays c.args.id c.args.alloc _ _ _ ring c.grow-answer.ensures.answer c.grow-answer.ensures.state)
    (c.note_call.ensures.told script c.args.journal.now.bytes) c.note_call.ensures.entries c.note_call.ensures.bytes
