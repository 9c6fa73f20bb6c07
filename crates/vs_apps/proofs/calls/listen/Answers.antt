use Rattle.std.proofs.Common.{arith, refl}
use Rattle.laws_driver.specs.Carried.Calls as call
use Rattle.laws_driver.proofs.Carried.SamePages.{listen_stays}
use Rattle.vs_driver.proofs.RingPages.{ring_same}
use Rattle.vs_apps_parts.specs.declared.journal.Called.TheVariants as called
use Rattle.laws_apps.proofs.Making.{calls_as, listen_plays}
use Rattle.vs_apps.proofs.calls.listen.Goals as goal

pub returns-clause-ring : goal.returns-clause-ring
returns-clause-ring c = λ n flown staged. ring_same n flown staged _ _
    (listen_stays c.args.port _ _ c.listen-answer.result c.listen-answer.ensures.listens c.listen-answer.ensures.unchanged)

pub returns-clause-calls : goal.returns-clause-calls
returns-clause-calls c = λ script ring apps. calls_as script c.args.app (call.Listen c.args.port) c.listen-answer.result
    (called.Listen c.args.port c.listen-answer.result) c.listen-answer.new.self _ _ c.args.journal.now.bytes refl (omega arith) tt refl _ ring ring apps _ _ refl
    (listen_plays c.args.port _ _ _ ring c.listen-answer.ensures.answer c.listen-answer.ensures.listens c.listen-answer.ensures.unchanged)
    (c.note_call.ensures.told script c.args.journal.now.bytes) c.note_call.ensures.entries c.note_call.ensures.bytes
