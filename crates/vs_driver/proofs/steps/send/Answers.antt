use Rattle.std.proofs.Common.{refl}
use Rattle.vs_contents.proofs.Leads.{leads_of}
use Rattle.vs_driver_parts.specs.{Playing.RingAllows, Steps.sends}
use Rattle.laws_driver.proofs.{Keeping.keeps_end, Keeping.keeps_may, Stepping.sends_keeps}
use Rattle.vs_driver.proofs.{RingPages.ring_same, Sending.credit_then, Sending.held_then, Sending.may_now, Sending.sent_now}
use Rattle.vs_driver.proofs.steps.send.Goals as goal

pub send_with_page-requires-clause-ring : goal.send_with_page-requires-clause-ring
send_with_page-requires-clause-ring g c = ring_same _ _ _ _ _ c.in-Ok.ensures.pages c.requires.ring

pub send_with_page-requires-clause-credit : goal.send_with_page-requires-clause-credit
send_with_page-requires-clause-credit g c = credit_then c.in-Ok.ensures.ready c.ready_to_send.new.self refl

pub send_with_page-requires-clause-may : goal.send_with_page-requires-clause-may
send_with_page-requires-clause-may g c =
    may_now c.in-Ok.ensures.ready _ (keeps_may _ (sends c.args.id c.args.bytes.now c.args.driver.now)
    (g.R.DriverRing.contents c.args.ring.now)
    (sends_keeps c.requires.honest.0 c.requires.honest.1 c.args.id c.args.bytes.now c.args.driver.now (g.R.DriverRing.contents c.args.ring.now)
    c.requires.honest.2))

pub send_with_page-requires-clause-held : goal.send_with_page-requires-clause-held
send_with_page-requires-clause-held g c = held_then c.in-Ok.ensures.ready c.ready_to_send.new.self refl

pub returns-in-Ok-clause-calls : goal.returns-in-Ok-clause-calls
returns-in-Ok-clause-calls g c = sent_now c.in-Ok.ensures.ready _ _ _ c.send_with_page.ensures.calls

pub returns-in-Err-clause-ring : goal.returns-in-Err-clause-ring
returns-in-Err-clause-ring g c = ring_same _ _ _ _ _ c.in-Err.ensures.pages c.requires.ring

pub returns-in-Err-clause-calls : goal.returns-in-Err-clause-calls
returns-in-Err-clause-calls g c = leads_of RingAllows _ _ _ _ _ c.in-Err.ensures.ready.1 (refl, refl)

pub returns-in-Ok-clause-honest : goal.returns-in-Ok-clause-honest
returns-in-Ok-clause-honest g c = λ hosts first honest.
    keeps_end _ (sends c.args.id c.args.bytes.now c.args.driver.now) (g.R.DriverRing.contents c.args.ring.now) (g.R.DriverRing.contents c.send_with_page.new.ring)
    (c.send_with_page.new.self, c.send_with_page.result) (sends_keeps hosts first c.args.id c.args.bytes.now c.args.driver.now (g.R.DriverRing.contents c.args.ring.now) honest)
    (returns-in-Ok-clause-calls g c)

pub returns-in-Err-clause-honest : goal.returns-in-Err-clause-honest
returns-in-Err-clause-honest g c = λ hosts first honest.
    keeps_end _ (sends c.args.id c.args.bytes.now c.args.driver.now) (g.R.DriverRing.contents c.args.ring.now) (g.R.DriverRing.contents c.args.ring.now)
    (c.ready_to_send.new.self, c.in-Err.answer) (sends_keeps hosts first c.args.id c.args.bytes.now c.args.driver.now (g.R.DriverRing.contents c.args.ring.now) honest)
    (returns-in-Err-clause-calls g c)
