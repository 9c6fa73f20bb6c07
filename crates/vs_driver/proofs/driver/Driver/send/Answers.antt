use Rattle.std.proofs.Common.{refl}
use Rattle.vs_contents.proofs.Leads.{leads_of}
use Rattle.vs_driver_parts.specs.Playing.{RingAllows}
use Rattle.laws_driver.proofs.Calls.{send_honest, send_may}
use Rattle.vs_driver.proofs.{Ending.sends, Pipes.send_leaves, RingPages.ring_same, Sending.{credit_then, held_then, may_then, sent_then}}
use Rattle.vs_driver.proofs.driver.Driver.send.Goals as goal

pub reap_all-requires : goal.reap_all-requires
reap_all-requires g c = record { ring = ring_same _ _ _ _ _ c.in-Ok.ensures.pages c.requires.ring }

pub send_with_page-requires-clause-credit : goal.send_with_page-requires-clause-credit
send_with_page-requires-clause-credit g c = credit_then c.in-Ok.ensures.ready c.reap_all.new.self c.reap_all.ensures.others

pub send_with_page-requires-clause-may : goal.send_with_page-requires-clause-may
send_with_page-requires-clause-may g c =
    may_then c.in-Ok.ensures.ready c.reap_all.new.self c.reap_all.ensures.others _ _ c.reap_all.ensures.calls
    (send_may c.requires.honest.0 c.requires.honest.1 c.args.id c.args.bytes.now c.args.self.now (g.R.DriverRing.contents c.args.ring.now) c.requires.honest.2)

pub send_with_page-requires-clause-held : goal.send_with_page-requires-clause-held
send_with_page-requires-clause-held g c = held_then c.in-Ok.ensures.ready c.reap_all.new.self c.reap_all.ensures.others

pub returns-in-Ok-clause-calls : goal.returns-in-Ok-clause-calls
returns-in-Ok-clause-calls g c =
    sent_then c.in-Ok.ensures.ready c.reap_all.new.self c.reap_all.ensures.others _ _ c.reap_all.ensures.calls _ _
    c.send_with_page.ensures.calls

pub returns-in-Ok-clause-honest : goal.returns-in-Ok-clause-honest
returns-in-Ok-clause-honest g c = λ hosts first honest.
    send_honest hosts first _ _ _ _ _ (c.send_with_page.new.self, c.send_with_page.result) honest (returns-in-Ok-clause-calls g c)

pub returns-in-Ok-clause-outcome : goal.returns-in-Ok-clause-outcome
returns-in-Ok-clause-outcome g c =
    sends c.args.id c.args.bytes.now c.args.self.now c.in-Ok.ensures.in_flight _ _ c.send_with_page.new.self c.send_with_page.result
    (returns-in-Ok-clause-calls g c)

pub returns-in-Ok-clause-unread : goal.returns-in-Ok-clause-unread
returns-in-Ok-clause-unread g c =
    (send_leaves _ c.args.bytes.now _ _ c.send_with_page.result c.in-Ok.ensures.sound (returns-in-Ok-clause-outcome g c)).unread

pub returns-in-Ok-clause-others : goal.returns-in-Ok-clause-others
returns-in-Ok-clause-others g c =
    (send_leaves _ c.args.bytes.now _ _ c.send_with_page.result c.in-Ok.ensures.sound (returns-in-Ok-clause-outcome g c)).others

pub returns-in-Err-clause-ring : goal.returns-in-Err-clause-ring
returns-in-Err-clause-ring g c = ring_same _ _ _ _ _ c.in-Err.ensures.pages c.requires.ring

pub returns-in-Err-clause-calls : goal.returns-in-Err-clause-calls
returns-in-Err-clause-calls g c = leads_of RingAllows _ _ _ _ _ c.in-Err.ensures.ready.0 (refl, refl)

pub returns-in-Err-clause-honest : goal.returns-in-Err-clause-honest
returns-in-Err-clause-honest g c = λ hosts first honest.
    send_honest hosts first _ _ _ _ _ (c.ready_to_send.new.self, c.in-Err.answer) honest (returns-in-Err-clause-calls g c)

pub returns-in-Err-clause-outcome : goal.returns-in-Err-clause-outcome
returns-in-Err-clause-outcome g c =
    sends c.args.id c.args.bytes.now c.args.self.now c.in-Err.ensures.in_flight _ _ c.ready_to_send.new.self c.in-Err.answer
    (returns-in-Err-clause-calls g c)

pub returns-in-Err-clause-unread : goal.returns-in-Err-clause-unread
returns-in-Err-clause-unread g c =
    (send_leaves _ c.args.bytes.now _ _ c.in-Err.answer c.in-Err.ensures.sound (returns-in-Err-clause-outcome g c)).unread

pub returns-in-Err-clause-others : goal.returns-in-Err-clause-others
returns-in-Err-clause-others g c =
    (send_leaves _ c.args.bytes.now _ _ c.in-Err.answer c.in-Err.ensures.sound (returns-in-Err-clause-outcome g c)).others
