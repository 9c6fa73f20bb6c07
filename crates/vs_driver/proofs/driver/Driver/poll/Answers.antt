use Rattle.std.proofs.Common.{refl}
use Rattle.vs_ring_port.specs.{Contents.RingContents, declared.queue.Queue.TheVariants.{Event, Rx}}
use Rattle.vs_driver_parts.specs.Conversations.{Round, poll_of, poll_packets, poll_puts, poll_reaps, polled, put_all, reap_all, round_of, take_all, take_event, take_packet}
use Rattle.vs_driver_parts.specs.{State.DriverState, Playing.Plays, declared.answers.Polled.Polled}
use Rattle.laws_driver.proofs.Calls.{poll_honest, poll_may}
use Rattle.vs_driver.proofs.Rest.{IsLeft, all_left, may_next, then}
use Rattle.vs_driver.proofs.driver.Driver.poll.Goals as goal

-- What is left once events are taken, and once packets are and pages came back.
module _ (s : DriverState) (c : RingContents) (r : Round) (d : RingContents) (events : Plays (take_all Event take_event s) c r d) where
  took : IsLeft (poll_of s) c (poll_packets r) d
  took = then (take_all Event take_event s) poll_packets (all_left (poll_of s) c) r d events

  puts : (q : Round) (e : RingContents) → Plays (take_all Rx take_packet r.state) d q e → (t : DriverState) (f : RingContents)
      → Plays (reap_all q.state) e t f → IsLeft (poll_of s) c (poll_puts q.count r.reset t) f
  puts q e packets t f reaped =
      then (reap_all q.state) (poll_puts q.count r.reset)
      (then (take_all Rx take_packet r.state) (poll_reaps r.reset) took q e packets) t f reaped

pub take_events-events-requires-clause-may : goal.take_events-events-requires-clause-may
take_events-events-requires-clause-may g c =
    may_next (take_all Event take_event c.args.self.now) poll_packets (all_left (poll_of c.args.self.now) _)
    (poll_may c.requires.honest.0 c.requires.honest.1 c.args.self.now _ c.requires.honest.2)

pub take_packets-packets-requires-clause-may : goal.take_packets-packets-requires-clause-may
take_packets-packets-requires-clause-may g c =
    let r : Round = round_of c.take_events-events.new.self c.take_events-events.result in
    may_next (take_all Rx take_packet r.state) (poll_reaps r.reset) (took c.args.self.now _ r _ c.take_events-events.ensures.calls)
    (poll_may c.requires.honest.0 c.requires.honest.1 c.args.self.now _ c.requires.honest.2)

pub put_all-put-requires-clause-may : goal.put_all-put-requires-clause-may
put_all-put-requires-clause-may g c =
    let r : Round = round_of c.take_events-events.new.self c.take_events-events.result in
    let q : Round = round_of c.take_packets-packets.new.self c.take_packets-packets.result in
    may_next (put_all c.reap_all.new.self) (polled q.count r.reset)
    (puts c.args.self.now _ r _ c.take_events-events.ensures.calls q _ c.take_packets-packets.ensures.calls _ _ c.reap_all.ensures.calls)
    (poll_may c.requires.honest.0 c.requires.honest.1 c.args.self.now _ c.requires.honest.2)

pub returns-clause-calls : goal.returns-clause-calls
returns-clause-calls g c =
    let r : Round = round_of c.take_events-events.new.self c.take_events-events.result in
    let q : Round = round_of c.take_packets-packets.new.self c.take_packets-packets.result in
    (then (put_all c.reap_all.new.self) (polled q.count r.reset)
    (puts c.args.self.now _ r _ c.take_events-events.ensures.calls q _ c.take_packets-packets.ensures.calls _ _ c.reap_all.ensures.calls)
    (round_of c.put_all-put.new.self c.put_all-put.result) _ c.put_all-put.ensures.calls).goes_on _ _ (refl, refl)

pub returns-clause-honest : goal.returns-clause-honest
returns-clause-honest g c = λ hosts first honest.
    let answer : Polled = record { took = c.take_packets-packets.result.count; posted = c.put_all-put.result.count; reset = c.take_events-events.result.reset } in
    poll_honest hosts first c.args.self.now _ _ (c.put_all-put.new.self, answer) honest (returns-clause-calls g c)
