use Rattle.vs_ring_port.specs.declared.queue.Queue.TheVariants.{Rx, Tx, Event}
use Rattle.vs_driver_parts.specs.Conversations.{round_of, take_event, take_packet}
use Rattle.vs_driver.proofs.Stepping.{back_stepped, may_step, may_take, page_taken, stays_honest, stepped}
use Rattle.vs_driver.proofs.steps.take_page.Goals as goal

pub take_packet-requires-clause-may : goal.take_packet-requires-clause-may
take_packet-requires-clause-may g c =
    may_step take_packet c.args.driver.now c.none-tally.result c.none-tally.ensures _
    (may_take c.args.driver.now c.args.queue Rx c.in-Rx.is _ c.requires.honest)

pub take_event-requires-clause-may : goal.take_event-requires-clause-may
take_event-requires-clause-may g c =
    may_step take_event c.args.driver.now c.none-tally.result c.none-tally.ensures _
    (may_take c.args.driver.now c.args.queue Event c.in-Event.is _ c.requires.honest)

pub returns-in-Rx-clause-calls : goal.returns-in-Rx-clause-calls
returns-in-Rx-clause-calls g c =
    page_taken c.args.driver.now c.args.queue Rx c.in-Rx.is c.take_packet.new.self _ _
    (stepped take_packet c.args.driver.now c.none-tally.result c.none-tally.ensures _ _
    (round_of c.take_packet.new.self c.take_packet.new.tally) c.take_packet.result c.take_packet.ensures.calls)

pub returns-in-Rx-clause-honest : goal.returns-in-Rx-clause-honest
returns-in-Rx-clause-honest g c = λ hosts first honest. stays_honest _ _ hosts first _ _ _ (returns-in-Rx-clause-calls g c) honest

pub returns-in-Tx-clause-calls : goal.returns-in-Tx-clause-calls
returns-in-Tx-clause-calls g c =
    page_taken c.args.driver.now c.args.queue Tx c.in-Tx.is c.reap.new.self _ _
    (back_stepped c.args.driver.now _ _ c.reap.new.self c.reap.result c.reap.ensures.calls)

pub returns-in-Tx-clause-honest : goal.returns-in-Tx-clause-honest
returns-in-Tx-clause-honest g c = λ hosts first honest. stays_honest _ _ hosts first _ _ _ (returns-in-Tx-clause-calls g c) honest

pub returns-in-Event-clause-calls : goal.returns-in-Event-clause-calls
returns-in-Event-clause-calls g c =
    page_taken c.args.driver.now c.args.queue Event c.in-Event.is c.take_event.new.self _ _
    (stepped take_event c.args.driver.now c.none-tally.result c.none-tally.ensures _ _
    (round_of c.take_event.new.self c.take_event.new.tally) c.take_event.result c.take_event.ensures.calls)

pub returns-in-Event-clause-honest : goal.returns-in-Event-clause-honest
returns-in-Event-clause-honest g c = λ hosts first honest. stays_honest _ _ hosts first _ _ _ (returns-in-Event-clause-calls g c) honest
