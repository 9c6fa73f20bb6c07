use Rattle.std.proofs.Common.{refl, sym, subst}
use Rattle.vs_page.specs.Fair.{IsFairLog}
use Rattle.vs_ring_port.specs.{EndLog.entries_published, declared.queue.Queue.{Queue, TheVariants.Tx}}
use Rattle.vs_ring_rule.specs.Rule.{queue_in}
use Rattle.vs_ring_shared.specs.{DriverStates.Goes, Sights.{QueueSight, Sight, gave_queue, sight_in}, declared.counters.DriverCounters.DriverCounters}
use Rattle.vs_ring_shared.proofs.{Countings.{count_published, counts_tx}, DriverCalls.{goes_tx, seen_queue}}
use Rattle.vs_page.specs.Log as log
use Rattle.vs_ring_shared.proofs.driver_side.DriverSide.publish_staged.Goals as goal

pub publish-requires-in-Tx-clause-fair : goal.publish-requires-in-Tx-clause-fair
publish-requires-in-Tx-clause-fair c =
    let p = c.self.inside.port in
    let queue = c.args.queue in
    let fair = subst (λ (s : Sight). IsFairLog log.Driver (entries_published queue (sight_in queue s).staged s.log)) (sym c.self.view_is) c.requires.fair in
    subst (λ (q : QueueSight). IsFairLog log.Driver (entries_published c.args.queue q.staged p.token.me.0.log))
    (seen_queue c.args.queue p.token.table_id p.size p.token.me.0) fair

pub invariant_of-self-in-Tx : goal.invariant_of-self-in-Tx
invariant_of-self-in-Tx c =
    let d = c.self.inside in
    let v = d.port.token.me.0 in
    let call = c.publish-in-Tx in
    let p = call.new.port in
    let counters : DriverCounters = record d.counters { tx_put = d.counters.tx_offered } in
    let queue = c.args.queue in
    let fair = subst (λ (s : Sight). IsFairLog log.Driver (entries_published queue (sight_in queue s).staged s.log)) (sym c.self.view_is) c.requires.fair in
    let fair' = subst (λ (q : QueueSight). IsFairLog log.Driver (entries_published c.args.queue q.staged v.log))
    (seen_queue c.args.queue d.port.token.table_id d.port.size v) fair in
    let goes = subst (λ (q : Queue). Goes d.port.size q gave_queue (entries_published q (queue_in q v).staged v.log) d.port.token.me
    p.token.me call.new.numbers) c.in-Tx.is call.ensures.gave in (
      goes_tx d.port.size p.size call.ensures.size gave_queue (entries_published Tx v.tx.staged v.log) d.port.token.me
          p.token.me d.rx d.tx d.event call.new.numbers
          (subst (λ (q : Queue). IsFairLog log.Driver (entries_published q (queue_in q v).staged v.log)) c.in-Tx.is fair') c.self.invariant.0 goes,
      counts_tx d.port.size gave_queue (entries_published Tx v.tx.staged v.log) d.port.token.me p.token.me call.new.numbers counters
          goes (count_published v.log v.tx.staged d.counters counters c.self.invariant.1 refl),
    )
