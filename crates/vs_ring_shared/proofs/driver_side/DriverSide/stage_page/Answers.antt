use Rattle.std.proofs.Common.{ℕ, ◌+◌, ◌%◌, refl, subst}
use Rattle.vs_ring_port.specs.declared.queue.Queue.{Queue}
use Rattle.vs_ring_shared.specs.{DriverStates.Goes, Sights.staged_queue, declared.counters.DriverCounters.DriverCounters}
use Rattle.vs_ring_shared.proofs.{Countings.{count_staged, counts_tx, one_packet}, DriverCalls.goes_tx}
use Rattle.vs_ring_shared.proofs.driver_side.DriverSide.stage_page.Goals as goal

pub invariant_of-self-in-Tx : goal.invariant_of-self-in-Tx
invariant_of-self-in-Tx c =
    let d = c.self.inside in
    let me = d.port.token.me in
    let call = c.stage-in-Tx in
    let p = call.new.port in
    let w : ℕ = 18446744073709551616 in
    let one = one_packet c.args.page (c.requires.packet c.in-Tx.is) in
    let counters : DriverCounters = record d.counters { tx_offered = (d.counters.tx_offered + 1) % w } in
    let goes = subst (λ (q : Queue). Goes d.port.size q (staged_queue c.args.page) me.0.log me p.token.me call.new.numbers) c.in-Tx.is
    c.in_ok-stage-in-Tx.ensures.ok in (
      goes_tx d.port.size p.size call.ensures.size (staged_queue c.args.page) me.0.log me p.token.me d.rx d.tx d.event
          call.new.numbers c.self.invariant.0.seat.fair c.self.invariant.0 goes,
      counts_tx d.port.size (staged_queue c.args.page) me.0.log me p.token.me call.new.numbers counters goes
          (count_staged me.0.log me.0.tx.staged d.counters counters c.self.invariant.1 c.args.page
          (rw one refl)),
    )
