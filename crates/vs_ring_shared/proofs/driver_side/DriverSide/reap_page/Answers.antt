use Rattle.std.{proofs.{Common.{Some, ℕ, ◌+◌, ◌%◌, refl, subst}, lemmas.Option.IfSome_then}, specs.Prelude.IfSome}
use Rattle.vs_page.specs.Fair.{IsFairLog}
use Rattle.vs_ring_port.specs.{EndLog.entries_reaped, declared.queue.Queue.{Queue, TheVariants.{Event, Rx}}}
use Rattle.vs_ring_shared.{specs.{DriverStates.Goes, Sights.{ReapsOne, Sight, sight_of, took_queue}, declared.counters.DriverCounters.DriverCounters}, proofs.Countings.count_event}
use Rattle.vs_ring_shared.proofs.{Countings.{count_got, counts_event, counts_rx}, DriverCalls.{goes_event, goes_rx, same_table, seen_back}}
use Rattle.vs_page.specs.Log as log
use Rattle.vs_ring_shared.proofs.driver_side.DriverSide.reap_page.Goals as goal

pub returns-in_ok-page-in-Rx-clause-back : goal.returns-in_ok-page-in-Rx-clause-back
returns-in_ok-page-in-Rx-clause-back c =
    let d = c.self.inside in
    let call = c.reap in
    let p = call.new.port in
    let page = c.in_ok-page-in-Rx.page in
    let table = same_table d.port p call.ensures.table in
    subst (λ (s : Sight). ReapsOne c.args.queue page s (sight_of p.token.table_id p.size p.token.me.0)) c.self.view_is
    (seen_back d.port.size p.size c.args.queue page d.port.token.me p.token.me call.new.numbers d.port.token.table_id
    p.token.table_id call.ensures.size table c.in_ok-page-in-Rx.ensures.back)

pub invariant_of-self-in-Rx : goal.invariant_of-self-in-Rx
invariant_of-self-in-Rx c =
    let d = c.self.inside in
    let me = d.port.token.me in
    let call = c.reap in
    let p = call.new.port in
    let page = c.in_ok-page-in-Rx.page in
    let back = c.in_ok-page-in-Rx.ensures.back in
    let w : ℕ = 18446744073709551616 in
    let counters : DriverCounters = record d.counters { rx_got = (d.counters.rx_got + c.packets_in.result) % w } in
    let f = took_queue back.look page in
    let fair = subst (λ (q : Queue). IsFairLog log.Driver (entries_reaped q (Some page) me.0.log)) c.in-Rx.is back.fair in
    let goes = subst (λ (q : Queue). Goes d.port.size q f (entries_reaped q (Some page) me.0.log) me p.token.me call.new.numbers)
    c.in-Rx.is back.goes in (
      goes_rx d.port.size p.size call.ensures.size f (entries_reaped Rx (Some page) me.0.log) me p.token.me d.rx d.tx
          d.event call.new.numbers fair c.self.invariant.0 goes,
      counts_rx d.port.size f (entries_reaped Rx (Some page) me.0.log) me p.token.me call.new.numbers counters goes
          (count_got me.0.log me.0.tx.staged d.counters counters c.self.invariant.1 page (rw c.packets_in.ensures refl)),
    )

pub returns-in-Tx-clause-back : goal.returns-in-Tx-clause-back
returns-in-Tx-clause-back c =
    let d = c.self.inside in
    let call = c.reap-in-Tx in
    let p = call.new.port in
    let table = same_table d.port p call.ensures.table in
    subst (λ (s : Sight). IfSome call.result (λ page. ReapsOne c.args.queue page s (sight_of p.token.table_id p.size p.token.me.0))) c.self.view_is
    (IfSome_then call.result call.ensures.back (λ page b. seen_back d.port.size p.size c.args.queue page d.port.token.me p.token.me
    call.new.numbers d.port.token.table_id p.token.table_id call.ensures.size table b))

pub returns-in_ok-page-in-Event-clause-back : goal.returns-in_ok-page-in-Event-clause-back
returns-in_ok-page-in-Event-clause-back c =
    let d = c.self.inside in
    let call = c.reap-in-Event in
    let p = call.new.port in
    let page = c.in_ok-page-in-Event.page in
    let table = same_table d.port p call.ensures.table in
    subst (λ (s : Sight). ReapsOne c.args.queue page s (sight_of p.token.table_id p.size p.token.me.0)) c.self.view_is
    (seen_back d.port.size p.size c.args.queue page d.port.token.me p.token.me call.new.numbers d.port.token.table_id
    p.token.table_id call.ensures.size table c.in_ok-page-in-Event.ensures.back)

pub invariant_of-self-in-Event : goal.invariant_of-self-in-Event
invariant_of-self-in-Event c =
    let d = c.self.inside in
    let me = d.port.token.me in
    let call = c.reap-in-Event in
    let p = call.new.port in
    let page = c.in_ok-page-in-Event.page in
    let back = c.in_ok-page-in-Event.ensures.back in
    let w : ℕ = 18446744073709551616 in
    let counters : DriverCounters = record d.counters { ev_got = (d.counters.ev_got + c.events_in.result) % w } in
    let f = took_queue back.look page in
    let fair = subst (λ (q : Queue). IsFairLog log.Driver (entries_reaped q (Some page) me.0.log)) c.in-Event.is back.fair in
    let goes = subst (λ (q : Queue). Goes d.port.size q f (entries_reaped q (Some page) me.0.log) me p.token.me call.new.numbers)
    c.in-Event.is back.goes in (
      goes_event d.port.size p.size call.ensures.size f (entries_reaped Event (Some page) me.0.log) me p.token.me d.rx d.tx
          d.event call.new.numbers fair c.self.invariant.0 goes,
      counts_event d.port.size f (entries_reaped Event (Some page) me.0.log) me p.token.me call.new.numbers counters goes
          (count_event me.0.log me.0.tx.staged d.counters counters c.self.invariant.1 page (rw c.events_in.ensures refl)),
    )
