use Rattle.std.proofs.Common.{ℕ, ◌+◌, ◌%◌, ◌∙◌, ap, sym, subst, Contains, take}
use Rattle.vs_page.specs.Fair.{IsFairLog}
use Rattle.vs_ring_port.specs.{Chains.{bytes_in, chains_of}, EndLog.entries_returned, declared.queue.Queue.Queue}
use Rattle.vs_ring_rule.specs.{Steps.removed, Rule.queue_in}
use Rattle.vs_ring_shared.specs.{Countings.{CountsDevice, entries_in}, Holdings.all_held, Sights.{DeviceSight, returned_queue}, declared.counters.DeviceCounters.DeviceCounters}
use Rattle.vs_ring_shared.proofs.{Countings.{count_notice, count_put, counts_turn}, DeviceCalls.{returns_rx, returns_tx, returns_event}}
use Rattle.vs_page.specs.Log as log
use Rattle.vs_ring_shared.proofs.device_side.DeviceSide.give_back.Goals as goal

pub return_chain-more-requires-clause-fair : goal.return_chain-more-requires-clause-fair
return_chain-more-requires-clause-fair c =
    subst (λ (w : DeviceSight). IsFairLog log.Device (entries_returned c.args.chain.queue (take c.args.len (bytes_in c.args.chain w.held)) w.sight.log))
    (sym c.self.view_is) c.requires.fair

pub return_chain-requires-clause-fair : goal.return_chain-requires-clause-fair
return_chain-requires-clause-fair c =
    subst (λ (w : DeviceSight). IsFairLog log.Device (entries_returned c.args.chain.queue (take c.args.len (bytes_in c.args.chain w.held)) w.sight.log))
    (sym c.self.view_is) c.requires.fair

pub invariant_of-self : goal.invariant_of-self
invariant_of-self c =
    let d = c.self.inside in
    let call = c.return_chain-more in
    let p = call.new.port in
    let me = d.port.token.me in
    let l = me.0.log in
    let chain = c.args.chain in
    let page = take c.args.len (bytes_in chain (all_held d.held.pages)) in
    let fair = subst (λ (w : DeviceSight). IsFairLog log.Device (entries_returned chain.queue (take c.args.len (bytes_in chain w.held)) w.sight.log))
    (sym c.self.view_is) c.requires.fair in
    let has = subst (λ (w : DeviceSight). Contains (chains_of w.held) chain) (sym c.self.view_is) c.requires.is_held in
    let w : ℕ = 18446744073709551616 in
    let counters : DeviceCounters = record d.counters { rx_put = (d.counters.rx_put + call.result) % w } in
    let one : ℕ → DeviceCounters = λ k. record d.counters { rx_put = (d.counters.rx_put + k) % w } in
    let r = call.ensures.returned in (
      returns_rx d.port.size p.size call.ensures.size chain page me p.token.me d.rx d.tx d.event call.new.numbers
          d.held call.new.held fair c.self.invariant.0 has r c.in-Rx.is,
      counts_turn d.port.size chain.queue (returned_queue page) (removed r.slot (queue_in chain.queue me.0).held)
          (entries_returned chain.queue page l) me p.token.me call.new.numbers counters r.turns
          (subst (λ (q : Queue). CountsDevice (entries_returned q page l) counters) (sym c.in-Rx.is)
          (count_put l d.counters counters c.self.invariant.1 page (ap one (call.ensures.entries ∙ ap (λ (q : Queue). entries_in q page) c.in-Rx.is)))),
    )

pub invariant_of-self-in-Tx : goal.invariant_of-self-in-Tx
invariant_of-self-in-Tx c =
    let d = c.self.inside in
    let call = c.return_chain in
    let p = call.new.port in
    let me = d.port.token.me in
    let l = me.0.log in
    let chain = c.args.chain in
    let page = take c.args.len (bytes_in chain (all_held d.held.pages)) in
    let fair = subst (λ (w : DeviceSight). IsFairLog log.Device (entries_returned chain.queue (take c.args.len (bytes_in chain w.held)) w.sight.log))
    (sym c.self.view_is) c.requires.fair in
    let has = subst (λ (w : DeviceSight). Contains (chains_of w.held) chain) (sym c.self.view_is) c.requires.is_held in
    let counters = d.counters in
    let r = call.ensures.returned in (
      returns_tx d.port.size p.size call.ensures.size chain page me p.token.me d.rx d.tx d.event call.new.numbers
          d.held call.new.held fair c.self.invariant.0 has r c.in-Tx.is,
      counts_turn d.port.size chain.queue (returned_queue page) (removed r.slot (queue_in chain.queue me.0).held)
          (entries_returned chain.queue page l) me p.token.me call.new.numbers counters r.turns
          (subst (λ (q : Queue). CountsDevice (entries_returned q page l) counters) (sym c.in-Tx.is)
          c.self.invariant.1),
    )

pub invariant_of-self-in-Event : goal.invariant_of-self-in-Event
invariant_of-self-in-Event c =
    let d = c.self.inside in
    let call = c.return_chain-more-in-Event in
    let p = call.new.port in
    let me = d.port.token.me in
    let l = me.0.log in
    let chain = c.args.chain in
    let page = take c.args.len (bytes_in chain (all_held d.held.pages)) in
    let fair = subst (λ (w : DeviceSight). IsFairLog log.Device (entries_returned chain.queue (take c.args.len (bytes_in chain w.held)) w.sight.log))
    (sym c.self.view_is) c.requires.fair in
    let has = subst (λ (w : DeviceSight). Contains (chains_of w.held) chain) (sym c.self.view_is) c.requires.is_held in
    let w : ℕ = 18446744073709551616 in
    let counters : DeviceCounters = record d.counters { ev_put = (d.counters.ev_put + call.result) % w } in
    let one : ℕ → DeviceCounters = λ k. record d.counters { ev_put = (d.counters.ev_put + k) % w } in
    let r = call.ensures.returned in (
      returns_event d.port.size p.size call.ensures.size chain page me p.token.me d.rx d.tx d.event call.new.numbers
          d.held call.new.held fair c.self.invariant.0 has r c.in-Event.is,
      counts_turn d.port.size chain.queue (returned_queue page) (removed r.slot (queue_in chain.queue me.0).held)
          (entries_returned chain.queue page l) me p.token.me call.new.numbers counters r.turns
          (subst (λ (q : Queue). CountsDevice (entries_returned q page l) counters) (sym c.in-Event.is)
          (count_notice l d.counters counters c.self.invariant.1 page (ap one (call.ensures.entries ∙ ap (λ (q : Queue). entries_in q page) c.in-Event.is)))),
    )
