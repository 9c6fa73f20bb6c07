use Rattle.std.{proofs.{Common.{◌≡◌, ℕ, ◌+◌, ◌%◌, ◌∷◌, length, refl, ap, subst, sym}, lemmas.Option.IfSome_then}, specs.Prelude.IfSome}
use Rattle.vs_page.specs.Held.{listed, packet_held}
use Rattle.vs_ring_port.specs.{EndLog.entries_taken, declared.queue.Queue.Queue}
use Rattle.vs_ring_rule.specs.{OneQueue.HoldsWhole, Rule.{flags_of, queue_in}}
use Rattle.vs_ring_shared.specs.{Holdings.all_held, Sights.{DeviceSight, TakesOne, sight_of, took_queue}, Countings.CountsDevice, DeviceStates.DeviceTakesChain}
use Rattle.vs_ring_shared.{specs.declared.counters.DeviceCounters.DeviceCounters, proofs.{DeviceCalls.{room_to_hold, seen_chain, takes_tx}, DriverCalls.same_table}}
use Rattle.vs_ring_shared.proofs.Countings.{count_taken, counts_turn, one_packet}
use Rattle.vs_ring_shared.proofs.device_side.DeviceSide.take_next.Goals as goal

pub take_chain-requires-clause-room : goal.take_chain-requires-clause-room
take_chain-requires-clause-room c =
    let d = c.self.inside in room_to_hold d.port.size d.port.token.me d.rx d.tx d.event d.held c.self.invariant.0 c.args.queue

pub returns-in-Rx-clause-chain : goal.returns-in-Rx-clause-chain
returns-in-Rx-clause-chain c =
    let d = c.self.inside in
    let call = c.take_chain in
    let p = call.new.port in
    let table = same_table d.port p call.ensures.table in
    let sight : DeviceSight = record { sight = sight_of p.token.table_id p.size p.token.me.0; held = all_held call.new.held.pages } in
    subst (λ (s : DeviceSight). IfSome call.result (λ chain. TakesOne c.args.queue chain s sight)) c.self.view_is
    (IfSome_then call.result call.ensures.chain (λ chain b. seen_chain d.port.size p.size c.args.queue chain d.port.token.me p.token.me
    call.new.numbers d.port.token.table_id p.token.table_id d.held call.new.held call.ensures.size table b))

pub take_chain-requires-in-Tx-clause-room : goal.take_chain-requires-in-Tx-clause-room
take_chain-requires-in-Tx-clause-room c =
    let d = c.self.inside in room_to_hold d.port.size d.port.token.me d.rx d.tx d.event d.held c.self.invariant.0 c.args.queue

pub returns-in_ok-chain-in-Tx-clause-chain : goal.returns-in_ok-chain-in-Tx-clause-chain
returns-in_ok-chain-in-Tx-clause-chain c =
    let d = c.self.inside in
    let call = c.take_chain-in-Tx in
    let p = call.new.port in
    let chain = c.in_ok-chain-in-Tx.chain in
    let table = same_table d.port p call.ensures.table in
    let sight : DeviceSight = record { sight = sight_of p.token.table_id p.size p.token.me.0; held = all_held call.new.held.pages } in
    subst (λ (s : DeviceSight). TakesOne c.args.queue chain s sight) c.self.view_is
    (seen_chain d.port.size p.size c.args.queue chain d.port.token.me p.token.me call.new.numbers d.port.token.table_id
    p.token.table_id d.held call.new.held call.ensures.size table c.in_ok-chain-in-Tx.ensures.chain)

pub invariant_of-self-in-Tx : goal.invariant_of-self-in-Tx
invariant_of-self-in-Tx c =
    let d = c.self.inside in
    let me = d.port.token.me in
    let call = c.take_chain-in-Tx in
    let p = call.new.port in
    let b = c.in_ok-chain-in-Tx.ensures.chain in
    let w : ℕ = 18446744073709551616 in
    let counters : DeviceCounters = record d.counters { tx_got = (d.counters.tx_got + 1) % w } in
    let one : ℕ → DeviceCounters = λ k. record d.counters { tx_got = (d.counters.tx_got + k) % w } in
    let long = subst (λ (q : Queue). HoldsWhole (flags_of q) b.page) c.in-Tx.is b.takes.long in
    let more : 1 ≡ length (listed (packet_held b.page)) = sym (one_packet b.page (long refl)) in (
      takes_tx d.port.size p.size call.ensures.size c.in_ok-chain-in-Tx.chain me p.token.me d.rx d.tx d.event call.new.numbers d.held call.new.held
          c.self.invariant.0
          (subst (λ (q : Queue). DeviceTakesChain d.port.size q c.in_ok-chain-in-Tx.chain me p.token.me call.new.numbers d.held call.new.held)
          c.in-Tx.is b),
      counts_turn d.port.size c.args.queue (took_queue b.takes.look b.page) (b.slot ∷ (queue_in c.args.queue me.0).held)
          (entries_taken c.args.queue b.page me.0.log) me p.token.me call.new.numbers counters b.takes.turns
          (subst (λ (q : Queue). CountsDevice (entries_taken q b.page me.0.log) counters) (sym c.in-Tx.is)
          (count_taken me.0.log d.counters counters c.self.invariant.1 b.page (ap one more))),
    )

pub take_chain-requires-in-Event-clause-room : goal.take_chain-requires-in-Event-clause-room
take_chain-requires-in-Event-clause-room c =
    let d = c.self.inside in room_to_hold d.port.size d.port.token.me d.rx d.tx d.event d.held c.self.invariant.0 c.args.queue

pub returns-in-Event-clause-chain : goal.returns-in-Event-clause-chain
returns-in-Event-clause-chain c =
    let d = c.self.inside in
    let call = c.take_chain-in-Event in
    let p = call.new.port in
    let table = same_table d.port p call.ensures.table in
    let sight : DeviceSight = record { sight = sight_of p.token.table_id p.size p.token.me.0; held = all_held call.new.held.pages } in
    subst (λ (s : DeviceSight). IfSome call.result (λ chain. TakesOne c.args.queue chain s sight)) c.self.view_is
    (IfSome_then call.result call.ensures.chain (λ chain b. seen_chain d.port.size p.size c.args.queue chain d.port.token.me p.token.me
    call.new.numbers d.port.token.table_id p.token.table_id d.held call.new.held call.ensures.size table b))
