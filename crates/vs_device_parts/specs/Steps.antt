-- The steps of device and proxy: each moves one page at most, with the host's calls that go with it, or is one call on the host.
use Rattle.std.specs.Prelude.{ℕ, ◌-◌, ◌==◌, nat_lt, nat_le, Bool, true, false, if◌then◌else◌, length, Some, None, Result, Ok, Err}
use Rattle.byteorder.specs.Endian.{little_bytes}
use Rattle.vs_contents.specs.CallTree.{Done, Ask, bind}
use Rattle.vs_credit.specs.Credit.{free_of}
use Rattle.vs_conn.specs.{End.wanting_credit, declared.end.Verdict.Verdict}
use Rattle.vs_flow.specs.Table.{entry_under}
use Rattle.vs_header.specs.{Packet.header_of, declared.{Header.Header, TheConstants.HEADER_LEN}}
use Rattle.vs_ring_port.specs.{Contents.{Take, Read, Write, Return}, declared.{device_ring.{Chain.Chain, Next.Next}, failure.Failure.Failure, queue.Queue.{Queue, TheVariants.Rx}}}
use Rattle.vs_ring_port.specs.declared.queue.Queue.TheVariants.{Tx, Event}
use Rattle.vs_device_parts.specs.{Calls.{DeviceTree, Ring}, Connections.with_connection, State.{DeviceState, DeviceEntry}, Streams.{Writing, write_pending, shut_write}}
use Rattle.vs_device_parts.specs.{Transmitting.{failing, on_packet}, Receiving.{Filling, hold, put_reply, put_owed, may_read, read_with_chain}}
use Rattle.vs_limits.specs.declared.TheConstants.{DEVICE_REPLIES}
use Rattle.vs_ring_port.specs.declared.device_ring.Next.TheVariants as next
use Rattle.vs_ring_port.specs.declared.failure.Failure.TheVariants as failure

-- It takes a transmit packet: the chain is held until it is returned.
abbrev pub header_came : Chain → Header → DeviceState → DeviceTree DeviceState
header_came chain h s =
    let held = chain.readable - HEADER_LEN in
    if nat_lt held h.len then Done (failing (failure.PayloadShort h.len held) s) else bind (on_packet chain h s) (λ r. Done r.0)

abbrev pub chain_came : Next → DeviceState → DeviceTree DeviceState
chain_came (next.Chain chain) s = Ask (Ring (Read chain 0 HEADER_LEN)) (λ bytes. header_came chain (header_of bytes) s)
chain_came next.None s = Done s
chain_came (next.Failed f) s = Done (failing f s)

abbrev pub filling : DeviceState → Filling
filling s = record { state = s; put = 0; read = 0; over = false }

-- The packet in a chain is heard: with its verdict, or the failure that it says more payload than the chain has.
abbrev pub heard_header : Chain → Header → DeviceState → DeviceTree (DeviceState × Result Verdict Failure)
heard_header chain h s =
    let held = chain.readable - HEADER_LEN in
    if nat_lt held h.len then (let f = failure.PayloadShort h.len held in Done (failing f s, Err f))
    else bind (on_packet chain h s) (λ r. Done (r.0, Ok r.1))

abbrev pub heard_chain : Chain → DeviceState → DeviceTree (DeviceState × Result Verdict Failure)
heard_chain chain s = Ask (Ring (Read chain 0 HEADER_LEN)) (λ bytes. heard_header chain (header_of bytes) s)

-- It takes one page of a queue. A transmit packet it takes while fewer than 64 replies are owed, a receive page where it holds none, an
-- event page where an event is owed.
abbrev pub takes_chain : Queue → DeviceState → DeviceTree DeviceState
takes_chain Tx s = if nat_le DEVICE_REPLIES (length s.replies) then Done s else Ask (Ring (Take Tx)) (λ answer. chain_came answer s)
takes_chain Rx s = bind (hold (filling s)) (λ r. Done r.state)
takes_chain Event s = if s.event_owed then Ask (Ring (Take Event)) (λ answer. Done s) else Done s

-- It returns a transmit page; it puts the owed event into a chain, and returns that.
abbrev pub returns : Chain → DeviceState → DeviceTree DeviceState
returns chain s = Ask (Ring (Return chain 0)) (λ _. Done s)

abbrev pub puts_event : Chain → DeviceState → DeviceTree DeviceState
puts_event chain s =
    if s.event_owed then Ask (Ring (Write chain 0 (little_bytes 4 0))) (λ _. Ask (Ring (Return chain 4)) (λ _. Done (record s { event_owed = false })))
    else Done s

-- Into the receive chain that it holds it puts the oldest reply, payload of a connection's stream, or what a connection owes.
abbrev pub with_chain : (Filling → DeviceTree DeviceState) → DeviceState → DeviceTree DeviceState
with_chain step s = elim s.chain [ None ↦ Done s | Some chain ↦ step (filling s) ]

abbrev pub puts_reply : DeviceState → DeviceTree DeviceState
puts_reply = with_chain (λ r. bind (put_reply r) (λ q. Done q.0.state))

abbrev pub puts_owed : ℕ → DeviceState → DeviceTree DeviceState
puts_owed slot = with_chain (λ r. bind (put_owed slot r) (λ q. Done q.0.state))

abbrev pub reads : DeviceEntry → DeviceState → DeviceTree DeviceState
reads e s =
    if may_read e.value.end e.value.end.state then
    (if free_of e.value.end.credit == 0 then Done (with_connection e.slot (record e.value { end = wanting_credit e.value.end }) s)
    else bind (read_with_chain e (filling s)) (λ r. Done r.state))
    else Done s

-- Whether a connection's stream is to be read: where it may send and has no credit it wants some.
abbrev pub to_read : ℕ → DeviceState → DeviceState × Bool
to_read slot s = elim (entry_under s.table slot) [
  | None ↦ (s, false)
  | Some e ↦
      if may_read e.value.end e.value.end.state then
      (if free_of e.value.end.credit == 0 then (with_connection e.slot (record e.value { end = wanting_credit e.value.end }) s, false) else (s, true))
      else (s, false)
]

abbrev pub puts_payload : ℕ → DeviceState → DeviceTree DeviceState
puts_payload slot s = elim (entry_under s.table slot) [ None ↦ Done s | Some e ↦ reads e s ]

-- It writes pending bytes of a connection to its stream; it shuts the side that it writes to.
abbrev pub writing : DeviceState → Writing
writing s = record { state = s; wrote = 0 }

abbrev pub writes_on : DeviceEntry → DeviceState → DeviceTree DeviceState
writes_on e s = if e.value.closed then Done s else bind (write_pending e (writing s)) (λ w. Done w.state)

abbrev pub writes : ℕ → DeviceState → DeviceTree DeviceState
writes slot s = elim (entry_under s.table slot) [ None ↦ Done s | Some e ↦ writes_on e s ]

abbrev pub shuts_write : ℕ → DeviceState → DeviceTree DeviceState
shuts_write slot s = bind (shut_write slot (writing s)) (λ w. Done w.state)
