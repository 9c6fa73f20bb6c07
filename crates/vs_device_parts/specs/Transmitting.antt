-- Packets that the device takes from the guest.
use Rattle.std.specs.Prelude.{◌-◌, ◌==◌, ◌&&◌, nat_lt, nat_le, Bool, if◌then◌else◌, [], ◌++◌, length, Option, Some, None}
use Rattle.vs_contents.specs.CallTree.{Done, Ask, bind}
use Rattle.vs_header.specs.{Op.{op_named, op_number}, Packet.header_of, declared.{Header.Header, TheConstants.HEADER_LEN, Kind.TheVariants.Stream, Op.{Op, TheVariants.Invalid}}}
use Rattle.vs_header.specs.declared.Op.TheVariants.{Request}
use Rattle.vs_conn.specs.{End.{verdict_of, end_after, is_of, is_reset}, declared.end.{Verdict.Verdict, Why.Why}}
use Rattle.vs_flow.specs.{Flow.is_assigned, Table.{entry_of, has_place}}
use Rattle.vs_outside.specs.declared.host_net.Dialed.{Dialed}
use Rattle.vs_page.specs.{Log.{flow_to_host, Device}, Open.is_dropped}
use Rattle.vs_replies.specs.Owed.{reply_to}
use Rattle.vs_uds.specs.{OkLine.ok_text, Path.path_of}
use Rattle.vs_ring_port.specs.{declared.{device_ring.{Chain.Chain, Next.Next}, failure.Failure.Failure, queue.Queue.TheVariants.Tx}, Contents.{Take, Read, Return}}
use Rattle.vs_device_parts.specs.{declared.answers.Taken.Taken, Calls.{DeviceTree, Ring, Dial}, State.{DeviceConnection, DeviceState, DeviceEntry}, Streams.leaving}
use Rattle.vs_device_parts.specs.Connections.{with_connection, with_reply, with_fault, with_dialed}
use Rattle.vs_limits.specs.declared.TheConstants.{DEVICE_REPLIES}
use Rattle.laws_history.specs.declared.packet.Packet.{Packet}
use Rattle.laws_tables.specs.Steps.{is_kept}
use Rattle.vs_wrap.specs.Wrap.{counted}
use Rattle.vs_conn.specs.declared.end.Verdict.TheVariants as verdict
use Rattle.vs_conn.specs.declared.end.Why.TheVariants as why
use Rattle.vs_outside.specs.declared.host_net.Dialed.TheVariants as dialed
use Rattle.vs_ring_port.specs.declared.device_ring.Next.TheVariants as next
use Rattle.vs_ring_port.specs.declared.failure.Failure.TheVariants as failure
use Rattle.vs_device_parts.specs.declared.answers.Taken.TheVariants as taken

-- The ring failed: the failure is kept.
abbrev pub failing : Failure → DeviceState → DeviceState
failing failure s = record s { failed = Some failure }

-- A packet of a connection of the table, by the verdict of its end. With RESPONSE the OK line is pending; RST takes it out of the table, and
-- a marked one may leave its flow to be used again.
abbrev pub heard : Header → DeviceConnection → DeviceConnection
heard h c = record c { end = end_after c.end h }

abbrev pub without_payload : Header → Packet
without_payload h = record { header = h; payload = [] }

abbrev pub keeps_flow : Header → DeviceEntry → Bool
keeps_flow h e = is_kept Device e.flow e.value.end (without_payload h)

abbrev pub on_known : Verdict → Chain → Header → DeviceEntry → DeviceState → DeviceTree DeviceState
on_known verdict.Accept chain h e s =
    Done (with_connection e.slot (record (heard h e.value) { ok_line = if e.value.by_client then ok_text e.flow.host else [] }) s)
on_known verdict.Deliver chain h e s =
    Ask (Ring (Read chain HEADER_LEN h.len)) (λ payload.
    Done (with_connection e.slot (record (heard h e.value) { pending = e.value.pending ++ payload }) s))
on_known verdict.Peer chain h e s =
    if is_reset h then leaving (keeps_flow h e) (record e { value = heard h e.value }) s else Done (with_connection e.slot (heard h e.value) s)
on_known (verdict.Rst (why.Overrun o)) chain h e s = Done (with_connection e.slot (heard h e.value) (record s { overrun = counted s.overrun }))
on_known _ chain h e s = Done (with_connection e.slot (heard h e.value) s)

-- A REQUEST of an unknown flow is tried: it gets RST where the device assigns its host port, where the table is full, and where the dial is
-- refused or fails. Else it opens a connection.
abbrev pub refused : Header → DeviceState → DeviceState × Verdict
refused h s = (with_reply (reply_to (flow_to_host h) h) s, verdict.Rst why.NotLive)

abbrev pub dial_answered : Header → Dialed → DeviceState → DeviceState × Verdict
dial_answered h (dialed.Stream stream) s = (with_dialed (flow_to_host h) h stream s, verdict.Accept)
dial_answered h dialed.Refused s = refused h s
dial_answered h dialed.Failed s = refused h (with_fault s)

abbrev pub try_request : Header → DeviceState → DeviceTree (DeviceState × Verdict)
try_request h s =
    if is_assigned h.dst_port then Done (refused h s)
    else if has_place s.table then Ask (Dial (path_of s.base h.dst_port) (flow_to_host h)) (λ answer. Done (dial_answered h answer s))
    else Done (refused h s)

-- The verdict on another packet of an unknown flow: RST is ignored, all else gets RST.
abbrev pub op_why : Option Op → Why
op_why None = why.BadOp
op_why (Some Invalid) = why.BadOp
op_why (Some _) = why.NotLive

abbrev pub unknown_why : Header → Why
unknown_why h = if is_of Stream h then op_why (op_named h.op) else why.BadKind

abbrev pub on_unknown : Header → DeviceState → DeviceTree (DeviceState × Verdict)
on_unknown h s =
    if is_reset h then Done (s, verdict.Ignore)
    else if is_of Stream h && (h.op == op_number Request) then try_request h s
    else Done (with_reply (reply_to (flow_to_host h) h) s, verdict.Rst (unknown_why h))

-- A packet whose source isn't the guest, or whose destination isn't the host, is dropped and counted.
abbrev pub on_packet : Chain → Header → DeviceState → DeviceTree (DeviceState × Verdict)
on_packet chain h s =
    if is_dropped Device s.cid h then Done (record s { dropped = counted s.dropped }, verdict.Ignore)
    else elim (entry_of s.table (flow_to_host h)) [
      | None ↦ on_unknown h s
      | Some e ↦ let v = verdict_of e.value.end h in bind (on_known v chain h e s) (λ t. Done (t, v))
    ]

-- A chain of tx: its header is read once; a payload longer than the chain is the ring's failure. The chain is returned.
abbrev pub on_header : Chain → Header → DeviceState → DeviceTree (DeviceState × Taken)
on_header chain h s =
    let held = chain.readable - HEADER_LEN in
    if nat_lt held h.len then (let f = failure.PayloadShort h.len held in Done (failing f s, taken.Failed f))
    else bind (on_packet chain h s) (λ r. Ask (Ring (Return chain 0)) (λ _. Done (r.0, taken.Packet r.1)))

abbrev pub on_next : Next → DeviceState → DeviceTree (DeviceState × Taken)
on_next (next.Chain chain) s = Ask (Ring (Read chain 0 HEADER_LEN)) (λ bytes. on_header chain (header_of bytes) s)
on_next next.None s = Done (s, taken.None)
on_next (next.Failed f) s = Done (failing f s, taken.Failed f)

abbrev pub take_tx_of : DeviceState → DeviceTree (DeviceState × Taken)
take_tx_of s = elim s.failed [
  | Some f ↦ Done (s, taken.Failed f)
  | None ↦
      if nat_le DEVICE_REPLIES (length s.replies) then Done (s, taken.RepliesFull DEVICE_REPLIES)
      else Ask (Ring (Take Tx)) (λ answer. on_next answer s)
]
