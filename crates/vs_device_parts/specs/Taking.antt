-- Parts of what the device does with a packet, as the code has them.
use Rattle.std.specs.Prelude.{ℕ, ◌==◌, ◌&&◌, Bool}
use Rattle.vs_contents.specs.CallTree.{Done, bind}
use Rattle.vs_conn.specs.{End.is_of, End.verdict_of, declared.end.Verdict.Verdict, declared.end.Why.Why}
use Rattle.vs_header.specs.{Op.op_number, declared.Header.Header, declared.Kind.TheVariants.Stream, declared.Op.TheVariants.Request}
use Rattle.vs_ring_port.specs.declared.device_ring.Chain.{Chain}
use Rattle.vs_page.specs.{Log.Device, Open.is_dropped}
use Rattle.vs_wrap.specs.Wrap.{counted}
use Rattle.vs_device_parts.specs.{Calls.DeviceTree, State.DeviceEntry, State.DeviceState, Transmitting.on_known}
use Rattle.vs_conn.specs.declared.end.Why.TheVariants as why

-- A packet of the connection of an entry, with its verdict.
abbrev pub known_packet : Chain → Header → DeviceEntry → DeviceState → DeviceTree (DeviceState × Verdict)
known_packet chain h e s = let v = verdict_of e.value.end h in bind (on_known v chain h e s) (λ t. Done (t, v))

-- A REQUEST of a stream socket.
abbrev pub asks_for_stream : Header → Bool
asks_for_stream h = is_of Stream h && (h.op == op_number Request)

-- The device drops it: its source isn't the guest, or its destination isn't the host.
abbrev pub is_not_for_host : ℕ → Header → Bool
is_not_for_host cid h = is_dropped Device cid h

-- A packet was refused: one that holds more payload than there is room for is counted.
abbrev pub after_refusal : Why → DeviceState → DeviceState
after_refusal (why.Overrun o) s = record s { overrun = counted s.overrun }
after_refusal _ s = s
