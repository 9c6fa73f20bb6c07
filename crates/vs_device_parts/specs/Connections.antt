-- Small steps on a device's connections, apart from ring and host.
use Rattle.std.specs.Prelude.{ℕ, ◌+◌, ◌-◌, ◌&&◌, ◌||◌, nat_le, Bool, true, false, if◌then◌else◌, List, [], ◌∷◌, ◌++◌, length, drop, Option, Some, None}
use Rattle.vs_conn.specs.{Shut.is_both, declared.{end.State.State, route.Route.Route}, End.{ConnectionEnd, asked, answering, aborted, with_shut, with_payload_forwarded}}
use Rattle.vs_flow.specs.{CleanPairs.{kept_if, without_oldest}, Flow.same_flow, Table.{with_entry, with_value, without}, declared.flow.Flow.Flow}
use Rattle.vs_header.specs.declared.{Header.Header, Kind.TheVariants.Stream}
use Rattle.vs_limits.specs.declared.TheConstants.{BUF_ALLOC, TIMEOUT}
use Rattle.vs_replies.specs.declared.Reply.{Reply}
use Rattle.vs_wrap.specs.Wrap.{counted}
use Rattle.vs_device_parts.specs.State.{DeviceConnection, DeviceState}
use Rattle.vs_conn.specs.declared.end.State.TheVariants as state

abbrev pub with_fault : DeviceState → DeviceState
with_fault s = record s { faults = counted s.faults }

abbrev pub with_reply : Reply → DeviceState → DeviceState
with_reply reply s = record s { replies = s.replies ++ reply ∷ [] }

-- The device with another connection under a slot.
abbrev pub with_connection : ℕ → DeviceConnection → DeviceState → DeviceState
with_connection slot c s = record s { table = with_value s.table slot c }

-- The route of packets on a flow to the guest.
abbrev pub route_to_guest : ℕ → Flow → Route
route_to_guest cid f = record { src_cid = f.peer; dst_cid = cid; src_port = f.host; dst_port = f.guest }

-- A connection comes into the table: one that a client of the host asks for, or one that answers a REQUEST.
abbrev pub new_connection : ConnectionEnd → ℕ → Bool → DeviceConnection
new_connection end stream by_client = record {
  end = end;
  stream = stream;
  by_client = by_client;
  ok_line = [];
  pending = [];
  asked_at = None;
  shut_at = None;
  closed = false;
  write_shut = false;
}

abbrev pub with_opened : Flow → DeviceConnection → DeviceState → DeviceState
with_opened flow c s = record s { table = with_entry s.table flow c; opened = counted s.opened }

-- A flow that a client's connection uses again may not be used again until that connection is over.
abbrev pub with_client : Flow → ℕ → DeviceState → DeviceState
with_client flow stream s =
    record (with_opened flow (new_connection (asked Stream BUF_ALLOC) stream true) s) { clean = without_oldest (same_flow flow) s.clean }

abbrev pub with_dialed : Flow → Header → ℕ → DeviceState → DeviceState
with_dialed flow h stream s = with_opened flow (new_connection (answering Stream BUF_ALLOC h) stream false) s

-- The stream is closed: nothing is left to write.
abbrev pub stream_closed : DeviceConnection → DeviceConnection
stream_closed c = record c { ok_line = []; pending = []; closed = true }

-- The connection is over, as for a host call that failed or a timeout: it owes RST, and its stream is closed.
abbrev pub cut_off : DeviceConnection → DeviceConnection
cut_off c = record (stream_closed c) { end = aborted c.end }

-- It leaves the table, with its RST put or got.
abbrev pub after_leaving : ℕ → DeviceState → DeviceState
after_leaving slot s = record s { table = without s.table slot; closed = counted s.closed }

-- Its flow may be used again, or not.
abbrev pub keeping : Bool → Flow → DeviceState → DeviceState
keeping keep f s = record s { clean = kept_if keep f s.clean }

-- It decides to shut directions: what it will not receive is dropped, and the moment counts at which both are shut.
abbrev pub kept : ConnectionEnd → List ℕ → List ℕ
kept end bytes = if end.own.receive then [] else bytes

abbrev pub moment_shut : ConnectionEnd → ℕ → Option ℕ → Option ℕ
moment_shut end now None = if is_both end.own then Some now else None
moment_shut end now (Some moment) = Some moment

abbrev pub after_shut : ℕ → ℕ → DeviceConnection → DeviceConnection
after_shut bits now c =
    let end = with_shut c.end bits in
    record c { end = end; ok_line = kept end c.ok_line; pending = kept end c.pending; shut_at = moment_shut end now c.shut_at }

-- The stream took n of the bytes that were to be written: those of the OK line count in no credit.
abbrev pub after_written : ℕ → DeviceConnection → DeviceConnection
after_written n c =
    let payload = n - length c.ok_line in
    record c { ok_line = drop n c.ok_line; pending = drop payload c.pending; end = with_payload_forwarded c.end payload }

-- A REQUEST that was put so long ago, or both directions shut so long ago, is a timeout.
abbrev pub is_late : ℕ → Option ℕ → Bool
is_late now None = false
is_late now (Some moment) = nat_le (moment + TIMEOUT) now

abbrev pub is_asked : State → Bool
is_asked state.Asked = true
is_asked _ = false

abbrev pub is_timed_out : ℕ → DeviceConnection → Bool
is_timed_out now c = (is_asked c.end.state && is_late now c.asked_at) || is_late now c.shut_at
