-- Handshakes: a client of the host writes `CONNECT PORT` (Firecracker's vsock documentation).
use Rattle.std.specs.Prelude.{ℕ, ◌+◌, ◌==◌, nat_lt, nat_le, Bool, true, false, if◌then◌else◌, List, [], ◌∷◌, ◌++◌, length, map, find, Option, Some, None}
use Rattle.vs_contents.specs.CallTree.{Done, Ask, bind, for_each, while_up_to}
use Rattle.vs_flow.specs.{CleanPairs.{comes_from, oldest}, Flow.host_flow, Table.has_place, declared.flow.Flow.Flow}
use Rattle.vs_limits.specs.declared.TheConstants.{ASSIGNED_LAST, HANDSHAKES}
use Rattle.vs_outside.specs.declared.host_net.{Accepted.Accepted, StreamRead.StreamRead}
use Rattle.vs_uds.specs.{ConnectLine.connect_step, declared.{connect.TheConstants.CONNECT_MAX, scan.Step.Step}}
use Rattle.vs_device_parts.specs.{Connections.{with_fault, is_late}, State.DeviceState, Turns.open_of, Calls.{DeviceTree, Accept, ReadStream, CloseStream}}
use Rattle.vs_proxy_parts.specs.State.{Handshake, ProxyState, Turning, with_device}
use Rattle.vs_outside.specs.declared.host_net.Accepted.TheVariants as accepted
use Rattle.vs_outside.specs.declared.host_net.StreamRead.TheVariants as read
use Rattle.vs_uds.specs.declared.scan.Step.TheVariants as step

abbrev pub handshake_on : ℕ → ProxyState → Option Handshake
handshake_on stream s = find (λ h. h.stream == stream) s.handshakes

-- The handshakes without that on a stream, and with other bytes of its line. No host gives two streams one id; of one that did, the handshake
-- that was accepted first is meant.
abbrev pub without_stream : ℕ → List Handshake → List Handshake
without_stream stream [] = []
without_stream stream (h ∷ hs) = if h.stream == stream then hs else h ∷ without_stream stream hs

abbrev pub without_handshake : ℕ → ProxyState → ProxyState
without_handshake stream s = record s { handshakes = without_stream stream s.handshakes }

abbrev pub with_line : ℕ → List ℕ → List Handshake → List Handshake
with_line stream line [] = []
with_line stream line (h ∷ hs) = if h.stream == stream then record h { line = line } ∷ hs else h ∷ with_line stream line hs

-- A handshake ends without a connection: its stream is closed, with no answer.
abbrev pub dropping : ℕ → Turning → DeviceTree Turning
dropping stream t = Ask (CloseStream stream) (λ _. Done (record t { state = without_handshake stream t.state; hands = t.hands + 1 }))

-- Timeouts, in the order of acceptance.
abbrev pub tick_handshake : ℕ → Turning → DeviceTree Turning
tick_handshake stream t = elim (handshake_on stream t.state) [
  | None ↦ Done t
  | Some h ↦ if is_late t.state.device.now (Some h.accepted_at) then dropping stream t else Done t
]

abbrev pub streams_of : ProxyState → List ℕ
streams_of s = map (λ h. h.stream) s.handshakes

abbrev pub tick_handshakes : Turning → DeviceTree Turning
tick_handshakes t = for_each tick_handshake (streams_of t.state) t

-- One client is accepted in a turn, where a place is free.
abbrev pub host_fault : Turning → Turning
host_fault t = record t { state = with_device (with_fault t.state.device) t.state }

abbrev pub accept_answered : Accepted → Turning → Turning
accept_answered (accepted.Stream stream) t = record t {
  state = record t.state { handshakes = t.state.handshakes ++ record { stream = stream; accepted_at = t.state.device.now; line = [] } ∷ [] };
  hands = t.hands + 1;
}
accept_answered accepted.None t = t
accept_answered accepted.Failed t = host_fault t

abbrev pub accept_one : Turning → DeviceTree Turning
accept_one t =
    if nat_lt (length t.state.handshakes) HANDSHAKES then Ask Accept (λ answer. Done (accept_answered answer t)) else Done t

-- The flow of the next connection to a guest port, where the host port comes next and these flows may be used again: a fresh one, and once
-- the last port was given the oldest of these from that port.
abbrev pub free_flow : ℕ → ℕ → List Flow → Option Flow
free_flow guest port clean = if nat_le port ASSIGNED_LAST then Some (host_flow guest port) else oldest (comes_from guest) clean

-- So it is where the table has a place. The next host port, once it was given: it stays where the last one was given before.
abbrev pub next_flow : ℕ → ℕ → DeviceState → Option Flow
next_flow guest port s = if has_place s.table then free_flow guest port s.clean else None

abbrev pub next_after : ℕ → ℕ
next_after port = if nat_le port ASSIGNED_LAST then port + 1 else port

-- A whole line opens a connection on the next flow, where there is one.
abbrev pub opening : ℕ → Flow → Turning → DeviceTree Turning
opening stream flow t =
    bind (open_of flow stream t.state.device) (λ r.
    Done (record t { state = record (with_device r.0 (without_handshake stream t.state)) { next_port = next_after t.state.next_port } }))

abbrev pub line_decided : ℕ → Step → Turning → DeviceTree (Turning × Bool)
line_decided stream step.More t = Done (t, true)
line_decided stream step.Bad t = bind (dropping stream t) (λ u. Done (u, false))
line_decided stream (step.Port port) t =
    bind (elim (next_flow port t.state.next_port t.state.device) [ None ↦ dropping stream t | Some flow ↦ opening stream flow t ]) (λ u.
    Done (u, false))

-- One byte of a line. Nothing past its LF is read.
abbrev pub byte_read : Handshake → StreamRead → List ℕ → Turning → DeviceTree (Turning × Bool)
byte_read h (read.Got n) bytes t =
    let line = h.line ++ bytes in
    line_decided h.stream (connect_step line)
    (record t { state = record t.state { handshakes = with_line h.stream line t.state.handshakes }; read = t.read + n })
byte_read h read.Again bytes t = Done (t, false)
byte_read h read.End bytes t = bind (dropping h.stream t) (λ u. Done (u, false))
byte_read h read.Failed bytes t = bind (dropping h.stream (host_fault t)) (λ u. Done (u, false))

abbrev pub read_byte : ℕ → Turning → DeviceTree (Turning × Bool)
read_byte stream t = elim (handshake_on stream t.state) [
  | None ↦ Done (t, false)
  | Some h ↦ Ask (ReadStream stream 1) (λ answer. byte_read h answer.0 answer.1 t)
]

abbrev pub read_line : ℕ → Turning → DeviceTree Turning
read_line stream t = while_up_to CONNECT_MAX (read_byte stream) t

abbrev pub shake_hands : Turning → DeviceTree Turning
shake_hands t = bind (accept_one t) (λ u. for_each read_line (streams_of u.state) u)
