-- A turn in progress, as its steps count it.
use Rattle.std.specs.Prelude.{ℕ, ◌+◌, ◌≤◌, Some, None}
use Rattle.vs_contents.specs.CallTree.{Done, Ask, bind, for_each}
use Rattle.vs_device_parts.specs.{Calls.{DeviceTree, CloseStream}, State.DeviceState, Turns.open_of}
use Rattle.vs_proxy_parts.specs.{declared.tally.Tally.Tally, State.{ProxyState, Turning, with_device}, Handshakes.{next_after, next_flow, read_line, streams_of, without_handshake}}
use Rattle.vs_flow.specs.declared.flow.Flow.{Flow}

abbrev pub turning_of : ProxyState → Tally → Turning
turning_of s t = record { state = s; took = t.took; put = t.put; read = t.read; wrote = t.wrote; hands = t.hands }

-- The turn without the handshake on a stream.
abbrev pub without_it : ℕ → Turning → Turning
without_it stream t = record t { state = without_handshake stream t.state }

-- A client whose handshake is over: its stream is closed, or its connection is opened.
abbrev pub closing_client : ℕ → Turning → DeviceTree Turning
closing_client stream t = Ask (CloseStream stream) (λ _. Done (record t { hands = t.hands + 1 }))

abbrev pub opening_client : ℕ → Flow → Turning → DeviceTree Turning
opening_client stream flow t =
    bind (open_of flow stream t.state.device) (λ r.
    Done (record t { state = record (with_device r.0 t.state) { next_port = next_after t.state.next_port } }))

abbrev pub connecting : ℕ → ℕ → Turning → DeviceTree Turning
connecting stream port t = elim (next_flow port t.state.next_port t.state.device) [
  | None ↦ closing_client stream t
  | Some flow ↦ opening_client stream flow t
]

-- The lines of all handshakes.
abbrev pub read_lines : Turning → DeviceTree Turning
read_lines t = for_each read_line (streams_of t.state) t

-- At most so many connections came, and at most so many left.
pub record CountsFew (came left : ℕ) (old new : DeviceState) : Type 0 where
  pub opened : new.opened ≤ old.opened + came
  pub closed : new.closed ≤ old.closed + left
