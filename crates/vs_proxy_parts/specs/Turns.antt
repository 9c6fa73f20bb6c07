-- The proxy's turn: its stages in order.
use Rattle.std.specs.Prelude.{ℕ, ◌+◌, ◌-◌, ◌&&◌, not, Bool, true, false, List, [], Some, None, Result, Ok, Err}
use Rattle.vs_contents.specs.CallTree.{Done, Ask, bind, for_each, while_up_to}
use Rattle.vs_limits.specs.declared.TheConstants.{ASSIGNED_FIRST}
use Rattle.vs_ring_port.specs.declared.failure.Failure.{Failure}
use Rattle.vs_device_parts.specs.{Calls.{DeviceTree, CloseStream}, State.{DeviceState, new_device}, Streams.{tick_of, pump_of}, Transmitting.take_tx_of, Receiving.pay_event_of}
use Rattle.vs_device_parts.specs.{Receiving.fill_rx_of, Turns.reset_of, declared.answers.{Filled.Filled, Taken.Taken}}
use Rattle.vs_proxy_parts.specs.{Handshakes.{streams_of, tick_handshakes, shake_hands}, declared.answers.Turn.Turn, State.{ProxyState, Turning, start, with_device}}
use Rattle.vs_device_parts.specs.declared.answers.Taken.TheVariants as taken
use Rattle.vs_proxy_parts.specs.declared.answers.Turn.TheVariants as turn

-- A proxy before its first call, that gives host ports from this one on; and one that gives all of them.
abbrev pub new_proxy_at : ℕ → List ℕ → ℕ → ProxyState
new_proxy_at cid base port = record { device = new_device cid base; handshakes = []; next_port = port }

abbrev pub new_proxy : ℕ → List ℕ → ProxyState
new_proxy cid base = new_proxy_at cid base ASSIGNED_FIRST

abbrev pub device_after : DeviceState → Turning → Turning
device_after d t = record t { state = with_device d t.state }

-- Transmit packets, at most as many as the queue has descriptors.
abbrev pub took_packet : Taken → Bool
took_packet (taken.Packet verdict) = true
took_packet _ = false

abbrev pub take_one : Turning → DeviceTree (Turning × Bool)
take_one t = bind (take_tx_of t.state.device) (λ r.
    elim (took_packet r.1) [ true ↦ Done (record (device_after r.0 t) { took = t.took + 1 }, true) | false ↦ Done (device_after r.0 t, false) ])

-- The stages after a failure of the ring are left out.
abbrev pub unless_failed : (Turning → DeviceTree Turning) → Turning → DeviceTree Turning
unless_failed stage t = elim t.state.device.failed [ Some f ↦ Done t | None ↦ stage t ]

abbrev pub tick_stage : ℕ → Turning → DeviceTree Turning
tick_stage now t = bind (tick_of now t.state.device) (λ d. tick_handshakes (device_after d t))

abbrev pub event_stage : Turning → DeviceTree Turning
event_stage t = bind (pay_event_of t.state.device) (λ r. Done (device_after r.0 t))

abbrev pub take_stage : ℕ → Turning → DeviceTree Turning
take_stage size t = while_up_to size take_one t

abbrev pub pump_stage : Turning → DeviceTree Turning
pump_stage t = bind (pump_of t.state.device) (λ w. Done (record (device_after w.state t) { wrote = t.wrote + w.wrote }))

abbrev pub filled : Result Filled Failure → Turning → Turning
filled (Ok f) t = record t { put = t.put + f.put; read = t.read + f.read }
filled (Err failure) t = t

abbrev pub fill_stage : Turning → DeviceTree Turning
fill_stage t = bind (fill_rx_of t.state.device) (λ r. Done (filled r.1 (device_after r.0 t)))

-- What a turn did, from the state before it. The event that is owed no more was put.
abbrev pub turned : ProxyState → Turning → Turn
turned s t = elim t.state.device.failed [
  | Some f ↦ turn.Failed f
  | None ↦ turn.Turned (record {
    took = t.took;
    put = t.put;
    read = t.read;
    wrote = t.wrote;
    opened = t.state.device.opened - s.device.opened;
    closed = t.state.device.closed - s.device.closed;
    hands = t.hands;
    event = s.device.event_owed && not t.state.device.event_owed;
  })
]

abbrev pub turn_of : ℕ → ℕ → ProxyState → DeviceTree (ProxyState × Turn)
turn_of size now s =
    bind (unless_failed (tick_stage now) (start s)) (λ a.
    bind (unless_failed event_stage a) (λ b.
    bind (unless_failed (take_stage size) b) (λ c.
    bind (unless_failed shake_hands c) (λ d.
    bind (unless_failed pump_stage d) (λ e.
    bind (unless_failed fill_stage e) (λ f.
    Done (f.state, turned s f)))))))

-- reset: the device's, and all handshakes are closed, in the order of acceptance.
abbrev pub close_handshake : ℕ → ProxyState → DeviceTree ProxyState
close_handshake stream s = Ask (CloseStream stream) (λ _. Done s)

abbrev pub reset_with : DeviceState × Result (Unit {0}) Failure → ProxyState → DeviceTree (ProxyState × Result (Unit {0}) Failure)
reset_with (d, Err f) s = Done (with_device d s, Err f)
reset_with (d, Ok x) s =
    bind (for_each close_handshake (streams_of s) s) (λ t. Done (record (with_device d t) { handshakes = [] }, Ok tt))

abbrev pub proxy_reset_of : ℕ → ProxyState → DeviceTree (ProxyState × Result (Unit {0}) Failure)
proxy_reset_of cid s = bind (reset_of cid s.device) (λ r. reset_with r s)
