-- What may happen in the world, one page move or one call at a time, and what each leads to.
use Rattle.std.specs.Prelude.{ℕ, ◌&&◌, nat_le, Bool, true, false, if◌then◌else◌, List, [], ◌∷◌, is_some}
use Rattle.vs_flow.specs.declared.flow.Flow.{Flow}
use Rattle.vs_limits.specs.declared.TheConstants.{GUEST_CID_MIN, GUEST_CID_MAX}
use Rattle.vs_contents.specs.CallTree.{Done, bind}
use Rattle.vs_outside.specs.{HostProgram.{after_listen, after_unlisten, after_client, after_host_write, host_write_answer, allowed, ended, closed, after_fail}, Host.HostContents}
use Rattle.vs_outside.specs.Host.{with_stream}
use Rattle.vs_ring_port.specs.{Chains.same_queue, EndLog.Pages, declared.{device_ring.Chain.Chain, queue.Queue.Queue}}
use Rattle.vs_driver_parts.specs.{Conversations.{DriverTree, publish_of}, State.DriverState, Steps.{takes_page, stages_reply, stages_owed}}
use Rattle.vs_device_parts.specs.{Calls.DeviceTree, State.DeviceState, Streams.tick_slot, Steps.{takes_chain, returns, puts_event, puts_reply, puts_owed, puts_payload, writes}}
use Rattle.vs_device_parts.specs.Steps.{shuts_write}
use Rattle.vs_proxy_parts.specs.{State.{Turning, start, with_device}, Turns.proxy_reset_of, Handshakes.{tick_handshake, accept_one, read_byte}, Growing.after_flow_grow}
use Rattle.laws_device.specs.Honest.{is_held}
use Rattle.laws_world.specs.World.{World, driver_plays, device_plays}
use Rattle.laws_driver.specs.Carried.Calls.{GuestCall, ReplyTo, is_right, makes_call, with_call}
use Rattle.vs_header.specs.declared.Kind.TheVariants as kind
use Rattle.vs_ring_port.specs.declared.queue.Queue.TheVariants as q

-- A connection is named by its slot, a stream by its id.
pub data Event : Type 0 where
  -- The guest makes a call.
  GuestCalls : GuestCall → Event
  -- The driver takes a page of a queue, and stages it again; it stages the oldest reply, or what a connection owes; it publishes those that
  -- are staged.
  GuestTakes : Queue → Event
  GuestReplies : Event
  GuestPays : ℕ → Event
  GuestPublishes : Queue → Event
  -- The device takes a page of a queue; it returns a transmit page; it puts the owed event, the oldest reply, payload that it reads of a
  -- connection's stream, or what a connection owes.
  DeviceTakes : Queue → Event
  DeviceReturns : Chain → Event
  DevicePutsEvent : Chain → Event
  DeviceReplies : Event
  DeviceReads : ℕ → Event
  DevicePays : ℕ → Event
  -- It writes to a connection's stream, and shuts the side that it writes to.
  DeviceWrites : ℕ → Event
  DeviceShutsWrite : ℕ → Event
  -- It raises the buffer space of the connection of a flow.
  DeviceGrows : Flow → ℕ → Event
  -- It accepts a client, and reads a byte of its line.
  ProxyAccepts : Event
  ProxyReads : ℕ → Event
  -- The moment is this now, and no law asks that moments rise; a connection and a handshake time out.
  Moment : ℕ → Event
  TimesOut : ℕ → Event
  HandshakeTimesOut : ℕ → Event
  -- A transport reset: the guest gets this CID.
  Reset : ℕ → Event
  -- The host's programs listen, connect, write, take more bytes, end and close; a call on the host is to fail.
  HostListens : ℕ → Event
  HostUnlistens : ℕ → Event
  ClientConnects : Event
  HostWrites : ℕ → List ℕ → Event
  HostTakes : ℕ → ℕ → Event
  HostEnds : ℕ → Event
  HostCloses : ℕ → Event
  HostFails : ℕ → Event

-- While pages are staged on a queue, the driver works on that queue alone.
abbrev pub none_staged : List (List ℕ) → Bool
none_staged [] = true
none_staged (page ∷ pages) = false

abbrev pub works_on : Queue → Pages → Bool
works_on q.Rx staged = none_staged staged.tx && none_staged staged.event
works_on q.Tx staged = none_staged staged.rx && none_staged staged.event
works_on q.Event staged = none_staged staged.rx && none_staged staged.tx

abbrev pub is_at_rest : Pages → Bool
is_at_rest staged = none_staged staged.rx && none_staged staged.tx && none_staged staged.event

-- The device holds a chain of a queue.
abbrev pub holds : Queue → Chain → World → Bool
holds queue chain w = same_queue queue chain.queue && is_held chain w.rings.device.held

-- One of the event queue, with room for an event.
abbrev pub holds_event : Chain → World → Bool
holds_event chain w = holds q.Event chain w && nat_le 4 chain.writable

-- A step of the driver, of the device, of the proxy, of the host's programs.
abbrev pub driver_step : (DriverState → DriverTree DriverState) → World → World
driver_step step w = let r = driver_plays (step w.driver) w in record r.1 { driver = r.0 }

abbrev pub device_step : (DeviceState → DeviceTree DeviceState) → World → World
device_step step w = let r = device_plays (step w.proxy.device) w in record r.1 { proxy = with_device r.0 w.proxy }

abbrev pub proxy_step : (Turning → DeviceTree Turning) → World → World
proxy_step step w = let r = device_plays (step (start w.proxy)) w in record r.1 { proxy = r.0.state }

abbrev pub host_step : (HostContents → HostContents) → World → World
host_step step w = record w { host = step w.host }

-- What came of a call of the guest's, which the journal keeps.
abbrev pub call_made : (call : GuestCall) → World → World × ReplyTo call
call_made call w =
    let r = driver_plays (makes_call call w.driver) w in
    (record r.1 { driver = r.0.0; journal = with_call call w.driver r.0.1 w.journal }, r.0.1)

abbrev pub line_read : ℕ → Turning → DeviceTree Turning
line_read stream t = bind (read_byte stream t) (λ r. Done r.0)

abbrev pub reset_made : ℕ → World → World
reset_made cid w = let r = device_plays (proxy_reset_of cid w.proxy) w in record r.1 { proxy = r.0.0 }

abbrev pub at_moment : ℕ → World → World
at_moment now w = record w { proxy = with_device (record w.proxy.device { now = now }) w.proxy }

-- The CIDs that a guest may have (Virtio 1.2, section 5.10.4).
abbrev pub is_guest_cid : ℕ → Bool
is_guest_cid cid = nat_le GUEST_CID_MIN cid && nat_le cid GUEST_CID_MAX

-- What isn't possible leaves the world as it is.
abbrev pub where_possible : Bool → (World → World) → World → World
where_possible possible step w = if possible then step w else w

-- Of the device only the host's programs go on after a failure of the ring.
abbrev pub has_failed : World → Bool
has_failed w = is_some w.proxy.device.failed

abbrev pub unless_failed : (World → World) → World → World
unless_failed step w = if has_failed w then w else step w

abbrev pub happens : Event → World → World
happens (GuestCalls call) w = where_possible (is_at_rest w.rings.driver.staged && is_right call) (λ v. (call_made call v).0) w
happens (GuestTakes queue) w = where_possible (works_on queue w.rings.driver.staged) (driver_step (takes_page queue)) w
happens GuestReplies w = where_possible (works_on q.Tx w.rings.driver.staged) (driver_step stages_reply) w
happens (GuestPays slot) w = where_possible (works_on q.Tx w.rings.driver.staged) (driver_step (stages_owed slot)) w
happens (GuestPublishes queue) w = where_possible (works_on queue w.rings.driver.staged) (driver_step (publish_of queue)) w
happens (DeviceTakes queue) w = unless_failed (device_step (takes_chain queue)) w
happens (DeviceReturns chain) w = where_possible (holds q.Tx chain w) (device_step (returns chain)) w
happens (DevicePutsEvent chain) w = where_possible (holds_event chain w) (device_step (puts_event chain)) w
happens DeviceReplies w = unless_failed (device_step puts_reply) w
happens (DeviceReads slot) w = unless_failed (device_step (puts_payload slot)) w
happens (DevicePays slot) w = unless_failed (device_step (puts_owed slot)) w
happens (DeviceWrites slot) w = unless_failed (device_step (writes slot)) w
happens (DeviceShutsWrite slot) w = unless_failed (device_step (shuts_write slot)) w
happens (DeviceGrows flow alloc) w = record w { proxy = after_flow_grow flow alloc w.proxy }
happens ProxyAccepts w = unless_failed (proxy_step accept_one) w
happens (ProxyReads stream) w = unless_failed (proxy_step (line_read stream)) w
happens (Moment now) w = at_moment now w
happens (TimesOut slot) w = unless_failed (device_step (tick_slot slot)) w
happens (HandshakeTimesOut stream) w = unless_failed (proxy_step (tick_handshake stream)) w
happens (Reset cid) w = where_possible (is_guest_cid cid) (reset_made cid) w
happens (HostListens port) w = host_step (after_listen port kind.Stream) w
happens (HostUnlistens port) w = host_step (after_unlisten port kind.Stream) w
happens ClientConnects w = host_step after_client w
happens (HostWrites stream bytes) w = host_step (λ c. after_host_write stream bytes (host_write_answer stream c) c) w
happens (HostTakes stream n) w = host_step (with_stream stream (allowed (18446744073709551615) n)) w
happens (HostEnds stream) w = host_step (with_stream stream ended) w
happens (HostCloses stream) w = host_step (with_stream stream closed) w
happens (HostFails n) w = host_step (after_fail n) w

-- A run of events.
abbrev pub run : List Event → World → World
run [] w = w
run (e ∷ es) w = run es (happens e w)
