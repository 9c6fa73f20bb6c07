-- Events as the program holds them, and what it answers to one.
use Rattle.std.specs.Prelude.{◌≡◌, ◌&&◌, ◌≤◌, Bool, true, false, []}
use Rattle.laws_world.specs.Events.{Event, call_made, is_at_rest}
use Rattle.laws_driver.specs.Carried.Calls.{GuestCall, ReplyTo, is_right}
use Rattle.vs_core.specs.{Ready.Happens, Ready.WorldState, Ready.with_journal, declared.event.Reply.Reply}
use Rattle.laws_driver.specs.Carried.Calls as call
use Rattle.laws_world.specs.Events as event
use Rattle.vs_core.specs.declared.event.Event as program
use Rattle.vs_core.specs.declared.event.Event.TheVariants as code
use Rattle.vs_core.specs.declared.event.GuestCall as program_call
use Rattle.vs_core.specs.declared.event.GuestCall.TheVariants as call_code
use Rattle.vs_core.specs.declared.event.Reply.TheVariants as reply

abbrev pub call_view : program_call.GuestCall → GuestCall
call_view (call_code.Connect port) = call.Connect port
call_view (call_code.Listen port) = call.Listen port
call_view (call_code.Unlisten port) = call.Unlisten port
call_view (call_code.Accept port) = call.Accept port
call_view (call_code.Send id bytes) = call.Send id bytes.items
call_view (call_code.Recv id len) = call.Recv id len
call_view (call_code.Shutdown id bits) = call.Shutdown id bits
call_view (call_code.Grow id alloc) = call.Grow id alloc
call_view (call_code.Close id) = call.Close id
call_view (call_code.LookAt id) = call.LookAt id

abbrev pub event_view : program.Event → Event
event_view (code.GuestCalls c) = event.GuestCalls (call_view c)
event_view (code.GuestTakes queue) = event.GuestTakes queue
event_view code.GuestReplies = event.GuestReplies
event_view (code.GuestPays slot) = event.GuestPays slot
event_view (code.GuestPublishes queue) = event.GuestPublishes queue
event_view (code.DeviceTakes queue) = event.DeviceTakes queue
event_view (code.DeviceReturns chain) = event.DeviceReturns chain
event_view (code.DevicePutsEvent chain) = event.DevicePutsEvent chain
event_view code.DeviceReplies = event.DeviceReplies
event_view (code.DeviceReads slot) = event.DeviceReads slot
event_view (code.DevicePays slot) = event.DevicePays slot
event_view (code.DeviceWrites slot) = event.DeviceWrites slot
event_view (code.DeviceShutsWrite slot) = event.DeviceShutsWrite slot
event_view (code.DeviceGrows flow alloc) = event.DeviceGrows flow alloc
event_view code.ProxyAccepts = event.ProxyAccepts
event_view (code.ProxyReads stream) = event.ProxyReads stream
event_view (code.Moment now) = event.Moment now
event_view (code.TimesOut slot) = event.TimesOut slot
event_view (code.HandshakeTimesOut stream) = event.HandshakeTimesOut stream
event_view (code.Reset cid) = event.Reset cid
event_view (code.HostListens port) = event.HostListens port
event_view (code.HostUnlistens port) = event.HostUnlistens port
event_view code.ClientConnects = event.ClientConnects
event_view (code.HostWrites stream bytes) = event.HostWrites stream bytes.items
event_view (code.HostTakes stream n) = event.HostTakes stream n
event_view (code.HostEnds stream) = event.HostEnds stream
event_view (code.HostCloses stream) = event.HostCloses stream
event_view (code.HostFails n) = event.HostFails n

-- It is the reply of a call.
abbrev pub Tells : (c : GuestCall) → ReplyTo c → Reply → Type 0
Tells (call.Connect port) answer told = told ≡ reply.Connected answer
Tells (call.Listen port) answer told = told ≡ reply.Listened answer
Tells (call.Unlisten port) answer told = told ≡ reply.Unlistened answer
Tells (call.Accept port) answer told = told ≡ reply.Accepted answer
Tells (call.Send id bytes) answer told = told ≡ reply.Sent answer
Tells (call.Recv id n) answer (reply.Received got bytes) = answer ≡ (got, bytes.items)
Tells (call.Recv id n) answer _ = ⊥
Tells (call.Shutdown id bits) answer told = told ≡ reply.Shut answer
Tells (call.Grow id alloc) answer told = told ≡ reply.Grown answer
Tells (call.Close id) answer told = told ≡ reply.Closed answer
Tells (call.LookAt id) answer told = told ≡ reply.Looked answer

-- A call that isn't possible has none.
abbrev pub TellsWhere : Bool → (c : GuestCall) → ReplyTo c → Reply → Type 0
TellsWhere true c answer told = Tells c answer told
TellsWhere false c answer told = told ≡ reply.None

-- What an event answers, in this world.
abbrev pub Answers : Event → WorldState → Reply → Type 0
Answers (event.GuestCalls c) s told =
    TellsWhere (is_at_rest s.rings.driver.staged && is_right c) c (call_made c (with_journal [] s)).1 told
Answers _ s told = told ≡ reply.None

-- An event happened, and this was its answer.
pub record Steps (e : Event) (old new : WorldState) (told : Reply) : Type 0 where
  pub happened : Happens e old new
  pub answer : Answers e old told

-- The directions of a shutdown are among the two.
abbrev pub HasBits : Event → Type 0
HasBits (event.GuestCalls (call.Shutdown id bits)) = (1 ≤ bits) × (bits ≤ 3)
HasBits _ = Unit {0}
