-- How a device, its ring and its host belong together, and what it takes to make a call.
use Rattle.std.specs.{Prelude.{◌≡◌, ◌<◌, ℕ, false, List, [], ◌∷◌, Option, Some, None, Contains}, Option.{ForSome, IfSome}}
use Rattle.vs_contents.specs.CallTree.{Leads, MayPlay}
use Rattle.vs_outside.specs.Host.{HostContents, IsOpen}
use Rattle.vs_ring_port.specs.{declared.device_ring.Chain.Chain, declared.queue.Queue.TheVariants.Rx, Chains.{IsLongEnough, without}}
use Rattle.vs_ring_port.specs.{Contents.{RingContents, DeviceCall, DeviceAnswer, Write, Return}, DeviceCalls.{LeavesNoGap, CanReturn}}
use Rattle.vs_device_parts.specs.Calls.{Call, Answer, Ring, Label, ReadStream, WriteStream, ShutWrite, CloseStream, Situation, DeviceTree}
use Rattle.vs_device_parts.specs.{Calls.Allows, State.DeviceConnection, State.DeviceState}

abbrev pub situation : RingContents → Option HostContents → ℕ → Situation
situation ring host faults = record { ring = ring; host = host; faults = faults }

-- What ring and host ask of a call, beside what a device keeps itself: that the chain is held, that what is read or written lies in it, and
-- that a chain of tx is returned with nothing.
abbrev pub CanMake : Call → Situation → Type 0
CanMake (Ring (Write chain place bytes)) s = LeavesNoGap chain place s.ring
CanMake (Ring (Return chain len)) s = 0 < len → CanReturn chain len s.ring
CanMake (Label stream flow) s = ForSome s.host (IsOpen stream)
CanMake (ReadStream stream n) s = ForSome s.host (IsOpen stream)
CanMake (WriteStream stream bytes) s = ForSome s.host (IsOpen stream)
CanMake (ShutWrite stream) s = ForSome s.host (IsOpen stream)
CanMake (CloseStream stream) s = ForSome s.host (IsOpen stream)
CanMake _ s = Unit {0}

-- Each call of the conversation may be made, whatever ring and host answered before.
abbrev pub MayRun : {A : Type 0} → DeviceTree A → Situation → Type 0
MayRun tree old = MayPlay CanMake Allows tree old

-- From a situation the conversation may end in x and another situation.
abbrev pub Runs : {A : Type 0} → DeviceTree A → Situation → A → Situation → Type 0
Runs tree old x new = Leads Allows tree old x new

-- The same of conversations with the host alone, beside any ring.
abbrev pub MayRunOnHost : {A : Type 0} → DeviceTree A → Option HostContents → ℕ → Type 0
MayRunOnHost tree host faults = (ring : RingContents) × MayRun tree (situation ring host faults)

abbrev pub RunsOnHost : {A : Type 0} → DeviceTree A → Option HostContents → ℕ → A → Option HostContents → ℕ → Type 0
RunsOnHost tree old faults x new counted = (ring : RingContents) → Runs tree (situation ring old faults) x (situation ring new counted)

-- And of conversations with the ring alone, beside any host.
abbrev pub MayRunOnRing : {A : Type 0} → DeviceTree A → RingContents → Type 0
MayRunOnRing tree ring = (host : Option HostContents) × (faults : ℕ) × MayRun tree (situation ring host faults)

abbrev pub RunsOnRing : {A : Type 0} → DeviceTree A → RingContents → A → RingContents → Type 0
RunsOnRing tree old x new = (host : Option HostContents) (faults : ℕ) → Runs tree (situation old host faults) x (situation new host faults)

-- A single call on the host, beside any ring, and one on the ring, beside any host.
abbrev pub AllowsOnHost : (call : Call) → Answer call → Option HostContents → ℕ → Option HostContents → ℕ → Type 0
AllowsOnHost call a old faults new counted = (ring : RingContents) → Allows call a (situation ring old faults) (situation ring new counted)

abbrev pub AllowsOnRing : (call : DeviceCall) → DeviceAnswer call → RingContents → RingContents → Type 0
AllowsOnRing call a old new = (host : Option HostContents) (faults : ℕ) → Allows (Ring call) a (situation old host faults) (situation new host faults)

-- The chains that a device holds between its calls: one of rx, or none.
abbrev pub held_by : Option Chain → List Chain
held_by None = []
held_by (Some chain) = chain ∷ []

abbrev pub IsRxChain : Chain → Type 0
IsRxChain chain = (chain.queue ≡ Rx) × IsLongEnough Rx chain

-- A receive chain that the device holds is among those that were taken of its ring and not returned; and the others of them.
abbrev pub IsAmong : List Chain → DeviceState → Type 0
IsAmong held s = IfSome s.chain (λ chain. Contains held chain × IsRxChain chain)

abbrev pub beside : Option Chain → List Chain → List Chain
beside None held = held
beside (Some chain) held = without chain held

-- The ring is the device's: the chains taken of it and not returned are those that the device holds.
pub record IsRingOf (held : List Chain) (s : DeviceState) : Type 0 where
  pub chains : held ≡ held_by s.chain
  pub rx : IfSome s.chain IsRxChain

-- A ring is the device's unless a ring failed: then the device makes no further call on it.
abbrev pub IsItsRing : List Chain → DeviceState → Type 0
IsItsRing held s = s.failed ≡ None → IsRingOf held s

-- The stream of a connection may be closed, where it isn't yet.
abbrev pub MayClose : DeviceConnection → Option HostContents → Type 0
MayClose c host = c.closed ≡ false → ForSome host (IsOpen c.stream)
