-- What a run holds between two lines, and what it is for a line to be run.
use Rattle.std.specs.Prelude.{◌≡◌, ℕ, false, List, [], ◌∷◌, ◌++◌, Option, Some, None}
use Rattle.vs_outside.specs.Host.{HostContents}
use Rattle.vs_ring_port.specs.{Contents.RingContents, declared.device_ring.Chain.Chain}
use Rattle.vs_ring_plain.specs.Device.{DeviceState, chains_held}
use Rattle.vs_device_parts.specs.Playing.{IsItsRing, situation}
use Rattle.vs_proxy_parts.specs.State.{ProxyState}
use Rattle.laws_proxy.specs.Order.{IsInOrder}
use Rattle.vs_script.specs.Hostile.{Hostile}
use Rattle.vs_hostile.specs.{Run.GuestState, Run.Nothing, Run.HasMemory, Run.HasRings, Run.HostileState, Run.hostile_does, Answer.said_text}

abbrev pub held_in : GuestState → List Chain
held_in Nothing = []
held_in (HasMemory memory) = []
held_in (HasRings ring) = chains_held ring

-- A ring that tells nothing.
abbrev pub silent : RingContents
silent = record { lists = None; log = None; other = None; plain = None; known = None; honest = false }

-- The proxy has its streams on that host.
abbrev pub IsServing : ProxyState → HostContents → Type 0
IsServing p host = IsInOrder 3 p (situation silent (Some host) 0)

-- The chains that are held are the device's, and it has its streams. Without rings it holds no chain.
pub record IsReady (s : HostileState) : Type 0 where
  pub ring : IsItsRing (held_in s.guest) s.proxy.device
  pub serving : IsServing s.proxy s.host

-- A line was run: the state is the one that it leads to, its text stands behind what stood there, and the next line may be run.
pub record Steps (line : Hostile) (old new : HostileState) (text text' : List ℕ) : Type 0 where
  pub state : new ≡ (hostile_does line old).0
  pub printed : text' ≡ text ++ said_text (hostile_does line old).1
  pub ready : IsReady new

-- The rings, the proxy, the host and the moment.
abbrev pub with_rings : DeviceState → ProxyState → HostContents → ℕ → HostileState
with_rings ring proxy host now = record { guest = HasRings ring; proxy = proxy; host = host; now = now }

-- A run: where its lines before have led, and the lines that are left.
pub record RunState : Type 0 where
  pub state : HostileState
  pub rest : List Hostile

-- The next line was run, and its text answered; or none is left, and nothing changes.
abbrev pub StepsNext : RunState → RunState → Option (List ℕ) → Type 0
StepsNext old new None = (old.rest ≡ []) × (new ≡ old)
StepsNext old new (Some text) = (line : Hostile) × (old.rest ≡ line ∷ new.rest) × Steps line old.state new.state [] text
