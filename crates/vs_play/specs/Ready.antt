-- What a play holds between two lines, and what it is for a line to be played.
use Rattle.std.specs.Prelude.{◌≡◌, ◌≤◌, ℕ, List, [], ◌++◌, Some}
use Rattle.vs_limits.specs.declared.TheConstants.{GUEST_CID_MIN, GUEST_CID_MAX}
use Rattle.vs_ring_port.specs.Chains.{chains_of}
use Rattle.vs_ring_list.specs.Ends.{Ends, device_contents, driver_contents, flight_of, staged_of}
use Rattle.vs_driver_parts.specs.{Playing.IsRingOf, State.DriverState}
use Rattle.laws_driver.specs.Honest.{IsHonest}
use Rattle.vs_script.specs.Play.{Event}
use Rattle.vs_outside.specs.Host.{HostContents}
use Rattle.vs_device_parts.specs.Playing.{IsItsRing, situation}
use Rattle.vs_proxy_parts.specs.State.{ProxyState}
use Rattle.laws_proxy.specs.Order.{IsInOrder}
use Rattle.laws_world.specs.World.{first_cid}
use Rattle.vs_play.specs.{Answer.opened_play, Lines.PlayWorld, Lines.event_played}
use Rattle.vs_script.specs.Outside as outside
use Rattle.vs_script.specs.Play as script

-- The rings and the host are the proxy's: the device holds its chains, and the proxy is in order with its log and its streams.
pub record IsServed (s : ProxyState) (e : Ends) (h : HostContents) : Type 0 where
  pub chains : IsItsRing (chains_of e.device.held) s.device
  pub order : IsInOrder first_cid s (situation (device_contents e) (Some h) 0)

-- The rings are the driver's: its pages are in flight, and their log left its connections.
pub record IsDriven (s : DriverState) (e : Ends) : Type 0 where
  pub ring : IsRingOf e.lists.size (flight_of e) (staged_of e) s
  pub honest : IsHonest s (driver_contents e)

-- Bits of a shutdown.
abbrev pub IsBits : ℕ → Type 0
IsBits bits = (1 ≤ bits) × (bits ≤ 3)

-- A line that may be played: the bits of a shutdown are 1 to 3, and a CID is one that a guest may have.
abbrev pub IsPlayable : Event → Type 0
IsPlayable (script.Shutdown id bits) = IsBits bits
IsPlayable (script.Around (outside.Reset cid)) = (GUEST_CID_MIN ≤ cid) × (cid ≤ GUEST_CID_MAX)
IsPlayable _ = Unit {0}

-- What a play holds: its world without the journal of the calls that the guest made.
pub record PlayState : Type 0 where
  pub driver : DriverState
  pub proxy : ProxyState
  pub rings : Ends
  pub host : HostContents
  pub moment : ℕ

abbrev pub shown : PlayWorld → PlayState
shown p = record { driver = p.world.driver; proxy = p.world.proxy; rings = p.world.rings; host = p.world.host; moment = p.moment }

-- The world in which no call was made.
abbrev pub world_in : PlayState → PlayWorld
world_in p = record {
  world = record { driver = p.driver; proxy = p.proxy; rings = p.rings; host = p.host; journal = [] };
  moment = p.moment;
}

-- A line may be played.
pub record IsReady (p : PlayState) : Type 0 where
  pub driven : IsDriven p.driver p.rings
  pub served : IsServed p.proxy p.rings p.host

-- A play just begun over empty rings with queues of n pages, where this is the guest's first port.
pub record IsOpened (n first : ℕ) (p : PlayState) : Type 0 where
  pub world : p ≡ shown (opened_play n first)
  pub ready : IsReady p

-- A line was played: the world is the one that it leads to, its text stands behind what stood there, and the next line may be played.
pub record Plays (e : Event) (old new : PlayState) (text text' : List ℕ) : Type 0 where
  pub world : new ≡ shown (event_played e (world_in old)).0
  pub printed : text' ≡ text ++ (event_played e (world_in old)).1
  pub ready : IsReady new
