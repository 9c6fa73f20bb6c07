-- Calls as lists of events.
use Rattle.std.specs.Prelude.{◌≡◌, List}
use Rattle.vs_device_parts.specs.{Calls.DeviceTree, State.DeviceState}
use Rattle.vs_proxy_parts.specs.State.{with_device}
use Rattle.laws_world.specs.{Events.Event, Events.run, World.World, World.device_plays}

-- Some events lead from one world to another.
abbrev pub Leads : World → World → Type 0
Leads w v = (es : List Event) × (run es w ≡ v)

-- The world after a call of the device's, whole, which leaves the device that is told of its answer.
abbrev pub device_calls : {A : Type 0} → (A → DeviceState) → DeviceTree A → World → World
device_calls state_of call w = let r = device_plays call w in record r.1 { proxy = with_device (state_of r.0) w.proxy }
