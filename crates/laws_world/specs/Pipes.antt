-- A host that nothing happened at, the streams of one, and journals that are right.
use Rattle.std.specs.Prelude.{◌≡◌, ℕ, ◌+◌, ◌≤◌, if◌then◌else◌, [], Some}
use Rattle.vs_flow.specs.{Connection.Connection, Flow.host_asks, declared.flow.Flow.Flow}
use Rattle.vs_outside.specs.{Host.HostContents, HostBytes.connection_at}
use Rattle.vs_page.specs.{Fair.number_of, Log.Device}
use Rattle.laws_driver.specs.{Honest.slots_of, Carried.Senders.{IsRightJournal, IsSent}}
use Rattle.laws_world.specs.{Sides.log_with_staged, World.World}

-- A host without streams.
pub record IsFresh (host : HostContents) : Type 0 where
  pub streams : host.streams ≡ []
  pub labelled : host.labelled ≡ []

-- A stream with a label is of a connection of that flow: of one that the device's log began or, where a client of the host made it, of the
-- next one at most.
pub record IsNumbered (w : World) (id : ℕ) (f : Flow) : Type 0 where
  pub connection : Connection
  pub at : connection_at id w.host ≡ Some connection
  pub flow : connection.flow ≡ f
  pub most : connection.number ≤ number_of Device f w.rings.device.entries + (if host_asks f then 1 else 0)

-- The guest's journal is right, where ids were given to these connections. Packets that the driver staged count as put.
abbrev pub IsRightIn : (ℕ → Connection) → World → Type 0
IsRightIn opened w = IsRightJournal 1 opened w.journal (log_with_staged w.rings.driver) (slots_of w.driver)

-- What it says was sent, by connections that more ids may have got since.
abbrev pub IsSentIn : (ℕ → Connection) → World → Type 0
IsSentIn opened w = IsSent opened w.journal (log_with_staged w.rings.driver)
