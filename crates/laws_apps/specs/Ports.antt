-- The guest ports of the connections that a run's connects opened.
use Rattle.std.specs.{Option.{ForSome, option_map}, Prelude.{◌≡◌, ℕ, ◌+◌, ◌≤◌, min, true, List, [], ◌∷◌, Option, Some, None, Result, Ok, Err}}
use Rattle.vs_flow.specs.declared.flow.Flow.{Flow}
use Rattle.vs_limits.specs.declared.TheConstants.{LAST_PORT}
use Rattle.vs_ring_port.specs.Contents.{RingContents}
use Rattle.vs_driver_parts.specs.{State.DriverState, declared.answers.ConnectError.ConnectError}
use Rattle.vs_apps_parts.specs.declared.journal.{Called.Called, Entry.Entry}
use Rattle.vs_apps_parts.specs.declared.journal.Called.TheVariants as called
use Rattle.vs_apps_parts.specs.declared.journal.Deed.TheVariants as deed

-- The guest port of the connection that an entry's connect opened.
abbrev pub port_opened : Result ℕ ConnectError → Option Flow → Option ℕ
port_opened (Ok id) flow = option_map (λ f. f.guest) flow
port_opened (Err why) flow = None

abbrev pub port_called : Called → Option ℕ
port_called (called.Connect port answer flow) = port_opened answer flow
port_called c = None

abbrev pub port_of : Entry → Option ℕ
port_of e = elim e.deed [ deed.Called c ↦ port_called c | deed.Waited times why ↦ None ]

-- It is this one, as long as that is at most the last port; and the one that comes behind it.
abbrev pub IsPort : ℕ → Option ℕ → Type 0
IsPort next None = Unit {0}
IsPort next (Some guest) = next ≤ LAST_PORT → guest ≡ next

abbrev pub next_port : ℕ → Option ℕ → ℕ
next_port next None = next
next_port next (Some guest) = next + 1

-- The connections that connects opened have, the oldest first, the guest ports from this one on, one after another up to the last port.
abbrev pub ArePortsFrom : ℕ → List Entry → Type 0
ArePortsFrom next [] = Unit {0}
ArePortsFrom next (e ∷ es) = IsPort next (port_of e) × ArePortsFrom (next_port next (port_of e)) es

abbrev pub port_behind : ℕ → List Entry → ℕ
port_behind next [] = next
port_behind next (e ∷ es) = port_behind (next_port next (port_of e)) es

-- The driver's next port comes behind them. So it is where an honest ring tells the log.
pub record GivesPorts (port : ℕ) (entries : List Entry) (s : DriverState) : Type 0 where
  pub are : ArePortsFrom port entries
  pub next : s.next_port ≡ min (port_behind port entries) (LAST_PORT + 1)

abbrev pub GivesPortsWith : ℕ → List Entry → DriverState → RingContents → Type 0
GivesPortsWith port entries s c = c.honest ≡ true → ForSome c.log (λ l. GivesPorts port entries s)
