-- How the ports that are listened on are held. No public clause cites this module.
use Rattle.std.specs.Prelude.{◌+◌, ◌≤◌, ◌==◌, not, ℕ, List, map, filter}
use Rattle.arrayvec.specs.ArrayVec.{ArrayVec}
use Rattle.indexmap.specs.IndexMap.{index_map_len, spare, IsEmpty}
use Rattle.vs_limits.specs.declared.TheConstants.{LISTENERS}
use Rattle.vs_driver_parts.specs.{State.Listener, declared.listeners.Listeners.TheInside.Inside}

abbrev pub listener_of : ℕ × ArrayVec ℕ → Listener
listener_of e = record { port = e.0; waiting = e.1.items }

abbrev pub listeners_of : List (ℕ × ArrayVec ℕ) → List Listener
listeners_of es = map listener_of es

-- all entries but a port's
abbrev pub others : ℕ → List (ℕ × ArrayVec ℕ) → List (ℕ × ArrayVec ℕ)
others port es = filter (λ e. not (e.0 == port)) es

-- No more than may be, and there is room for as many; the twin is empty and has as much.
pub record AreListened (l : Inside) : Type 0 where
  pub within : index_map_len l.ports ≤ LISTENERS
  pub room : LISTENERS ≤ index_map_len l.ports + spare l.ports
  pub empty : IsEmpty l.twin
  pub room_there : LISTENERS ≤ spare l.twin
