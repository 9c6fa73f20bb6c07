-- The driver's seat: its connections and its log.
use Rattle.std.proofs.Common.{◌≡◌, ap}
use Rattle.vs_page.specs.Log.{Log}
use Rattle.laws_tables.specs.{Ends.Ends, Both.Seat}
use Rattle.vs_driver_parts.specs.State.{DriverState}
use Rattle.laws_driver.specs.Honest.{ends_of_state}

abbrev pub seat : DriverState → Log → Seat
seat s log = record { part = ends_of_state s; log = log }

pub at_log : (log : Log) (old new : Ends) → old ≡ new → (let w : Seat = record { part = old; log = log } in w) ≡ record { part = new; log = log }
at_log log old new = ap (λ (part : Ends). let w : Seat = record { part = part; log = log } in w)
