-- The driver and its log between two steps of a call, where packets may be staged and not published.
use Rattle.std.specs.{Prelude.{◌≡◌, ℕ, Bool, true, List}, Option.ForSome}
use Rattle.vs_page.specs.{Fair.IsFairLog, Log.{Driver, Log}}
use Rattle.vs_ring_port.specs.{Contents.RingContents, EndLog.{EndLog, all_put}, declared.queue.Queue.{Queue, TheVariants.Tx}}
use Rattle.laws_tables.specs.{Ends.Ends, Matches.Matches}
use Rattle.vs_driver_parts.specs.State.{DriverState}
use Rattle.laws_driver.specs.{Honest.{IsFitState, IsHonestWith, ends_of_state}, Resets.MarksResets}

-- The driver's connections are those that the log leaves with the packets that are staged, and it is fair with them.
pub record IsLeft (hosts : Bool) (first broken : ℕ) (part : Ends) (staged : List (List ℕ)) (entries : Log) : Type 0 where
  pub none_refused : hosts ≡ true → broken ≡ 0
  pub matches : Matches Driver first part (all_put staged entries)
  pub fair : IsFairLog Driver (all_put staged entries)
  pub marks : MarksResets (all_put staged entries)

abbrev pub IsTied : Bool → ℕ → DriverState → EndLog → Type 0
IsTied hosts first s l = IsFitState hosts s × IsLeft hosts first s.broken (ends_of_state s) l.staged.tx l.entries

-- The same where the ring is honest and tells the log: while the driver works on tx packets may be staged, else none is.
abbrev pub IsTiedWith : Bool → ℕ → DriverState → RingContents → Type 0
IsTiedWith hosts first s c = c.honest ≡ true → ForSome c.log (IsTied hosts first s)

abbrev pub IsWorkingWith : Queue → Bool → ℕ → DriverState → RingContents → Type 0
IsWorkingWith Tx hosts first s c = IsTiedWith hosts first s c
IsWorkingWith _ hosts first s c = IsHonestWith hosts first s c

-- Where this was the guest's CID at first, whichever it was.
abbrev pub IsAtWorkWith : Queue → DriverState → RingContents → Type 0
IsAtWorkWith queue s c = (hosts : Bool) × (first : ℕ) × IsWorkingWith queue hosts first s c
