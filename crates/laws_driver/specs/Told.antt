-- The driver and its log over any ring that tells it, honest or not: as far as packets come in order.
use Rattle.std.specs.{Prelude.{◌≡◌, ℕ, false, []}, Option.ForSome}
use Rattle.vs_page.specs.Log.{Driver}
use Rattle.vs_ring_port.specs.{Contents.RingContents, EndLog.{EndLog, all_put}, declared.queue.Queue.{Queue, TheVariants.Tx}}
use Rattle.laws_tables.specs.{Heard.IsOrderedLog, Matches.Matches}
use Rattle.vs_driver_parts.specs.State.{DriverState}
use Rattle.laws_driver.specs.Honest.{IsFitState, ends_of_state}

-- Where this was the guest's CID at first: the driver's numbers fit their widths, no page is left unpublished, and where packets come in order,
-- each connection is the one that the log left.
pub record IsTold (first : ℕ) (s : DriverState) (l : EndLog) : Type 0 where
  pub fits : IsFitState false s
  pub published : l.staged.tx ≡ []
  pub matches : IsOrderedLog Driver l.entries → Matches Driver first (ends_of_state s) l.entries

abbrev pub IsToldWith : ℕ → DriverState → RingContents → Type 0
IsToldWith first s c = ForSome c.log (IsTold first s)

-- While the driver works on tx packets may be staged: each connection is the one that the log leaves with them.
pub record IsToldStaged (first : ℕ) (s : DriverState) (l : EndLog) : Type 0 where
  pub fits : IsFitState false s
  pub matches : let log = all_put l.staged.tx l.entries in IsOrderedLog Driver log → Matches Driver first (ends_of_state s) log

abbrev pub IsStagedWith : ℕ → DriverState → RingContents → Type 0
IsStagedWith first s c = ForSome c.log (IsToldStaged first s)

abbrev pub IsToldAtWork : Queue → ℕ → DriverState → RingContents → Type 0
IsToldAtWork Tx first s c = IsStagedWith first s c
IsToldAtWork _ first s c = IsToldWith first s c

-- Before the first call: nothing was put or got, and nothing is staged.
abbrev pub IsNew : RingContents → Type 0
IsNew c = ForSome c.log (λ l. (l.entries ≡ []) × (l.staged.tx ≡ []))
