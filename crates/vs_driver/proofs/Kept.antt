-- Calls that put and get nothing leave the driver as the log does.
use Rattle.std.proofs.Common.{◌≡◌, ℕ, Bool, sym, subst}
use Rattle.vs_ring_port.specs.Contents.{RingContents}
use Rattle.vs_driver_parts.specs.State.{DriverState}
use Rattle.laws_driver.{specs.Honest.IsFitState, specs.Honest.IsHonestWith, proofs.Calls.still_honest, proofs.Changing.Changes}

pub kept : (hosts : Bool) (first : ℕ) (s t u : DriverState) (c : RingContents) → (IsFitState hosts s → Changes hosts s u) → t ≡ u → IsHonestWith hosts first s c
    → IsHonestWith hosts first t c
kept hosts first s t u c changes is honest =
    subst (λ (x : DriverState). IsHonestWith hosts first x c) (sym is) (still_honest hosts first s u c changes honest)
