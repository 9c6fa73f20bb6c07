-- How giving lines to a sink ends.
use Rattle.std.specs.Prelude.{◌≡◌, ℕ, true, List, [], ◌∷◌, ◌++◌, Option, Some, None, Result, Ok, Err}
use Rattle.vs_outside.specs.Faults.{CountsFault}
use Rattle.vs_peer.specs.Pieces.{Emits, EmitsSome}
use Rattle.vs_report.specs.declared.giving.GiveError.{GiveError}
use Rattle.vs_report.specs.declared.giving.GiveError.TheVariants as fault

-- Lines one after another.
abbrev pub joined : List (List ℕ) → List ℕ
joined [] = []
joined (l ∷ ls) = l ++ joined ls

-- A sink got some of the lines whole, from the first on, and less than all.
abbrev pub EmitsLines : Option (List ℕ) → Option (List ℕ) → List (List ℕ) → Type 0
EmitsLines None new lines = new ≡ None
EmitsLines (Some held) new lines =
    (first : List (List ℕ)) × (line : List ℕ) × (rest : List (List ℕ)) × (first ++ line ∷ rest ≡ lines) × (new ≡ Some (held ++ joined first))

-- All lines were given; or memory ran out, and some were given whole, less than all; or a call of the sink failed, and less than all was given, the last
-- line maybe in part.
abbrev pub GivesLines : Option (List ℕ) → Option (List ℕ) → ℕ → ℕ → List (List ℕ) → Result (Unit {0}) GiveError → Type 0
GivesLines old new faults faults' lines (Ok u) = Emits old new (joined lines) × (faults' ≡ faults)
GivesLines old new faults faults' lines (Err fault.OutOfMemory) = EmitsLines old new lines × (faults' ≡ faults)
GivesLines old new faults faults' lines (Err fault.Sink) = EmitsSome old new (joined lines) × CountsFault true faults faults'
