-- The answer of a script as a whole.
use Rattle.std.specs.Prelude.{ℕ, List, [], ◌∷◌, ◌++◌, codes}
use Rattle.vs_script.specs.{Fault.refused_text, declared.fault.Refused.Refused}

-- The lines that are printed, each with its LF, and the status.
pub record Answer : Type 0 where
  pub lines : List (List ℕ)
  pub status : ℕ

-- That of a script that is refused.
abbrev pub refusal : Refused → Answer
refusal r = record { lines = (refused_text r ++ codes "\n") ∷ []; status = 2 }
