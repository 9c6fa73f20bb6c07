-- Lines that are read byte by byte: when a line is decided, and what its reader answers.
use Rattle.std.specs.{Prelude.{ℕ, ◌==◌, ◌||◌, ◌-◌, Bool, nat_le, if◌then◌else◌, List, [], ◌∷◌, ◌++◌, length, replicate, Option, Some, None}, List.list_any}
use Rattle.vs_uds.specs.declared.scan.{TheConstants.LF, Step.{Step, TheVariants.{More, Port, Bad}}}

-- Whether a line is decided: an LF has come, or the most bytes that it may have.
abbrev pub is_decided : ℕ → List ℕ → Bool
is_decided most line = list_any (λ byte. byte == LF) line || nat_le most (length line)

-- The bytes that a reader holds after one more: none is added to a line that is decided.
abbrev pub fed : ℕ → List ℕ → ℕ → List ℕ
fed most line byte = if is_decided most line then line else line ++ byte ∷ []

-- The answer to a line that is decided: its port, where it has one.
abbrev pub port_or_bad : Option ℕ → Step
port_or_bad None = Bad
port_or_bad (Some port) = Port port

-- The answer to a line, whose port a function gives.
abbrev pub step_of : ℕ → (List ℕ → Option ℕ) → List ℕ → Step
step_of most port_of line = if is_decided most line then port_or_bad (port_of line) else More

-- The answers to bytes that are fed in turn to a reader that holds a line.
abbrev pub answers_to : ℕ → (List ℕ → Option ℕ) → List ℕ → List ℕ → List Step
answers_to most port_of line [] = []
answers_to most port_of line (byte ∷ bytes) =
    step_of most port_of (fed most line byte) ∷ answers_to most port_of (fed most line byte) bytes

-- The port at the last byte of a line, and More before.
abbrev pub port_at_end : List ℕ → ℕ → List Step
port_at_end line port = replicate (length line - 1) More ++ Port port ∷ []
