-- How the command ends: the line that it writes last, and its status.
use Rattle.std.specs.Prelude.{◌≡◌, ◌⊎◌, ℕ, true, List, ◌∷◌, ◌++◌, codes, Option, Result, Ok, Err}
use Rattle.vs_outside.specs.Faults.{CountsFault}
use Rattle.vs_peer.specs.{Ends.EndsAs, Pieces.ReadsAll, Text.{no_memory_text, read_fault_text}}
use Rattle.vs_report.specs.Gives.{joined}
use Rattle.vs_script.specs.{Fault.refused_text, declared.{fault.{ParseFault.ParseFault, Refused.Refused}, script.Command.Command}, Script.{Saying, parse_of}}
use Rattle.vs_script.specs.declared.fault.ParseFault.TheVariants as fault

abbrev pub usage_text : List ℕ
usage_text = codes "usage\n"

abbrev pub refusal_text : Refused → List ℕ
refusal_text r = refused_text r ++ codes "\n"

-- This line was written last, and the status is its own; or, where memory ran out, `no memory`; or a call of the sink failed.
abbrev pub EndsWith : Option (List ℕ) → Option (List ℕ) → ℕ → ℕ → List ℕ → ℕ → ℕ → Type 0
EndsWith out out' faults faults' line status result =
    EndsAs out out' faults faults' line status result ⊎ EndsAs out out' faults faults' no_memory_text 9 result

-- The end of a script that is refused.
abbrev pub EndsRefused : Option (List ℕ) → Option (List ℕ) → ℕ → ℕ → ParseFault → ℕ → Type 0
EndsRefused out out' faults faults' (fault.Refused r) result = EndsWith out out' faults faults' (refusal_text r) 2 result
EndsRefused out out' faults faults' fault.OutOfMemory result = EndsAs out out' faults faults' no_memory_text 9 result

-- What is to be written of an answer's lines, and the status: all of them, and the answer's status; or, where memory ran out, some of
-- them whole, less than all, and then `no memory`, and 9.
abbrev pub IsWritten : List (List ℕ) → ℕ → List ℕ → ℕ → Type 0
IsWritten lines own text status =
    ((text ≡ joined lines) × (status ≡ own))
    ⊎ ((first : List (List ℕ)) × (line : List ℕ) × (rest : List (List ℕ)) × (first ++ line ∷ rest ≡ lines)
    × (text ≡ joined first ++ no_memory_text) × (status ≡ 9))

-- How a command ends that has this answer.
abbrev pub EndsAnswer : Option (List ℕ) → Option (List ℕ) → ℕ → ℕ → List (List ℕ) → ℕ → ℕ → Type 0
EndsAnswer out out' faults faults' lines own result =
    (text : List ℕ) × (status : ℕ) × IsWritten lines own text status × EndsAs out out' faults faults' text status result

-- How a command ends that has read its script, whose answer's lines and status are functions of what the script says, or of what it is
-- refused for.
abbrev pub EndsParsed : (Result Saying Refused → List (List ℕ)) → (Result Saying Refused → ℕ) → Option (List ℕ) → Option (List ℕ) → ℕ → ℕ →
    ℕ → Result Saying Refused → Type 0
EndsParsed lines own out out' faults faults' result (Ok saying) =
    EndsAnswer out out' faults faults' (lines (Ok saying)) (own (Ok saying)) result
EndsParsed lines own out out' faults faults' result (Err r) = EndsWith out out' faults faults' (refusal_text r) 2 result

-- How a command ends that reads a script: it has read the source, and `Parsed` holds of what the script says, or of what it is refused for; or
-- a call of the source failed, or memory ran out, and `Unread` holds.
pub data EndsScript (command : Command) (Unread : Type 0) (Parsed : Result Saying Refused → Type 0) (source : Option (List ℕ))
    (read_faults read_faults' : ℕ) (out out' : Option (List ℕ)) (faults faults' : ℕ) (result : ℕ) : Type 0 where
  Read : (bytes : List ℕ) → ReadsAll source bytes → read_faults' ≡ read_faults → Parsed (parse_of command bytes) →
      EndsScript command Unread Parsed source read_faults read_faults' out out' faults faults' result
  SourceFails : Unread → CountsFault true read_faults read_faults' → EndsAs out out' faults faults' read_fault_text 3 result →
      EndsScript command Unread Parsed source read_faults read_faults' out out' faults faults' result
  NoMemory : Unread → read_faults' ≡ read_faults → EndsAs out out' faults faults' no_memory_text 9 result →
      EndsScript command Unread Parsed source read_faults read_faults' out out' faults faults' result

-- The same of a command that gives an answer.
abbrev pub EndsAnswering : Command → (Result Saying Refused → List (List ℕ)) → (Result Saying Refused → ℕ) → Option (List ℕ) → ℕ → ℕ →
    Option (List ℕ) → Option (List ℕ) → ℕ → ℕ → ℕ → Type 0
EndsAnswering command lines own source read_faults read_faults' out out' faults faults' result =
    EndsScript command (Unit {0}) (EndsParsed lines own out out' faults faults' result) source read_faults read_faults' out out' faults faults'
    result
