-- Scripts: what a text says, or the line that it is refused for.
use Rattle.std.specs.{Prelude.{◌≡◌, ℕ, nat_le, nat_lt, if◌then◌else◌, not, List, [], ◌∷◌, ◌++◌, map, filter, length, Result, Ok, Err}, List.enumerate_from}
use Rattle.vs_layout.specs.declared.span.Span.{Span}
use Rattle.vs_script.specs.{Text.{lines_of, words_of, is_empty, is_skipped}, Field.named, Play.{Event, play_view, play_line}, App.{Act, RunStep, Begin, Do, app_view, run_line}}
use Rattle.vs_script.specs.{Hostile.{Hostile, Memory, Rings, hostile_view, hostile_line}, declared.fault.{Why.{Why, TheVariants.{TooLong, BadWord, TooMany}}, Refused.Refused}}
use Rattle.vs_script.specs.declared.{fault.ParseFault.ParseFault, hostile.{HostileLine.HostileLine, Stage.{Stage, TheVariants.{NoMemory, NoRings, Ready}}}, play.PlayLine.PlayLine}
use Rattle.vs_script.specs.declared.script.{Command.Command, Numbered.Numbered, Script.Script, TheConstants.{MAX_SCRIPT, MAX_LINE, MAX_EVENTS, MAX_APPS, MAX_INSTRUCTIONS}}
use Rattle.vs_script.specs.declared.fault.ParseFault.TheVariants as fault
use Rattle.vs_script.specs.declared.script.Command.TheVariants as command
use Rattle.vs_script.specs.declared.script.Script.TheVariants as script

-- What a script says, by its command: numbered lines, or apps of instructions.
pub data Saying : Type 0 where
  Plays : List (ℕ × Event) → Saying
  Runs : List (List Act) → Saying
  Attacks : List (ℕ × Hostile) → Saying

-- The same, as the program holds it.
abbrev pub numbered_event : Numbered PlayLine → ℕ × Event
numbered_event line = (line.number, play_view line.line)

abbrev pub numbered_hostile : Numbered HostileLine → ℕ × Hostile
numbered_hostile line = (line.number, hostile_view line.line)

abbrev pub script_view : Script → Saying
script_view (script.Play lines) = Plays (map numbered_event lines.items)
script_view (script.Run apps) = Runs (map app_view apps.items)
script_view (script.Hostile lines) = Attacks (map numbered_hostile lines.items)

-- The script of no line.
abbrev pub empty : Command → Saying
empty command.Play = Plays []
empty command.Run = Runs []
empty command.Hostile = Attacks []

-- What follows on what has no fault.
abbrev pub chained : {X Y : Type 0} → Result X Why → (X → Result Y Why) → Result Y Why
chained (Ok x) f = f x
chained (Err why) f = Err why

-- One more behind others, of which there are fewer than the most.
abbrev pub pushed : {X : Type 0} → ℕ → List X → X → Result (List X) Why
pushed most xs x = if nat_lt (length xs) most then Ok (xs ++ x ∷ []) else Err TooMany

-- A line of a play behind others.
abbrev pub add_event : List (ℕ × Event) → ℕ → List (List ℕ) → Result (List (ℕ × Event)) Why
add_event lines number words = chained (play_line words) (λ event. pushed MAX_EVENTS lines (number, event))

-- An instruction of the last app.
abbrev pub add_act : List (List Act) → Act → Result (List (List Act)) Why
add_act [] act = Err BadWord
add_act (app ∷ []) act = named (λ more. more ∷ []) (pushed MAX_INSTRUCTIONS app act)
add_act (app ∷ next ∷ apps) act = named (λ more. app ∷ more) (add_act (next ∷ apps) act)

-- A line of a run behind others: a new app, or an instruction of the last one.
abbrev pub add_step : List (List Act) → RunStep → Result (List (List Act)) Why
add_step apps Begin = pushed MAX_APPS apps []
add_step apps (Do act) = add_act apps act

abbrev pub add_run : List (List Act) → List (List ℕ) → Result (List (List Act)) Why
add_run apps words = chained (run_line (not (is_empty apps)) words) (add_step apps)

-- What the lines of a hostile guest have set up: the first is its memory, the second its rings.
abbrev pub with_rings : Span → Hostile → Stage
with_rings memory (Rings n) = Ready memory n
with_rings memory _ = NoRings memory

abbrev pub with_memory : Hostile → List (ℕ × Hostile) → Stage
with_memory (Memory memory) [] = NoRings memory
with_memory (Memory memory) (second ∷ lines) = with_rings memory second.1
with_memory _ lines = NoMemory

abbrev pub stage_of : List (ℕ × Hostile) → Stage
stage_of [] = NoMemory
stage_of (first ∷ lines) = with_memory first.1 lines

-- A line of a hostile guest behind others.
abbrev pub add_hostile : List (ℕ × Hostile) → ℕ → List (List ℕ) → Result (List (ℕ × Hostile)) Why
add_hostile lines number words = chained (hostile_line (stage_of lines) words) (λ line. pushed MAX_EVENTS lines (number, line))

-- A line behind others, by its words.
abbrev pub add_words : Saying → ℕ → List (List ℕ) → Result Saying Why
add_words (Plays lines) number words = named Plays (add_event lines number words)
add_words (Runs apps) number words = named Runs (add_run apps words)
add_words (Attacks lines) number words = named Attacks (add_hostile lines number words)

-- A line behind others, which has 4,200 bytes at most.
abbrev pub add_line : Saying → ℕ → List ℕ → Result Saying Why
add_line saying number line = if nat_le (length line) MAX_LINE then add_words saying number (words_of line) else Err TooLong

-- The lines of a text that aren't skipped, each with its number, where the first line has this number.
abbrev pub lines_from : ℕ → List ℕ → List (ℕ × List ℕ)
lines_from first text = filter (λ line. not (is_skipped line.1)) (enumerate_from first (lines_of text))

-- What follows on a line, where that has no fault.
abbrev pub unless_refused : ℕ → Result Saying Why → (Saying → Result Saying Refused) → Result Saying Refused
unless_refused number (Ok saying) f = f saying
unless_refused number (Err why) f = Err (record { line = number; why = why })

-- Lines behind others: the first that has a fault is the one that the script is refused for.
abbrev pub add_lines : Saying → List (ℕ × List ℕ) → Result Saying Refused
add_lines saying [] = Ok saying
add_lines saying (line ∷ lines) = unless_refused line.0 (add_line saying line.0 line.1) (λ more. add_lines more lines)

-- What a text says as a script of a command, or what it is refused for. A text of more than 1,048,576 bytes is refused as a
-- whole, as line 0.
abbrev pub parse_of : Command → List ℕ → Result Saying Refused
parse_of c text =
    if nat_le (length text) MAX_SCRIPT then add_lines (empty c) (lines_from 1 text)
    else Err (record { line = 0; why = TooLong })

-- A text is refused for this fault. Want of memory says nothing of the text.
abbrev pub IsRefused : Command → List ℕ → ParseFault → Type 0
IsRefused c text (fault.Refused refused) = parse_of c text ≡ Err refused
IsRefused c text fault.OutOfMemory = Unit {0}
