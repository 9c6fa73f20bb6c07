-- What a hostile guest's script prints, and the status that it ends with, as a function of its bytes.
use Rattle.std.specs.Prelude.{ℕ, List, [], ◌∷◌, ◌++◌, length, map, codes, Option, Some, None, Result, Ok, Err}
use Rattle.vs_device_parts.specs.State.{counters_of}
use Rattle.vs_report.specs.{Answers.{Answer, refusal}, Bytes.data_text, DeviceLines.{turn_text, reset_text}, HostLines.{ok_text, client_text}, Report.counts_text}
use Rattle.vs_report.specs.{Report.{device_open_text, stream_texts}, declared.giving.GiveError.GiveError}
use Rattle.vs_ring_port.specs.declared.failure.Failure.{Failure}
use Rattle.vs_script.specs.{Hostile.Hostile, Script.{Saying, Attacks, parse_of}, declared.fault.Refused.Refused}
use Rattle.vs_hostile.specs.Run.{HostileState, Said, Done, Bytes, HasTurned, WasReset, StreamIs, HostPrints, beginning, hostile_does}
use Rattle.vs_script.specs.declared.script.Command.TheVariants as command

-- What a line prints.
abbrev pub looked_text : List ℕ → List ℕ
looked_text bytes = codes "bytes " ++ data_text bytes ++ codes "\n"

abbrev pub said_text : Said → List ℕ
said_text Done = ok_text
said_text (Bytes bytes) = looked_text bytes
said_text (HasTurned t) = turn_text t
said_text (WasReset r) = reset_text r
said_text (StreamIs n) = client_text n
said_text (HostPrints text) = text

-- What lines lead to, and what they print.
abbrev pub state_after : List Hostile → HostileState → HostileState
state_after [] s = s
state_after (line ∷ lines) s = state_after lines (hostile_does line s).0

abbrev pub texts_of : List Hostile → HostileState → List (List ℕ)
texts_of [] s = []
texts_of (line ∷ lines) s = let r = hostile_does line s in said_text r.1 ∷ texts_of lines r.0

-- The report: how many entries the device's table has, what each stream's program wrote and read, and what was counted.
abbrev pub report_texts : HostileState → List (List ℕ)
report_texts s =
    device_open_text (length s.proxy.device.table.entries)
    ∷ (stream_texts 1 s.host.streams ++ counts_text (counters_of s.proxy.device) None ∷ [])

-- The status is 7 where the device failed.
abbrev pub status_of : Option Failure → ℕ
status_of None = 0
status_of (Some f) = 7

-- What lines print from there on.
abbrev pub printed : List Hostile → HostileState → Answer
printed lines s =
    let last = state_after lines s in
    record { lines = texts_of lines s ++ report_texts last; status = status_of last.proxy.device.failed }

-- The lines of a script, without their numbers. Scripts of other commands have none.
abbrev pub lines_of : List (ℕ × Hostile) → List Hostile
lines_of lines = map (λ l. l.1) lines

abbrev pub lines_in : Saying → List Hostile
lines_in (Attacks lines) = lines_of lines
lines_in _ = []

-- The answer of a hostile guest's lines.
abbrev pub attack_of : List (ℕ × Hostile) → Answer
attack_of lines = printed (lines_of lines) beginning

abbrev pub answer_to : Result Saying Refused → Answer
answer_to (Ok (Attacks lines)) = attack_of lines
answer_to (Ok _) = record { lines = []; status = 0 }
answer_to (Err r) = refusal r

-- The answer of the script that a text spells.
abbrev pub hostile_of : List ℕ → Answer
hostile_of script = answer_to (parse_of command.Hostile script)

-- What is known of the lines where the status is known too.
abbrev pub given : Result ℕ GiveError → Result (Unit {0}) GiveError
given (Ok status) = Ok tt
given (Err e) = Err e
