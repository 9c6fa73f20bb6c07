-- The answer of a play: the lines that a script prints, and the status that it ends with, as a function of its bytes.
use Rattle.std.specs.Prelude.{ℕ, List, [], ◌∷◌, ◌++◌, length, map, codes, Result, Ok, Err}
use Rattle.vs_device_parts.specs.State.{counters_of}
use Rattle.vs_script.specs.{Play.Event, Script.Saying, Script.Plays, Script.parse_of, declared.fault.Refused.Refused}
use Rattle.vs_script.specs.declared.script.Command.TheVariants as command
use Rattle.laws_world.specs.World.{World, opened, opened_host}
use Rattle.vs_report.specs.{Answers.Answer, Answers.refusal, Report.report, declared.giving.Totals.Totals}
use Rattle.vs_play.specs.Lines.{PlayWorld, event_played}

-- A play begins at the moment 0, over queues of n pages, with the guest's first port and a host at which nobody listens.
abbrev pub base_path : List ℕ
base_path = codes "v.sock"

abbrev pub opened_play : ℕ → ℕ → PlayWorld
opened_play n first = record { world = opened n first (opened_host base_path); moment = 0 }

-- What event lines lead to, and what they print.
abbrev pub world_after : List Event → PlayWorld → PlayWorld
world_after [] p = p
world_after (e ∷ es) p = world_after es (event_played e p).0

abbrev pub texts_of : List Event → PlayWorld → List (List ℕ)
texts_of [] p = []
texts_of (e ∷ es) p = let r = event_played e p in r.1 ∷ texts_of es r.0

-- The report of the world that they lead to.
abbrev pub totals_of : World → Totals
totals_of w = record {
  guest_open = length w.driver.table.entries;
  device_open = length w.proxy.device.table.entries;
  counters = counters_of w.proxy.device;
  broken = w.driver.broken;
}

abbrev pub report_of : World → List (List ℕ)
report_of w = report (totals_of w) w.host.streams

-- What a play of these lines prints.
abbrev pub printed : ℕ → ℕ → List Event → List (List ℕ)
printed n first es = texts_of es (opened_play n first) ++ report_of (world_after es (opened_play n first)).world

-- The event lines of a script, without their numbers.
abbrev pub events_in : List (ℕ × Event) → List Event
events_in lines = map (λ l. l.1) lines

abbrev pub answer_to : ℕ → ℕ → Result Saying Refused → Answer
answer_to n first (Ok (Plays lines)) = record { lines = printed n first (events_in lines); status = 0 }
answer_to n first (Ok _) = record { lines = []; status = 0 }
answer_to n first (Err r) = refusal r

-- The answer of the play that a script spells, over queues of n pages, where this is the guest's first port.
abbrev pub play_of : ℕ → ℕ → List ℕ → Answer
play_of n first script = answer_to n first (parse_of command.Play script)
