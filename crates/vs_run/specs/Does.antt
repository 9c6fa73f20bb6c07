-- What the command does, by its words.
use Rattle.std.specs.Prelude.{◌≡◌, ◌<◌, nat_le, ℕ, Bool, true, false, List, length, Option, Some, None, Err}
use Rattle.vs_hostile.specs.Answer.{answer_to as hostile_answer}
use Rattle.vs_outside.specs.Host.{HostContents}
use Rattle.vs_peer.specs.{Ends.Lent, Statuses.NoFault, Statuses.Says, Statuses.is_faultless, declared.source.TheConstants.SOURCE_MAX}
use Rattle.vs_play.specs.Answer.{answer_to as play_answer}
use Rattle.vs_script.specs.{Script.parse_of, declared.fault.Refused.Refused}
use Rattle.vs_script.specs.declared.script.Command.TheVariants as script_of
use Rattle.vs_words.specs.Command.{Command, Play, Run, Hostile, Load, Peer}
use Rattle.vs_run.specs.{Ends.EndsAnswering, Ends.EndsScript, Ends.EndsWith, Ends.usage_text, Runs.EndsLoad, Runs.EndsRun}

-- All that the command is lent, at one moment: what source, host and sink expose, how many of their calls failed, and how many pauses the
-- gate counts.
abbrev pub lent : Option (List ℕ) → Option HostContents → Option (List ℕ) → ℕ → ℕ → ℕ → ℕ → Lent
lent source host out source_faults host_faults sink_faults pauses = record {
  source = source;
  host = host;
  out = out;
  source_faults = source_faults;
  host_faults = host_faults;
  sink_faults = sink_faults;
  pauses = pauses;
}

-- Whether a command is a client.
abbrev pub is_client : Option Command → Bool
is_client (Some (Peer base port idle)) = true
is_client _ = false

-- Whether a command runs apps, and whether it uses the host that it is lent.
abbrev pub runs_apps : Option Command → Bool
runs_apps (Some (Run base queue idle first)) = true
runs_apps (Some (Load number conns bytes queue)) = true
runs_apps _ = false

abbrev pub uses_host : Option Command → Bool
uses_host (Some (Run base queue idle first)) = true
uses_host (Some (Peer base port idle)) = true
uses_host _ = false

-- A text is no script of the command; a load reads none, and a client takes any, of so many bytes.
abbrev pub IsNoScript : Option Command → List ℕ → Type 0
IsNoScript None text = ⊥
IsNoScript (Some (Play kind queue first)) text = (r : Refused) × (parse_of script_of.Play text ≡ Err r)
IsNoScript (Some (Run base queue idle first)) text = (r : Refused) × (parse_of script_of.Run text ≡ Err r)
IsNoScript (Some Hostile) text = (r : Refused) × (parse_of script_of.Hostile text ≡ Err r)
IsNoScript (Some (Load number conns bytes queue)) text = ⊥
IsNoScript (Some (Peer base port idle)) text = SOURCE_MAX < length text

-- The statuses that a command ends with.
abbrev pub is_status : ℕ → Bool
is_status n = nat_le n 9

-- Source or host is as before.
abbrev pub KeepsSource : Lent → Lent → Type 0
KeepsSource old new = (new.source ≡ old.source) × (new.source_faults ≡ old.source_faults)

abbrev pub KeepsHost : Lent → Lent → Type 0
KeepsHost old new = (new.host ≡ old.host) × (new.host_faults ≡ old.host_faults)

-- What a command does between two moments, and its status.
abbrev pub Does : Option Command → Lent → Lent → ℕ → Type 0
Does None old new result =
    EndsWith old.out new.out old.sink_faults new.sink_faults usage_text 1 result × KeepsSource old new × KeepsHost old new
Does (Some (Play kind queue first)) old new result =
    EndsAnswering script_of.Play (λ said. (play_answer queue first said).lines) (λ said. (play_answer queue first said).status) old.source
    old.source_faults new.source_faults old.out new.out old.sink_faults new.sink_faults result × KeepsHost old new
Does (Some (Run base queue idle first)) old new result =
    EndsScript script_of.Run (KeepsHost old new) (EndsRun base idle first old.host new.host old.host_faults new.host_faults old.out new.out old.sink_faults
    new.sink_faults result) old.source old.source_faults new.source_faults old.out new.out old.sink_faults new.sink_faults result
Does (Some Hostile) old new result =
    EndsAnswering script_of.Hostile (λ said. (hostile_answer said).lines) (λ said. (hostile_answer said).status) old.source
    old.source_faults new.source_faults old.out new.out old.sink_faults new.sink_faults result × KeepsHost old new
Does (Some (Load number conns bytes queue)) old new result =
    EndsLoad number conns bytes old.out new.out old.sink_faults new.sink_faults result × KeepsSource old new × KeepsHost old new
Does (Some (Peer base port idle)) old new result =
    Says base port idle old new result × (NoFault old new → is_faultless result ≡ true)
