-- From what a command did to the cause of its status.
use Rattle.std.proofs.Common.{◌≡◌, ◌⊎◌, [], inl, inr, ◌∙◌, ℕ, zero, suc, true, nat_le, List, Option, Some, None, Result, Ok, Err, refl, sym, subst}
use Rattle.vs_hostile.specs.Answer.{answer_to as hostile_answer, status_of}
use Rattle.vs_outside.specs.Faults.{CountsFault}
use Rattle.vs_peer.specs.{Ends.{EndsAs, Lent}, Statuses.Says, Text.{host_fault_text, no_memory_text, read_fault_text}}
use Rattle.vs_play.specs.Answer.{answer_to as play_answer}
use Rattle.vs_ring_port.specs.declared.failure.Failure.{Failure}
use Rattle.vs_script.specs.{Script.{Attacks, Plays, Runs, Saying}, declared.{fault.Refused.Refused, script.Command.Command}}
use Rattle.vs_apps_parts.specs.Scripts.{RunScript}
use Rattle.vs_report.specs.Gives.{joined}
use Rattle.vs_run_report.specs.Report.{run_status}
use Rattle.vs_run_apps.specs.Printed.{texts_of}
use Rattle.vs_run.specs.{Does.{Does, KeepsHost, is_client, is_status, uses_host}, Runs.{EndsLoad, EndsOver, EndsRun}, Ends.{EndsAnswer, EndsAnswering, EndsParsed, EndsScript}}
use Rattle.vs_run.{specs.Ends.{EndsWith, NoMemory, Read, SourceFails, refusal_text, usage_text}, proofs.Ran.run_zero_or_five}
use Rattle.vs_peer.specs.Statuses as statuses
use Rattle.vs_script.specs.declared.script.Command.TheVariants as script_of
use Rattle.vs_words.specs.Command as words

-- A status with its cause.
data Cause (command : Option words.Command) (old new : Lent) (r : ℕ) : Type 0 where
  Done : r ≡ 0 → Cause command old new r
  Usage : r ≡ 1 → command ≡ None → Cause command old new r
  BadScript : r ≡ 2 → Cause command old new r
  SourceFault : r ≡ 3 → CountsFault true old.source_faults new.source_faults → Cause command old new r
  SinkFault : r ≡ 4 → CountsFault true old.sink_faults new.sink_faults → Cause command old new r
  Waited : r ≡ 5 → uses_host command ≡ true → Cause command old new r
  HostFault : r ≡ 6 → CountsFault true old.host_faults new.host_faults → Cause command old new r
  DeviceFailed : r ≡ 7 → command ≡ Some words.Hostile → Cause command old new r
  NotAnswered : r ≡ 8 → is_client command ≡ true → Cause command old new r
  OutOfMemory : r ≡ 9 → Cause command old new r

-- What each status says.
abbrev pub At : ℕ → Option words.Command → Lent → Lent → Type 0
At zero command old new = Unit {0}
At (suc zero) command old new = command ≡ None
At (suc (suc zero)) command old new = Unit {0}
At (suc (suc (suc zero))) command old new = CountsFault true old.source_faults new.source_faults
At (suc (suc (suc (suc zero)))) command old new = CountsFault true old.sink_faults new.sink_faults
At (suc (suc (suc (suc (suc zero))))) command old new = uses_host command ≡ true
At (suc (suc (suc (suc (suc (suc zero)))))) command old new = CountsFault true old.host_faults new.host_faults
At (suc (suc (suc (suc (suc (suc (suc zero))))))) command old new = command ≡ Some words.Hostile
At (suc (suc (suc (suc (suc (suc (suc (suc zero)))))))) command old new = is_client command ≡ true
At (suc (suc (suc (suc (suc (suc (suc (suc (suc n))))))))) command old new = Unit {0}

module _ (command : Option words.Command) (old new : Lent) (r : ℕ) where
  abbrev Is : ℕ → Type 0
  Is n = At n command old new

  at : Cause command old new r → At r command old new
  at (Done e) = subst Is (sym e) tt
  at (Usage e h) = subst Is (sym e) h
  at (BadScript e) = subst Is (sym e) tt
  at (SourceFault e h) = subst Is (sym e) h
  at (SinkFault e h) = subst Is (sym e) h
  at (Waited e h) = subst Is (sym e) h
  at (HostFault e h) = subst Is (sym e) h
  at (DeviceFailed e h) = subst Is (sym e) h
  at (NotAnswered e h) = subst Is (sym e) h
  at (OutOfMemory e) = subst Is (sym e) tt

  abbrev Small : ℕ → Type 0
  Small n = nat_le n 9 ≡ true

  small : Cause command old new r → nat_le r 9 ≡ true
  small (Done e) = subst Small (sym e) refl
  small (Usage e h) = subst Small (sym e) refl
  small (BadScript e) = subst Small (sym e) refl
  small (SourceFault e h) = subst Small (sym e) refl
  small (SinkFault e h) = subst Small (sym e) refl
  small (Waited e h) = subst Small (sym e) refl
  small (HostFault e h) = subst Small (sym e) refl
  small (DeviceFailed e h) = subst Small (sym e) refl
  small (NotAnswered e h) = subst Small (sym e) refl
  small (OutOfMemory e) = subst Small (sym e) refl

  -- a line's own status, which has its cause, or that of a sink that failed
  as_cause : (line : List ℕ) (status : ℕ) → (r ≡ status → Cause command old new r)
      → EndsAs old.out new.out old.sink_faults new.sink_faults line status r → Cause command old new r
  as_cause line status own (inl h) = own h.0
  as_cause line status own (inr h) = SinkFault h.0 h.2

  with_cause : (line : List ℕ) (status : ℕ) → (r ≡ status → Cause command old new r)
      → EndsWith old.out new.out old.sink_faults new.sink_faults line status r → Cause command old new r
  with_cause line status own (inl h) = as_cause line status own h
  with_cause line status own (inr h) = as_cause no_memory_text 9 (λ e. OutOfMemory e) h

  answer_cause : (lines : List (List ℕ)) (own : ℕ) → (r ≡ own → Cause command old new r)
      → EndsAnswer old.out new.out old.sink_faults new.sink_faults lines own r → Cause command old new r
  answer_cause lines own cause (text, status, inl w, h) = as_cause text status (λ e. cause (e ∙ w.1)) h
  answer_cause lines own cause (text, status, inr w, h) = as_cause text status (λ e. OutOfMemory (e ∙ w.5)) h

  script_cause : (c : Command) (Unread : Type 0) (Parsed : Result Saying Refused → Type 0)
      → ((p : Result Saying Refused) → Parsed p → Cause command old new r)
      → EndsScript c Unread Parsed old.source old.source_faults new.source_faults old.out new.out old.sink_faults new.sink_faults r
      → Cause command old new r
  script_cause c Unread Parsed parsed (Read bytes reads kept h) = parsed _ h
  script_cause c Unread Parsed parsed (SourceFails unread counts h) = as_cause read_fault_text 3 (λ e. SourceFault e counts) h
  script_cause c Unread Parsed parsed (NoMemory unread kept h) = as_cause no_memory_text 9 (λ e. OutOfMemory e) h

  module _ (lines : Result Saying Refused → List (List ℕ)) (own : Result Saying Refused → ℕ)
      (causes : (s : Saying) → r ≡ own (Ok s) → Cause command old new r) where
    parsed_cause : (p : Result Saying Refused) → EndsParsed lines own old.out new.out old.sink_faults new.sink_faults r p → Cause command old new r
    parsed_cause (Ok s) h = answer_cause (lines (Ok s)) (own (Ok s)) (causes s) h
    parsed_cause (Err e) h = with_cause (refusal_text e) 2 (λ same. BadScript same) h

    answering_cause : (c : Command)
        → EndsAnswering c lines own old.source old.source_faults new.source_faults old.out new.out old.sink_faults new.sink_faults r
        → Cause command old new r
    answering_cause c h = script_cause c (Unit {0}) (EndsParsed lines own old.out new.out old.sink_faults new.sink_faults r) parsed_cause h

  play_status : (queue first : ℕ) (s : Saying) → r ≡ (play_answer queue first (Ok s)).status → Cause command old new r
  play_status queue first (Plays lines) e = Done e
  play_status queue first (Runs apps) e = Done e
  play_status queue first (Attacks lines) e = Done e

  failed_status : command ≡ Some words.Hostile → (f : Option Failure) → r ≡ status_of f → Cause command old new r
  failed_status is None e = Done e
  failed_status is (Some f) e = DeviceFailed e is

  hostile_status : command ≡ Some words.Hostile → (s : Saying) → r ≡ (hostile_answer (Ok s)).status → Cause command old new r
  hostile_status is (Plays lines) e = Done e
  hostile_status is (Runs apps) e = Done e
  hostile_status is (Attacks lines) e = failed_status is _ e

  over_cause : uses_host command ≡ true → (base : List ℕ) (idle first : ℕ) (apps : RunScript)
      → EndsOver base idle first apps old.host new.host old.host_faults new.host_faults old.out new.out old.sink_faults new.sink_faults r → Cause command old new r
  over_cause host base idle first apps (inl (guests, side, met, told, faults, ran, h)) =
      as_cause (joined (texts_of idle apps guests side.proxy)) (run_status apps guests.apps guests.entries)
      (λ e. own (run_status apps guests.apps guests.entries) e (run_zero_or_five apps guests.apps guests.entries)) h
    where
      own : (n : ℕ) → r ≡ n → (n ≡ 0) ⊎ (n ≡ 5) → Cause command old new r
      own n e (inl done) = Done (e ∙ done)
      own n e (inr five) = Waited (e ∙ five) host
  over_cause host base idle first apps (inr (inl h)) = as_cause no_memory_text 9 (λ e. OutOfMemory e) h
  over_cause host base idle first apps (inr (inr h)) = as_cause host_fault_text 6 (λ e. HostFault e h.0) h.1

  run_cause : uses_host command ≡ true → (base : List ℕ) (idle first : ℕ) (p : Result Saying Refused)
      → EndsRun base idle first old.host new.host old.host_faults new.host_faults old.out new.out old.sink_faults new.sink_faults r p
      → Cause command old new r
  run_cause host base idle first (Ok (Runs apps)) h = over_cause host base idle first apps h
  run_cause host base idle first (Ok (Plays lines)) h = with_cause [] 0 (λ e. Done e) h.0
  run_cause host base idle first (Ok (Attacks lines)) h = with_cause [] 0 (λ e. Done e) h.0
  run_cause host base idle first (Err e) h = with_cause (refusal_text e) 2 (λ same. BadScript same) h.0

  load_cause : (number conns bytes : ℕ) → EndsLoad number conns bytes old.out new.out old.sink_faults new.sink_faults r
      → Cause command old new r
  load_cause number conns bytes (inl (line, loaded, h)) = as_cause line 0 (λ e. Done e) h
  load_cause number conns bytes (inr h) = as_cause no_memory_text 9 (λ e. OutOfMemory e) h

  says_cause : is_client command ≡ true → uses_host command ≡ true → (base : List ℕ) (port idle : ℕ) → Says base port idle old new r → Cause command old new r
  says_cause client host base port idle (statuses.Done e h) = Done e
  says_cause client host base port idle (statuses.TooLong e h) = BadScript e
  says_cause client host base port idle (statuses.SourceFault e h) = SourceFault e h.counts
  says_cause client host base port idle (statuses.SinkFault e h) = SinkFault e h.counts
  says_cause client host base port idle (statuses.Waited e h) = Waited e host
  says_cause client host base port idle (statuses.HostFault e h) = HostFault e h.counts
  says_cause client host base port idle (statuses.Refused e h) = NotAnswered e client
  says_cause client host base port idle (statuses.NoMemory e h) = OutOfMemory e

cause : (command : Option words.Command) (old new : Lent) (r : ℕ) → Does command old new r → Cause command old new r
cause None old new r h = with_cause None old new r usage_text 1 (λ e. Usage e refl) h.0
cause (Some (words.Play kind queue first)) old new r h =
    answering_cause (Some (words.Play kind queue first)) old new r (λ said. (play_answer queue first said).lines) (λ said. (play_answer queue first said).status)
    (play_status (Some (words.Play kind queue first)) old new r queue first) script_of.Play h.0
cause (Some (words.Run base queue idle first)) old new r h =
    script_cause (Some (words.Run base queue idle first)) old new r script_of.Run (KeepsHost old new)
    (EndsRun base idle first old.host new.host old.host_faults new.host_faults old.out new.out old.sink_faults new.sink_faults r)
    (run_cause (Some (words.Run base queue idle first)) old new r refl base idle first) h
cause (Some words.Hostile) old new r h =
    answering_cause (Some words.Hostile) old new r (λ said. (hostile_answer said).lines) (λ said. (hostile_answer said).status)
    (hostile_status (Some words.Hostile) old new r refl) script_of.Hostile h.0
cause (Some (words.Load number conns bytes queue)) old new r h =
    load_cause (Some (words.Load number conns bytes queue)) old new r number conns bytes h.0
cause (Some (words.Peer base port idle)) old new r h = says_cause (Some (words.Peer base port idle)) old new r refl refl base port idle h.0

-- What the status says, and that there is no other.
pub cause_at : (command : Option words.Command) (old new : Lent) (r n : ℕ) → Does command old new r → r ≡ n → At n command old new
cause_at command old new r n h e = subst (λ k. At k command old new) e (at command old new r (cause command old new r h))

pub is_known : (command : Option words.Command) (old new : Lent) (r : ℕ) → Does command old new r → is_status r ≡ true
is_known command old new r h = small command old new r (cause command old new r h)
