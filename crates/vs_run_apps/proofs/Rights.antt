-- What a run that is over reports is right.
use Rattle.std.{proofs.{Common.{◌≡◌, ℕ, List, Option, Some, None, Result, Ok, Err, IfOk, refl, sym, ap, subst, ◌∙◌}, lemmas.Option.same_Some}, specs.Option.ForSome}
use Rattle.vs_contents.specs.Contents.{Exposes}
use Rattle.vs_limits.specs.declared.TheConstants.{FIRST_CID}
use Rattle.vs_outside.specs.Host.{HostContents, after_start}
use Rattle.vs_ring_port.specs.Chains.{Held, chains_of}
use Rattle.vs_device_parts.specs.{Calls.Situation, Playing.situation}
use Rattle.vs_ring_shared.specs.{Countings.met_between, Meetings.after_hearing, Sights.{DeviceSight, device_contents, device_log}, declared.counters.Met.Met}
use Rattle.vs_apps_parts.specs.Scripts.{RunScript}
use Rattle.laws_apps.specs.{Ports.ArePortsFrom, Runs.{IsRunOf, Run}}
use Rattle.laws_proxy.specs.Honest.{IsProxyStreamed}
use Rattle.laws_settled.{specs.{Begun.{AreUnaccepted, CountsFailed, IsBegun, IsUnlabelled, Start, start_with}, Settled.{IsSettled, IsSteady}}, proofs.Beginning.{dropped_none, new_begun}}
use Rattle.laws_settled.proofs.Steady.{new_steady}
use Rattle.laws_run.{specs.{Complete.IsCompleteRun, Dry.{AreIdle, AreLinesIdle}}, proofs.{Clients.clients_dry, Holding.complete_report}}
use Rattle.vs_apps.specs.Guests.{GuestsState, run_in}
use Rattle.vs_settle.specs.Rounds.{LastRound}
use Rattle.vs_report.specs.declared.giving.GiveError.{GiveError}
use Rattle.vs_proxy_parts.specs.{State.ProxyState, Turns.new_proxy}
use Rattle.vs_run_apps.specs.{Printed.{IsOver, Reports}, Runs.{HasRightReport, HasRun, totals_of}, Sides.{IsReady, IsSilent, SideState, around}}
use Rattle.vs_report.specs.declared.giving.GiveError.TheVariants as give

module _ (script : RunScript) (start : Start) (g : GuestsState) (s : SideState) where
  -- No step, turn or poll of the last round, and nothing after it, changed an app or an entry.
  module _ (last : LastRound script g s.proxy s.ring s.contents s.faults) where
    abbrev stood : Run
    stood = run_in last.stood

    same_run : run_in last.past ≡ record stood { driver = last.past.driver; ring = (run_in last.past).ring }
    same_run = last.polls.rest

    same_apps : g.apps ≡ stood.apps
    same_apps = ap (λ (x : GuestsState). x.apps) last.ends ∙ ap (λ (r : Run). r.apps) same_run

    same_entries : g.entries ≡ stood.entries
    same_entries = ap (λ (x : GuestsState). x.entries) last.ends ∙ ap (λ (r : Run). r.entries) same_run

  pub right_of : IsRunOf FIRST_CID script (run_in g) → IsSettled g.driver g.end s.proxy s.ring → LastRound script g s.proxy s.ring s.contents s.faults
      → AreIdle s.proxy.device.table s.contents → AreLinesIdle s.proxy s.contents → IsSteady s.proxy (around s) → IsBegun start s.proxy (around s)
      → HasRightReport script start g s
  right_of run rest last idle lines steady begun unlabelled h there =
      let now = subst (λ (o : Option HostContents). IsSteady s.proxy (situation (device_contents s.ring) o s.faults)) there steady in
      let streams : IsProxyStreamed FIRST_CID s.proxy (situation (device_contents s.ring) (Some h) s.faults) =
      λ honest l is plain k shown. begun.streamed unlabelled honest l is plain k (there ∙ shown) in
      let still = subst (λ (o : Option HostContents). AreIdle s.proxy.device.table o) there idle in
      let heard = run_in (record last.stood { end = after_hearing last.heard last.stood.end }) in
      let told = complete_report script g.driver g.end g.apps g.entries g.bytes s.proxy s.ring h s.faults run rest now (run_in last.first) (stood last)
      last.steps last.room (same_apps last) (same_entries last) last.polled heard (run_in last.past) refl last.polls last.still
      (ap (λ (x : GuestsState). x.driver) last.ends) streams still in (
        told.0,
        told.1 (totals_of g s.proxy) start.faults s.faults refl refl (dropped_none g.driver g.end s.proxy s.ring rest begun.drops) begun.failed.more,
        subst (λ (path : List ℕ). IsCompleteRun script g.apps g.entries g.bytes (totals_of g s.proxy) path told.0 h) begun.based
            (told.2 (totals_of g s.proxy) refl refl refl),
        told.3,
        λ unaccepted. clients_dry g.driver g.end s.proxy s.ring h s.faults rest
            (λ honest l is plain k shown. begun.shaken unlabelled unaccepted honest l is plain k (there ∙ shown))
            (subst (λ (o : Option HostContents). AreLinesIdle s.proxy o) there lines),
      )

  pub has_run : (first : ℕ) (met : Met) → IsRunOf FIRST_CID script (run_in g) → ArePortsFrom first g.entries → IsSettled g.driver g.end s.proxy s.ring
      → LastRound script g s.proxy s.ring s.contents s.faults → AreIdle s.proxy.device.table s.contents → AreLinesIdle s.proxy s.contents
      → met ≡ met_between g.end.log s.ring.sight.log
      → IsSteady s.proxy (around s) → IsBegun start s.proxy (around s) → HasRun first script start g s met
  has_run first met run ports rest last idle lines numbers steady begun = record {
    run = run;
    ports = ports;
    rest = rest;
    last = last;
    idle = idle;
    lines = lines;
    numbers = numbers;
    steady = steady;
    begun = begun;
    right = right_of run rest last idle lines steady begun;
  }

-- A new proxy has the base path that it was given.
pub based : {E : Type 0} (base : List ℕ) (r : Result ProxyState E) → IfOk r (λ p. p ≡ new_proxy FIRST_CID base) → IfOk r (λ p. p.device.base ≡ base)
based base (Err e) is = tt
based base (Ok p) is = ap (λ (p : ProxyState). p.device.base) is

-- A new proxy over an end on which nothing passed may be turned.
pub ready : {E : Type 0} (base : List ℕ) (r : Result ProxyState E) → IfOk r (λ p. p ≡ new_proxy FIRST_CID base)
    → IfOk r (λ p. (ring : DeviceSight) (contents : Option HostContents) (faults : ℕ) → IsSilent ring
    → IsReady (start_with base contents faults) (record { proxy = p; ring = ring; contents = contents; faults = faults }))
ready base (Err e) is = tt
ready base (Ok p) is = λ ring contents faults silent.
    let a : Situation = situation (device_contents ring) contents faults in
    let now : IsReady (start_with base contents faults) (record { proxy = new_proxy FIRST_CID base; ring = ring; contents = contents; faults = faults }) =
    record {
      ring = λ still. record { chains = ap (λ (held : List Held). chains_of held) silent.held; rx = tt };
      steady = new_steady base a (device_log ring) refl silent.log silent.held;
      begun = new_begun base a (device_log ring) refl silent.log;
    } in
    subst (λ (q : ProxyState). IsReady (start_with base contents faults) (record { proxy = q; ring = ring; contents = contents; faults = faults })) (sym is) now

-- A host that is started has the streams that it had.
still_so : (Q : HostContents → Type 0) → ((c : HostContents) → Q c → Q (after_start c)) → (o n : Option HostContents) (P : HostContents → Type 0)
    → Exposes o n P after_start → ForSome o Q → ForSome n Q
still_so Q starts None n P exposes so h there = absurd (let no : ◌≡◌ {A = Option HostContents} None (Some h) = sym exposes ∙ there in cc)
still_so Q starts (Some c) n P exposes so h there = subst Q (same_Some (after_start c) h (sym exposes.1 ∙ there)) (starts c (so c refl))

begun_before : (start now : Start) (g : GuestsState) (s : SideState) → now.base ≡ start.base → (ForSome start.contents IsUnlabelled → ForSome now.contents IsUnlabelled)
    → (ForSome start.contents AreUnaccepted → ForSome now.contents AreUnaccepted) → now.faults ≡ start.faults → IsBegun now s.proxy (around s)
    → IsBegun start s.proxy (around s)
begun_before start now g s path unlabelled unaccepted same begun = record {
  based = begun.based ∙ path;
  drops = begun.drops;
  streamed = λ none. begun.streamed (unlabelled none);
  shaken = λ none waits. begun.shaken (unlabelled none) (unaccepted waits);
  failed = subst (λ (n : ℕ). CountsFailed n s.proxy.device.faults s.faults) same begun.failed;
}

module _ (base : List ℕ) (o n : Option HostContents) (P : HostContents → Type 0) (k m : ℕ) (exposes : Exposes o n P after_start) (same : m ≡ k) (first : ℕ) (script : RunScript)
    (contents : Option HostContents) (failed : ℕ) where
  over_before : (Q : GuestsState → ProxyState → Type 0) → IsOver first script (start_with base n m) contents failed Q → IsOver first script (start_with base o k) contents failed Q
  over_before Q (g, s, met, shown, counted, run, rest) = (
    g,
    s,
    met,
    shown,
    counted,
    has_run script (start_with base o k) g s first met run.run run.ports run.rest run.last run.idle run.lines run.numbers run.steady
        (begun_before (start_with base o k) (start_with base n m) g s refl (still_so IsUnlabelled (λ c is. is) o n P exposes)
        (still_so AreUnaccepted (λ c is. is) o n P exposes) same run.begun),
    rest,
  )

  pub reports_before : (idle : ℕ) (old new : Option (List ℕ)) (faults faults' : ℕ) (r : Result ℕ GiveError)
      → Reports idle first script (start_with base n m) contents failed old new faults faults' r → Reports idle first script (start_with base o k) contents failed old new faults faults' r
  reports_before idle old new faults faults' (Ok status) over = over_before _ over
  reports_before idle old new faults faults' (Err give.Sink) over = over_before _ over
  reports_before idle old new faults faults' (Err give.OutOfMemory) none = none
