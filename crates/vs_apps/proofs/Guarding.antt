-- What keeps guests a run of their script.
use Rattle.std.proofs.Common.{◌≡◌, ◌<◌, ◌≤◌, ℕ, zero, suc, Bool, List, [], ◌∷◌, ◌++◌, length, get_or, refl, sym, ap, subst, ◌∙◌, Option, Some, None}
use Rattle.std.{proofs.lemmas.{List.{length-map, length-replicate}, Option.same_Some}, specs.Prelude.replicate}
use Rattle.vs_limits.specs.declared.TheConstants.{FIRST_CID, LAST_PORT}
use Rattle.vs_contents.{specs.Contents.Relates, proofs.Leads.leads_split}
use Rattle.vs_page.specs.{Log.Log, Open.cid_of}
use Rattle.vs_script.specs.{App.app_view, declared.app.App.App}
use Rattle.vs_ring_port.specs.{Contents.RingContents, Known.{IsOlder, Known, LoadsCid}, declared.queue.Queue.TheVariants.{Event, Rx}, EndLog.EndLog}
use Rattle.vs_driver_parts.specs.{Conversations.{load_cid, new_of, new_state, post_all, post_events}, Playing.{IsRingOf, Plays, RingAllows}, State.DriverState}
use Rattle.vs_driver_parts.specs.declared.answers.Polled.{Polled}
use Rattle.vs_ring_rule.specs.declared.view.Past.{Past}
use Rattle.vs_ring_shared.specs.{Meetings.after_hearing, Sights.{Sight, driver_contents, driver_log, empty_sight, known_of, flight_of, staged_of}}
use Rattle.atomic_table.specs.Seated.{TableId}
use Rattle.laws_driver.specs.Honest.{IsFresh}
use Rattle.vs_apps_parts.specs.{Scripts.{AreRight, RunScript, script_of}, declared.progress.{AppState.AppState, Stepped.Stepped}}
use Rattle.laws_apps.specs.{Ports.{GivesPorts, GivesPortsWith}, Runs.{IsRunOf, PollsTo, Steps, no_app}}
use Rattle.laws_apps.proofs.{Beginning.begins_run, Keeping.{polls_keep, steps_keep}, Ports.{new_ports, polls_give, steps_give}}
use Rattle.vs_apps.specs.Guests.{AreGuests, GuestsState, run_in}

abbrev OwnRing : GuestsState → Type 0
OwnRing g = IsRingOf g.end.size (flight_of g.end) (staged_of g.end) g.driver

module _ (first : ℕ) (script : RunScript) (g : GuestsState) (are : AreGuests first script g) where
  before : GivesPortsWith first g.entries g.driver (driver_contents g.end)
  before on l is = record { are = are.ports; next = are.next }

  pub guests_step : (k : ℕ) (s : Stepped) (moved : Bool) (h : GuestsState) → k < length script → OwnRing h
      → Steps script k s moved (run_in g) (run_in h) → AreGuests first script h
  guests_step k s moved h less ring steps = record {
    right = are.right;
    ring = ring;
    run = steps_keep FIRST_CID script (run_in g) are.run k less s moved (run_in h) steps;
    ports = given.are;
    next = given.next;
  }
    where
      given : GivesPorts first h.entries h.driver
      given = steps_give first FIRST_CID script k less s moved (run_in g) (run_in h) are.run steps before refl (driver_log h.end) refl

  pub guests_poll : (polled : Polled) (h : GuestsState) → OwnRing h → PollsTo polled (run_in g) (run_in h) → AreGuests first script h
  guests_poll polled h ring polls = record {
    right = are.right;
    ring = ring;
    run = polls_keep FIRST_CID script (run_in g) are.run polled (run_in h) polls;
    ports = given.are;
    next = given.next;
  }
    where
      given : GivesPorts first h.entries h.driver
      given = polls_give first FIRST_CID script (run_in g) (run_in h) are.run polled polls before refl (driver_log h.end) refl

  -- What an end is told of the other changes nothing that it did.
  pub guests_hear : (past : Past) → AreGuests first script (record g { end = after_hearing past g.end })
  guests_hear past =
      let run = are.run in
      record {
        right = are.right;
        ring = record { size = are.ring.size; flight = are.ring.flight; staged = are.ring.staged; none = are.ring.none };
        run = record {
          apps = run.apps;
          kept = record {
            honest = run.kept.honest;
            routed = run.kept.routed;
            accounted = run.kept.accounted;
            stands = run.kept.stands;
            traced = run.kept.traced;
            given = run.kept.given;
            places = run.kept.places;
          };
          follows = run.follows;
          waits = run.waits;
        };
        ports = are.ports;
        next = are.next;
      }

-- As many apps as the script has.
pub script_long : (script : RunScript) (apps : List AppState) (held : List App) → script_of held ≡ script → length apps ≡ length script
    → length apps ≡ length held
script_long script apps held is many = many ∙ ap (λ (s : RunScript). length s) (sym is) ∙ length-map held app_view

-- Guests that did nothing yet.
pub fresh_end : (table : TableId) (size : ℕ) → IsFresh (driver_contents (empty_sight table size))
fresh_end table size = λ on l is. subst (λ (m : EndLog). (m.entries ≡ []) × (m.staged.tx ≡ []))
    (same_Some (driver_log (empty_sight table size)) l is) (refl, refl)

all_begun : (n k : ℕ) (apps : List AppState) (state : AppState) → apps ≡ replicate n state → state ≡ no_app → get_or apps k no_app ≡ no_app
all_begun n k apps state are is =
    ap (λ (xs : List AppState). get_or xs k no_app) (are ∙ ap (λ (x : AppState). replicate n x) is) ∙ same n k
  where
    same : (n k : ℕ) → get_or (replicate n no_app) k no_app ≡ no_app
    same zero k = refl
    same (suc n) zero = refl
    same (suc n) (suc k) = same n k

-- A new driver has the CID that it loaded.
cid_loaded : (o : Option Known) (k : Known) (cid : ℕ) → Relates o (Some k) (λ j i. LoadsCid cid j i) → cid ≡ cid_of FIRST_CID k.loaded
cid_loaded None k cid told = absurd cc
cid_loaded (Some j) k cid told = told.newest ∙ ap (λ (i : Known). cid_of FIRST_CID i.loaded) (sym told.is)

new_loads : (size port id : ℕ) (c : RingContents) (e : Sight) (s : DriverState) → Plays (new_of size port id) c s (driver_contents e)
    → s.cid ≡ cid_of FIRST_CID e.loaded
new_loads size port id c e s plays =
    let first = leads_split RingAllows (post_all Rx (new_state size port id 0)) post_events c (driver_contents e) s plays in
    let last = leads_split RingAllows (post_all Event first.end) load_cid first.middle (driver_contents e) s first.rest in
    let loads = last.rest in
    ap (λ (t : DriverState). t.cid) (sym loads.3.0)
    ∙ cid_loaded last.middle.known (known_of e) loads.0
    (subst (λ (r : RingContents). Relates last.middle.known r.known (λ j i. LoadsCid loads.0 j i)) loads.3.1 loads.2.1.known)

none_older : (log more : Log) → [] ≡ more ++ log → log ≡ []
none_older [] more is = refl
none_older (x ∷ log) [] is = absurd cc
none_older (x ∷ log) (y ∷ more) is = absurd cc

pub first_loaded : (size port id : ℕ) (c : RingContents) (e : Sight) (s : DriverState) (log : Log) → Plays (new_of size port id) c s (driver_contents e)
    → IsOlder e.loaded log → log ≡ [] → s.cid ≡ FIRST_CID
first_loaded size port id c e s log plays older none =
    let is = subst (λ (l : Log). IsOlder e.loaded l) none older in
    new_loads size port id c e s plays ∙ ap (cid_of FIRST_CID) (none_older e.loaded is.0 is.1)

pub new_guests : (script : RunScript) (size port n : ℕ) (d e : Sight) (driver : DriverState) (apps : List AppState) (state : AppState) → AreRight script
    → port ≤ LAST_PORT → driver.cid ≡ FIRST_CID → IsFresh (driver_contents d) → Plays (new_of size port 1) (driver_contents d) driver (driver_contents e)
    → IsRingOf e.size (flight_of e) (staged_of e) driver → n ≡ length script → apps ≡ replicate n state → state ≡ no_app
    → AreGuests port script (record { driver = driver; end = e; apps = apps; entries = []; bytes = [] })
new_guests script size port n d e driver apps state right own cid fresh plays ring many are is = record {
  right = right;
  ring = ring;
  run = subst (λ (first : ℕ). IsRunOf first script (run_in (record { driver = driver; end = e; apps = apps; entries = []; bytes = [] }))) cid
      (begins_run size port (driver_contents d) (driver_contents e) driver script apps own fresh plays
      (ap (λ (xs : List AppState). length xs) are ∙ length-replicate n state ∙ many) (λ k. all_begun n k apps state are is));
  ports = given.are;
  next = given.next;
}
  where
    given : GivesPorts port [] driver
    given = new_ports size port (driver_contents d) (driver_contents e) driver own fresh plays refl (driver_log e) refl
