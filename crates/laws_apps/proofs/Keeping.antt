-- A step of an app keeps what is true of a run.
use Rattle.std.proofs.lemmas.Grind.{common_steps}
use Rattle.std.proofs.Common.{◌≡◌, ◌⊎◌, inl, inr, ℕ, ◌<◌, ◌==◌, Bool, true, false, cond, List, [], ◌∷◌, ◌++◌, length, Option, Some, None, Result, Ok, Err, refl, sym, ap}
use Rattle.std.proofs.{Common.{subst, ◌∙◌, arith, slice_set, length-set}, lemmas.Bool.{eqb-true}}
use Rattle.std.specs.{Option.unwrap_or, Prelude.slice_index_or}
use Rattle.vs_driver_parts.specs.{State.DriverState, declared.answers.{Polled.Polled, Accepted.Accepted, ConnectError.ConnectError}, Connections.flow_of}
use Rattle.laws_driver.{proofs.Calls.poll_honest, specs.Carried.Calls.{GuestCall, Journal, Made, ReplyTo, Unlisten, flow_accepted, flow_opened, with_call}}
use Rattle.laws_rest.proofs.Routes.{poll_routed}
use Rattle.laws_apps.specs.{Placed.{AreOwned, ArePlaced, HasItsFlow, IsAsked, IsClients, IsTo, NamesFlow, accepted_as, asked_as, given_by, was_given}, Accounts.IsAccounted}
use Rattle.laws_apps.specs.Runs.{IsKept, IsRunOf, MakesCall, MakesCalls, Moves, NotesCall, CallsNext, HasFlow, PollsTo, Run, Steps, Waits, app_at, journal_of, journal_of_app}
use Rattle.laws_apps.{specs.{Runs.{moved_state, no_app}, Given.AreGivenWith, Traces.IsTracedWith}, proofs.Answering.{NamesIt, call_answered, call_named, poll_answered}}
use Rattle.laws_apps.proofs.{Giving.{AreApps, next_apps}, Named.{app_did, conn_given, still_did}, Tracing.{IsApps, call_traced, poll_traced}, Waiting.{called_waits, moved_waits}}
use Rattle.laws_apps.proofs.{Waiting.{wait_waits, waited_waits, waits_noted}, Calling.{call_accounted, call_honest, call_routed, entry_accounted, poll_accounted, told_accounted}}
use Rattle.laws_apps.proofs.{Placing.{IsOfApps, call_placed, poll_placed}, Noting.{call_noted, same_accounted}, Entries.{SameCalls, app_calls_stay}}
use Rattle.vs_apps_parts.proofs.Entries.{more_stand}
use Rattle.laws_apps.proofs.Entries.{called_owned, called_stand, calls_stay, gathered_snoc, wait_same}
use Rattle.vs_flow.specs.declared.flow.Flow.{Flow}
use Rattle.vs_apps_parts.specs.declared.{journal.{Called.Called, Entry.Entry, WaitsFor.WaitsFor}, progress.{AppState.AppState, Progress.Progress, Stepped.Stepped}, told.Told.Told}
use Rattle.vs_apps_parts.specs.Journals.{AllStandIn, last_wait, made_as, made_of, wait_noted, wait_place}
use Rattle.vs_apps_parts.specs.{Scripts.{IsPlayed, RunScript, acts_of, calls_in, id_of, told_in, with_noted}, Told.{step_wait, told_by, told_of, wait_of}}
use Rattle.vs_driver_parts.specs.declared.answers.Accepted.TheVariants as accepted
use Rattle.vs_apps_parts.specs.declared.journal.Called.TheVariants as called
use Rattle.vs_apps_parts.specs.declared.progress.Stepped.TheVariants as stepped
use Rattle.vs_apps_parts.specs.declared.told.Told.TheVariants as says

either : {A : Type 0} (b : Bool) (x : A) → x ≡ cond b x x
either true x = refl
either false x = refl

-- A call that is made and noted.
module _ (script : RunScript) (k : ℕ) (m : Made) (old new : Run) (stand : AllStandIn (length old.bytes) old.entries) where
  abbrev noted : Journal → Journal
  noted journal = with_noted (m ∷ []) journal

  noted_by : (o : Option WaitsFor) (journal : Journal) → wait_of (told_of m) ≡ o
      → noted journal ≡ elim o as (λ _. Journal) [ None ↦ m ∷ journal | Some why ↦ journal ]
  noted_by o journal told =
      ap (λ (x : Option WaitsFor). elim x as (λ _. Journal) [ None ↦ m ∷ journal | Some why ↦ journal ]) told

  calls_after : (o : Option WaitsFor) → wait_of (told_of m) ≡ o → NotesCall script k m o old new
      → noted (journal_of script old) ≡ journal_of script new
  calls_after o = grind (arith, common_steps, noted_by, gathered_snoc, calls_stay)

  one_app : (b : Bool) (journal : Journal) → wait_of (told_of m) ≡ None → cond b (m ∷ []) [] ++ journal ≡ cond b (noted journal) journal
  one_app true journal told = sym (noted_by None journal told)
  one_app false journal told = refl

  no_app_more : (b : Bool) (journal : Journal) (why : WaitsFor) → wait_of (told_of m) ≡ Some why → journal ≡ cond b (noted journal) journal
  no_app_more true journal why told = sym (noted_by (Some why) journal told)
  no_app_more false journal why told = refl

  app_after : (j : ℕ) (o : Option WaitsFor) → wait_of (told_of m) ≡ o → NotesCall script k m o old new
      → journal_of_app j script new ≡ cond (k == j) (noted (journal_of_app j script old)) (journal_of_app j script old)
  app_after j o = grind (arith, common_steps, no_app_more, gathered_snoc, app_calls_stay, one_app)

  -- Where each app waits.
  waits_by : (o : Option WaitsFor) (b : Bool) (was : Option ℕ) → wait_of (told_of m) ≡ o
      → cond b (elim o as (λ _. Option ℕ) [ None ↦ None | Some why ↦ was ]) was ≡ cond b (waits_noted (m ∷ []) was) was
  waits_by o b was told =
      sym (ap (λ (x : Option WaitsFor). cond b (elim x as (λ _. Option ℕ) [ None ↦ None | Some why ↦ was ]) was) told)

  waits_call : (j : ℕ) (o : Option WaitsFor) → wait_of (told_of m) ≡ o → NotesCall script k m o old new
      → last_wait j new.entries ≡ cond (k == j) (waits_noted (m ∷ []) (last_wait j old.entries)) (last_wait j old.entries)
  waits_call j o = grind (arith, common_steps, either, waits_by, called_waits)

  stand_after : (o : Option WaitsFor) → NotesCall script k m o old new → AllStandIn (length new.bytes) new.entries
  stand_after o = grind (arith, common_steps, called_stand, more_stand)

-- The entries with which the account is right, once the call is noted.
flows_after : (script : RunScript) (k : ℕ) (m : Made) (old new : Run) (journal : Journal) (o : Option WaitsFor) → NotesCall script k m o old new
    → IsAccounted 1 journal old.entries new.driver new.ring → IsAccounted 1 journal new.entries new.driver new.ring
flows_after script k m old new journal (Some why) notes accounted =
    subst (λ (es : List Entry). IsAccounted 1 journal es new.driver new.ring) (sym notes.0) accounted
flows_after script k m old new journal None notes accounted =
    subst (λ (es : List Entry). IsAccounted 1 journal es new.driver new.ring) (sym notes.3)
    (entry_accounted 1 k journal old.entries notes.0 new.driver new.ring notes.5 accounted)

-- An app's call is none that no entry tells of, and what it was given is in its entry.
called_apps : (script : RunScript) (bytes : List ℕ) (k : ℕ) (c : Called) → IsOfApps (made_of script bytes k c).call
called_apps script bytes k c = grind (arith, common_steps)

pub of_apps : (script : RunScript) (k : ℕ) (call : GuestCall) (reply : ReplyTo call) (old new : Run)
    → NotesCall script k (made_as call reply) (wait_of (told_by call reply)) old new → IsOfApps call
of_apps script k (Unlisten port) reply old new notes = subst (λ (m : Made). IsOfApps m.call) notes.1 (called_apps script new.bytes k notes.0)
of_apps script k call reply old new notes = tt

flow_named : (P : Flow → Type 0) (given : Option ℕ) (flow opened : Option Flow) → flow ≡ opened → ((id : ℕ) → given ≡ Some id → IsTo P opened) → HasItsFlow P given flow
flow_named P None flow opened is some = tt
flow_named P (Some id) flow opened is some = subst (IsTo P) (sym is) (some id refl)

names_flow : (script : RunScript) (bytes : List ℕ) (k : ℕ) (c : Called) (s : DriverState) → HasFlow c s
    → (let m = made_of script bytes k c in NamesIt m.call m.reply s) → NamesFlow c
names_flow script bytes k (called.Connect port answer flow) s has named =
    flow_named (IsAsked port) (asked_as answer) flow (flow_opened answer s) has (opened answer named)
  where
    opened : (r : Result ℕ ConnectError) → ((id : ℕ) → asked_as r ≡ Some id → IsTo (IsAsked port) (flow_of id s)) → (id : ℕ) → asked_as r ≡ Some id
        → IsTo (IsAsked port) (flow_opened r s)
    opened (Ok n) some id is = some n refl
    opened (Err why) some id is = absurd cc
names_flow script bytes k (called.Accept port answer flow) s has named =
    flow_named (IsClients port) (accepted_as answer) flow (flow_accepted answer s) has (taken answer named)
  where
    taken : (r : Accepted) → ((id : ℕ) → accepted_as r ≡ Some id → IsTo (IsClients port) (flow_of id s)) → (id : ℕ) → accepted_as r ≡ Some id
        → IsTo (IsClients port) (flow_accepted r s)
    taken (accepted.Conn n) some id is = some n refl
    taken accepted.None some id is = absurd cc
    taken accepted.NotListening some id is = absurd cc
names_flow script bytes k c s has named = tt

owned_after : (script : RunScript) (k : ℕ) (m : Made) (old new : Run) (o : Option WaitsFor) → k < length script → NotesCall script k m o old new
    → NamesIt m.call m.reply new.driver → AreOwned (length script) old.entries → AreOwned (length script) new.entries
owned_after script k m old new o = grind (arith, common_steps, called_owned, names_flow)

module _ (first : ℕ) (script : RunScript) (k : ℕ) (less : k < length script) where
  pub call_keeps : (n : ℕ) (m : Made) (old new : Run) → IsApps n m.call → (n ≡ 0) ⊎ (was_given n (journal_of script old) ≡ true) → MakesCall script k m old new
      → IsKept first script old → IsKept first script new
  call_keeps n m old new apps names makes kept =
      let x : DriverState × ReplyTo m.call = (new.driver, m.reply) in
      let all : Journal = journal_of script old in
      let given = call_accounted first m.call old.driver old.ring new.ring x makes.right kept.honest makes.plays 1 all old.entries
      kept.accounted in
      let noted = same_accounted 1 (with_call m.call old.driver m.reply all) (with_noted (made_as m.call m.reply ∷ []) all) old.entries new.driver new.ring
      (call_noted old.driver all m.call old.ring new.ring x makes.plays) given in
      let journals : with_noted (made_as m.call m.reply ∷ []) all ≡ journal_of script new =
      ap (λ (y : Made). with_noted (y ∷ []) all) (sym makes.plain) ∙ calls_after script k m old new kept.stands (wait_of (told_of m)) refl makes.notes in
      record {
        routed = call_routed first m.call old.driver old.ring new.ring x makes.right kept.honest kept.routed makes.plays;
        honest = call_honest first m.call old.driver old.ring new.ring x makes.right kept.honest makes.plays;
        accounted = subst (λ (js : Journal). IsAccounted 1 js new.entries new.driver new.ring) journals
            (flows_after script k m old new (with_noted (made_as m.call m.reply ∷ []) all) (wait_of (told_of m)) makes.notes noted);
        stands = stand_after script k m old new kept.stands (wait_of (told_of m)) makes.notes;
        places = λ on l is.
            let now = call_placed first (length script) all old.entries old.driver old.ring new.ring kept.honest kept.places m.call x
            (of_apps script k m.call m.reply old new (subst (λ (y : Made). NotesCall script k y (wait_of (told_of y)) old new) makes.plain makes.notes))
            makes.right makes.plays on l is in (
              subst (λ (js : Journal). ArePlaced js new.driver) journals now.0,
              owned_after script k m old new (wait_of (told_of m)) less makes.notes
                  (call_named first all old.driver old.ring new.ring kept.honest kept.given (length script) old.entries kept.places m.call x makes.plays on l is now.1) now.2,
            );
        traced = subst (λ (js : Journal). IsTracedWith js new.driver new.ring) journals
            (call_traced first n old.driver old.ring new.ring all kept.honest (λ on l is. (kept.accounted on l is).1.right.received.numbers) kept.traced kept.given names m.call x
            makes.right apps makes.plays);
        given = subst (λ (js : Journal). AreGivenWith js new.driver new.ring) journals
            (call_answered first all old.driver old.ring new.ring kept.honest kept.given m.call x
            (of_apps script k m.call m.reply old new (subst (λ (y : Made). NotesCall script k y (wait_of (told_of y)) old new) makes.plain makes.notes)) makes.right makes.plays);
      }

  -- What calls one after another leave.
  record Leaves (made : List Made) (old new : Run) : Type 0 where
    pub kept : IsKept first script new
    pub apps : new.apps ≡ old.apps
    pub journals : (j : ℕ) → journal_of_app j script new ≡ cond (k == j) (with_noted made (journal_of_app j script old)) (journal_of_app j script old)
    pub waits : (j : ℕ) → last_wait j new.entries ≡ cond (k == j) (waits_noted made (last_wait j old.entries)) (last_wait j old.entries)

  join : (b : Bool) (m : Made) (ms : List Made) (mid old : Journal) → mid ≡ cond b (with_noted (m ∷ []) old) old
      → cond b (with_noted ms mid) mid ≡ cond b (with_noted (m ∷ ms) old) old
  join true m ms mid old is = ap (λ (js : Journal). with_noted ms js) is
  join false m ms mid old is = is

  join_waits : (b : Bool) (m : Made) (ms : List Made) (mid old : Option ℕ) → mid ≡ cond b (waits_noted (m ∷ []) old) old
      → cond b (waits_noted ms mid) mid ≡ cond b (waits_noted (m ∷ ms) old) old
  join_waits true m ms mid old is = ap (λ (o : Option ℕ). waits_noted ms o) is
  join_waits false m ms mid old is = is

  pub still_given : (n : ℕ) (m : Made) (old mid : Run) → IsKept first script old → MakesCall script k m old mid → (n ≡ 0) ⊎ (was_given n (journal_of script old) ≡ true)
      → (n ≡ 0) ⊎ (was_given n (journal_of script mid) ≡ true)
  still_given n m old mid = grind (arith, common_steps, calls_after, still_did)

  calls_leave : (n : ℕ) (made : List Made) (old new : Run) → AreApps n (calls_in made) → (n ≡ 0) ⊎ (was_given n (journal_of script old) ≡ true)
      → MakesCalls script k made old new → IsKept first script old → Leaves made old new
  calls_leave n [] old new apps names makes kept = subst (λ (r : Run). Leaves [] old r) (sym makes) (record {
    kept = kept;
    apps = refl;
    journals = λ j. either (k == j) (journal_of_app j script old);
    waits = λ j. either (k == j) (last_wait j old.entries);
  })
  calls_leave n (m ∷ ms) old new apps names makes kept =
      let rest = calls_leave n ms makes.0 new apps.1 (still_given n m old makes.0 kept makes.1 names) makes.2
      (call_keeps n m old makes.0 apps.0 names makes.1 kept) in
      record {
        kept = rest.kept;
        apps = rest.apps ∙ makes.1.apps;
        journals = λ j. rest.journals j ∙ join (k == j) m ms (journal_of_app j script makes.0) (journal_of_app j script old)
            (app_after script k m old makes.0 kept.stands j (wait_of (told_of m)) refl makes.1.notes);
        waits = λ j. rest.waits j ∙ join_waits (k == j) m ms (last_wait j makes.0.entries) (last_wait j old.entries)
            (waits_call script k m old makes.0 kept.stands j (wait_of (told_of m)) refl makes.1.notes);
      }

-- The app that made the step, and the others.
-- Steps that waited are noted by no call.
wait_by : (m : Made) (t : Told) → told_of m ≡ t → (ms : List Made) (why : WaitsFor) (journal : Journal)
    → step_wait (t ∷ told_in ms) ≡ Some why → (step_wait (told_in ms) ≡ Some why → with_noted ms journal ≡ journal)
    → with_noted (m ∷ ms) journal ≡ journal
wait_by m (says.Waits w) is [] why journal waits rest =
    ap (λ (t : Told). elim (wait_of t) as (λ _. Journal) [ None ↦ m ∷ journal | Some v ↦ journal ]) is
wait_by m (says.Waits w) is (n ∷ ms) why journal waits rest =
    ap (λ (t : Told). with_noted (n ∷ ms) (elim (wait_of t) as (λ _. Journal) [ None ↦ m ∷ journal | Some v ↦ journal ])) is ∙ rest waits
wait_by m (says.Asked id) is ms why journal waits rest = absurd cc
wait_by m (says.Given id) is ms why journal waits rest = absurd cc
wait_by m (says.Took n) is ms why journal waits rest = absurd cc
wait_by m (says.Got n) is ms why journal waits rest = absurd cc
wait_by m says.Ends is ms why journal waits rest = absurd cc

all_wait : (made : List Made) (why : WaitsFor) → step_wait (told_in made) ≡ Some why → (journal : Journal) → with_noted made journal ≡ journal
all_wait [] why waits journal = refl
all_wait (m ∷ ms) why waits journal = wait_by m (told_of m) refl ms why journal waits (λ more. all_wait ms why more journal)

module _ (first : ℕ) (script : RunScript) (k : ℕ) (mid new : Run) (less : k < length script) (run : IsRunOf first script mid) where
  abbrev Played : ℕ → Journal → Progress → Type 0
  Played j journal p = IsPlayed (acts_of j script) journal p

  as_many : (over : Run) (state : AppState) → over.apps ≡ mid.apps → length (slice_set over.apps k state) ≡ length script
  as_many over state same = length-set over.apps k state ∙ ap (λ (xs : List AppState). length xs) same ∙ run.apps

  app_is : (over : Run) (state : AppState) (j : ℕ) → over.apps ≡ mid.apps
      → slice_index_or (slice_set over.apps k state) j no_app ≡ cond (k == j) state (app_at j mid)
  app_is over state j same = grind (arith, common_steps)

  -- The app is at a connection of its own.
  pub apps_next : (calls : CallsNext script k mid) → AreApps (id_of (app_at k mid).progress) (calls_in calls.made)
  apps_next calls = subst (AreApps (id_of (app_at k mid).progress)) (sym calls.calls) (next_apps calls.act (app_at k mid).progress)

  pub own_given : (id_of (app_at k mid).progress ≡ 0) ⊎ (was_given (id_of (app_at k mid).progress) (journal_of script mid) ≡ true)
  own_given = by (app_at k mid).progress.conn refl
    where
      by : (o : Option ℕ) → (app_at k mid).progress.conn ≡ o → (unwrap_or o 0 ≡ 0) ⊎ (was_given (unwrap_or o 0) (journal_of script mid) ≡ true)
      by None at = inl refl
      by (Some id) at =
          let played = run.follows k less in
          inr (app_did given_by id script mid.bytes k mid.entries (ap (λ (js : Journal). was_given id js) (sym played.2)
          ∙ conn_given id (acts_of k script) played.0 (app_at k mid).progress played.1 at))

  moves_keep : Moves script k mid new → IsRunOf first script new
  moves_keep m = subst (λ (r : Run). IsRunOf first script r) (sym m.moves) (record {
    apps = as_many over state left.apps;
    kept = record {
      honest = left.kept.honest;
      routed = left.kept.routed;
      accounted = left.kept.accounted;
      stands = left.kept.stands;
      places = left.kept.places;
      traced = left.kept.traced;
      given = left.kept.given;
    };
    follows = λ j below. subst (λ (x : AppState). Played j (journal_of_app j script over) x.progress) (sym (app_is over state j left.apps))
        (subst (λ (js : Journal). Played j js (cond (k == j) state (app_at j mid)).progress) (sym (left.journals j)) (goes j (k == j) refl below));
    waits = λ j below. ap (λ (x : AppState). x.waiting) (app_is over state j left.apps) ∙ waits_now j (k == j) refl below ∙ sym (left.waits j);
  })
    where
      over : Run
      over = m.calls.over

      state : AppState
      state = moved_state m.calls.act m.calls.made (app_at k mid)

      left : Leaves first script k less m.calls.made mid m.calls.over
      left = calls_leave first script k less (id_of (app_at k mid).progress) m.calls.made mid m.calls.over (apps_next m.calls) own_given m.calls.makes run.kept

      here : Played k (with_noted m.calls.made (journal_of_app k script mid)) (moved_state m.calls.act m.calls.made (app_at k mid)).progress
      here =
          let was = run.follows k less in (
            m.calls.made ∷ was.0,
            ((app_at k mid).progress, m.calls.act, was.1, m.calls.next, (m.calls.calls, refl)),
            ap (λ (js : Journal). with_noted m.calls.made js) was.2,
          )

      goes : (j : ℕ) (b : Bool) → (k == j) ≡ b → j < length script
          → Played j (cond b (with_noted m.calls.made (journal_of_app j script mid)) (journal_of_app j script mid))
          (cond b (moved_state m.calls.act m.calls.made (app_at k mid)) (app_at j mid)).progress
      goes j true is below =
          subst (λ (n : ℕ). Played n (with_noted m.calls.made (journal_of_app n script mid)) (moved_state m.calls.act m.calls.made (app_at k mid)).progress)
          (eqb-true k j is) here
      goes j false is below = run.follows j below

      waits_now : (j : ℕ) (b : Bool) → (k == j) ≡ b → j < length script
          → (cond b (moved_state m.calls.act m.calls.made (app_at k mid)) (app_at j mid)).waiting
          ≡ cond b (waits_noted m.calls.made (last_wait j mid.entries)) (last_wait j mid.entries)
      waits_now j true is below =
          sym (moved_waits (app_at k mid).waiting m.calls.made m.no_wait) ∙ ap (waits_noted m.calls.made) (run.waits k less)
          ∙ ap (λ (n : ℕ). waits_noted m.calls.made (last_wait n mid.entries)) (eqb-true k j is)
      waits_now j false is below = run.waits j below

  waits_keep : (why : WaitsFor) → Waits script k why mid new → IsRunOf first script new
  waits_keep why w = subst (λ (r : Run). IsRunOf first script r) (sym w.notes) (record {
    apps = as_many over state left.apps;
    kept = record {
      honest = left.kept.honest;
      routed = left.kept.routed;
      accounted = subst (λ (js : Journal). IsAccounted 1 js (wait_noted k why (app_at k mid).waiting over.entries) over.driver over.ring) (sym same.calls)
          (told_accounted 1 (journal_of script over) over.entries (wait_noted k why (app_at k mid).waiting over.entries) over.driver over.ring same.flows
          left.kept.accounted);
      stands = same.stands (length over.bytes) left.kept.stands;
      places = λ on l is. let was = left.kept.places on l is in
          (subst (λ (js : Journal). ArePlaced js over.driver) (sym same.calls) was.0, same.owned (length script) less was.1);
      traced = subst (λ (js : Journal). IsTracedWith js over.driver over.ring) (sym same.calls) left.kept.traced;
      given = subst (λ (js : Journal). AreGivenWith js over.driver over.ring) (sym same.calls) left.kept.given;
    };
    follows = λ j below. subst (λ (js : Journal). Played j js (slice_index_or (slice_set over.apps k state) j no_app).progress)
        (sym (same.app j ∙ left.journals j ∙ stays (k == j) (journal_of_app j script mid)))
        (subst (λ (x : AppState). Played j (journal_of_app j script mid) x.progress) (sym (app_is over state j left.apps)) (goes j (k == j) refl below));
    waits = λ j below. ap (λ (x : AppState). x.waiting) (app_is over state j left.apps) ∙ waits_now j (k == j) refl below
        ∙ sym (wait_waits j k why was.waiting over.entries (run.waits k less ∙ sym (left.waits k ∙ waits_stay (k == k) (last_wait k mid.entries))));
  })
    where
      over : Run
      over = w.calls.over

      was : AppState
      was = app_at k mid

      state : AppState
      state = record (app_at k mid) { waiting = Some (wait_place k (app_at k mid).waiting w.calls.over.entries) }

      left : Leaves first script k less w.calls.made mid w.calls.over
      left = calls_leave first script k less (id_of (app_at k mid).progress) w.calls.made mid w.calls.over (apps_next w.calls) own_given w.calls.makes run.kept

      same : SameCalls script w.calls.over.bytes k w.calls.over.entries (wait_noted k why (app_at k mid).waiting w.calls.over.entries)
      same = wait_same script w.calls.over.bytes k why (app_at k mid).waiting w.calls.over.entries

      stays : (b : Bool) (journal : Journal) → cond b (with_noted w.calls.made journal) journal ≡ journal
      stays true journal = all_wait w.calls.made why w.waits journal
      stays false journal = refl

      waits_stay : (b : Bool) (o : Option ℕ) → cond b (waits_noted w.calls.made o) o ≡ o
      waits_stay true o = waited_waits o w.calls.made why w.waits
      waits_stay false o = refl

      goes : (j : ℕ) (b : Bool) → (k == j) ≡ b → j < length script
          → Played j (journal_of_app j script mid) (cond b state (app_at j mid)).progress
      goes j true is below = subst (λ (n : ℕ). Played n (journal_of_app n script mid) (app_at k mid).progress) (eqb-true k j is) (run.follows k less)
      goes j false is below = run.follows j below

      waits_now : (j : ℕ) (b : Bool) → (k == j) ≡ b → j < length script
          → (cond b state (app_at j mid)).waiting
          ≡ cond b (Some (wait_place k (app_at k mid).waiting w.calls.over.entries)) (last_wait j w.calls.over.entries)
      waits_now j true is below = refl
      waits_now j false is below = run.waits j below ∙ sym (left.waits j ∙ waits_stay (k == j) (last_wait j mid.entries))

module _ (first : ℕ) (script : RunScript) (old : Run) (run : IsRunOf first script old) where
  pub polls_keep : (polled : Polled) (mid : Run) → PollsTo polled old mid → IsRunOf first script mid
  polls_keep polled mid polls = subst (λ (r : Run). IsRunOf first script r) (sym polls.rest) (record {
    apps = run.apps;
    kept = record {
      routed = poll_routed first old.driver old.ring mid.ring run.kept.honest run.kept.routed (mid.driver, polled) polls.polls;
      honest = poll_honest true first old.driver old.ring mid.ring (mid.driver, polled) run.kept.honest polls.polls;
      accounted = poll_accounted first 1 (journal_of script old) old.entries old.driver old.ring mid.ring (mid.driver, polled) run.kept.honest run.kept.accounted polls.polls;
      stands = run.kept.stands;
      places = poll_placed first (length script) (journal_of script old) old.entries old.driver old.ring mid.ring run.kept.honest run.kept.places (mid.driver, polled) polls.polls;
      traced = poll_traced first old.driver old.ring mid.ring (journal_of script old) (mid.driver, polled) run.kept.honest run.kept.traced polls.polls;
      given = poll_answered first (journal_of script old) old.driver old.ring mid.ring run.kept.honest run.kept.given (mid.driver, polled) polls.polls;
    };
    follows = run.follows;
    waits = run.waits;
  })

  pub steps_keep : (k : ℕ) → k < length script → (s : Stepped) (moved : Bool) (new : Run) → Steps script k s moved old new → IsRunOf first script new
  steps_keep k less stepped.OutOfMemory moved new steps = subst (λ (r : Run). IsRunOf first script r) (sym steps.1) run
  steps_keep k less stepped.Moved moved new steps = moves_keep first script k steps.1 new less (polls_keep steps.0 steps.1 steps.2) steps.4
  steps_keep k less (stepped.Waiting why) moved new steps = waits_keep first script k steps.1 new less (polls_keep steps.0 steps.1 steps.2) why steps.4
  steps_keep k less stepped.Done moved new steps =
      subst (λ (r : Run). IsRunOf first script r) (sym steps.4.1) (polls_keep steps.0 steps.1 steps.2)
