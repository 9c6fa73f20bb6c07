-- In the last round each app found its instructions done, or noted that it waits; so it ended.
use Rattle.std.proofs.lemmas.Grind.{common_steps}
use Rattle.std.proofs.Common.{◌≡◌, ◌≢◌, ◌⊎◌, inl, inr, ℕ, zero, suc, ◌+◌, ◌-◌, ◌<◌, ◌≤◌, ◌==◌, nat_lt, Bool, true, false, cond, List, [], ◌∷◌, length, Option, Some, None, refl}
use Rattle.std.proofs.{Common.{sym, ap, subst, ◌∙◌, arith, slice_get, slice_set, get_or-set_other, get_or-set_same, length-set}, lemmas.Bool.{Decides.nat_tests, eq-eqb, eqb-true}}
use Rattle.vs_driver_parts.specs.{State.DriverState, declared.answers.Polled.Polled}
use Rattle.laws_driver.specs.Carried.Calls.{Made}
use Rattle.vs_apps_parts.specs.{Journals.{wait_noted, wait_place}, Scripts.{RunScript, acts_of, told_in}, Told.{step_wait, told_of, wait_of}, declared.journal.Entry.Entry}
use Rattle.vs_apps_parts.specs.declared.{journal.WaitsFor.WaitsFor, progress.{AppState.AppState, Stepped.Stepped}, told.Told.Told}
use Rattle.laws_apps.specs.{Rounds.{AllStand, Stands}, Runs.{MakesCalls, NotesCall, PollsTo, Run, Steps, Waits, no_app, poll_moved}}
use Rattle.vs_run_report.{specs.{Endings.{ending_at, ending_of, state_at, why_at}, Report.ended_at, Right.IsRightEnding, declared.ending.Ending.Ending}, proofs.Noted.kept}
use Rattle.vs_run_report.proofs.{Noted.{noted_there, waits_on, waits_so}, Waiting.waits_right}
use Rattle.laws_run.proofs.{Alike.{Leaves, leaves_core, leaves_none, leaves_then}, Halting.{Halts, calls_halt, first_call, first_waits, halts_on, last_of, rest_waits}}
use Rattle.laws_run.proofs.Still.{HasRoom, poll_still, room_stays}
use Rattle.vs_apps_parts.specs.declared.progress.Stepped.TheVariants as stepped
use Rattle.vs_run_report.specs.declared.ending.Ending.TheVariants as ending

-- Where this was the driver at first:
module _ (first : DriverState) where
  -- An app is done; or it ended right with a wait, which is noted in an entry of its own.
  abbrev pub IsDone : RunScript → ℕ → List AppState → Type 0
  IsDone script k apps = nat_lt (state_at k apps).progress.at (length (acts_of k script)) ≡ false

  pub record Rests (script : RunScript) (k : ℕ) (apps : List AppState) (entries : List Entry) (driver : DriverState) : Type 0 where
    pub why : WaitsFor
    pub ended : ended_at script apps entries k ≡ ending.Waited why ((state_at k apps).progress.at + 1)
    pub halts : Halts first (acts_of k script) (state_at k apps).progress why driver
    pub place : ℕ
    pub waiting : (state_at k apps).waiting ≡ Some place
    pub entry : Entry
    pub there : slice_get entries place ≡ Some entry
    pub own : (entry.app == k) ≡ true

  abbrev pub Ends : RunScript → ℕ → List AppState → List Entry → DriverState → Type 0
  Ends script k apps entries driver = IsDone script k apps ⊎ Rests script k apps entries driver

  -- It is so on a driver alike.
  pub ends_on : (script : RunScript) (k : ℕ) (apps : List AppState) (entries : List Entry) (s t : DriverState) → Leaves s t → Ends script k apps entries s
      → Ends script k apps entries t
  ends_on script k apps entries s t leaves (inl done) = inl done
  ends_on script k apps entries s t leaves (inr rests) = inr (record {
    why = rests.why;
    ended = rests.ended;
    halts = halts_on first (acts_of k script) (state_at k apps).progress rests.why s t leaves rests.halts;
    place = rests.place;
    waiting = rests.waiting;
    entry = rests.entry;
    there = rests.there;
    own = rests.own;
  })

  ends_right : (script : RunScript) (k : ℕ) (apps : List AppState) (entries : List Entry) (driver : DriverState) → Ends script k apps entries driver
      → IsRightEnding (acts_of k script) (ended_at script apps entries k)
  ends_right script k apps entries driver (inl done) =
      let state : AppState = state_at k apps in
      subst (λ (b : Bool). IsRightEnding (acts_of k script) (cond b (ending_at (state.progress.at + 1) (why_at state.waiting entries)) ending.Done)) (sym done) tt
  ends_right script k apps entries driver (inr rests) =
      let at : ℕ = (state_at k apps).progress.at in
      let same : at + 1 - 1 ≡ at = omega arith in
      subst (λ (e : Ending). IsRightEnding (acts_of k script) e) (sym rests.ended)
      (rests.halts.act, ap (λ (n : ℕ). slice_get (acts_of k script) n) same ∙ rests.halts.next, rests.halts.may)

  -- What a step that stands leaves.
  record Stood (script : RunScript) (k : ℕ) (apps : List AppState) (entries : List Entry) (driver : DriverState) (apps' : List AppState)
      (entries' : List Entry) (driver' : DriverState) : Type 0 where
    pub own : Ends script k apps' entries' driver'
    pub others : (j : ℕ) → (k == j) ≡ false → Ends script j apps entries driver → Ends script j apps' entries' driver'
    pub leaves : Leaves driver driver'
    pub room : HasRoom driver → HasRoom driver'

  past_end : {A : Type 0} (xs : List A) (n : ℕ) → slice_get xs n ≡ None → nat_lt n (length xs) ≡ false
  past_end [] n is = grind (arith, nat_tests)
  past_end (x ∷ xs) zero is = absurd cc
  past_end (x ∷ xs) (suc n) is = let rest = past_end xs n is in grind (arith, nat_tests, rest)

  within : {A : Type 0} (xs : List A) (n : ℕ) (x : A) → slice_get xs n ≡ Some x → n < length xs
  within [] n x is = absurd cc
  within (y ∷ ys) zero x is = omega arith
  within (y ∷ ys) (suc n) x is = let rest = within ys n x is in omega (arith, rest)

  done_stood : (script : RunScript) (k : ℕ) (apps : List AppState) (entries : List Entry) (driver : DriverState)
      → slice_get (acts_of k script) (state_at k apps).progress.at ≡ None → Stood script k apps entries driver apps entries driver
  done_stood script k apps entries driver none = grind (arith, common_steps, past_end, leaves_none)

  apart : (k j app : ℕ) → (k == j) ≡ false → (app == j) ≡ true → (app == k) ≡ false
  apart k j app other own = grind (arith, nat_tests, other, own)

  not_same : (k j : ℕ) → (k == j) ≡ false → j ≢ k
  not_same k j is same = let e = eq-eqb k j (sym same) in absurd cc

  module _ (script : RunScript) (k : ℕ) (why : WaitsFor) (apps : List AppState) (es : List Entry) (less : k < length apps) (s t : DriverState)
      (leaves : Leaves s t) (room : HasRoom s → HasRoom t) (halts : Halts first (acts_of k script) (state_at k apps).progress why t) where
    abbrev noted : List Entry
    noted = wait_noted k why (state_at k apps).waiting es

    abbrev state : AppState
    state = record (state_at k apps) { waiting = Some (wait_place k (state_at k apps).waiting es) }

    abbrev stepped_apps : List AppState
    stepped_apps = slice_set apps k state

    own_state : state_at k stepped_apps ≡ state
    own_state = get_or-set_same apps k state no_app less

    other_state : (j : ℕ) → (k == j) ≡ false → state_at j stepped_apps ≡ state_at j apps
    other_state j other = get_or-set_other apps k j state no_app (not_same k j other)

    own_ends : Ends script k stepped_apps noted t
    own_ends =
        let there = noted_there k why (state_at k apps).waiting es in
        let at : ℕ = (state_at k apps).progress.at in
        inr (record {
          why = why;
          ended = subst (λ (x : AppState). ending_of (length (acts_of k script)) x noted ≡ ending.Waited why (x.progress.at + 1)) (sym own_state)
              (waits_so (length (acts_of k script)) k why (state_at k apps) es (within (acts_of k script) at halts.act halts.next));
          halts = subst (λ (x : AppState). Halts first (acts_of k script) x.progress why t) (sym own_state) halts;
          place = wait_place k (state_at k apps).waiting es;
          waiting = ap (λ (x : AppState). x.waiting) own_state;
          entry = there.0;
          there = there.1;
          own = there.2;
        })

    other_ends : (j : ℕ) → (k == j) ≡ false → Ends script j apps es s → Ends script j stepped_apps noted t
    other_ends j other (inl done) =
        inl (subst (λ (x : AppState). nat_lt x.progress.at (length (acts_of j script)) ≡ false) (sym (other_state j other)) done)
    other_ends j other (inr rests) =
        let foreign = apart k j rests.entry.app other rests.own in
        inr (record {
          why = rests.why;
          ended = subst (λ (x : AppState). ending_of (length (acts_of j script)) x noted ≡ ending.Waited rests.why (x.progress.at + 1))
              (sym (other_state j other))
              (waits_on (length (acts_of j script)) k rests.place why (state_at k apps).waiting (state_at j apps) es rests.entry rests.waiting rests.there foreign
              ∙ rests.ended);
          halts = subst (λ (x : AppState). Halts first (acts_of j script) x.progress rests.why t) (sym (other_state j other))
              (halts_on first (acts_of j script) (state_at j apps).progress rests.why s t leaves rests.halts);
          place = rests.place;
          waiting = ap (λ (x : AppState). x.waiting) (other_state j other) ∙ rests.waiting;
          entry = rests.entry;
          there = kept k rests.place why (state_at k apps).waiting es rests.entry rests.there foreign;
          own = rests.own;
        })

    waits_stood : Stood script k apps es s stepped_apps noted t
    waits_stood = record { own = own_ends; others = other_ends; leaves = leaves; room = room }

  -- Calls that all told to wait change neither apps nor entries.
  record Same (old new : Run) : Type 0 where
    pub apps : new.apps ≡ old.apps
    pub entries : new.entries ≡ old.entries

  same_then : (a b c : Run) → Same a b → Same b c → Same a c
  same_then a b c one two = record { apps = two.apps ∙ one.apps; entries = two.entries ∙ one.entries }

  module _ (script : RunScript) (k : ℕ) where
    one_waits : (m : Made) (t : Told) (why : WaitsFor) (old new : Run) → told_of m ≡ t → wait_of t ≡ Some why → NotesCall script k m (wait_of (told_of m)) old new
        → new.entries ≡ old.entries
    one_waits m t why old new is waits notes =
        let noted : NotesCall script k m (Some why) old new =
        subst (λ (o : Option WaitsFor). NotesCall script k m o old new) (ap (λ (x : Told). wait_of x) is ∙ waits) notes in
        noted.0

    calls_same : (made : List Made) (why : WaitsFor) (old new : Run) → step_wait (told_in made) ≡ Some why → MakesCalls script k made old new → Same old new
    calls_same [] why old new waits makes = absurd cc
    calls_same (m ∷ []) why old new waits makes =
        let first = first_waits (told_of m) [] why waits in
        same_then old makes.0 new
        (record { apps = makes.1.apps; entries = one_waits m (told_of m) first.0 old makes.0 refl first.1 makes.1.notes })
        (record { apps = ap (λ (r : Run). r.apps) makes.2; entries = ap (λ (r : Run). r.entries) makes.2 })
    calls_same (m ∷ n ∷ ms) why old new waits makes =
        let first = first_waits (told_of m) (told_in (n ∷ ms)) why waits in
        same_then old makes.0 new
        (record { apps = makes.1.apps; entries = one_waits m (told_of m) first.0 old makes.0 refl first.1 makes.1.notes })
        (calls_same (n ∷ ms) why makes.0 new (rest_waits (told_of m) (told_of n) (told_in ms) why waits) makes.2)

    calls_many : (made : List Made) (old new : Run) → MakesCalls script k made old new → new.apps ≡ old.apps
    calls_many [] old new makes = ap (λ (r : Run). r.apps) makes
    calls_many (m ∷ ms) old new makes = calls_many ms makes.0 new makes.2 ∙ makes.1.apps

    -- A step that waits.
    abbrev StoodAs : Run → Run → Type 0
    StoodAs old new = Stood script k old.apps old.entries old.driver new.apps new.entries new.driver

    waits_stand : (why : WaitsFor) (mid new : Run) → (HasRoom first → HasRoom mid.driver) → k < length mid.apps → Waits script k why mid new → StoodAs mid new
    waits_stand why mid new from less w =
        let same = calls_same w.calls.made why mid w.calls.over w.waits w.calls.makes in
        let halted = calls_halt script k w.calls.made why mid w.calls.over w.waits w.calls.makes in
        let state : List Entry → AppState = λ es. record (state_at k mid.apps) { waiting = Some (wait_place k (state_at k mid.apps).waiting es) } in
        let stood = waits_stood script k why mid.apps mid.entries less mid.driver w.calls.over.driver halted.leaves (λ r. (halted.room r).0) (record {
          act = w.calls.act;
          next = w.calls.next;
          may = waits_right w.calls.act (state_at k mid.apps).progress w.calls.made why w.calls.calls w.waits;
          call = halted.call;
          last = sym (ap last_of w.calls.calls) ∙ halted.last;
          stops = halted.stops;
          roomy = λ r. (halted.room (from r)).1;
          firsts = λ c is. let stops = halted.firsts c (ap first_call w.calls.calls ∙ is) in
              record { why = stops.why; stops = stops.stops; roomy = λ r. stops.roomy (from r) };
        }) in
        let apps : new.apps ≡ slice_set mid.apps k (state mid.entries) =
        ap (λ (r : Run). r.apps) w.notes ∙ ap (λ (xs : List AppState). slice_set xs k (state w.calls.over.entries)) same.apps
        ∙ ap (λ (es : List Entry). slice_set mid.apps k (state es)) same.entries in
        let entries : new.entries ≡ wait_noted k why (state_at k mid.apps).waiting mid.entries =
        ap (λ (r : Run). r.entries) w.notes ∙ ap (λ (es : List Entry). wait_noted k why (state_at k mid.apps).waiting es) same.entries in
        let driver : new.driver ≡ w.calls.over.driver = ap (λ (r : Run). r.driver) w.notes in
        subst (λ (xs : List AppState). Stood script k mid.apps mid.entries mid.driver xs new.entries new.driver) (sym apps)
        (subst (λ (es : List Entry). Stood script k mid.apps mid.entries mid.driver (slice_set mid.apps k (state mid.entries)) es new.driver) (sym entries)
        (subst (λ (d : DriverState). Stood script k mid.apps mid.entries mid.driver (slice_set mid.apps k (state mid.entries))
        (wait_noted k why (state_at k mid.apps).waiting mid.entries) d) (sym driver) stood))

    waits_many : (why : WaitsFor) (mid new : Run) → Waits script k why mid new → length new.apps ≡ length mid.apps
    waits_many why mid new w =
        ap (λ (r : Run). length r.apps) w.notes ∙ length-set w.calls.over.apps k _
        ∙ ap (λ (xs : List AppState). length xs) (calls_many w.calls.made mid w.calls.over w.calls.makes)

    done_stands : (mid new : Run) → slice_get (acts_of k script) (state_at k mid.apps).progress.at ≡ None → new ≡ mid → StoodAs mid new
    done_stands mid new none is = subst (λ (r : Run). StoodAs mid r) (sym is) (done_stood script k mid.apps mid.entries mid.driver none)

    polled_same : (polled : Polled) (old mid : Run) → PollsTo polled old mid → Same old mid
    polled_same polled old mid polls = record { apps = ap (λ (r : Run). r.apps) polls.rest; entries = ap (λ (r : Run). r.entries) polls.rest }

    polled_leaves : (polled : Polled) (old mid : Run) → PollsTo polled old mid → false ≡ poll_moved polled → Leaves old.driver mid.driver
    polled_leaves polled old mid polls still =
        leaves_core old.driver mid.driver (poll_still old.driver mid.driver old.ring mid.ring polled polls.polls (sym still))

    polled_room : (polled : Polled) (old mid : Run) → PollsTo polled old mid → false ≡ poll_moved polled → HasRoom old.driver → HasRoom mid.driver
    polled_room polled old mid polls still =
        room_stays old.driver mid.driver (poll_still old.driver mid.driver old.ring mid.ring polled polls.polls (sym still))

    stood_from : (old mid new : Run) → Same old mid → Leaves old.driver mid.driver → (HasRoom old.driver → HasRoom mid.driver) → StoodAs mid new → StoodAs old new
    stood_from old mid new same leaves room stood =
        let from : Stood script k old.apps old.entries mid.driver new.apps new.entries new.driver =
        subst (λ (xs : List AppState). Stood script k xs old.entries mid.driver new.apps new.entries new.driver) same.apps
        (subst (λ (es : List Entry). Stood script k mid.apps es mid.driver new.apps new.entries new.driver) same.entries stood) in
        record {
          own = from.own;
          others = λ j other ends. from.others j other (ends_on script j old.apps old.entries old.driver mid.driver leaves ends);
          leaves = leaves_then old.driver mid.driver new.driver leaves from.leaves;
          room = λ r. from.room (room r);
        }

    many_from : (old mid new : Run) → Same old mid → length new.apps ≡ length mid.apps → length new.apps ≡ length old.apps
    many_from old mid new same many = many ∙ ap (λ (xs : List AppState). length xs) same.apps

    step_many : (s : Stepped) (old new : Run) → Stands s → Steps script k s false old new → length new.apps ≡ length old.apps
    step_many (stepped.Waiting why) old new stands steps =
        many_from old steps.1 new (polled_same steps.0 old steps.1 steps.2) (waits_many why steps.1 new steps.4)
    step_many stepped.Done old new stands steps =
        many_from old steps.1 new (polled_same steps.0 old steps.1 steps.2) (ap (λ (r : Run). length r.apps) steps.4.1)
    step_many stepped.Moved old new stands steps = absurd stands
    step_many stepped.OutOfMemory old new stands steps = absurd stands

    step_stood : (s : Stepped) (old new : Run) → (HasRoom first → HasRoom old.driver) → k < length old.apps → Stands s → Steps script k s false old new → StoodAs old new
    step_stood (stepped.Waiting why) old new before less stands steps =
        let same = polled_same steps.0 old steps.1 steps.2 in
        let room = polled_room steps.0 old steps.1 steps.2 steps.3 in
        stood_from old steps.1 new same (polled_leaves steps.0 old steps.1 steps.2 steps.3) room
        (waits_stand why steps.1 new (λ r. room (before r)) (subst (λ (xs : List AppState). k < length xs) (sym same.apps) less) steps.4)
    step_stood stepped.Done old new before less stands steps =
        stood_from old steps.1 new (polled_same steps.0 old steps.1 steps.2) (polled_leaves steps.0 old steps.1 steps.2 steps.3)
        (polled_room steps.0 old steps.1 steps.2 steps.3) (done_stands steps.1 new steps.4.0 steps.4.1)
    step_stood stepped.Moved old new before less stands steps = absurd stands
    step_stood stepped.OutOfMemory old new before less stands steps = absurd stands

  -- The apps of the round, one after another.
  all_many : (script : RunScript) (n : ℕ) (old new : Run) → AllStand script n old new → length new.apps ≡ length old.apps
  all_many script zero old new all = ap (λ (r : Run). length r.apps) all
  all_many script (suc n) old new all =
      step_many script n all.2.0 all.0 new all.2.1 all.2.2 ∙ all_many script n old all.0 all.1

  all_room : (script : RunScript) (n : ℕ) (old new : Run) → (HasRoom first → HasRoom old.driver) → n ≤ length old.apps → AllStand script n old new
      → HasRoom first → HasRoom new.driver
  all_room script zero old new before most all = subst (λ (r : Run). HasRoom first → HasRoom r.driver) (sym all) before
  all_room script (suc n) old new before most all =
      let many : length all.0.apps ≡ length old.apps = all_many script n old all.0 all.1 in
      let from = all_room script n old all.0 before (omega (arith, most)) all.1 in
      λ r. (step_stood script n all.2.0 all.0 new from (omega (arith, many, most)) all.2.1 all.2.2).room (from r)

  all_end : (script : RunScript) (n : ℕ) (old new : Run) → (HasRoom first → HasRoom old.driver) → n ≤ length old.apps → AllStand script n old new → (k : ℕ)
      → k < n → Ends script k new.apps new.entries new.driver
  all_end script zero old new before most all k less = absurd (omega (arith, less))
  all_end script (suc n) old new before most all k less = by (n == k) refl (all_end script n old all.0 before (omega (arith, most)) all.1 k)
    where
      many : length all.0.apps ≡ length old.apps
      many = all_many script n old all.0 all.1

      stood : Stood script n all.0.apps all.0.entries all.0.driver new.apps new.entries new.driver
      stood = step_stood script n all.2.0 all.0 new (all_room script n old all.0 before (omega (arith, most)) all.1) (omega (arith, many, most)) all.2.1
          all.2.2

      by : (b : Bool) → (n == k) ≡ b → (k < n → Ends script k all.0.apps all.0.entries all.0.driver) → Ends script k new.apps new.entries new.driver
      by true is earlier = subst (λ (j : ℕ). Ends script j new.apps new.entries new.driver) (eqb-true n k is) stood.own
      by false is earlier = stood.others k is (earlier (grind (arith, nat_tests, is, less)))

-- All apps.
pub all_ends : (script : RunScript) (old new : Run) → length new.apps ≡ length script → AllStand script (length script) old new → (k : ℕ)
    → k < length script → Ends old.driver script k new.apps new.entries new.driver
all_ends script old new as_many all k less =
    let many = all_many old.driver script (length script) old new all in all_end old.driver script (length script) old new (λ r. r) (omega (arith, many, as_many)) all k less

pub all_right : (script : RunScript) (old new : Run) → length new.apps ≡ length script → AllStand script (length script) old new → (k : ℕ)
    → k < length script → IsRightEnding (acts_of k script) (ended_at script new.apps new.entries k)
all_right script old new as_many all k less =
    ends_right old.driver script k new.apps new.entries new.driver (all_ends script old new as_many all k less)
