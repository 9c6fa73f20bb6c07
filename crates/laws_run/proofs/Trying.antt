-- Each connect and accept that an app carried out has a call of its own, which opened a connection that has a line, or was refused.
use Rattle.std.proofs.lemmas.Grind.{common_steps}
use Rattle.std.proofs.Common.{◌≡◌, ◌+◌, ◌≤◌, ◌==◌, ◌||◌, ℕ, zero, suc, Bool, true, false, cond, List, [], ◌∷◌, ◌++◌, Option, Some, None, Ok, Err, length, length-append, refl, sym}
use Rattle.std.proofs.{Common.{ap, subst, ◌∙◌, arith, slice_get, take}, lemmas.Bool.eqb-true}
use Rattle.vs_script.specs.App.{Accept, Act, Connect}
use Rattle.laws_driver.specs.Carried.Calls.{GuestCall, Journal, Made}
use Rattle.vs_apps_parts.specs.{Journals.{calls_of_app, made_by, made_of}, Scripts.{Follows, RunScript, all_counted, all_noted, begun, calls_in, calls_next, goes_to}}
use Rattle.vs_apps_parts.specs.{Scripts.{is_complete, on_to_next, told_in, with_noted}, Told.{is_any_end, step_wait, told_of, wait_of}, declared.journal.{Called.Called, Deed.Deed}}
use Rattle.vs_apps_parts.specs.declared.{journal.{Entry.Entry, WaitsFor.WaitsFor}, progress.Progress.Progress, told.Told.Told}
use Rattle.laws_apps.specs.Placed.{AreOwned, NamesFlow, NamesOne}
use Rattle.vs_run_report.specs.Connections.{listed, opened_by, opened_in, opened_of}
use Rattle.laws_run.{specs.Bounds.{opens, refusals, total}, proofs.Bounding.all_counted_at}
use Rattle.vs_driver_parts.specs.declared.answers.Accepted.TheVariants as accepted
use Rattle.laws_driver.specs.Carried.Calls as call
use Rattle.vs_apps_parts.specs.declared.journal.Called.TheVariants as called
use Rattle.vs_apps_parts.specs.declared.journal.Deed.TheVariants as deed
use Rattle.vs_apps_parts.specs.declared.told.Told.TheVariants as says

-- A call that is to open a connection, and how many of a journal are.
abbrev pub tries : GuestCall → ℕ
tries (call.Connect port) = 1
tries (call.Accept port) = 1
tries c = 0

abbrev pub tried : Journal → ℕ
tried [] = 0
tried (m ∷ older) = tries m.call + tried older

-- A connect that asked has its call, before it is done.
abbrev pub asks : Option Act → ℕ
asks (Some (Connect port)) = 1
asks o = 0

abbrev pub pending : List Act → Progress → ℕ
pending acts p = cond p.asked (asks (slice_get acts p.at)) 0

tried_more : (ms : List Made) (journal : Journal) → tried journal ≤ tried (with_noted ms journal)
tried_more [] journal = omega arith
tried_more (m ∷ ms) journal = by (tried_more ms) (wait_of (told_of m))
  where
    by : ((j : Journal) → tried j ≤ tried (with_noted ms j)) → (o : Option WaitsFor)
        → tried journal ≤ tried (with_noted ms (elim o as (λ _. Journal) [ None ↦ m ∷ journal | Some why ↦ journal ]))
    by then (Some why) = then journal
    by then None = let rest = then (m ∷ journal) in omega (arith, rest)

one_tried : (c : GuestCall) → tries c ≡ 1 → (ms : List Made) (journal : Journal) → calls_in ms ≡ c ∷ [] → step_wait (told_in ms) ≡ None
    → tried journal + 1 ≤ tried (with_noted ms journal)
one_tried c one [] journal calls goes = absurd cc
one_tried c one (m ∷ n ∷ ms) journal calls goes = absurd cc
one_tried c one (m ∷ []) journal calls goes = by (told_of m) goes
  where
    own : tries m.call ≡ 1
    own = let same : m.call ≡ c = cc in ap (λ (x : GuestCall). tries x) same ∙ one

    by : (t : Told) → step_wait (t ∷ []) ≡ None → tried journal + 1 ≤ tried (elim (wait_of t) as (λ _. Journal) [ None ↦ m ∷ journal | Some why ↦ journal ])
    by (says.Waits why) none = absurd cc
    by _ none = omega (arith, own)

take_next : (acts : List Act) (at : ℕ) (act : Act) → slice_get acts at ≡ Some act → total opens (take (suc at) acts) ≡ total opens (take at acts) + opens act
take_next [] at act is = absurd cc
take_next (a ∷ acts) zero act is = let same : a ≡ act = cc in let one = ap (λ (x : Act). opens x) same in omega (arith, one)
take_next (a ∷ acts) (suc at) act is = let rest = take_next acts at act is in omega (arith, rest)

module _ (acts : List Act) where
  abbrev pub Has : Progress → Journal → Type 0
  Has p journal = total opens (take p.at acts) + pending acts p ≤ tried journal

  -- A step that doesn't wait.
  gains : (act : Act) (ms : List Made) (p : Progress) (journal : Journal) → slice_get acts p.at ≡ Some act → calls_in ms ≡ calls_next act p
      → step_wait (told_in ms) ≡ None → Has p journal → total opens (take p.at acts) + opens act ≤ tried (with_noted ms journal)
  gains act ms p journal at calls goes has = grind (arith, common_steps, tried_more, one_tried)

  pending_least : (p : Progress) (act : Act) → slice_get acts p.at ≡ Some act → pending acts p ≤ opens act
  pending_least p act at = grind (arith, common_steps)

  step_has : (act : Act) (ms : List Made) (p : Progress) (journal : Journal) → slice_get acts p.at ≡ Some act → calls_in ms ≡ calls_next act p → Has p journal
      → (o : Option WaitsFor) → step_wait (told_in ms) ≡ o
      → Has (elim o as (λ _. Progress) [ Some why ↦ p | None ↦ goes_to act (told_in ms) (all_counted act (told_in ms) p) ]) (with_noted ms journal)
  step_has act ms p journal at calls has (Some why) waits = let more = tried_more ms journal in omega (arith, more, has)
  step_has act ms p journal at calls has None goes = by (is_any_end (told_in ms) || is_complete act (all_counted act (told_in ms) p)) (gains act ms p journal at calls goes has)
    where
      same : (all_counted act (told_in ms) p).at ≡ p.at
      same = all_counted_at act (told_in ms) p

      by : (b : Bool) → total opens (take p.at acts) + opens act ≤ tried (with_noted ms journal)
          → Has (cond b (on_to_next (all_counted act (told_in ms) p)) (all_counted act (told_in ms) p)) (with_noted ms journal)
      by true most =
          let next : total opens (take ((all_counted act (told_in ms) p).at + 1) acts) ≡ total opens (take p.at acts) + opens act =
          ap (λ (n : ℕ). total opens (take n acts)) (plus (all_counted act (told_in ms) p).at p.at same) ∙ take_next acts p.at act at in omega (arith, next, most)
        where
          plus : (n m : ℕ) → n ≡ m → n + 1 ≡ suc m
          plus n m is = omega (arith, is)
      by false most =
          let there : slice_get acts (all_counted act (told_in ms) p).at ≡ Some act = ap (λ (n : ℕ). slice_get acts n) same ∙ at in
          let least = pending_least (all_counted act (told_in ms) p) act there in
          let front = ap (λ (n : ℕ). total opens (take n acts)) same in omega (arith, least, front, most)

  pub all_tried : (steps : List (List Made)) (q : Progress) → Follows acts begun steps q → Has q (all_noted steps)
  all_tried [] q follows = subst (λ (p : Progress). Has p []) follows (omega arith)
  all_tried (ms ∷ steps) q (mid, act, follows, next, (calls, goes)) =
      subst (λ (p : Progress). Has p (all_noted (ms ∷ steps))) (sym goes)
      (step_has act ms mid (all_noted steps) next calls (all_tried steps mid follows) (step_wait (told_in ms)) refl)

-- The lines of an app, and the calls of it that were refused.
tried_both : (a b : Journal) → tried (a ++ b) ≡ tried a + tried b
tried_both [] b = omega arith
tried_both (m ∷ a) b = let rest = tried_both a b in omega (arith, rest)

refused_both : (a b : Journal) → refusals (a ++ b) ≡ refusals a + refusals b
refused_both [] b = omega arith
refused_both (m ∷ a) b = let rest = refused_both a b in omega (arith, rest)

module _ (script : RunScript) (bytes : List ℕ) (k : ℕ) where
  one_line : (c : Called) → NamesFlow c → let ms : Journal = made_of script bytes k c ∷ [] in tried ms ≤ length (listed (opened_in c)) + refusals ms
  one_line (called.Connect port (Ok id) (Some f)) named = omega arith
  one_line (called.Connect port (Ok id) None) named = absurd named
  one_line (called.Connect port (Err why) flow) named = omega arith
  one_line (called.Accept port (accepted.Conn id) (Some f)) named = omega arith
  one_line (called.Accept port (accepted.Conn id) None) named = absurd named
  one_line (called.Accept port accepted.None flow) named = omega arith
  one_line (called.Accept port accepted.NotListening flow) named = omega arith
  one_line c named = omega arith

  pub all_lined : (n : ℕ) (es : List Entry) → AreOwned n es
      → tried (calls_of_app k script bytes es) ≤ length (opened_of k es) + refusals (calls_of_app k script bytes es)
  all_lined n [] owned = omega arith
  all_lined n (e ∷ es) owned =
      let rest = all_lined n es owned.1 in
      let one = tried_both (calls_of_app k script bytes es) (cond (e.app == k) (made_by script bytes e) []) in
      let two = refused_both (calls_of_app k script bytes es) (cond (e.app == k) (made_by script bytes e) []) in
      let three = length-append (listed (opened_by k e)) (opened_of k es) in
      let own = by (e.app == k) refl e.deed owned.0.flow in omega (arith, rest, one, two, three, own)
    where
      by : (b : Bool) → (e.app == k) ≡ b → (d : Deed) → NamesOne d
          → let ms : Journal = cond b (elim d as (λ _. Journal) [ deed.Called c ↦ made_of script bytes e.app c ∷ [] | deed.Waited times why ↦ [] ]) [] in
          tried ms ≤ length (listed (cond b (elim d [ deed.Called c ↦ opened_in c | deed.Waited times why ↦ None ]) None)) + refusals ms
      by false other d named = omega arith
      by true same (deed.Waited times why) named = omega arith
      by true same (deed.Called c) named = subst (λ (n : ℕ). let ms : Journal = made_of script bytes n c ∷ [] in tried ms ≤ length (listed (opened_in c)) + refusals ms)
          (sym (eqb-true e.app k same)) (one_line c named)
