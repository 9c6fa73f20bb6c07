-- Where each app's last entry stands, if it is a wait.
use Rattle.std.proofs.lemmas.Grind.{common_steps}
use Rattle.std.proofs.Common.{◌≡◌, ℕ, zero, suc, ◌+◌, ◌==◌, cond, List, [], ◌∷◌, ◌++◌, length, Option, Some, None, refl, sym, ap, ◌∙◌, slice_set, arith}
use Rattle.std.{proofs.lemmas.Bool.eqb-true, specs.{Prelude.slice_get}}
use Rattle.laws_driver.specs.Carried.Calls.{Made}
use Rattle.vs_apps_parts.specs.Journals.{entry_called, entry_waited, last_wait, last_wait_from, times_in, wait_noted, wait_place, waits_after}
use Rattle.vs_apps_parts.specs.{Scripts.told_in, Told.{step_wait, told_of, wait_of, waits_on}, declared.journal.{Called.Called, Entry.Entry, WaitsFor.WaitsFor}}
use Rattle.vs_apps_parts.specs.declared.told.Told.{Told}
use Rattle.vs_apps_parts.specs.declared.told.Told.TheVariants as says

last_snoc : (j place : ℕ) (before : Option ℕ) (es : List Entry) (e : Entry)
    → last_wait_from j place before (es ++ e ∷ []) ≡ waits_after j (place + length es) (last_wait_from j place before es) e
last_snoc j place before [] e = ap (λ (n : ℕ). waits_after j n before e) (omega arith)
last_snoc j place before (x ∷ es) e =
    last_snoc j (place + 1) (waits_after j place before x) es e
    ∙ ap (λ (n : ℕ). waits_after j n (last_wait_from j (place + 1) (waits_after j place before x) es) e) (omega arith)

pub called_waits : (j k : ℕ) (es : List Entry) (c : Called) → last_wait j (es ++ entry_called k c ∷ []) ≡ cond (k == j) None (last_wait j es)
called_waits j k es c = last_snoc j 0 None es (entry_called k c)

-- A wait in place of another of the same app.
same_wait : (j k times now place : ℕ) (why : WaitsFor) (before : Option ℕ) (e : Entry) → times_in k e ≡ Some times
    → waits_after j place before (entry_waited k now why) ≡ waits_after j place before e
same_wait j k times now place why before e is = grind (arith, common_steps)

last_set : (j k times now : ℕ) (why : WaitsFor) (e : Entry) → times_in k e ≡ Some times → (place at : ℕ) (before : Option ℕ) (es : List Entry)
    → slice_get es at ≡ Some e → last_wait_from j place before (slice_set es at (entry_waited k now why)) ≡ last_wait_from j place before es
last_set j k times now why e is place at before [] found = refl
last_set j k times now why e is place zero before (x ∷ es) found =
    let same : x ≡ e = cc in
    ap (λ (o : Option ℕ). last_wait_from j (place + 1) o es) (same_wait j k times now place why before e is ∙ ap (waits_after j place before) (sym same))
last_set j k times now why e is place (suc at) before (x ∷ es) found =
    last_set j k times now why e is (place + 1) at (waits_after j place before x) es found

pub wait_waits : (j k : ℕ) (why : WaitsFor) (last : Option ℕ) (es : List Entry) → last ≡ last_wait k es
    → last_wait j (wait_noted k why last es) ≡ cond (k == j) (Some (wait_place k last es)) (last_wait j es)
wait_waits j k why last es known = grind (arith, common_steps, last_set, eqb-true, last_snoc)

-- What the calls of a step leave of it.
abbrev pub waits_noted : List Made → Option ℕ → Option ℕ
waits_noted [] was = was
waits_noted (m ∷ ms) was = waits_noted ms (elim (wait_of (told_of m)) as (λ _. Option ℕ) [ None ↦ None | Some why ↦ was ])

none_either : (o : Option WaitsFor) (ms : List Made) → waits_noted ms None ≡ None
    → waits_noted ms (elim o as (λ _. Option ℕ) [ None ↦ None | Some why ↦ None ]) ≡ None
none_either None ms none = none
none_either (Some why) ms none = none

none_noted : (made : List Made) → waits_noted made None ≡ None
none_noted [] = refl
none_noted (m ∷ ms) = none_either (wait_of (told_of m)) ms (none_noted ms)

module _ (was : Option ℕ) (m : Made) where
  abbrev then_waits : List Made → Told → Option ℕ
  then_waits ms t = waits_noted ms (elim (wait_of t) as (λ _. Option ℕ) [ None ↦ None | Some why ↦ was ])

  moved_by : (t : Told) (ms : List Made) → step_wait (t ∷ told_in ms) ≡ None
      → (step_wait (told_in ms) ≡ None → (n : Made) (ns : List Made) → ms ≡ n ∷ ns → waits_noted ms was ≡ None) → then_waits ms t ≡ None
  moved_by (says.Waits w) [] moved rest = absurd cc
  moved_by (says.Waits w) (n ∷ ns) moved rest = rest moved n ns refl
  moved_by t ms moved rest = none_noted ms

  waited_by : (t : Told) (ms : List Made) (why : WaitsFor) → step_wait (t ∷ told_in ms) ≡ Some why
      → (step_wait (told_in ms) ≡ Some why → waits_noted ms was ≡ was) → then_waits ms t ≡ was
  waited_by (says.Waits w) [] why waits rest = refl
  waited_by (says.Waits w) (n ∷ ns) why waits rest = rest waits
  waited_by t ms why waits rest = absurd cc

-- A step that moved leaves none, where it made a call; one that waited leaves what was.
some_moved : (was : Option ℕ) (m : Made) (ms : List Made) → step_wait (told_in (m ∷ ms)) ≡ None → waits_noted (m ∷ ms) was ≡ None
some_moved was m [] moved = moved_by was m (told_of m) [] moved (λ more n ns is. absurd cc)
some_moved was m (n ∷ ns) moved = moved_by was m (told_of m) (n ∷ ns) moved (λ more x xs is. some_moved was n ns more)

pub moved_waits : (was : Option ℕ) (made : List Made) → step_wait (told_in made) ≡ None → waits_noted made was ≡ waits_on (told_in made) was
moved_waits was [] moved = refl
moved_waits was (m ∷ ms) moved = some_moved was m ms moved

pub waited_waits : (was : Option ℕ) (made : List Made) (why : WaitsFor) → step_wait (told_in made) ≡ Some why → waits_noted made was ≡ was
waited_waits was [] why waits = refl
waited_waits was (m ∷ ms) why waits = waited_by was m (told_of m) ms why waits (λ more. waited_waits was ms why more)
