-- What a noted wait says of how apps end.
use Rattle.std.proofs.Common.{◌≡◌, ◌<◌, ℕ, zero, suc, ◌+◌, ◌==◌, nat_lt, Bool, true, false, cond, List, [], ◌∷◌, ◌++◌, length, Option, Some, None, refl, sym, ap, ◌∙◌, arith}
use Rattle.std.{proofs.{Common.slice_set, lemmas.Bool.{Decides.nat_tests, eq-eqb}}, specs.{Option.unwrap_or, Prelude.slice_get}}
use Rattle.vs_apps_parts.specs.{Journals.{entry_waited, one_more, times_at, times_in, wait_noted, wait_place, waited_before}, declared.journal.{Entry.Entry, WaitsFor.WaitsFor}}
use Rattle.vs_apps_parts.specs.declared.progress.AppState.{AppState}
use Rattle.vs_run_report.specs.Endings.{ending_at, ending_of, why_at, why_in}
use Rattle.vs_apps_parts.specs.declared.journal.Deed.TheVariants as deed
use Rattle.vs_run_report.specs.declared.ending.Ending.TheVariants as ending

-- Places of a list that gets one more, or another one at a place.
at_end : (es : List Entry) (e : Entry) → slice_get (es ++ e ∷ []) (length es) ≡ Some e
at_end [] e = refl
at_end (x ∷ es) e = at_end es e

before_end : (es : List Entry) (e : Entry) (i : ℕ) (x : Entry) → slice_get es i ≡ Some x → slice_get (es ++ e ∷ []) i ≡ Some x
before_end [] e i x is = absurd cc
before_end (y ∷ es) e zero x is = is
before_end (y ∷ es) e (suc i) x is = before_end es e i x is

at_set : (es : List Entry) (i : ℕ) (e x : Entry) → slice_get es i ≡ Some x → slice_get (slice_set es i e) i ≡ Some e
at_set [] i e x is = absurd cc
at_set (y ∷ es) zero e x is = refl
at_set (y ∷ es) (suc i) e x is = at_set es i e x is

beside_set : (es : List Entry) (i j : ℕ) (e x y : Entry) → slice_get es i ≡ Some x → slice_get es j ≡ Some y → (x ≡ y → ⊥)
    → slice_get (slice_set es i e) j ≡ Some y
beside_set [] i j e x y is at apart = absurd cc
beside_set (z ∷ es) zero zero e x y is at apart = absurd (apart cc)
beside_set (z ∷ es) zero (suc j) e x y is at apart = at
beside_set (z ∷ es) (suc i) zero e x y is at apart = at
beside_set (z ∷ es) (suc i) (suc j) e x y is at apart = beside_set es i j e x y is at apart

-- The entry of a wait that was there.
of_app : (k times : ℕ) (e : Entry) → times_in k e ≡ Some times → (e.app == k) ≡ true
of_app k times e is = by (e.app == k) refl is
  where
    by : (b : Bool) → (e.app == k) ≡ b
        → cond b (elim e.deed as (λ _. Option ℕ) [ deed.Called c ↦ None | deed.Waited times why ↦ Some times ]) None ≡ Some times → (e.app == k) ≡ true
    by true same is = same
    by false same is = absurd cc

waited_at : (k place times : ℕ) (es : List Entry) → times_at k place es ≡ Some times
    → (e : Entry) × (slice_get es place ≡ Some e) × ((e.app == k) ≡ true)
waited_at k place times es is = by (slice_get es place) refl is
  where
    by : (o : Option Entry) → slice_get es place ≡ o → elim o as (λ _. Option ℕ) [ None ↦ None | Some e ↦ times_in k e ] ≡ Some times
        → (e : Entry) × (slice_get es place ≡ Some e) × ((e.app == k) ≡ true)
    by None at is = absurd cc
    by (Some e) at is = (e, at, of_app k times e is)

waited_there : (k times : ℕ) (last : Option ℕ) (es : List Entry) → waited_before k last es ≡ Some times
    → (e : Entry) × (slice_get es (unwrap_or last 0) ≡ Some e) × ((e.app == k) ≡ true)
waited_there k times None es is = absurd cc
waited_there k times (Some place) es is = waited_at k place times es is

-- The app waits for that; and what another one waits for stays.
abbrev why_of : Option Entry → Option WaitsFor
why_of o = elim o as (λ _. Option WaitsFor) [ None ↦ None | Some e ↦ why_in e ]

noted : (k : ℕ) (why : WaitsFor) (last : Option ℕ) (es : List Entry)
    → why_at (Some (wait_place k last es)) (wait_noted k why last es) ≡ Some why
noted k why last es = by (waited_before k last es) refl
  where
    by : (o : Option ℕ) → waited_before k last es ≡ o
        → why_of (slice_get (elim o as (λ _. List Entry) [
          | None ↦ es ++ entry_waited k 1 why ∷ []
          | Some times ↦ slice_set es (unwrap_or last 0) (entry_waited k (one_more times) why)
        ]) (elim o as (λ _. ℕ) [ None ↦ length es | Some times ↦ unwrap_or last 0 ]))
        ≡ Some why
    by None is = ap why_of (at_end es (entry_waited k 1 why))
    by (Some times) is =
        let there = waited_there k times last es is in
        ap why_of (at_set es (unwrap_or last 0) (entry_waited k (one_more times) why) there.0 there.1)

-- The wait stands in an entry of the app.
pub noted_there : (k : ℕ) (why : WaitsFor) (last : Option ℕ) (es : List Entry)
    → (e : Entry) × (slice_get (wait_noted k why last es) (wait_place k last es) ≡ Some e) × ((e.app == k) ≡ true)
noted_there k why last es = by (waited_before k last es) refl
  where
    by : (o : Option ℕ) → waited_before k last es ≡ o → (e : Entry)
        × (slice_get (elim o as (λ _. List Entry) [
          | None ↦ es ++ entry_waited k 1 why ∷ []
          | Some times ↦ slice_set es (unwrap_or last 0) (entry_waited k (one_more times) why)
        ]) (elim o as (λ _. ℕ) [ None ↦ length es | Some times ↦ unwrap_or last 0 ])
        ≡ Some e)
        × ((e.app == k) ≡ true)
    by None is = (entry_waited k 1 why, at_end es (entry_waited k 1 why), eq-eqb k k refl)
    by (Some times) is =
        let there = waited_there k times last es is in
        (entry_waited k (one_more times) why, at_set es (unwrap_or last 0) (entry_waited k (one_more times) why) there.0 there.1, eq-eqb k k refl)

pub kept : (k place : ℕ) (why : WaitsFor) (last : Option ℕ) (es : List Entry) (e : Entry) → slice_get es place ≡ Some e
    → (e.app == k) ≡ false
    → slice_get (wait_noted k why last es) place ≡ Some e
kept k place why last es e at other = by (waited_before k last es) refl
  where
    by : (o : Option ℕ) → waited_before k last es ≡ o
        → slice_get (elim o as (λ _. List Entry) [
          | None ↦ es ++ entry_waited k 1 why ∷ []
          | Some times ↦ slice_set es (unwrap_or last 0) (entry_waited k (one_more times) why)
        ]) place
        ≡ Some e
    by None is = before_end es (entry_waited k 1 why) place e at
    by (Some times) is =
        let there = waited_there k times last es is in
        beside_set es (unwrap_or last 0) place (entry_waited k (one_more times) why) there.0 e there.1 at
        (λ same. let wrong : true ≡ false = sym there.2 ∙ ap (λ (x : Entry). x.app == k) same ∙ other in absurd cc)

pub waits_so : (count k : ℕ) (why : WaitsFor) (state : AppState) (es : List Entry) → state.progress.at < count
    → ending_of count (record state { waiting = Some (wait_place k state.waiting es) }) (wait_noted k why state.waiting es)
    ≡ ending.Waited why (state.progress.at + 1)
waits_so count k why state es less = by (nat_lt state.progress.at count) refl
  where
    by : (b : Bool) → nat_lt state.progress.at count ≡ b
        → cond b (ending_at (state.progress.at + 1) (why_at (Some (wait_place k state.waiting es)) (wait_noted k why state.waiting es))) ending.Done
        ≡ ending.Waited why (state.progress.at + 1)
    by true is = ap (ending_at (state.progress.at + 1)) (noted k why state.waiting es)
    by false is = absurd (grind (arith, nat_tests))

pub waits_on : (count k place : ℕ) (why : WaitsFor) (last : Option ℕ) (state : AppState) (es : List Entry) (e : Entry)
    → state.waiting ≡ Some place
    → slice_get es place ≡ Some e → (e.app == k) ≡ false → ending_of count state (wait_noted k why last es) ≡ ending_of count state es
waits_on count k place why last state es e is at other =
    ap (λ (o : Option WaitsFor). cond (nat_lt state.progress.at count) (ending_at (state.progress.at + 1) o) ending.Done)
    (ap (λ (w : Option ℕ). why_at w (wait_noted k why last es)) is ∙ ap why_of (kept k place why last es e at other) ∙ sym (ap why_of at)
    ∙ sym (ap (λ (w : Option ℕ). why_at w es) is))
