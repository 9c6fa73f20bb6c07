-- A flow that is found among those that are kept, and what is left of them without one.
use Rattle.std.{proofs.{Common.{◌≡◌, ◌||◌, Bool, true, false, cond, List, [], ◌∷◌, Some, refl, sym, ap, subst, arith}, lemmas.Grind.common_steps}, specs.List.find}
use Rattle.vs_flow.specs.{CleanPairs.without_oldest, Flow.same_flow, declared.flow.Flow.Flow}
use Rattle.vs_page.proofs.Flows.{same_is, same_self}
use Rattle.laws_tables.{specs.Ends.{AreDistinct, is_among, without}, proofs.Entries.without_none}

pub either_true : (a b : Bool) → b ≡ true → (a || b) ≡ true
either_true a b is = grind (arith, common_steps)

pub found_among : (test : Flow → Bool) (f : Flow) (fs : List Flow) → find test fs ≡ Some f → is_among f fs ≡ true
found_among test f [] is = absurd cc
found_among test f (g ∷ gs) is = by (test g) is (found_among test f gs)
  where
    by : (b : Bool) → cond b (Some g) (find test gs) ≡ Some f → (find test gs ≡ Some f → is_among f gs ≡ true) → is_among f (g ∷ gs) ≡ true
    by true is rest = let same : g ≡ f = cc in subst (λ h. is_among h (g ∷ gs) ≡ true) same (ap (λ b. b || is_among g gs) (same_self g))
    by false is rest = either_true (same_flow f g) (is_among f gs) (rest is)

pub removed_flow : (f : Flow) (fs : List Flow) → AreDistinct fs → without_oldest (same_flow f) fs ≡ without f fs
removed_flow f [] once = refl
removed_flow f (g ∷ gs) once = by (same_flow f g) refl (removed_flow f gs once.1)
  where
    by : (b : Bool) → same_flow f g ≡ b → without_oldest (same_flow f) gs ≡ without f gs
        → cond b gs (g ∷ without_oldest (same_flow f) gs) ≡ cond b (without f gs) (g ∷ without f gs)
    by true same rest = sym (without_none f gs (subst (λ h. is_among h gs ≡ false) (sym (same_is f g same)) once.0))
    by false other rest = ap (λ hs. g ∷ hs) rest
