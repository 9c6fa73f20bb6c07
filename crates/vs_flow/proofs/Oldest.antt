-- What the place of the first element that passes says of it, and of the others.
use Rattle.std.proofs.lemmas.Grind.{common_steps}
use Rattle.std.proofs.Common.{◌≡◌, ℕ, suc, ◌+◌, ◌<◌, Bool, true, false, cond, List, [], ◌∷◌, length, nat_lt, Option, Some, None, refl, ap, sym, subst, arith}
use Rattle.std.{proofs.lemmas.Bool.Decides.nat_tests, specs.{List.{find, position, position_or_len, remove, slice_get}, Option.option_map}}
use Rattle.vs_flow.specs.{declared.flow.Flow.Flow, CleanPairs.without_oldest}

module _ (p : Flow → Bool) where
  abbrev pub IsPlaceOfOldest : List Flow → Option ℕ → Type 0
  IsPlaceOfOldest fs None = (find p fs ≡ None) × (without_oldest p fs ≡ fs)
  IsPlaceOfOldest fs (Some i) = (slice_get fs i ≡ find p fs) × (remove fs i ≡ without_oldest p fs) × (i < length fs)

  one_later : (a n : ℕ) → cond (nat_lt (1 + a) (suc n)) (Some (1 + a)) None ≡ option_map suc (cond (nat_lt a n) (Some a) None)
  one_later a n = grind (arith, common_steps)

  pub oldest_at : (fs : List Flow) → IsPlaceOfOldest fs (position p fs)
  oldest_at [] = (refl, refl)
  oldest_at (f ∷ fs) = by (p f) refl (oldest_at fs)
    where
      further : (o : Option ℕ) → p f ≡ false → IsPlaceOfOldest fs o → IsPlaceOfOldest (f ∷ fs) (option_map suc o)
      further None fails rest = rw fails (rest.0, ap (λ gs. f ∷ gs) rest.1)
      further (Some i) fails rest = rw fails (rest.0, ap (λ gs. f ∷ gs) rest.1, omega (arith, rest.2))

      by : (b : Bool) → p f ≡ b → IsPlaceOfOldest fs (position p fs) → IsPlaceOfOldest (f ∷ fs) (position p (f ∷ fs))
      by true is rest =
          let some : nat_lt 0 (suc (length fs)) ≡ true = grind (arith, nat_tests) in
          let first : position p (f ∷ fs) ≡ Some 0 = rw is (rw some refl) in
          subst (IsPlaceOfOldest (f ∷ fs)) (sym first) (rw is (refl, refl, omega arith))
      by false is rest =
          let later : position p (f ∷ fs) ≡ option_map suc (position p fs) = rw is (one_later (position_or_len p fs) (length fs)) in
          subst (IsPlaceOfOldest (f ∷ fs)) (sym later) (further (position p fs) is rest)
