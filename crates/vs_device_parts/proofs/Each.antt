-- One step for each of a list's elements: whatever completes the rest completes the whole.
use Rattle.std.proofs.{Common.{◌≡◌, ℕ, ◌+◌, ◌<◌, ◌≤◌, List, length, drop, get_or, drop-cons, add-one, refl, sym, ap}, Math.ListN.drop_of_length-le}
use Rattle.vs_contents.{specs.CallTree.{Done, bind, for_each}, proofs.{Leads.{leads_of, leads_bind}, Conditions.{may_first, may_rest, may_of}}}
use Rattle.vs_device_parts.specs.{Calls.{Situation, DeviceTree, Allows}, Playing.{CanMake, MayRun, Runs}}

module _ {A : Type 0} (step : ℕ → A → DeviceTree A) where
  module _ (xs : List ℕ) (i d : ℕ) (x : A) (lt : i < length xs) where
    each_next : for_each step (drop i xs) x ≡ bind (step (get_or xs i d) x) (for_each step (drop (i + 1) xs))
    each_next = rw (drop-cons xs i d lt) (ap (λ (n : ℕ). bind (step (get_or xs i d) x) (for_each step (drop n xs))) (sym (add-one i)))

    pub each_more : (y z : A) (r s t : Situation) → Runs (step (get_or xs i d) x) r y s → Runs (for_each step (drop (i + 1) xs) y) s z t
        → Runs (for_each step (drop i xs) x) r z t
    each_more y z r s t one rest =
        leads_of Allows _ _ r t z each_next (leads_bind Allows (step (get_or xs i d) x) (for_each step (drop (i + 1) xs)) r s t y z one rest)

    pub may_each_step : (r : Situation) → MayRun (for_each step (drop i xs) x) r → MayRun (step (get_or xs i d) x) r
    may_each_step r may = may_first CanMake Allows (step (get_or xs i d) x) (for_each step (drop (i + 1) xs)) r (may_of CanMake Allows _ _ r each_next may)

    pub may_each_more : (y : A) (r s : Situation) → MayRun (for_each step (drop i xs) x) r → Runs (step (get_or xs i d) x) r y s
        → MayRun (for_each step (drop (i + 1) xs) y) s
    may_each_more y r s may one =
        may_rest CanMake Allows (step (get_or xs i d) x) (for_each step (drop (i + 1) xs)) r s y (may_of CanMake Allows _ _ r each_next may) one

  pub each_end : (xs : List ℕ) (i : ℕ) (x : A) (r : Situation) → length xs ≤ i → Runs (for_each step (drop i xs) x) r x r
  each_end xs i x r ends = let same : for_each step (drop i xs) x ≡ Done x = rw (drop_of_length-le xs ends) refl in leads_of Allows _ _ r r x same (refl, refl)
