-- A pass over the entries of a journal gives what passes for each app give, where the order of two connections makes no difference.
use Rattle.std.proofs.Common.{◌≡◌, ℕ, ◌+◌, ◌==◌, zero, suc, Bool, true, false, List, [], ◌∷◌, ◌++◌, if◌then◌else◌, refl, sym, ap, ◌∙◌, arith}
use Rattle.std.{proofs.lemmas.{List.{flat_map_more, Sums.fold-append}, Grind.common_steps, Bool.Decides.nat_tests}, specs.List.{flat_map, fold, range_with_len}}
use Rattle.std.specs.Prelude.{nat_lt}
use Rattle.vs_apps_parts.specs.declared.journal.Entry.{Entry}
use Rattle.vs_run_report.{specs.{Connections.{listed, opened_all, opened_by, opened_of}, declared.connection.Opened.Opened}, proofs.Lines.range_more}
use Rattle.vs_load_parts.specs.Line.{opened_next}

module _ {A B : Type 0} (f : B → A → B) (free : (b : B) (x y : A) → f (f b x) y ≡ f (f b y) x) where
  one_later : (b : B) (x : A) (ys : List A) → fold f (f b x) ys ≡ f (fold f b ys) x
  one_later b x [] = refl
  one_later b x (y ∷ ys) = ap (λ (c : B). fold f c ys) (free b x y) ∙ one_later (f b y) x ys

  some_later : (b : B) (xs ys : List A) → fold f (fold f b xs) ys ≡ fold f (fold f b ys) xs
  some_later b [] ys = refl
  some_later b (x ∷ xs) ys = some_later (f b x) xs ys ∙ ap (λ (c : B). fold f c xs) (one_later b x ys)

  each_more : {K : Type 0} (g h : K → List A) (b : B) (ks : List K) → fold f b (flat_map (λ k. g k ++ h k) ks) ≡ fold f (fold f b (flat_map g ks)) (flat_map h ks)
  each_more g h b [] = refl
  each_more {K} g h b (k ∷ ks) =
      let both : K → List A = λ k. g k ++ h k in
      fold-append f b (g k ++ h k) (flat_map both ks) ∙ ap (λ (c : B). fold f c (flat_map both ks)) (fold-append f b (g k) (h k))
      ∙ each_more g h (fold f (fold f b (g k)) (h k)) ks
      ∙ ap (λ (c : B). fold f c (flat_map h ks)) (some_later (fold f b (g k)) (h k) (flat_map g ks))
      ∙ sym (fold-append f (fold f (fold f b (g k)) (flat_map g ks)) (h k) (flat_map h ks))
      ∙ ap (λ (c : B). fold f c (h k ++ flat_map h ks)) (sym (fold-append f b (g k) (flat_map g ks)))

only_one : {A : Type 0} (h : ℕ → List A) (app n : ℕ) → ((k : ℕ) → (app == k) ≡ false → h k ≡ [])
    → flat_map h (range_with_len 0 n) ≡ (if nat_lt app n then h app else [])
only_one h app zero others = grind (arith, nat_tests, common_steps)
only_one {A} h app (suc n) others =
    let count : suc n ≡ n + 1 = omega arith in
    ap (λ (m : ℕ). flat_map h (range_with_len 0 m)) count ∙ ap (λ (ks : List ℕ). flat_map h ks) (range_more n) ∙ sym (flat_map_more h [] (range_with_len 0 n) n)
    ∙ ap (λ (xs : List A). xs ++ h n) (only_one h app n others)
    ∙ last (app == n) refl
  where
    last : (is : Bool) → (app == n) ≡ is → (if nat_lt app n then h app else []) ++ h n ≡ (if nat_lt app (suc n) then h app else [])
    last true at = grind (arith, nat_tests, common_steps)
    last false at = let none = others n at in grind (arith, nat_tests, common_steps, none)

-- no entries open no connection
pub none_opened : (a n : ℕ) → flat_map (λ (k : ℕ). opened_of k []) (range_with_len a n) ≡ []
none_opened a zero = refl
none_opened a (suc n) = none_opened (a + 1) n

module _ {B : Type 0} (f : B → Opened → B) (free : (b : B) (x y : Opened) → f (f b x) y ≡ f (f b y) x) where
  -- the connections of an entry more
  opened_more : (b : B) (n : ℕ) (es : List Entry) (e : Entry)
      → fold f b (opened_all n (es ++ e ∷ [])) ≡ fold f (fold f b (opened_all n es)) (opened_next n e)
  opened_more b n es e =
      let own : ℕ → List Opened = λ k. listed (opened_by k e) in
      (λ i. fold f b (flat_map (λ k. sym (flat_map_more (λ (x : Entry). listed (opened_by k x)) [] es e) i) (range_with_len 0 n)))
      ∙ each_more f free (λ k. opened_of k es) own b (range_with_len 0 n)
      ∙ ap (λ (xs : List Opened). fold f (fold f b (opened_all n es)) xs) (only_one own e.app n (λ k other. rw other refl))

  pub tally_next : (b mid new : B) (n : ℕ) (es es' : List Entry) (e : Entry) → es' ≡ es ++ e ∷ [] → mid ≡ fold f b (opened_all n es)
      → new ≡ fold f mid (opened_next n e) → new ≡ fold f b (opened_all n es')
  tally_next b mid new n es es' e all before is =
      is ∙ ap (λ (t : B). fold f t (opened_next n e)) before ∙ sym (opened_more b n es e)
      ∙ ap (λ (xs : List Entry). fold f b (opened_all n xs)) (sym all)
