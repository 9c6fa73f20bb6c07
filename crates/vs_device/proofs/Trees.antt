-- Conversations put together in another way are the same.
use Rattle.std.proofs.{Common.{◌≡◌, List, [], ◌∷◌, ◌++◌, refl, sym, ap, ◌∙◌}, Math.Path.fun_ext}
use Rattle.vs_contents.specs.CallTree.{CallTree, Done, Ask, bind, for_each}

module _ {Call : Type 0} {Answer : Call → Type 0} {A B : Type 0} where
  pub bind_same : (p : CallTree Call Answer A) (f g : A → CallTree Call Answer B) → ((x : A) → f x ≡ g x) → bind p f ≡ bind p g
  bind_same p f g same = ap (bind p) (fun_ext same)

  pub bind_assoc : {C : Type 0} (p : CallTree Call Answer A) (f : A → CallTree Call Answer B) (g : B → CallTree Call Answer C)
      → bind (bind p f) g ≡ bind p (λ x. bind (f x) g)
  bind_assoc (Done x) f g = refl
  bind_assoc (Ask call k) f g = ap (Ask call) (fun_ext (λ a. bind_assoc (k a) f g))

-- the steps for two lists, one after the other
module _ {Call : Type 0} {Answer : Call → Type 0} {A X : Type 0} (step : X → A → CallTree Call Answer A) (ys : List X) where
  pub each_both : (xs : List X) (x : A) → for_each step (xs ++ ys) x ≡ bind (for_each step xs x) (for_each step ys)
  each_both [] x = refl
  each_both (i ∷ is) x =
      bind_same (step i x) (for_each step (is ++ ys)) (λ y. bind (for_each step is y) (for_each step ys)) (each_both is)
      ∙ sym (bind_assoc (step i x) (for_each step is) (for_each step ys))
