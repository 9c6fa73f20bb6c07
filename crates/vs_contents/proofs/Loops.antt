-- Conversations that repeat a step: whatever completes the rest completes the whole.
use Rattle.std.proofs.Common.{◌≡◌, ℕ, suc, ◌+◌, ◌-◌, ◌<◌, ◌≤◌, Bool, true, false, refl, ap, subst, arith}
use Rattle.vs_contents.{specs.CallTree.{CallTree, Done, bind, while_up_to, Leads, MayPlay}, proofs.{Leads.{leads_of, leads_bind}, Conditions.{may_first, may_rest, may_of}}}

module _ {Call : Type 0} {Answer : Call → Type 0} {S A : Type 0} (Allows : (call : Call) → Answer call → S → S → Type 0) (step : A → CallTree Call Answer (A × Bool)) where
  -- what a step that goes on, or doesn't, leaves to be done
  abbrev pub left_after : ℕ → A × Bool → CallTree Call Answer A
  left_after n r = elim r.1 [ true ↦ while_up_to n step r.0 | false ↦ Done r.0 ]

  pub while_next : (n k : ℕ) (x : A) → k < n → while_up_to (n - k) step x ≡ bind (step x) (left_after (n - (k + 1)))
  while_next n k x lt = let e : n - k ≡ suc (n - (k + 1)) = omega arith in ap (λ (m : ℕ). while_up_to m step x) e

  -- a step goes on, and the rest follows
  pub while_more : (n k : ℕ) (x y z : A) (r s t : S) → k < n → Leads Allows (step x) r (y, true) s → Leads Allows (while_up_to (n - (k + 1)) step y) s z t
      → Leads Allows (while_up_to (n - k) step x) r z t
  while_more n k x y z r s t lt one rest =
      leads_of Allows _ _ r t z (while_next n k x lt) (leads_bind Allows (step x) (left_after (n - (k + 1))) r s t (y, true) z one rest)

  -- a step ends it
  pub while_stop : (n k : ℕ) (x y : A) (r s : S) → k < n → Leads Allows (step x) r (y, false) s → Leads Allows (while_up_to (n - k) step x) r y s
  while_stop n k x y r s lt one =
      leads_of Allows _ _ r s y (while_next n k x lt) (leads_bind Allows (step x) (left_after (n - (k + 1))) r s s (y, false) y one (refl, refl))

  -- as many steps were made as may be
  pub while_end : (n k : ℕ) (x : A) (r : S) → n ≤ k → Leads Allows (while_up_to (n - k) step x) r x r
  while_end n k x r le =
      let e : 0 ≡ n - k = omega arith in
      let P : ℕ → Type 0 = λ m. Leads Allows (while_up_to m step x) r x r in
      subst P e (refl, refl)

  module _ (Can : (call : Call) → S → Type 0) where
    pub may_step : (n k : ℕ) (x : A) (r : S) → k < n → MayPlay Can Allows (while_up_to (n - k) step x) r → MayPlay Can Allows (step x) r
    may_step n k x r lt may = may_first Can Allows (step x) (left_after (n - (k + 1))) r (may_of Can Allows _ _ r (while_next n k x lt) may)

    pub may_more : (n k : ℕ) (x y : A) (r s : S) → k < n → MayPlay Can Allows (while_up_to (n - k) step x) r → Leads Allows (step x) r (y, true) s
        → MayPlay Can Allows (while_up_to (n - (k + 1)) step y) s
    may_more n k x y r s lt may one = may_rest Can Allows (step x) (left_after (n - (k + 1))) r s (y, true) (may_of Can Allows _ _ r (while_next n k x lt) may) one
