-- What may be played of a conversation that is put together of others.
use Rattle.std.proofs.Common.{◌≡◌, subst}
use Rattle.vs_contents.specs.CallTree.{CallTree, Done, Ask, bind, Leads, MayPlay}

module _ {Call : Type 0} {Answer : Call → Type 0} {S A B : Type 0} (Can : (call : Call) → S → Type 0) (Allows : (call : Call) → Answer call → S → S → Type 0) where
  -- the first of two conversations
  pub may_first : (p : CallTree Call Answer A) (f : A → CallTree Call Answer B) (s : S) → MayPlay Can Allows (bind p f) s → MayPlay Can Allows p s
  may_first (Done x) f s may = tt
  may_first (Ask call k) f s may = (may.0, λ a t allowed. may_first (k a) f t (may.1 a t allowed))

  -- the second, where the first led
  pub may_rest : (p : CallTree Call Answer A) (f : A → CallTree Call Answer B) (s t : S) (x : A) → MayPlay Can Allows (bind p f) s → Leads Allows p s x t → MayPlay Can Allows (f x) t
  may_rest (Done y) f s t x may leads =
      let P : A → Type 0 = λ z. MayPlay Can Allows (f z) s in
      let Q : S → Type 0 = λ u. MayPlay Can Allows (f x) u in
      subst Q leads.1 (subst P leads.0 may)
  may_rest (Ask call k) f s t x may leads = may_rest (k leads.0) f leads.1 t x (may.1 leads.0 leads.1 leads.2) leads.3

module _ {Call : Type 0} {Answer : Call → Type 0} {S A : Type 0} (Can : (call : Call) → S → Type 0) (Allows : (call : Call) → Answer call → S → S → Type 0) where
  -- another conversation that is the same
  pub may_of : (p q : CallTree Call Answer A) (s : S) → p ≡ q → MayPlay Can Allows p s → MayPlay Can Allows q s
  may_of p q s same may = let P : CallTree Call Answer A → Type 0 = λ r. MayPlay Can Allows r s in subst P same may
