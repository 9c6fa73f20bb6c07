-- How conversations are put together: the end, one call and then the rest, one conversation and then the next.
use Rattle.std.proofs.Common.{◌≡◌, refl, sym, subst}
use Rattle.vs_contents.specs.CallTree.{CallTree, Done, Ask, bind, Leads}

module _ {Call : Type 0} {Answer : Call → Type 0} {S A : Type 0} (Allows : (call : Call) → Answer call → S → S → Type 0) where
  -- another tree that is the same
  pub leads_of : (p q : CallTree Call Answer A) (s t : S) (x : A) → q ≡ p → Leads Allows p s x t → Leads Allows q s x t
  leads_of p q s t x same h = let P : CallTree Call Answer A → Type 0 = λ r. Leads Allows r s x t in subst P (sym same) h

  -- another end that is the same
  pub leads_to : (p : CallTree Call Answer A) (s t : S) (x y : A) → x ≡ y → Leads Allows p s x t → Leads Allows p s y t
  leads_to p s t x y same h = let P : A → Type 0 = λ z. Leads Allows p s z t in subst P same h

module _ {Call : Type 0} {Answer : Call → Type 0} {S A B : Type 0} (Allows : (call : Call) → Answer call → S → S → Type 0) where
  -- one conversation, and then the next
  pub leads_bind : (p : CallTree Call Answer A) (f : A → CallTree Call Answer B) (s m t : S) (x : A) (y : B) → Leads Allows p s x m → Leads Allows (f x) m y t → Leads Allows (bind p f) s y t
  leads_bind (Done z) f s m t x y h rest =
      let P : A → Type 0 = λ w. Leads Allows (f w) s y t in
      let Q : S → Type 0 = λ w. Leads Allows (f x) w y t in
      subst P (sym h.0) (subst Q (sym h.1) rest)
  leads_bind (Ask call k) f s m t x y h rest = (h.0, h.1, h.2, leads_bind (k h.0) f h.1 m t x y h.3 rest)

-- What holds of each end that a conversation may have.
abbrev pub AllEnds : {Call : Type 0} {Answer : Call → Type 0} {A : Type 0} → (A → Type 0) → CallTree Call Answer A → Type 0
AllEnds P (Done x) = P x
AllEnds {Call = Call} {Answer = Answer} P (Ask call k) = (a : Answer call) → AllEnds P (k a)

module _ {Call : Type 0} {Answer : Call → Type 0} {A : Type 0} (P : A → Type 0) where
  pub end_of : {S : Type 0} (Allows : (call : Call) → Answer call → S → S → Type 0) (p : CallTree Call Answer A) (s t : S) (x : A) → AllEnds P p → Leads Allows p s x t → P x
  end_of Allows (Done y) s t x all h = subst P h.0 all
  end_of Allows (Ask call k) s t x all h = end_of Allows (k h.0) h.1 t x (all h.0) h.3

  pub ends_weaker : (Q : A → Type 0) → ((x : A) → P x → Q x) → (p : CallTree Call Answer A) → AllEnds P p → AllEnds Q p
  ends_weaker Q then (Done x) all = then x all
  ends_weaker Q then (Ask call k) all = λ a. ends_weaker Q then (k a) (all a)

  pub ends_bind : {B : Type 0} (p : CallTree Call Answer B) (f : B → CallTree Call Answer A) → AllEnds (λ x. AllEnds P (f x)) p → AllEnds P (bind p f)
  ends_bind (Done x) f all = all
  ends_bind (Ask call k) f all = λ a. ends_bind (k a) f (all a)

-- What leads from one conversation and then the next leads from the one to its end, and from there on.
pub record Split {Call : Type 0} {Answer : Call → Type 0} {S A B : Type 0} (Allows : (call : Call) → Answer call → S → S → Type 0) (p : CallTree Call Answer A) (f : A → CallTree Call Answer B) (s : S) (y : B) (t : S) : Type 0 where
  pub end : A
  pub middle : S
  pub first : Leads Allows p s end middle
  pub rest : Leads Allows (f end) middle y t

module _ {Call : Type 0} {Answer : Call → Type 0} {S A B : Type 0} (Allows : (call : Call) → Answer call → S → S → Type 0) where
  pub leads_split : (p : CallTree Call Answer A) (f : A → CallTree Call Answer B) (s t : S) (y : B) → Leads Allows (bind p f) s y t → Split Allows p f s y t
  leads_split (Done x) f s t y h = record { end = x; middle = s; first = (refl, refl); rest = h }
  leads_split (Ask call k) f s t y h =
      let next = leads_split (k h.0) f h.1 t y h.3 in
      record { end = next.end; middle = next.middle; first = (h.0, h.1, h.2, next.first); rest = next.rest }
