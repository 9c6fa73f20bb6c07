-- A stage that puts nothing: what is owed, as each of its steps sees it.
use Rattle.std.proofs.lemmas.Grind.{common_steps}
use Rattle.std.proofs.Common.{◌≡◌, ◌≤◌, ◌+◌, ◌==◌, ◌||◌, ℕ, zero, suc, Bool, true, false, List, [], ◌∷◌, Option, Some, None, refl, sym, subst, ◌∙◌, arith}
use Rattle.vs_contents.{specs.CallTree.{Ask, CallTree, Done, bind, for_each, while_up_to}, proofs.Leads.{AllEnds, ends_bind, ends_weaker}}
use Rattle.vs_conn.specs.End.{ConnectionEnd, owes_of}
use Rattle.vs_replies.specs.declared.Reply.{Reply}

-- What a stage put so far, whether it is over early, and what may be owed: the replies, and the ends under their slots.
pub record Sight : Type 0 where
  pub put : ℕ
  pub over : Bool
  pub replies : List Reply
  pub slots : List ℕ
  pub end_at : ℕ → Option ConnectionEnd

-- A step counts what it puts. Where it put nothing and the stage isn't over after it, it wasn't before, and N holds.
abbrev pub Relation : Type 1
Relation = Sight → Sight → Type 0

pub record Step (N : Relation) (r x : Sight) : Type 0 where
  pub rises : r.put ≤ x.put
  pub same : x.put ≡ r.put → x.over ≡ false → (r.over ≡ false) × N r x

pub still : (N : Relation) (r : Sight) → N r r → Step N r r
still N r n = record { rises = omega arith; same = λ e o. (o, n) }

pub more : (N : Relation) (r x : Sight) → x.put ≡ r.put + 1 → Step N r x
more N r x one = record { rises = omega (arith, one); same = λ e o. absurd (omega (arith, one, e)) }

pub is_over : (N : Relation) (r x : Sight) → r.put ≤ x.put → x.over ≡ true → Step N r x
is_over N r x least over = record { rises = least; same = λ e o. absurd cc }

pub weaker : (N M : Relation) (r x : Sight) → (N r x → M r x) → Step N r x → Step M r x
weaker N M r x gives a = record { rises = a.rises; same = λ e o. let s = a.same e o in (s.0, gives s.1) }

-- A step and then another.
pub one_then : (N M K : Relation) (r q x : Sight) → (N r q → M q x → K r x) → Step N r q → Step M q x → Step K r x
one_then N M K r q x gives a b = grind (arith, common_steps)

-- Nothing changes, and Q holds.
abbrev pub Same : (Sight → Type 0) → Relation
Same Q r x = (x ≡ r) × Q r

abbrev pub Any : Sight → Type 0
Any r = Unit {0}

same_then : (P Q : Sight → Type 0) (r q x : Sight) → Step (Same P) r q → Step (Same Q) q x → Step (Same P) r x
same_then P Q r q x a b = one_then (Same P) (Same Q) (Same P) r q x (λ s t. (t.0 ∙ s.0, s.1)) a b

-- No replies are owed; no connection under a slot owes anything; nothing at all is owed.
abbrev pub NoReplies : Sight → Type 0
NoReplies q = q.replies ≡ []

abbrev pub NoneAt : ℕ → Sight → Type 0
NoneAt slot q = (e : ConnectionEnd) → q.end_at slot ≡ Some e → owes_of e ≡ None

pub record OwesNone (q : Sight) : Type 0 where
  pub replies : q.replies ≡ []
  pub ends : (slot : ℕ) → NoneAt slot q

pub none_at : (slot : ℕ) (q : Sight) → q.end_at slot ≡ None → NoneAt slot q
none_at slot q none e at = absurd cc

pub some_at : (slot : ℕ) (q : Sight) (e : ConnectionEnd) → q.end_at slot ≡ Some e → owes_of e ≡ None → NoneAt slot q
some_at slot q e is none y at = let same : y ≡ e = cc in subst (λ x. owes_of x ≡ None) (sym same) none

-- What changes at most the end under one slot; the slot is served: its end owes nothing.
pub record Touches (slot : ℕ) (r x : Sight) : Type 0 where
  pub slots : x.slots ≡ r.slots
  pub replies : x.replies ≡ r.replies
  pub others : (n : ℕ) → (n == slot) ≡ false → x.end_at n ≡ r.end_at n

pub touches_none : (slot : ℕ) (r : Sight) → Touches slot r r
touches_none slot r = record { slots = refl; replies = refl; others = λ n other. refl }

pub record Serves (slot : ℕ) (r x : Sight) : Type 0 where
  pub touches : Touches slot r x
  pub none : NoneAt slot x

pub serves : (slot : ℕ) (r q x : Sight) → Touches slot r q → Same (NoneAt slot) q x → Serves slot r x
serves slot r q x t s = record { touches = subst (Touches slot r) (sym s.0) t; none = subst (NoneAt slot) (sym s.0) s.1 }

-- All slots of a list are served.
abbrev pub in_list : ℕ → List ℕ → Bool
in_list n [] = false
in_list n (i ∷ is) = (n == i) || in_list n is

pub record Served (is : List ℕ) (r x : Sight) : Type 0 where
  pub slots : x.slots ≡ r.slots
  pub replies : x.replies ≡ r.replies
  pub none : (n : ℕ) → in_list n is ≡ true → NoneAt n x
  pub keeps : (n : ℕ) → NoneAt n r → NoneAt n x

served_more : (slot : ℕ) (is : List ℕ) (r q x : Sight) → Serves slot r q → Served is q x → Served (slot ∷ is) r x
served_more slot is r q x s rest = grind (arith, common_steps)

pub all_served : (is : List ℕ) (r q x : Sight) → ((slot : ℕ) (e : ConnectionEnd) → x.end_at slot ≡ Some e → in_list slot x.slots ≡ true)
    → ((slot : ℕ) → in_list slot q.slots ≡ true → in_list slot is ≡ true) → Same NoReplies r q → Served is q x → OwesNone x
all_served is r q x listed covers same s = grind (arith, common_steps)

-- Conversations of such steps.
module _ {Call : Type 0} {Answer : Call → Type 0} where
  -- One conversation and then the next, by what the first one's ends are.
  pub ends_then : {A B : Type 0} (P : A → Type 0) (Q : B → Type 0) (p : CallTree Call Answer B) (f : B → CallTree Call Answer A) → AllEnds Q p → ((x : B) → Q x → AllEnds P (f x))
      → AllEnds P (bind p f)
  ends_then P Q p f ends next = ends_bind P p f (ends_weaker Q (λ x. AllEnds P (f x)) next p ends)

  pub ends_any : {A : Type 0} (P : A → Type 0) → ((x : A) → P x) → (p : CallTree Call Answer A) → AllEnds P p
  ends_any P all (Done x) = all x
  ends_any P all (Ask call k) = λ a. ends_any P all (k a)

module _ {R : Type 0} (see : R → Sight) where
  abbrev pub Steps : Relation → R → R → Type 0
  Steps N r x = Step N (see r) (see x)

module _ {Call : Type 0} {Answer : Call → Type 0} {R : Type 0} (see : R → Sight) where
  abbrev pub Loops : (Sight → Type 0) → (R → CallTree Call Answer (R × Bool)) → Type 0
  Loops Q step = (r : R) → AllEnds (λ (x : R × Bool). Steps see (Same Q) r x.0) (step r)

  goes_on : (Q : Sight → Type 0) (r x : R) (b : Bool) (rest : CallTree Call Answer R) → Steps see (Same Q) r x → AllEnds (Steps see (Same Any) x) rest
      → AllEnds (Steps see (Same Q) r) (elim b [ true ↦ rest | false ↦ Done x ])
  goes_on Q r x true rest one after =
      ends_weaker (Steps see (Same Any) x) (Steps see (Same Q) r) (λ y next. same_then Q Any (see r) (see x) (see y) one next) rest after
  goes_on Q r x false rest one after = one

  still_while : (Q : Sight → Type 0) (n : ℕ) (step : R → CallTree Call Answer (R × Bool)) → Loops Q step
      → (r : R) → AllEnds (Steps see (Same Any) r) (while_up_to n step r)
  still_while Q zero step one r = still (Same Any) (see r) (refl, tt)
  still_while Q (suc n) step one r =
      ends_then (Steps see (Same Any) r) (λ (x : R × Bool). Steps see (Same Q) r x.0) (step r)
      (λ q. elim q.1 [ true ↦ while_up_to n step q.0 | false ↦ Done q.0 ]) (one r)
      (λ x a. goes_on Any r x.0 x.1 (while_up_to n step x.0)
      (weaker (Same Q) (Same Any) (see r) (see x.0) (λ s. (s.0, tt)) a) (still_while Q n step one x.0))

  pub quiet_while : (Q : Sight → Type 0) (n : ℕ) (step : R → CallTree Call Answer (R × Bool)) → Loops Q step
      → (r : R) → AllEnds (Steps see (Same Q) r) (while_up_to (suc n) step r)
  quiet_while Q n step one r =
      ends_then (Steps see (Same Q) r) (λ (x : R × Bool). Steps see (Same Q) r x.0) (step r)
      (λ q. elim q.1 [ true ↦ while_up_to n step q.0 | false ↦ Done q.0 ]) (one r)
      (λ x a. goes_on Q r x.0 x.1 (while_up_to n step x.0) a (still_while Q n step one x.0))

  pub quiet_each : (step : ℕ → R → CallTree Call Answer R) → ((slot : ℕ) (r : R) → AllEnds (Steps see (Serves slot) r) (step slot r))
      → (is : List ℕ) (r : R) → AllEnds (Steps see (Served is) r) (for_each step is r)
  quiet_each step one [] r =
      still (Served []) (see r) (record { slots = refl; replies = refl; none = λ n at. absurd cc; keeps = λ n none. none })
  quiet_each step one (slot ∷ is) r =
      ends_then (Steps see (Served (slot ∷ is)) r) (Steps see (Serves slot) r) (step slot r) (for_each step is) (one slot r)
      (λ q a. ends_weaker (Steps see (Served is) q) (Steps see (Served (slot ∷ is)) r)
      (λ x b. one_then (Serves slot) (Served is) (Served (slot ∷ is)) (see r) (see q) (see x)
      (served_more slot is (see r) (see q) (see x)) a b) (for_each step is q) (quiet_each step one is q))
