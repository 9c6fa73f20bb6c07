-- A call as a conversation: what it asks of a ring or a host next, and how it goes on with each answer. One definition of a call so serves
-- every ring and every host.
use Rattle.std.specs.Prelude.{◌≡◌, ℕ, zero, suc, Bool, true, false, List, [], ◌∷◌}

pub data CallTree (Call : Type 0) (Answer : Call → Type 0) (A : Type 0) : Type 0 where
  Done : A → CallTree Call Answer A
  Ask : (call : Call) → (Answer call → CallTree Call Answer A) → CallTree Call Answer A

-- One conversation, and then the next.
abbrev pub bind : {Call : Type 0} {Answer : Call → Type 0} {A B : Type 0} → CallTree Call Answer A → (A → CallTree Call Answer B) → CallTree Call Answer B
bind (Done x) f = f x
bind (Ask call k) f = Ask call (λ a. bind (k a) f)

-- One step for each element of a list, each on what the step before left.
abbrev pub for_each : {Call : Type 0} {Answer : Call → Type 0} {A X : Type 0} → (X → A → CallTree Call Answer A) → List X → A → CallTree Call Answer A
for_each step [] x = Done x
for_each step (i ∷ is) x = bind (step i x) (for_each step is)

-- The same step at most so many times, while it says that it goes on.
abbrev pub while_up_to : {Call : Type 0} {Answer : Call → Type 0} {A : Type 0} → ℕ → (A → CallTree Call Answer (A × Bool)) → A → CallTree Call Answer A
while_up_to zero step x = Done x
while_up_to (suc n) step x = bind (step x) (λ r. elim r.1 [ true ↦ while_up_to n step r.0 | false ↦ Done r.0 ])

-- From the state s the conversation may end in x with the state t, where Allows says which answer a call may get in a state, and in which
-- state that leaves: each of its calls is made, in its order, and no other.
abbrev pub Leads : {Call : Type 0} {Answer : Call → Type 0} {S A : Type 0} → ((call : Call) → Answer call → S → S → Type 0) → CallTree Call Answer A → S → A → S → Type 0
Leads Allows (Done y) s x t = (y ≡ x) × (s ≡ t)
Leads {Call = Call} {Answer = Answer} {S = S} Allows (Ask call k) s x t = (a : Answer call) × (m : S) × Allows call a s m × Leads Allows (k a) m x t

-- Where the answer to each call is determined, so is the end.
abbrev pub played : {Call : Type 0} {Answer : Call → Type 0} {S A : Type 0} → ((call : Call) → S → Answer call × S) → CallTree Call Answer A → S → A × S
played answer (Done x) s = (x, s)
played answer (Ask call k) s = let r = answer call s in played answer (k r.0) r.1

-- Each call of the conversation may be made in the state that it finds, whatever answers were allowed to those before it.
abbrev pub MayPlay : {Call : Type 0} {Answer : Call → Type 0} {S A : Type 0} → ((call : Call) → S → Type 0) → ((call : Call) → Answer call → S → S → Type 0) → CallTree Call Answer A → S → Type 0
MayPlay Can Allows (Done x) s = Unit {0}
MayPlay {Call = Call} {Answer = Answer} {S = S} Can Allows (Ask call k) s =
    Can call s × ((a : Answer call) (t : S) → Allows call a s t → MayPlay Can Allows (k a) t)
