-- What a conversation keeps: what holds at each of its ends, where each of its calls may be made.
use Rattle.std.proofs.Common.{ℕ, zero, suc, Bool, true, false, List, [], ◌∷◌, subst}
use Rattle.vs_contents.specs.CallTree.{Done, Ask, bind, for_each, while_up_to}
use Rattle.vs_ring_port.specs.{Contents.RingContents, DriverCalls.DriverAnswer}
use Rattle.vs_driver_parts.specs.{Conversations.DriverTree, Playing.CanMake, Playing.MayPublishAll, Playing.Plays, Playing.RingAllows}

abbrev pub Keeps : {A : Type 0} → (A → RingContents → Type 0) → DriverTree A → RingContents → Type 0
Keeps Q (Done x) c = Q x c
Keeps Q (Ask call next) c =
    CanMake call c × ((a : DriverAnswer call) (d : RingContents) → RingAllows call a c d → Keeps Q (next a) d)

module _ {A : Type 0} (Q : A → RingContents → Type 0) where
  pub keeps_may : (t : DriverTree A) (c : RingContents) → Keeps Q t c → MayPublishAll t c
  keeps_may (Done x) c keeps = tt
  keeps_may (Ask call next) c keeps = (keeps.0, λ a d allowed. keeps_may (next a) d (keeps.1 a d allowed))

  pub keeps_end : (t : DriverTree A) (c d : RingContents) (x : A) → Keeps Q t c → Plays t c x d → Q x d
  keeps_end (Done y) c d x keeps plays =
      let P : A → Type 0 = λ z. Q z c in
      let R : RingContents → Type 0 = λ e. Q x e in
      subst R plays.1 (subst P plays.0 keeps)
  keeps_end (Ask call next) c d x keeps plays = keeps_end (next plays.0) plays.1 d x (keeps.1 plays.0 plays.1 plays.2) plays.3

  pub keeps_weaker : (R : A → RingContents → Type 0) → ((x : A) (d : RingContents) → Q x d → R x d) → (t : DriverTree A) (c : RingContents)
      → Keeps Q t c → Keeps R t c
  keeps_weaker R then (Done x) c keeps = then x c keeps
  keeps_weaker R then (Ask call next) c keeps = (keeps.0, λ a d allowed. keeps_weaker R then (next a) d (keeps.1 a d allowed))

  pub keeps_bind : {B : Type 0} (t : DriverTree B) (f : B → DriverTree A) (c : RingContents) → Keeps (λ x d. Keeps Q (f x) d) t c
      → Keeps Q (bind t f) c
  keeps_bind (Done x) f c keeps = keeps
  keeps_bind (Ask call next) f c keeps = (keeps.0, λ a d allowed. keeps_bind (next a) f d (keeps.1 a d allowed))

module _ {A : Type 0} (P : A → RingContents → Type 0) where
  by_last : (n : ℕ) (step : A → DriverTree (A × Bool)) → ((x : A) (c : RingContents) → P x c → Keeps P (while_up_to n step x) c)
      → (r : A × Bool) (d : RingContents) → P r.0 d → Keeps P (elim r.1 [ true ↦ while_up_to n step r.0 | false ↦ Done r.0 ]) d
  by_last n step rest (y, true) d kept = rest y d kept
  by_last n step rest (y, false) d kept = kept

  pub keeps_while : (step : A → DriverTree (A × Bool)) → ((x : A) (c : RingContents) → P x c → Keeps (λ r d. P r.0 d) (step x) c)
      → (n : ℕ) (x : A) (c : RingContents) → P x c → Keeps P (while_up_to n step x) c
  keeps_while step each zero x c holds = holds
  keeps_while step each (suc n) x c holds =
      let go : A × Bool → DriverTree A = λ r. elim r.1 [ true ↦ while_up_to n step r.0 | false ↦ Done r.0 ] in
      let rest : (y : A) (d : RingContents) → P y d → Keeps P (while_up_to n step y) d = λ y d kept. keeps_while step each n y d kept in
      keeps_bind P (step x) go c
      (keeps_weaker (λ r d. P r.0 d) (λ r d. Keeps P (go r) d) (by_last n step rest) (step x) c (each x c holds))

  pub keeps_each : {X : Type 0} (step : X → A → DriverTree A) → ((i : X) (x : A) (c : RingContents) → P x c → Keeps P (step i x) c)
      → (is : List X) (x : A) (c : RingContents) → P x c → Keeps P (for_each step is x) c
  keeps_each step each [] x c holds = holds
  keeps_each step each (i ∷ is) x c holds =
      keeps_bind P (step i x) (for_each step is) c
      (keeps_weaker P (λ y d. Keeps P (for_each step is y) d) (λ y d kept. keeps_each step each is y d kept) (step i x) c (each i x c holds))
