-- What a call says of the stream that it names, and of all others.
use Rattle.std.proofs.{Common.{◌≡◌, ◌≢◌, ℕ, ◌==◌, true, false, cond, List, ◌++◌, Option, Some, refl}, lemmas.Grind.common_steps}
use Rattle.std.{proofs.Common.arith, proofs.lemmas.Bool.Decides.nat_tests, specs.Option.option_map}
use Rattle.vs_flow.{specs.declared.flow.Flow.Flow}
use Rattle.laws_proxy.specs.Account.Made.{Account, with_delivery}

pub self_is : (id : ℕ) → (id == id) ≡ true
self_is id = grind arith

pub differs : (id stream : ℕ) → id ≢ stream → (stream == id) ≡ false
differs id stream other = grind (arith, nat_tests, other)

-- Accounts in which one stream's changes.
pub record Changes (at now : ℕ → Option Account) (stream : ℕ) (a : Account) : Type 0 where
  pub here : now stream ≡ Some a
  pub others : (id : ℕ) → id ≢ stream → now id ≡ at id

abbrev pub changing : (Account → Account) → ℕ → (ℕ → Option Account) → ℕ → Option Account
changing f stream at id = cond (stream == id) (option_map f (at id)) (at id)

pub changes : (f : Account → Account) (stream : ℕ) (at : ℕ → Option Account) (a : Account) → at stream ≡ Some a
    → Changes at (changing f stream at) stream (f a)
changes f stream at a is = grind (arith, common_steps)

-- One that changes nothing.
pub stays : (at : ℕ → Option Account) (stream : ℕ) (a : Account) → at stream ≡ Some a → Changes at at stream a
stays at stream a is = record { here = is; others = λ id other. refl }

-- A stream comes.
abbrev pub coming : Account → ℕ → (ℕ → Option Account) → ℕ → Option Account
coming a stream at id = cond (stream == id) (Some a) (at id)

pub comes : (a : Account) (stream : ℕ) (at : ℕ → Option Account) → Changes at (coming a stream at) stream a
comes a stream at = grind (arith, common_steps)

-- A payload is delivered to the stream whose connection it is.
pub is_delivered : (flow : Flow) (payload : List ℕ) (a : Account) → a.label ≡ Some flow → a.closed ≡ false
    → with_delivery flow payload a ≡ record a { delivered = a.delivered ++ payload }
is_delivered flow payload a label still = grind (arith, common_steps)

pub not_delivered : (flow : Flow) (payload : List ℕ) (a : Account) → (a.label ≡ Some flow → a.closed ≡ false → ⊥)
    → with_delivery flow payload a ≡ a
not_delivered flow payload a other = grind (arith, common_steps)
