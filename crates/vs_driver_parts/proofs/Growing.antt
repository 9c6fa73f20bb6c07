-- What it takes that a buffer space is raised, and what the connection owes then.
use Rattle.std.proofs.{Common.{◌≡◌, ℕ, ◌≤◌, ◌&&◌, not, nat_lt, true, Some, refl, ap, ◌∙◌, arith}, lemmas.{Bool.Decides.nat_tests, Grind.common_steps}}
use Rattle.vs_conn.specs.{End.{ConnectionEnd, grown, live_owes, owes_of, state_owes}, Shut.is_both, declared.end.State.State}
use Rattle.vs_limits.specs.declared.TheConstants.{BUF_ALLOC_MAX}
use Rattle.vs_driver_parts.specs.Connections.{grow_answer, live_grow_answer}
use Rattle.vs_conn.specs.declared.end.Owed.TheVariants as owed
use Rattle.vs_conn.specs.declared.end.State.TheVariants as state
use Rattle.vs_driver_parts.specs.declared.answers.Grown.TheVariants as rise

pub record MayGrow (e : ConnectionEnd) (alloc : ℕ) : Type 0 where
  pub live : e.state ≡ state.Live
  pub rises : e.credit.alloc ≤ alloc
  pub most : alloc ≤ BUF_ALLOC_MAX

live_may : (e : ConnectionEnd) (alloc : ℕ) → live_grow_answer alloc e ≡ rise.Done → (e.credit.alloc ≤ alloc) × (alloc ≤ BUF_ALLOC_MAX)
live_may e alloc is = grind (arith, nat_tests, is)

pub may_grow : (e : ConnectionEnd) (alloc : ℕ) → grow_answer e.state alloc e ≡ rise.Done → MayGrow e alloc
may_grow e alloc is = by e.state refl is
  where
    by : (x : State) → e.state ≡ x → grow_answer x alloc e ≡ rise.Done → MayGrow e alloc
    by state.Live live done = let may = live_may e alloc done in record { live = live; rises = may.0; most = may.1 }
    by _ live done = absurd cc

raise_owes : (e : ConnectionEnd) (alloc : ℕ) → (nat_lt e.credit.alloc alloc && not (is_both e.told)) ≡ true → live_owes (grown e alloc) ≡ Some owed.CreditUpdate
raise_owes e alloc rises = grind (arith, common_steps, rises)

-- After a rise the peer is told next.
pub owes_update : (e : ConnectionEnd) (alloc : ℕ) → MayGrow e alloc → (nat_lt e.credit.alloc alloc && not (is_both e.told)) ≡ true
    → owes_of (grown e alloc) ≡ Some owed.CreditUpdate
owes_update e alloc may rises = ap (λ (x : State). state_owes x (grown e alloc)) may.live ∙ raise_owes e alloc rises
