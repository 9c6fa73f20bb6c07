-- What it takes that a buffer space is raised, and what the connection owes then.
use Rattle.std.proofs.{Common.{◌≡◌, ℕ, ◌≤◌, ◌&&◌, not, nat_lt, Bool, true, false, Option, Some, None, refl, sym, ap, subst, ◌∙◌, arith}, lemmas.Bool.Decides.nat_tests}
use Rattle.std.proofs.lemmas.Grind.{common_steps}
use Rattle.vs_conn.specs.{End.{ConnectionEnd, grown, live_owes, owes_of, state_owes}, Shut.is_both, declared.end.{Owed.Owed, State.State}}
use Rattle.vs_flow.specs.Table.{entry_under}
use Rattle.vs_limits.specs.declared.TheConstants.{BUF_ALLOC_MAX}
use Rattle.vs_device_parts.specs.{Growing.{after_grow, entry_grow_answer, grow_answer, grow_of, grown_by, live_grow_answer, owed_in, rises}, Connections.with_connection}
use Rattle.vs_device_parts.{specs.{State.{DeviceConnection, DeviceEntry, DeviceState}, declared.answers.Grown.Grown}, proofs.Under.{has_slot, under_changed}}
use Rattle.vs_conn.specs.declared.end.Owed.TheVariants as owed
use Rattle.vs_conn.specs.declared.end.State.TheVariants as state
use Rattle.vs_device_parts.specs.declared.answers.Grown.TheVariants as rise

pub record MayGrow (e : ConnectionEnd) (alloc : ℕ) : Type 0 where
  pub live : e.state ≡ state.Live
  pub rises : e.credit.alloc ≤ alloc
  pub most : alloc ≤ BUF_ALLOC_MAX

live_may : (e : ConnectionEnd) (alloc : ℕ) → live_grow_answer alloc e ≡ rise.Done → (e.credit.alloc ≤ alloc) × (alloc ≤ BUF_ALLOC_MAX)
live_may e alloc is = grind (arith, nat_tests, is)

pub may_grow : (e : ConnectionEnd) (alloc : ℕ) → grow_answer e.state alloc e ≡ rise.Done → MayGrow e alloc
may_grow e alloc is = by e.state refl is
  where
    by : (x : State) → e.state ≡ x → grow_answer x alloc e ≡ rise.Done → MayGrow e alloc
    by state.Live live done = let may = live_may e alloc done in record { live = live; rises = may.0; most = may.1 }
    by _ live done = absurd cc

raise_owes : (e : ConnectionEnd) (alloc : ℕ) → (nat_lt e.credit.alloc alloc && not (is_both e.told)) ≡ true → live_owes (grown e alloc) ≡ Some owed.CreditUpdate
raise_owes e alloc rises = grind (arith, common_steps, rises)

-- After a rise the peer is told next.
pub grown_told : (slot alloc : ℕ) (s : DeviceState) → grow_of slot alloc s ≡ rise.Done → rises slot alloc s ≡ true
    → owed_in slot (after_grow slot alloc s) ≡ Some owed.CreditUpdate
grown_told slot alloc s = by (entry_under s.table slot) refl
  where
    owes : Option DeviceEntry → Option Owed
    owes o = elim o [ None ↦ None | Some e ↦ owes_of e.value.end ]

    by : (o : Option DeviceEntry) → entry_under s.table slot ≡ o
        → elim o as (λ _. Grown) [ None ↦ rise.Unknown | Some e ↦ entry_grow_answer alloc e ] ≡ rise.Done
        → elim o as (λ _. Bool) [ None ↦ false | Some e ↦ nat_lt e.value.end.credit.alloc alloc && not (is_both e.value.end.told) ] ≡ true
        → owed_in slot (elim o as (λ _. DeviceState) [ None ↦ s | Some e ↦ grown_by (entry_grow_answer alloc e) alloc e s ]) ≡ Some owed.CreditUpdate
    by None found done higher = absurd cc
    by (Some e) found done higher =
        let c : DeviceConnection = record e.value { end = grown e.value.end alloc } in
        let told : owes_of c.end ≡ Some owed.CreditUpdate =
        ap (λ (x : State). state_owes x c.end) (may_grow e.value.end alloc done).live ∙ raise_owes e.value.end alloc higher in
        subst (λ (a : Grown). owed_in slot (grown_by a alloc e s) ≡ Some owed.CreditUpdate) (sym done)
        (ap (λ (n : ℕ). owed_in slot (with_connection n c s)) (has_slot s.table slot e found) ∙ ap owes (under_changed s.table slot e c found) ∙ told)
