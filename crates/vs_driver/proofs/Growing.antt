-- What raising a buffer space leaves of the connection, and of all others.
use Rattle.std.proofs.Common.{◌≡◌, ℕ, ◌&&◌, not, nat_lt, true, Some, refl, sym, ap, subst, ◌∙◌}
use Rattle.vs_conn.specs.{End.{ConnectionEnd, grown, owes_of, view_of}, Shut.is_both, declared.end.EndView.EndView}
use Rattle.vs_flow.specs.Table.{IsTable}
use Rattle.vs_driver_parts.specs.{State.{DriverConnection, DriverEntry, DriverState, entry_known_as}, Connections.{after_grow, entry_grow_answer, grow_answer, grow_of, grown_by}}
use Rattle.vs_driver_parts.{specs.{Connections.{unread_of_id, with_connection}, declared.answers.Grown.Grown}, proofs.Growing.{MayGrow, may_grow, owes_update}}
use Rattle.vs_driver_parts.proofs.Known.{after_grow_known, grow_known, unread_known}
use Rattle.vs_driver.{specs.Pipes.{IfGrown, KeepsOthers, UnlessGrown, owed_by, rises}, proofs.Pipes.{keeps_others, known_after, unread_after}}
use Rattle.vs_conn.specs.declared.end.Owed.TheVariants as owed
use Rattle.vs_driver_parts.specs.declared.answers.Grown.TheVariants as rise

pub grown_there : (slot alloc : ℕ) (e : DriverEntry) (s : DriverState) (a : Grown) → a ≡ rise.Done → e.slot ≡ slot
    → with_connection slot (record e.value { end = grown e.value.end alloc }) s ≡ grown_by a alloc e s
grown_there slot alloc e s a done at =
    ap (λ (k : ℕ). with_connection k (record e.value { end = grown e.value.end alloc }) s) (sym at)
    ∙ ap (λ (b : Grown). grown_by b alloc e s) (sym done)

pub unchanged_grown : (a : Grown) (alloc : ℕ) (e : DriverEntry) (s t : DriverState) → t ≡ grown_by a alloc e s → UnlessGrown a (t ≡ s)
unchanged_grown rise.Done alloc e s t leaves = tt
unchanged_grown _ alloc e s t leaves = leaves

-- What is owed by the answer a, in the state u.
abbrev pub Tells : ℕ → ℕ → DriverState → Grown → DriverState → Type 0
Tells id alloc s a u = IfGrown a (rises id alloc s ≡ true → owed_by id u ≡ Some owed.CreditUpdate)

pub told_by : (id alloc : ℕ) (s t : DriverState) (answer : Grown) → answer ≡ grow_of id alloc s → t ≡ after_grow id alloc s
    → Tells id alloc s (grow_of id alloc s) (after_grow id alloc s) → Tells id alloc s answer t
told_by id alloc s t answer answers leaves told =
    subst (λ (u : DriverState). Tells id alloc s answer u) (sym leaves)
    (subst (λ (a : Grown). Tells id alloc s a (after_grow id alloc s)) (sym answers) told)

module _ (id : ℕ) (s : DriverState) (e : DriverEntry) (sound : IsTable s.table) (known : entry_known_as id s ≡ Some e) (alloc : ℕ) where
  abbrev raised : DriverConnection
  raised = record e.value { end = grown e.value.end alloc }

  pub known_grow_others : KeepsOthers id s (after_grow id alloc s)
  known_grow_others = rw (after_grow_known id s e known alloc) (by (entry_grow_answer alloc e))
    where
      by : (a : Grown) → KeepsOthers id s (grown_by a alloc e s)
      by rise.Done other apart = keeps_others id s e sound known raised refl other apart
      by _ other apart = refl

  pub known_grow_kept : unread_of_id id (after_grow id alloc s) ≡ unread_of_id id s
  known_grow_kept = rw (after_grow_known id s e known alloc) (by (entry_grow_answer alloc e))
    where
      by : (a : Grown) → unread_of_id id (grown_by a alloc e s) ≡ unread_of_id id s
      by rise.Done = unread_after id s e sound known raised refl refl ∙ sym (unread_known id s e known)
      by _ = refl

  raised_owes : owed_by id (with_connection e.slot raised s) ≡ owes_of (grown e.value.end alloc)
  raised_owes = rw (known_after id s e sound known raised refl refl, owed_by) refl

  pub known_told : Tells id alloc s (grow_of id alloc s) (after_grow id alloc s)
  known_told = rw (grow_known id s e known alloc, after_grow_known id s e known alloc) (by (entry_grow_answer alloc e) refl)
    where
      by : (a : Grown) → entry_grow_answer alloc e ≡ a → Tells id alloc s a (grown_by a alloc e s)
      by rise.Done done = λ higher.
          let test : (nat_lt e.value.end.credit.alloc alloc && not (is_both e.value.end.told)) ≡ true = rw (known, rises) at higher in
          raised_owes ∙ owes_update e.value.end alloc (may_grow e.value.end alloc done) test
      by _ done = tt

-- What the end's answer says where it is Done.
pub may_by : (x : ConnectionEnd) (alloc : ℕ) (end : EndView) (a : Grown) → end ≡ view_of x
    → ((e : ConnectionEnd) → end ≡ view_of e → a ≡ grow_answer e.state alloc e) → a ≡ rise.Done → MayGrow x alloc
may_by x alloc end a is answers done = may_grow x alloc (sym (answers x is) ∙ done)
