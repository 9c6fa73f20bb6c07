-- What a packet comes to that a connection owed and that was put.
use Rattle.std.{proofs.Common.{◌≡◌, ℕ, true, false, Option, Some, None, refl, sym, ap, subst, ◌∙◌}, specs.Option.{IsSomeAnd, option_map}}
use Rattle.vs_conn.specs.declared.end.Owed.{Owed}
use Rattle.vs_device_parts.specs.{Calls.Situation, Connections.with_connection, Filling.is_rst, Paid.paid_connection, Playing.Runs, Receiving.after_paying, State.DeviceEntry}
use Rattle.vs_device_parts.specs.{State.DeviceState, Streams.leaving}
use Rattle.vs_conn.specs.declared.end.Owed.TheVariants as owed

pub paid_leaves : (what : Owed) (e : DeviceEntry) (slot : ℕ) (s m t : DeviceState) (x y : Situation) → is_rst what ≡ true → e.slot ≡ slot → m ≡ record s { last_put = Some slot }
    → Runs (leaving false e m) x t y → Runs (after_paying what e s) x t y
paid_leaves owed.Rst e slot s m t x y rst at is leaves =
    let P : DeviceState → Type 0 = λ u. Runs (leaving false e u) x t y in
    subst P (is ∙ ap (λ (n : ℕ). record s { last_put = Some n }) (sym at)) leaves
paid_leaves _ e slot s m t x y rst at is leaves = absurd (cc)

abbrev pub after_other : Owed → ℕ → DeviceEntry → DeviceState → DeviceState
after_other what slot e s = record (with_connection slot (paid_connection what s.now e.value) s) { last_put = Some slot }

pub paid_stays : (what : Owed) (e : DeviceEntry) (slot : ℕ) (s t : DeviceState) (x : Situation) → is_rst what ≡ false → e.slot ≡ slot → t ≡ after_other what slot e s
    → Runs (after_paying what e s) x t x
paid_stays owed.Rst e slot s t x rst at is = absurd (cc)
paid_stays what e slot s t x rst at is = (ap (λ (n : ℕ). after_other what n e s) at ∙ sym is, refl)

pub record HoldsOf {X : Type 0} (o : Option X) (P : X → Type 0) : Type 0 where
  pub one : X
  pub is : o ≡ Some one
  pub holds : P one

pub some_and : {X : Type 0} (o : Option X) (P : X → Type 0) → IsSomeAnd o P → HoldsOf o P
some_and (Some x) P h = record { one = x; is = refl; holds = h }
some_and None P h = absurd h

pub mapped : {X Y : Type 0} (f : X → Y) (o : Option X) (y : Y) → Some y ≡ option_map f o → HoldsOf o (λ x. y ≡ f x)
mapped f (Some x) y is = record { one = x; is = refl; holds = cc }
mapped f None y is = absurd (cc)
