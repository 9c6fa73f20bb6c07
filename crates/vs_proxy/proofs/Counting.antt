-- How many connections may come and leave in the device's calls.
use Rattle.std.proofs.Common.{◌≡◌, ℕ, zero, suc, ◌+◌, ◌≤◌, Bool, true, false, cond, List, [], ◌∷◌, length, ◌==◌, Option, Some, None, refl, arith}
use Rattle.vs_contents.{specs.CallTree.{Done, bind, for_each, while_up_to}, proofs.Leads.{AllEnds, ends_bind, ends_weaker}}
use Rattle.vs_flow.specs.{Table.{entry_under, slots, refusal}, declared.flow.Flow.Flow}
use Rattle.vs_outside.specs.declared.host_net.StreamWrite.{StreamWrite}
use Rattle.vs_ring_port.specs.declared.device_ring.Next.{Next}
use Rattle.vs_wrap.specs.Wrap.{counted}
use Rattle.vs_device_parts.specs.Streams.{closing, leaving, tick_slot, tick_of, Writing, pump_of, pump_slot, write_answered, write_pending, shut_write, to_write, is_written_out}
use Rattle.vs_device_parts.specs.{Connections.{is_timed_out, cut_off, stream_closed, with_fault, after_leaving, keeping}, Calls.DeviceTree, State.{DeviceConnection, DeviceState}}
use Rattle.vs_device_parts.specs.{State.DeviceEntry, Receiving.{event_on, pay_event_of}, Turns.open_of}
use Rattle.vs_proxy_parts.specs.Turning.{CountsFew}
use Rattle.vs_outside.specs.declared.host_net.StreamWrite.TheVariants as write
use Rattle.vs_ring_port.specs.declared.device_ring.Next.TheVariants as next

pub one_more : (n : ℕ) → counted n ≤ n + 1
one_more n = omega arith

pub none_came : (s t : DeviceState) → t.opened ≡ s.opened → t.closed ≡ s.closed → CountsFew 0 0 s t
none_came s t o c = record { opened = omega (arith, o); closed = omega (arith, c) }

pub few_then : (a b x y : ℕ) (s t u : DeviceState) → CountsFew a b s t → CountsFew x y t u → CountsFew (a + x) (b + y) s u
few_then a b x y s t u f g = record { opened = omega (arith, f.opened, g.opened); closed = omega (arith, f.closed, g.closed) }

pub few_more : (a b x y : ℕ) (s t : DeviceState) → a ≤ x → b ≤ y → CountsFew a b s t → CountsFew x y s t
few_more a b x y s t la lb f = record { opened = omega (arith, f.opened, la); closed = omega (arith, f.closed, lb) }

-- what holds of each end of a conversation
abbrev pub Ends : {A : Type 0} → (A → Type 0) → DeviceTree A → Type 0
Ends P tree = AllEnds P tree

-- what is tested first
module _ {A : Type 0} (P : A → Type 0) where
  pub ends_if : (b : Bool) (then_ else_ : DeviceTree A) → Ends P then_ → Ends P else_ → Ends P (cond b then_ else_)
  ends_if true then_ else_ first second = first
  ends_if false then_ else_ first second = second

  pub ends_option : {X : Type 0} (o : Option X) (n : DeviceTree A) (s : X → DeviceTree A) → Ends P n → ((x : X) → Ends P (s x))
      → Ends P (elim o as (λ _. DeviceTree A) [ None ↦ n | Some x ↦ s x ])
  ends_option None n s at_none at_some = at_none
  ends_option (Some x) n s at_none at_some = at_some x

-- steps that keep a relation
module _ {A : Type 0} (R : A → A → Type 0) (same : (x : A) → R x x) (after : (x y z : A) → R x y → R y z → R x z) where
  pub keeps_bind : {B : Type 0} (S : B → Type 0) (p : DeviceTree A) (f : A → DeviceTree B) (x : A) → Ends (R x) p → ((y : A) → R x y → Ends S (f y)) → Ends S (bind p f)
  keeps_bind S p f x first rest = ends_bind S p f (ends_weaker (R x) (λ y. Ends S (f y)) rest p first)

  pub keeps_each : (step : ℕ → A → DeviceTree A) → ((i : ℕ) (x : A) → Ends (R x) (step i x)) → (is : List ℕ) (x : A) → Ends (R x) (for_each step is x)
  keeps_each step each [] x = same x
  keeps_each step each (i ∷ is) x =
      keeps_bind (R x) (step i x) (for_each step is) x (each i x) (λ y r. ends_weaker (R y) (R x) (λ z q. after x y z r q) (for_each step is y) (keeps_each step each is y))

  pub keeps_while : (step : A → DeviceTree (A × Bool)) → ((x : A) → Ends (λ r. R x r.0) (step x)) → (n : ℕ) (x : A) → Ends (R x) (while_up_to n step x)
  keeps_while step each zero x = same x
  keeps_while step each (suc n) x = ends_bind (R x) (step x) (λ r. elim r.1 [ true ↦ while_up_to n step r.0 | false ↦ Done r.0 ])
      (ends_weaker (λ r. R x r.0) (λ r. Ends (R x) (elim r.1 [ true ↦ while_up_to n step r.0 | false ↦ Done r.0 ])) (λ r q. by (keeps_while step each n) r.1 r.0 q) (step x) (each x))
    where
      by : ((y : A) → Ends (R y) (while_up_to n step y)) → (b : Bool) (y : A) → R x y → Ends (R x) (elim b as (λ _. DeviceTree A) [ true ↦ while_up_to n step y | false ↦ Done y ])
      by rest true y q = ends_weaker (R y) (R x) (λ z r. after x y z q r) (while_up_to n step y) (rest y)
      by rest false y q = q

-- nothing comes and nothing leaves
pub same_few : (s : DeviceState) → CountsFew 0 0 s s
same_few s = none_came s s refl refl

then_few : (s t u : DeviceState) → CountsFew 0 0 s t → CountsFew 0 0 t u → CountsFew 0 0 s u
then_few s t u f g = few_then 0 0 0 0 s t u f g

pub closing_few : (e : DeviceEntry) (f : DeviceConnection → DeviceConnection) (s : DeviceState) → Ends (CountsFew 0 0 s) (closing e f s)
closing_few e f s = ends_if _ e.value.closed _ _ (none_came s _ refl refl) (λ a. none_came s _ refl refl)

-- one leaves
pub leaving_few : (keep : Bool) (e : DeviceEntry) (s : DeviceState) → Ends (CountsFew 0 1 s) (leaving keep e s)
leaving_few keep e s = keeps_bind (CountsFew 0 0) same_few then_few (CountsFew 0 1 s) (closing e stream_closed s)
    (λ t. Done (keeping keep e.flow (after_leaving e.slot t))) s (closing_few e stream_closed s)
    (λ t f. record { opened = omega (arith, f.opened); closed = omega (arith, f.closed, one_more t.closed) })

-- timeouts
tick_slot_few : (slot : ℕ) (s : DeviceState) → Ends (CountsFew 0 0 s) (tick_slot slot s)
tick_slot_few slot s =
    ends_option _ (entry_under s.table slot) _ _ (same_few s)
    (λ e. ends_if _ (is_timed_out s.now e.value) _ _ (closing_few e cut_off s) (same_few s))

pub tick_few : (now : ℕ) (s : DeviceState) → Ends (CountsFew 0 0 s) (tick_of now s)
tick_few now s = ends_weaker (CountsFew 0 0 (record s { now = now })) (CountsFew 0 0 s) (λ t f. record { opened = f.opened; closed = f.closed }) (tick_of now s)
    (keeps_each (CountsFew 0 0) same_few then_few tick_slot tick_slot_few (slots s.table) (record s { now = now }))

-- writes
abbrev Wrote : Writing → Writing → Type 0
Wrote w x = CountsFew 0 0 w.state x.state

same_wrote : (w : Writing) → Wrote w w
same_wrote w = same_few w.state

then_wrote : (w x y : Writing) → Wrote w x → Wrote x y → Wrote w y
then_wrote w x y f g = then_few w.state x.state y.state f g

answered_few : (e : DeviceEntry) (a : StreamWrite) (w : Writing) → Ends (Wrote w) (write_answered e a w)
answered_few e (write.Took n) w = none_came w.state _ refl refl
answered_few e write.Again w = same_wrote w
answered_few e write.Closed w = none_came w.state _ refl refl
answered_few e write.Failed w = ends_bind (Wrote w) (closing e cut_off (with_fault w.state)) (λ s. Done (record w { state = s }))
    (ends_weaker (CountsFew 0 0 (with_fault w.state)) (CountsFew 0 0 w.state) (λ t f. record { opened = f.opened; closed = f.closed }) (closing e cut_off (with_fault w.state)) (closing_few e cut_off (with_fault w.state)))

pending_few : (e : DeviceEntry) (w : Writing) → Ends (Wrote w) (write_pending e w)
pending_few e w = ends_if _ (length (to_write e.value) == 0) _ _ (same_wrote w) (λ a. answered_few e a w)

shut_few : (slot : ℕ) (w : Writing) → Ends (Wrote w) (shut_write slot w)
shut_few slot w =
    ends_option _ (entry_under w.state.table slot) _ _ (same_wrote w)
    (λ e. ends_if _ (is_written_out e.value) _ _ (λ a. none_came w.state _ refl refl) (same_wrote w))

pump_slot_few : (slot : ℕ) (w : Writing) → Ends (Wrote w) (pump_slot slot w)
pump_slot_few slot w =
    ends_option _ (entry_under w.state.table slot) _ _ (same_wrote w) (λ e. ends_if _ e.value.closed _ _ (same_wrote w)
    (keeps_bind Wrote same_wrote then_wrote (Wrote w) (write_pending e w) (shut_write slot) w (pending_few e w)
    (λ x r. ends_weaker (Wrote x) (Wrote w) (λ y q. then_wrote w x y r q) (shut_write slot x) (shut_few slot x))))

pub pump_few : (s : DeviceState) → Ends (λ w. CountsFew 0 0 s w.state) (pump_of s)
pump_few s = keeps_each Wrote same_wrote then_wrote pump_slot pump_slot_few (slots s.table) (record { state = s; wrote = 0 })

-- the owed event
paid_few : (s : DeviceState) (a : Next) → Ends (λ r. CountsFew 0 0 s r.0) (event_on a s)
paid_few s (next.Chain chain) = λ a b. none_came s _ refl refl
paid_few s next.None = same_few s
paid_few s (next.Failed f) = none_came s _ refl refl

pub event_few : (s : DeviceState) → Ends (λ r. CountsFew 0 0 s r.0) (pay_event_of s)
event_few s = ends_option _ s.failed _ _ (ends_if _ s.event_owed _ _ (paid_few s) (same_few s)) (λ f. same_few s)

-- a client's connection
pub open_few : (flow : Flow) (stream : ℕ) (s : DeviceState) → Ends (λ r. CountsFew 1 0 s r.0) (open_of flow stream s)
open_few flow stream s =
    ends_option _ (refusal s.table flow) _ _ (λ a. record { opened = one_more s.opened; closed = omega arith })
    (λ fault. few_more 0 0 1 0 s s (omega arith) (omega arith) (same_few s))
