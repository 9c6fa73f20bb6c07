-- A connection by the id that the application knows it by.
use Rattle.std.{proofs.{Common.{◌≡◌, ℕ, true, not, Option, Some, None, refl, sym, ap, ◌∙◌, arith}, lemmas.Bool.Decides.nat_tests}, specs.Option.option_map}
use Rattle.vs_flow.{specs.Table.{IsTable, entry_under}, proofs.Entries.found_passes}
use Rattle.vs_driver_parts.specs.{State.{DriverEntry, DriverState, GoneConnection, is_known_as, entry_known_as, gone_known_as}, Listening.is_answered, Connections.close_of}
use Rattle.vs_driver_parts.specs.Connections.{is_known, after_close, entry_closed, shutdown_of, shut_answer, after_shutdown, shut_in, recv_of, entry_answer, after_grow}
use Rattle.vs_driver_parts.specs.Connections.{entry_grow_answer, grow_of, grown_by, gone_answer, unread_of_id, after_recv, entry_read, all_gone_after_read, flow_of}
use Rattle.vs_driver_parts.proofs.Ids.{found_under}
use Rattle.vs_driver_parts.specs.declared.answers.Closed.TheVariants as closed

pub record IsMapped {X Y : Type 0} (f : X → Y) (o : Option X) (y : Y) : Type 0 where
  pub from : X
  pub some : o ≡ Some from
  pub gives : f from ≡ y

pub some_inj : {X : Type 0} (x y : X) → Some x ≡ Some y → x ≡ y
some_inj x y e = cc

pub mapped : {X Y : Type 0} (f : X → Y) (o : Option X) (y : Y) → Some y ≡ option_map f o → IsMapped f o y
mapped f None y is = absurd (cc)
mapped f (Some x) y is = record { from = x; some = refl; gives = cc }

pub unmapped : {X Y : Type 0} (f : X → Y) (o : Option X) → None ≡ option_map f o → o ≡ None
unmapped f None is = refl
unmapped f (Some x) is = absurd (cc)

-- The connection that is known by an id stands in this slot.
pub record KnownAt (id slot : ℕ) (s : DriverState) : Type 0 where
  pub entry : DriverEntry
  pub known : entry_known_as id s ≡ Some entry
  pub found : entry_under s.table slot ≡ Some entry
  pub slot_is : entry.slot ≡ slot
  pub id_is : entry.value.id ≡ id

has_known_id : (id : ℕ) (e : DriverEntry) → is_known_as id e ≡ true → e.value.id ≡ id
has_known_id id e is = grind (arith, nat_tests, is)

pub known_at : (id slot : ℕ) (s : DriverState) → IsTable s.table → Some slot ≡ option_map (λ e. e.slot) (entry_known_as id s) → KnownAt id slot s
known_at id slot s sound is =
    let m = mapped (λ (e : DriverEntry). e.slot) (entry_known_as id s) slot is in
    let at = found_under (is_known_as id) s.table m.from sound m.some in
    record {
      entry = m.from;
      known = m.some;
      found = ap (λ (n : ℕ). entry_under s.table n) (sym m.gives) ∙ at;
      slot_is = m.gives;
      id_is = has_known_id id m.from (found_passes (is_known_as id) s.table.entries m.from m.some);
    }

-- What the calls on an id do to the connection that is known by it, and what they answer.
module _ (id : ℕ) (s : DriverState) (e : DriverEntry) (known : entry_known_as id s ≡ Some e) where
  pub close_known : close_of id s ≡ closed.Done
  close_known = rw (known, close_of, is_known) refl

  pub after_close_known : after_close id s ≡ entry_closed e s
  after_close_known = rw (known, after_close) refl

  pub shutdown_known : shutdown_of id s ≡ shut_answer e.value.end.state
  shutdown_known = rw (known, shutdown_of) refl

  pub after_shutdown_known : (bits : ℕ) → after_shutdown id bits s ≡ shut_in e.value.end.state bits e s
  after_shutdown_known bits = rw (known, after_shutdown) refl

  pub grow_known : (alloc : ℕ) → grow_of id alloc s ≡ entry_grow_answer alloc e
  grow_known alloc = rw (known, grow_of) refl

  pub after_grow_known : (alloc : ℕ) → after_grow id alloc s ≡ grown_by (entry_grow_answer alloc e) alloc e s
  after_grow_known alloc = rw (known, after_grow) refl

  pub recv_known : (n : ℕ) → recv_of id n s ≡ entry_answer n e
  recv_known n = rw (known, recv_of) refl

  pub unread_known : unread_of_id id s ≡ e.value.unread
  unread_known = rw (known, unread_of_id) refl

  pub after_recv_known : (n : ℕ) → after_recv id n s ≡ entry_read n e s
  after_recv_known n = rw (known, after_recv) refl

  pub flow_known : flow_of id s ≡ Some e.flow
  flow_known = rw (known, flow_of) refl

  pub answered_known : is_answered s id ≡ not e.value.unanswered
  answered_known = rw (known, is_answered) refl

module _ (id : ℕ) (s : DriverState) (unknown : entry_known_as id s ≡ None) where
  pub recv_gone_some : (n : ℕ) (g : GoneConnection) → gone_known_as id s ≡ Some g → recv_of id n s ≡ gone_answer n g
  recv_gone_some n g some = rw (unknown, some, recv_of) refl

  pub flow_gone : (g : GoneConnection) → gone_known_as id s ≡ Some g → flow_of id s ≡ Some g.flow
  flow_gone g some = rw (unknown, some, flow_of) refl

  pub after_recv_gone : (n : ℕ) → after_recv id n s ≡ record s { gone = all_gone_after_read id n s.gone }
  after_recv_gone n = rw (unknown, after_recv) refl

  pub unread_gone_some : (g : GoneConnection) → gone_known_as id s ≡ Some g → unread_of_id id s ≡ g.unread
  unread_gone_some g some = rw (unknown, some, unread_of_id) refl
