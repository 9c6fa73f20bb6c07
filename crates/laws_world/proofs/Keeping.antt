-- A fact of the driver's connections and of who waits, through each of the driver's steps and each call of the guest's: it is kept where small
-- changes keep it.
use Rattle.std.proofs.lemmas.Grind.{common_steps}
use Rattle.std.proofs.Common.{arith}
use Rattle.std.proofs.Common.{◌≡◌, ℕ, Bool, true, false, cond, List, [], ◌∷◌, ◌++◌, Option, Some, None, is_some, Result, Ok, Err, refl}
use Rattle.vs_conn.specs.{End.{ConnectionEnd, grown}, declared.end.{Owed.Owed, Verdict.Verdict}}
use Rattle.vs_flow.specs.{Table.{IsTable, Table, entry_under, without}, declared.flow.Flow.Flow}
use Rattle.vs_limits.specs.declared.TheConstants.{HOST_CID}
use Rattle.vs_header.specs.declared.Header.{Header}
use Rattle.laws_history.specs.declared.packet.Packet.{Packet}
use Rattle.vs_driver_parts.specs.{State.{DriverConnection, DriverEntry, DriverState, GoneConnection, Listener, entry_known_as, is_known_as}, Connections.after_close}
use Rattle.vs_driver_parts.specs.Connections.{after_closing, after_grow, after_leaving, after_recv, after_shut, after_shutdown}
use Rattle.vs_driver_parts.specs.Connections.{after_unlisten, all_closed, all_gone_after_read, gone_as, is_let_go, next_flow}
use Rattle.vs_driver_parts.specs.Connections.{paid_connection, waiting_on, waits_no_more, with_connection, with_end, with_opened, with_request, without_gone}
use Rattle.vs_driver_parts.specs.{Connections.without_listener, declared.answers.ListenError.ListenError, Receiving.after_packet}
use Rattle.vs_driver_parts.specs.Listening.{listen_of}
use Rattle.vs_driver_parts.{specs.Listening.{listener_on, listening, next_accepted, with_port, with_waiting, without_id}, proofs.Ids.found_under}
use Rattle.laws_driver.{specs.{Honest.IsFitState, Carried.Calls.{Accept, Close, Connect, Grow, GuestCall, Listen, LookAt, Recv, Send, Shutdown, Unlisten}}, proofs.Carrying.Carries}
use Rattle.laws_driver.proofs.Calling.{close_to, grow_to, recv_to, shutdown_to}
use Rattle.laws_driver.proofs.Sighting.{Small, poll_sees}
use Rattle.laws_driver.proofs.{Carrying.Fact, Changing.close_changes, Carried.Making.CarriesCall}
use Rattle.laws_world.proofs.Listeners.{AllIds}
use Rattle.vs_conn.specs.declared.end.Owed.TheVariants as owed
use Rattle.vs_conn.specs.declared.end.Verdict.TheVariants as verdict

-- A fact of the next id, of the table, of the connections that are gone and of who waits.
abbrev pub Sight : Type 1
Sight = ℕ → Table DriverConnection → List GoneConnection → List Listener → Type 0

abbrev pub Sees : Sight → DriverState → Type 0
Sees P s = P s.next_id s.table s.gone s.listeners

-- A connection keeps its id, is closed where it was, and is answered where it was.
pub record StaysSame (c d : DriverConnection) : Type 0 where
  pub id_is : d.id ≡ c.id
  pub closed_is : d.closed ≡ c.closed
  pub answered : c.unanswered ≡ false → d.unanswered ≡ false

abbrev pub gone_with : DriverEntry → List GoneConnection → List GoneConnection
gone_with e gone = cond (is_let_go e.value) gone (gone ++ gone_as e ∷ [])

-- The small changes keep it, where ids are closed that may be.
pub record IsKept (May : ℕ → Type 0) (P : Sight) : Type 0 where
  -- A connection of the table changes, and leaves it.
  pub changes : (s : DriverState) (e : DriverEntry) (c : DriverConnection) → entry_under s.table e.slot ≡ Some e → StaysSame e.value c
      → Sees P s → Sees P (with_connection e.slot c s)
  pub leaves : (s : DriverState) (e : DriverEntry) (c : DriverConnection) → entry_under s.table e.slot ≡ Some e → StaysSame e.value c
      → Sees P s → P s.next_id (without s.table e.slot) (gone_with (record e { value = c }) s.gone) s.listeners
  -- One opens, asked for by the guest, and by the host.
  pub opens : (s : DriverState) (f : Flow) (end : ConnectionEnd) → Sees P s → Sees P (with_opened f end false s)
  pub asks : (s : DriverState) (f : Flow) (h : Header) → Sees P s → Sees P (with_request f h s)
  -- Bytes are read of one that is gone.
  pub reads : (id n : ℕ) (s : DriverState) → Sees P s → P s.next_id s.table (all_gone_after_read id n s.gone) s.listeners
  -- An id waits no more; a port is listened on, and no more.
  pub less : (port id : ℕ) (s : DriverState) → Sees P s → P s.next_id s.table s.gone (with_waiting port (without_id id) s.listeners)
  pub listens : (port : ℕ) (s : DriverState) → Sees P s → P s.next_id s.table s.gone (with_port port s.listeners)
  pub unlistens : (port : ℕ) (s : DriverState) → Sees P s → P s.next_id s.table s.gone (without_listener port s.listeners)
  -- An id is closed, of the table and of one that is gone. Those that wait may be.
  pub closes : (id : ℕ) → May id → (s : DriverState) (e : DriverEntry) → IsTable s.table → entry_known_as id s ≡ Some e → Sees P s
      → Sees P (with_connection e.slot (after_closing e.value.end.state e.value) s)
  pub forgets : (id : ℕ) → May id → (s : DriverState) → Sees P s → P s.next_id s.table (without_gone id s.gone) s.listeners
  pub waiting : (port : ℕ) (s : DriverState) → Sees P s → AllIds May (waiting_on port s)

module _ {May : ℕ → Type 0} (P : Sight) (kept : IsKept May P) where
  leave_kept : (s : DriverState) (e : DriverEntry) (c : DriverConnection) → entry_under s.table e.slot ≡ Some e → StaysSame e.value c → Sees P s
      → Sees P (after_leaving (record e { value = c }) s)
  leave_kept s e c under same holds = by c.unanswered
    where
      left : DriverState
      left = record s { table = without s.table e.slot; gone = gone_with (record e { value = c }) s.gone }

      by : (b : Bool) → Sees P (record (cond b (waits_no_more (record e { value = c }) s) s) { table = left.table; gone = left.gone })
      by true = kept.less e.flow.guest c.id left (kept.leaves s e c under same holds)
      by false = kept.leaves s e c under same holds

  as_it_was : (c : DriverConnection) → StaysSame c c
  as_it_was c = record { id_is = refl; closed_is = refl; answered = λ is. is }

  end_kept : (end : ConnectionEnd) (e : DriverEntry) (s : DriverState) → entry_under s.table e.slot ≡ Some e → Sees P s → Sees P (with_end end e s)
  end_kept end e s under holds =
      kept.changes s e (record e.value { end = end }) under (record { id_is = refl; closed_is = refl; answered = λ is. is }) holds

  -- A packet leaves a connection's id, and whether it is closed and answered.
  heard_same : (v : Verdict) (p : Packet) (c : DriverConnection) → StaysSame c (after_packet v p c)
  heard_same verdict.Deliver p c = record { id_is = refl; closed_is = refl; answered = λ is. is }
  heard_same v p c = record { id_is = refl; closed_is = refl; answered = λ is. is }

  pay_kept : (what : Owed) (e : DriverEntry) (s : DriverState) → entry_under s.table e.slot ≡ Some e → Sees P s
      → Sees P (with_connection e.slot (paid_connection what e.value) s)
  pay_kept what e s under holds = grind (arith, common_steps)

  pub small_kept : Small (λ port. P)
  small_kept = record {
    pays = λ what e s stands owes holds. pay_kept what e s stands.under holds;
    hears = λ v p e s stands is holds. kept.changes s e (after_packet v p e.value) stands.under (heard_same v p e.value) holds;
    leaves = λ e s sound stands holds. leave_kept s e e.value stands.under (as_it_was e.value) holds;
    ends = λ p e s sound stands holds. leave_kept s e (after_packet verdict.Peer p e.value) stands.under (heard_same verdict.Peer p e.value) holds;
    asks = λ f h s may holds. kept.asks s f h holds;
  }

  -- recv, shutdown, grow, close and unlisten.
  recv_kept : (id n : ℕ) (s : DriverState) → IsTable s.table → Sees P s → Sees P (after_recv id n s)
  recv_kept id n s sound holds = grind (arith, common_steps, recv_to, found_under)

  shutdown_kept : (id bits : ℕ) (s : DriverState) → IsTable s.table → Sees P s → Sees P (after_shutdown id bits s)
  shutdown_kept id bits s sound holds = shutdown_to (Sees P) id s holds bits (λ e is.
      kept.changes s e (after_shut bits e.value) (found_under (is_known_as id) s.table e sound is) (record { id_is = refl; closed_is = refl; answered = λ is. is }) holds)

  grow_kept : (id alloc : ℕ) (s : DriverState) → IsTable s.table → Sees P s → Sees P (after_grow id alloc s)
  grow_kept id alloc s sound holds =
      grow_to (Sees P) id s holds alloc (λ e is done. end_kept (grown e.value.end alloc) e s (found_under (is_known_as id) s.table e sound is) holds)

  close_kept : (id : ℕ) → May id → (s : DriverState) → IsTable s.table → Sees P s → Sees P (after_close id s)
  close_kept id may s sound holds = close_to (Sees P) id s holds
      (λ e is. kept.less e.flow.guest e.value.id (with_connection e.slot (after_closing e.value.end.state e.value) s) (kept.closes id may s e sound is holds))
      (λ g. kept.less g.flow.guest id (record s { gone = without_gone id s.gone }) (kept.forgets id may s holds))

  closes_kept : (ids : List ℕ) → AllIds May ids → (s : DriverState) → IsFitState true s → Sees P s → Sees P (all_closed ids s)
  closes_kept [] may s fits holds = holds
  closes_kept (id ∷ ids) may s fits holds =
      closes_kept ids may.1 (after_close id s) (close_changes id s fits).fits (close_kept id may.0 s fits.sound holds)

  unlisten_kept : (b : Bool) (port : ℕ) (s : DriverState) → IsFitState true s → Sees P s
      → Sees P (elim b as (λ _. DriverState) [ true ↦ after_unlisten port s | false ↦ s ])
  unlisten_kept true port s fits holds = kept.unlistens port (all_closed (waiting_on port s) s) (closes_kept (waiting_on port s) (kept.waiting port s holds) s fits holds)
  unlisten_kept false port s fits holds = holds

  listen_kept : (o : Result (Unit {0}) ListenError) (port : ℕ) (s : DriverState) → Sees P s
      → Sees P (elim o as (λ _. DriverState) [ Ok x ↦ listening port s | Err why ↦ s ])
  listen_kept (Ok x) port s holds = kept.listens port s holds
  listen_kept (Err why) port s holds = holds

  accept_kept : (o : Option ℕ) (port : ℕ) (s : DriverState) → Sees P s
      → Sees P (elim o as (λ _. DriverState) [ None ↦ s | Some id ↦ record s { listeners = with_waiting port (without_id id) s.listeners } ])
  accept_kept None port s holds = holds
  accept_kept (Some id) port s holds = kept.less port id s holds

-- The id that a call closes may be closed.
abbrev pub MayMake : (ℕ → Type 0) → GuestCall → Type 0
MayMake May (Close id) = May id
MayMake May _ = Unit {0}

-- Facts of which each holds where it held at first.
module _ {I : Type 0} (P : I → Sight) (May : I → ℕ → Type 0) (kept : (i : I) → IsKept (May i) (P i)) (start : I → Type 0) where
  abbrev pub AllKept : Fact
  AllKept part s log = (i : I) → start i → Sees (P i) s

  pub poll_kept : (first : ℕ) → Carries true true first AllKept
  poll_kept first =
      let seen = λ (i : I). poll_sees (λ port. P i) (small_kept (P i) (kept i)) first in
      record {
        owed = λ what e s log fits stands owes m was fair held i x. (seen i).owed what e s log fits stands owes m was fair (held i x);
        reply = λ r rest s log fits is m fair held. held;
        got = λ p s log fits ports whole m was fair held i x. (seen i).got p s log fits ports whole m was fair (held i x);
        event = λ id s log held. held;
        reset = λ cid s log less fits held i x. (seen i).reset cid s log less fits (held i x);
      }

  pub call_kept : (first : ℕ) (call : GuestCall) → ((i : I) → start i → MayMake (May i) call) → CarriesCall first call AllKept (λ reply. AllKept)
  call_kept first (Connect port) may = record {
    refused = λ why s log held. held;
    opens = λ s log fits free m was fair held i x. (kept i).opens s (next_flow HOST_CID port s) _ (held i x);
  }
  call_kept first (Send id bytes) may = record {
    stopped = λ why s log held. held;
    unknown = λ s log none held. held;
    empty = λ s log held. held;
    full = λ n s log held. held;
    wants = λ e s log fits stands m held i x. end_kept (P i) (kept i) _ e s stands.under (held i x);
    sends = λ e n s log fits stands known can few m was fair held i x. end_kept (P i) (kept i) _ e s stands.under (held i x);
  }
  call_kept first (Listen port) may = λ s log fits m held i x. listen_kept (P i) (kept i) (listen_of port s) port s (held i x)
  call_kept first (Unlisten port) may = λ s log fits m held i x.
      unlisten_kept (P i) (kept i) (is_some (listener_on port s.listeners)) port s fits (held i x)
  call_kept first (Accept port) may = λ s log fits m held i x. accept_kept (P i) (kept i) (next_accepted port s) port s (held i x)
  call_kept first (Recv id n) may = λ s log fits m held i x. recv_kept (P i) (kept i) id n s fits.sound (held i x)
  call_kept first (Shutdown id bits) may = λ s log fits m held i x. shutdown_kept (P i) (kept i) id bits s fits.sound (held i x)
  call_kept first (Grow id alloc) may = λ s log fits m held i x. grow_kept (P i) (kept i) id alloc s fits.sound (held i x)
  call_kept first (Close id) may = λ s log fits m held i x. close_kept (P i) (kept i) id (may i x) s fits.sound (held i x)
  call_kept first (LookAt id) may = λ s log fits m held. held
