-- Calls that read nothing keep the account: those that make no use of the ring, and a send.
use Rattle.laws_tables.{proofs.{Adding.{number_put, got_over_put}, Slots.found_by, Goes.{Goes, ended_goes, stays_still}}, specs.Steps.payload_on}
use Rattle.std.proofs.Common.{◌≡◌, ℕ, ◌==◌, ◌&&◌, ◌||◌, not, cond, Bool, false, List, [], ◌∷◌, take, length, Some, refl, Contains, Result, Ok, Err, ◌∙◌, true, arith}
use Rattle.std.proofs.lemmas.{Grind.common_steps, List.Elements.All-filter}
use Rattle.vs_conn.specs.{End.{grown, is_open, with_payload_sent, with_shut, wanting_credit}, declared.end.State.State}
use Rattle.vs_flow.specs.Table.{IsTable}
use Rattle.laws_history.specs.{declared.packet.Packet.Packet, Packets.is_request}
use Rattle.vs_page.specs.{Fair.payload_got, Log.{Driver, Log}, declared.log.LogEntry.TheVariants.PutPacket}
use Rattle.vs_driver_parts.specs.{State.{DriverConnection, DriverEntry, DriverState, GoneConnection, entry_known_as, is_known_as}, Connections.after_close}
use Rattle.vs_driver_parts.specs.Connections.{after_closing, after_grow, after_shut, after_shutdown, after_unlisten, all_closed}
use Rattle.vs_driver_parts.specs.{Connections.{waiting_on}, declared.answers.{ListenError.ListenError}, Listening.after_accept}
use Rattle.vs_driver_parts.{specs.{Listening.listening, Held.with_connection_in}, proofs.Numbers.numbers_gone_without}
use Rattle.laws_driver.{specs.{Honest.{IsFitState, slots_of}, Carried.Received.{Account, AreReceived, EndsClean, ReceivedOn, keeps_all}}, proofs.{Calls.CarriesSend, Changing.close_changes}}
use Rattle.laws_driver.proofs.Calling.{close_to, grow_to, shutdown_to}
use Rattle.laws_driver.proofs.Carried.{Reading.given_none, Receiving.{changed_received, in_slots}}
use Rattle.vs_conn.specs.declared.end.State.TheVariants as state

-- Directions are shut, by a shutdown or a close.
shut_goes : (before aborted shut : Bool) (unread : List ℕ) → (not (aborted || shut) ≡ true → before ≡ true)
    → Goes before (not (aborted || shut)) unread (cond shut [] unread) [] []
shut_goes before aborted shut unread less = grind (arith, common_steps)

shut_keeps : (bits : ℕ) (c : DriverConnection) (closed : Bool) → (closed ≡ false → c.closed ≡ false) → let k = record (after_shut bits c) { closed = closed } in
    Goes (keeps_all c) (keeps_all k) c.unread k.unread [] [] × (EndsClean c → EndsClean k)
shut_keeps bits c closed unclosed = (
  shut_goes (keeps_all c) (closed && not (is_open (with_shut c.end bits).state)) (with_shut c.end bits).own.receive c.unread
      (λ is. grind (arith, common_steps, is, unclosed)),
  λ over on is. grind (arith, common_steps, over, unclosed, on, is),
)

module _ (a : Account) (log : Log) (s : DriverState) (x : AreReceived a log (slots_of s)) where
  -- A connection of the table changes, and no byte moves; and the driver puts a packet besides.
  pub alters : (e : DriverEntry) (c : DriverConnection) → IsTable s.table → Contains s.table.entries e → c.id ≡ e.value.id
      → Goes (keeps_all e.value) (keeps_all c) e.value.unread c.unread [] [] → (EndsClean e.value → EndsClean c)
      → AreReceived a log (with_connection_in e.slot c (slots_of s))
  alters e c sound there same goes over =
      changed_received a a.received log log e [] [] (λ id. given_none (id == e.value.id) (a.received id)) (λ k. given_none _ (payload_got Driver k log))
      (λ f. refl) ([], refl) (slots_of s) x sound there c same goes over

  pub puts_and_alters : (p : Packet) (e : DriverEntry) (c : DriverConnection) → is_request p ≡ false → IsTable s.table → Contains s.table.entries e
      → c.id ≡ e.value.id → Goes (keeps_all e.value) (keeps_all c) e.value.unread c.unread [] []
      → (EndsClean e.value → EndsClean c) → AreReceived a (PutPacket p ∷ log) (with_connection_in e.slot c (slots_of s))
  puts_and_alters p e c plain sound there same goes over =
      changed_received a a.received log (PutPacket p ∷ log) e [] [] (λ id. given_none (id == e.value.id) (a.received id))
      (λ k. got_over_put Driver p log k ∙ given_none _ (payload_got Driver k log))
      (λ f. number_put Driver p log f plain) (PutPacket p ∷ [], refl) (slots_of s) x sound there c same goes over

  -- shutdown.
  abbrev Keeps : DriverState → Type 0
  Keeps t = AreReceived a log (slots_of t)

  named : (id : ℕ) (e : DriverEntry) → entry_known_as id s ≡ Some e → Contains s.table.entries e
  named id e is = (found_by (is_known_as id) s.table.entries e is).0

  pub shutdown_received : (id bits : ℕ) → IsTable s.table → Keeps (after_shutdown id bits s)
  shutdown_received id bits sound =
      shutdown_to Keeps id s x bits (λ e is.
      let k = shut_keeps bits e.value e.value.closed (λ on. on) in alters e (after_shut bits e.value) sound (named id e is) refl k.0 k.1)

  -- grow.
  pub grow_received : (id alloc : ℕ) → IsTable s.table → Keeps (after_grow id alloc s)
  grow_received id alloc sound = grow_to Keeps id s x alloc (λ e is done.
      alters e (record e.value { end = grown e.value.end alloc }) sound (named id e is) refl
      (stays_still (keeps_all e.value) (keeps_all e.value) e.value.unread [] (λ on. on) (λ on. refl)) (λ over. over))

  -- close.
  closes : (st : State) (e : DriverEntry) → IsTable s.table → Contains s.table.entries e
      → AreReceived a log (with_connection_in e.slot (after_closing st e.value) (slots_of s))
  closes state.Live e sound there =
      let k = shut_keeps 3 e.value true (λ on. absurd cc) in alters e (after_closing state.Live e.value) sound there refl k.0 k.1
  closes st e sound there =
      alters e (after_closing st e.value) sound there refl (ended_goes (keeps_all e.value) e.value.unread) (λ over on. absurd cc)

  pub close_received : (id : ℕ) → IsTable s.table → Keeps (after_close id s)
  close_received id sound = close_to Keeps id s x (λ e is. closes e.value.end.state e sound (named id e is)) (λ g.
      let stays : GoneConnection → Bool = λ h. not (h.id == id) in
      in_slots a log (slots_of s) _ x refl (numbers_gone_without a.first_id s.next_port s.next_id s.table s.gone x.numbers stays) x.held
      (All-filter stays (ReceivedOn a log) s.gone x.left))

-- unlisten.
all_received : (a : Account) (log : Log) (ids : List ℕ) (s : DriverState) → IsFitState true s → AreReceived a log (slots_of s)
    → AreReceived a log (slots_of (all_closed ids s))
all_received a log [] s fits x = x
all_received a log (id ∷ ids) s fits x =
    all_received a log ids (after_close id s) (close_changes id s fits).fits (close_received a log s x id fits.sound)

pub unlisten_received : (a : Account) (log : Log) (port : ℕ) (s : DriverState) → IsFitState true s → AreReceived a log (slots_of s)
    → AreReceived a log (slots_of (after_unlisten port s))
unlisten_received a log port s fits x = all_received a log (waiting_on port s) s fits x

-- listen and accept change no slot.
pub listen_slots : (port : ℕ) (s : DriverState) (r : Result (Unit {0}) ListenError)
    → slots_of (elim r as (λ _. DriverState) [ Ok x ↦ listening port s | Err why ↦ s ]) ≡ slots_of s
listen_slots port s (Ok x) = refl
listen_slots port s (Err why) = refl

pub accept_slots : (port : ℕ) (s : DriverState) → slots_of (after_accept port s) ≡ slots_of s
accept_slots port s = grind (arith, common_steps)

-- send.
pub send_receives : (first id : ℕ) (bytes : List ℕ) (a : Account)
    → CarriesSend true true first id bytes (λ part t log. AreReceived a log (slots_of t)) (λ answer part t log. AreReceived a log (slots_of t))
send_receives first id bytes a = record {
  stopped = λ why s log x. x;
  unknown = λ s log none x. x;
  empty = λ s log x. x;
  full = λ n s log x. x;
  wants = λ e s log fits stands m x.
      alters a log s x e (record e.value { end = wanting_credit e.value.end }) fits.sound stands.contains refl
      (stays_still (keeps_all e.value) (keeps_all e.value) e.value.unread [] (λ on. on) (λ on. refl)) (λ over. over);
  sends = λ e n s log fits stands known can few m was fair x.
      puts_and_alters a log s x (payload_on Driver s.cid e.flow e.value.end (take n bytes)) e
      (record e.value { end = with_payload_sent e.value.end (length (take n bytes)) }) refl fits.sound stands.contains refl
      (stays_still (keeps_all e.value) (keeps_all e.value) e.value.unread [] (λ on. on) (λ on. refl)) (λ over. over);
}
