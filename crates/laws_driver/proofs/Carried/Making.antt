-- The guest's calls on the pages as they stand: what each carries to its end.
use Rattle.std.proofs.Common.{◌≡◌, ℕ, ◌≤◌, ◌<◌, ◌^◌, Bool, true, false, List, [], ◌++◌, Result, Ok, Err, is_some, refl, sym, ap, subst, ◌∙◌, append-nil, arith}
use Rattle.std.proofs.{Math.Path.fun_ext, lemmas.{Bool.Decides.nat_tests, Grind.common_steps}}
use Rattle.vs_contents.specs.CallTree.{Ask, Done}
use Rattle.vs_flow.specs.Connection.{Connection}
use Rattle.vs_limits.specs.declared.TheConstants.{HOST_CID}
use Rattle.vs_header.specs.declared.Kind.TheVariants.{Stream}
use Rattle.vs_page.{specs.{Fair.payload_put, Log.{Driver, Log}}, proofs.PayloadLogs.put_none}
use Rattle.vs_ring_port.specs.Contents.{RingContents}
use Rattle.laws_tables.{specs.{Both.Seat, Matches.Matches, Steps.request_on}, proofs.Going.goes_then}
use Rattle.vs_driver_parts.specs.{Connections.{after_unlisten, close_of, grow_of, next_flow, recv_of, shutdown_of, state_of, unread_of_id}, Listening.{accept_of, listen_of}}
use Rattle.vs_driver_parts.specs.{Listening.{listener_on, listening}, declared.answers.ListenError.ListenError, Conversations.DriverTree, Held.HeldSlots, State.DriverState}
use Rattle.laws_driver.proofs.Changing.{Changes, accept_changes, close_changes, grow_changes, listen_changes, recv_changes, same, shutdown_changes, unlisten_changes}
use Rattle.laws_driver.proofs.{Calls.{CarriesConnect, CarriesSend, changed_rests, connect_keeps, send_keeps, connects_with, sends_with}, Walking.{connect_goes, goes_from}}
use Rattle.laws_driver.proofs.{Walking.send_goes, Carrying.{Fact, Holds}, Keeping.Keeps, Staging.Rests, Carried.Changing.{accept_slots, listen_slots}}
use Rattle.laws_driver.proofs.Carried.{Changing.{close_received, grow_received, send_receives, shutdown_received, unlisten_received}, Connecting.connect_carries, Polling.Further}
use Rattle.laws_driver.{proofs.Carried.{Polling.IsFurther, Reading.{given_none, recv_received}}, specs.{Honest.{IsFitState, ends_of_state, slots_of}, Carried.Calls.GuestCall}}
use Rattle.laws_driver.specs.Carried.Calls.{ReplyTo, Connect, Listen, Unlisten, Accept, Send, Recv, Shutdown, Grow, Close, LookAt, Journal, account_of, id_named, is_right}
use Rattle.laws_driver.specs.Carried.{Calls.{makes_call, names, received_by, sent_of, whole_call, with_call}, Received.{Account, AreReceived, GoesOn, bytes_got, with_received}}
use Rattle.laws_driver.proofs.Carried.Sending as sending

-- A conversation that makes no call on the ring.
abbrev pub AtOnce : {A : Type 0} → (A → Type 0) → DriverTree A → Type 0
AtOnce P (Done x) = P x
AtOnce P (Ask call next) = ⊥

abbrev pub CarriesCall : ℕ → (call : GuestCall) → Fact → (ReplyTo call → Fact) → Type 0
CarriesCall first (Connect port) before after = CarriesConnect true true first HOST_CID port before after
CarriesCall first (Send id bytes) before after = CarriesSend true true first id bytes before after
CarriesCall first call before after = (s : DriverState) (log : Log) → IsFitState true s → Matches Driver first (ends_of_state s) log → Holds before s log
    → AtOnce (λ x. Holds (after x.1) x.0 log) (makes_call call s)

pub port_fits : (port : ℕ) → is_right (Connect port) ≡ true → port < 2 ^ 32
port_fits port right = grind (arith, nat_tests, right)

listened : (port : ℕ) (s : DriverState) → IsFitState true s → (r : Result (Unit {0}) ListenError)
    → Changes true s (elim r as (λ _. DriverState) [ Ok x ↦ listening port s | Err why ↦ s ])
listened port s fits (Ok x) = listen_changes port s fits
listened port s fits (Err why) = same s fits

unlistened : (port : ℕ) (s : DriverState) → IsFitState true s → (b : Bool)
    → Changes true s (elim b as (λ _. DriverState) [ true ↦ after_unlisten port s | false ↦ s ])
unlistened port s fits true = unlisten_changes port s fits
unlistened port s fits false = same s fits

module _ (first : ℕ) (s : DriverState) (c : RingContents) where
  pub made_with : (call : GuestCall) (before : Fact) (after : ReplyTo call → Fact) → is_right call ≡ true → CarriesCall first call before after
      → Rests true true first before s c → Keeps (λ x d. Rests true true first (after x.1) x.0 d) (makes_call call s) c
  made_with (Connect port) before after right steps rests = connects_with true true first HOST_CID port before after steps (omega arith) (port_fits port right) (λ all. refl) s c rests
  made_with (Send id bytes) before after right steps rests = sends_with true true first id bytes before after steps s c rests
  made_with (Listen port) before after right steps rests =
      changed_rests true true first before (after (listen_of port s)) s _ c (λ fits. listened port s fits (listen_of port s)) (steps s) rests
  made_with (Unlisten port) before after right steps rests =
      let found : Bool = is_some (listener_on port s.listeners) in
      changed_rests true true first before (after found) s _ c (λ fits. unlistened port s fits found) (steps s) rests
  made_with (Accept port) before after right steps rests =
      changed_rests true true first before (after (accept_of port s)) s _ c (accept_changes port s) (steps s) rests
  made_with (Recv id n) before after right steps rests =
      changed_rests true true first before (after (recv_of id n s, bytes_got (recv_of id n s) (unread_of_id id s))) s _ c (recv_changes id n s) (steps s) rests
  made_with (Shutdown id bits) before after right steps rests =
      changed_rests true true first before (after (shutdown_of id s)) s _ c (shutdown_changes id bits s) (steps s) rests
  made_with (Grow id alloc) before after right steps rests =
      changed_rests true true first before (after (grow_of id alloc s)) s _ c (grow_changes id alloc s) (steps s) rests
  made_with (Close id) before after right steps rests =
      changed_rests true true first before (after (close_of id s)) s _ c (close_changes id s) (steps s) rests
  made_with (LookAt id) before after right steps rests = changed_rests true true first before (after (state_of id s)) s s c (same s) (steps s) rests

  -- The same of the whole call.
  pub whole_with : (call : GuestCall) (before : Fact) (after : ReplyTo call → Fact) → is_right call ≡ true → CarriesCall first call before after
      → Rests true true first before s c → Keeps (λ x d. Rests true true first (after x.1) x.0 d) (whole_call call s) c
  whole_with (Connect port) before after right steps rests = connect_keeps true true first HOST_CID port before after steps (omega arith) (port_fits port right) (λ all. refl) s c rests
  whole_with (Send id bytes) before after right steps rests = send_keeps true true first id bytes before after steps s c rests
  whole_with call before after right steps rests = made_with call before after right steps rests

-- Steps of the driver's seat.
pub call_goes : (first : ℕ) (w : Seat) (call : GuestCall) → is_right call ≡ true → CarriesCall first call (goes_from w) (λ reply. goes_from w)
call_goes first w (Connect port) right = connect_goes true first w HOST_CID port (omega arith) (port_fits port right) (λ all. refl)
call_goes first w (Send id bytes) right = send_goes true first w id bytes
call_goes first w (Listen port) right = λ s log fits m goes. goes_then Driver _ _ _ goes ((listened port s fits (listen_of port s)).goes first log m)
call_goes first w (Unlisten port) right =
    λ s log fits m goes. goes_then Driver _ _ _ goes ((unlistened port s fits (is_some (listener_on port s.listeners))).goes first log m)
call_goes first w (Accept port) right = λ s log fits m goes. goes_then Driver _ _ _ goes ((accept_changes port s fits).goes first log m)
call_goes first w (Recv id n) right = λ s log fits m goes. goes_then Driver _ _ _ goes ((recv_changes id n s fits).goes first log m)
call_goes first w (Shutdown id bits) right = λ s log fits m goes. goes_then Driver _ _ _ goes ((shutdown_changes id bits s fits).goes first log m)
call_goes first w (Grow id alloc) right = λ s log fits m goes. goes_then Driver _ _ _ goes ((grow_changes id alloc s fits).goes first log m)
call_goes first w (Close id) right = λ s log fits m goes. goes_then Driver _ _ _ goes ((close_changes id s fits).goes first log m)
call_goes first w (LookAt id) right = λ s log fits m goes. goes

-- The account: a receive gives bytes.
abbrev pub account_after : (call : GuestCall) → ReplyTo call → Account → Account
account_after (Recv id n) reply a = with_received id reply.1 a
account_after _ reply a = a

send_further : (first id : ℕ) (bytes : List ℕ) (a : Account) → CarriesSend true true first id bytes (Further a) (λ answer. Further a)
send_further first id bytes a = record {
  stopped = λ why s log x. x;
  unknown = λ s log none x. x;
  empty = λ s log x. x;
  full = λ n s log x. x;
  wants = λ e s log fits stands m x. (x.0, x.1, (send_receives first id bytes x.0).wants e s log fits stands m x.2);
  sends = λ e n s log fits stands known can few m was fair x.
      (x.0, x.1, (send_receives first id bytes x.0).sends e n s log fits stands known can few m was fair x.2);
}

gives : (a b : Account) (id : ℕ) (bytes : List ℕ) → GoesOn a b → GoesOn (with_received id bytes a) (with_received id bytes b)
gives a b id bytes on = grind (arith, common_steps)

pub call_received : (first : ℕ) (call : GuestCall) (a : Account) → CarriesCall first call (Further a) (λ reply. Further (account_after call reply a))
call_received first (Connect port) a = connect_carries first port a
call_received first (Send id bytes) a = send_further first id bytes a
call_received first (Recv id n) a = λ s log fits m x. (_, gives a x.0 id _ x.1, recv_received x.0 log id n s fits.sound x.2)
call_received first (Shutdown id bits) a = λ s log fits m x. (x.0, x.1, shutdown_received x.0 log s x.2 id bits fits.sound)
call_received first (Grow id alloc) a = λ s log fits m x. (x.0, x.1, grow_received x.0 log s x.2 id alloc fits.sound)
call_received first (Close id) a = λ s log fits m x. (x.0, x.1, close_received x.0 log s x.2 id fits.sound)
call_received first (LookAt id) a = λ s log fits m x. x
call_received first (Listen port) a = λ s log fits m x.
    subst (λ (slots : HeldSlots). IsFurther a slots log) (sym (listen_slots port s (listen_of port s))) x
call_received first (Unlisten port) a = λ s log fits m x. by s log fits x (is_some (listener_on port s.listeners))
  where
    by : (s : DriverState) (log : Log) → IsFitState true s → IsFurther a (slots_of s) log → (b : Bool)
        → IsFurther a (slots_of (elim b as (λ _. DriverState) [ true ↦ after_unlisten port s | false ↦ s ])) log
    by s log fits x true = (x.0, x.1, unlisten_received x.0 log port s fits x.2)
    by s log fits x false = x
call_received first (Accept port) a = λ s log fits m x. subst (λ (slots : HeldSlots). IsFurther a slots log) (sym (accept_slots port s)) x

-- The payload put.
module _ (first : ℕ) (s : DriverState) (log : Log) where
  -- Nothing happened so far.
  abbrev pub at_first : Fact
  at_first part slots now = (slots.table ≡ s.table) × (now ≡ log)

  abbrev pub sent_with : (call : GuestCall) → ReplyTo call → Fact
  sent_with call reply part slots now = (c : Connection) → payload_put Driver c now ≡ payload_put Driver c log ++ sent_of call reply s log c

  still : (now : Log) → now ≡ log → (c : Connection) → payload_put Driver c now ≡ payload_put Driver c log ++ []
  still now is c = ap (payload_put Driver c) is ∙ sym (append-nil (payload_put Driver c log))

  pub call_sent : (call : GuestCall) → CarriesCall first call at_first (sent_with call)
  call_sent (Connect port) = record {
    refused = λ why t now held. still now held.1;
    opens = λ t now fits free m was fair held c.
        put_none Driver now (request_on Driver t.cid (next_flow HOST_CID port t) Stream) c refl ∙ still now held.1 c;
  }
  call_sent (Send id bytes) = sending.send_puts first id bytes s log
  call_sent call = λ t now fits m held. still now held.1

-- An account that goes on, with what was received as it is said otherwise.
pub further_as : (a b : Account) (r : ℕ → List ℕ) (log : Log) (slots : HeldSlots) → GoesOn a b → ((id : ℕ) → a.received id ≡ r id) → AreReceived b log slots
    → AreReceived (record { first_id = a.first_id; opened = b.opened; received = r }) log slots
further_as a b r log slots on same x =
    subst (λ (q : ℕ → List ℕ). AreReceived (record { first_id = a.first_id; opened = b.opened; received = q }) log slots)
    (fun_ext (λ id. on.received id ∙ same id))
    (subst (λ (n : ℕ). AreReceived (record { first_id = n; opened = b.opened; received = b.received }) log slots) on.first_id x)

-- What a journal says was received, once a call was made.
pub journal_as : (first_id : ℕ) (opened : ℕ → Connection) (journal : Journal) (call : GuestCall) (s : DriverState) (reply : ReplyTo call) (id : ℕ)
    → (account_after call reply (account_of first_id opened journal)).received id ≡ received_by id (with_call call s reply journal)
journal_as first_id opened journal (Recv other n) s reply id = refl
journal_as first_id opened journal call s reply id = given_none (names id (id_named call s)) (received_by id journal)

pub after_same : (call : GuestCall) (reply : ReplyTo call) (a : Account)
    → ((account_after call reply a).first_id ≡ a.first_id) × ((account_after call reply a).opened ≡ a.opened)
after_same (Recv id n) reply a = (refl, refl)
after_same _ reply a = (refl, refl)

-- So the account is right that the journal comes to with the call.
pub further_journal : (first_id : ℕ) (opened : ℕ → Connection) (journal : Journal) (call : GuestCall) (s : DriverState) (reply : ReplyTo call) (slots : HeldSlots)
    (log : Log) → IsFurther (account_after call reply (account_of first_id opened journal)) slots log
    → (now : ℕ → Connection) × ((id : ℕ) → 1 ≤ (opened id).number → now id ≡ opened id)
    × AreReceived (account_of first_id now (with_call call s reply journal)) log slots
further_journal first_id opened journal call s reply slots log x =
    let a : Account = account_of first_id opened journal in
    let same = after_same call reply a in (
      x.0.opened,
      λ id some. x.1.opened id (subst (λ (o : ℕ → Connection). 1 ≤ (o id).number) (sym same.1) some) ∙ ap (λ (o : ℕ → Connection). o id) same.1,
      subst (λ (n : ℕ). AreReceived (account_of n x.0.opened (with_call call s reply journal)) log slots) same.0
          (further_as (account_after call reply a) x.0 _ log slots x.1 (journal_as first_id opened journal call s reply) x.2),
    )
