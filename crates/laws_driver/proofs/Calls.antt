-- What each call of the driver keeps over an honest ring.
use Rattle.std.proofs.Common.{◌≡◌, ℕ, ◌+◌, ◌<◌, ◌≤◌, ◌^◌, ◌==◌, Bool, true, false, cond, min, List, [], ◌∷◌, length, take, Option, Some, None, Result, Ok, Err, refl, sym, ap, ◌∙◌}
use Rattle.std.proofs.{Common.{subst, ◌&&◌, arith}, lemmas.{Bool.Decides.nat_tests, Grind.common_steps}}
use Rattle.vs_contents.specs.CallTree.{Done, Ask, bind}
use Rattle.vs_conn.specs.{End.{CanSend, may_send_of, wanting_credit, with_payload_sent}, declared.end.Stop.Stop}
use Rattle.vs_flow.specs.Table.{IsTable}
use Rattle.vs_header.specs.declared.Kind.TheVariants.{Stream}
use Rattle.vs_page.specs.{Log.{Driver, Log}, Fair.IsFairLog, declared.{log.LogEntry.TheVariants.PutPacket, page.TheConstants.PAYLOAD_MAX}}
use Rattle.vs_ring_port.specs.{declared.queue.Queue.{TheVariants.{Rx, Tx, Event}, Queue}, Contents.RingContents, EndLog.{EndLog, entries_marked, log_loaded, log_published, log_staged}}
use Rattle.vs_ring_port.specs.DriverCalls.{Publish}
use Rattle.laws_tables.{specs.{Ends.Ends, Matches.Matches, Steps.{payload_on, request_on}}}
use Rattle.vs_driver_parts.specs.Conversations.{DriverTree, connect_to, connect_with_page, has_page, load_cid, new_of, new_state, no_credit, not_sent, one_more_in_flight}
use Rattle.vs_driver_parts.specs.Conversations.{payload_bytes, payload_of, poll_of, post_all, post_events, post_one, post_packet, posts, publish_of, reap_all, request_bytes}
use Rattle.vs_driver_parts.specs.{Conversations.{send_of, send_stopped, send_with_page, stage_of}, Connections.{connect_refusal, connected, next_flow}}
use Rattle.vs_driver_parts.specs.{declared.answers.{ConnectError.ConnectError, Polled.Polled, Sent.Sent}, Playing.{MayPublishAll, Plays}, State.{DriverEntry, DriverState}}
use Rattle.vs_driver_parts.{specs.{State.entry_known_as, Steps.sends}, proofs.Clean.none_clean}
use Rattle.vs_limits.specs.declared.TheConstants.{HOST_CID, LAST_PORT}
use Rattle.laws_driver.{specs.{Honest.{AgreesWith, IsFitState, IsFresh, IsHonestWith, ends_of_state}, Staged.IsLeft}, proofs.Polling.{not_tx_event, not_tx_rx, poll_keeps}}
use Rattle.laws_driver.proofs.{Changing.{Changes, stands_known, wanting_changes}, Keeping.{Keeps, keeps_bind, keeps_end, keeps_may, keeps_weaker, keeps_while}, Ringing.{Given, RestsAs}}
use Rattle.laws_driver.proofs.{Ringing.{Tells, agrees, at_rest, moves, tells_weaker}, Carrying.{Fact, Holds, RestsWith, carries_nothing}}
use Rattle.laws_driver.proofs.{Carrying.nothing, Staging.{Rests, SameBut, post_tx, reap_keeps}, Putting.{connect_puts, send_puts}, Tabling.{Stands, fits_weaker}}
use Rattle.vs_driver_parts.specs.declared.answers.ConnectError.TheVariants as refused
use Rattle.vs_driver_parts.specs.declared.answers.Sent.TheVariants as sent
use Rattle.vs_driver_parts.specs.Connections as connections

pub rests_of : (hosts : Bool) (first : ℕ) (s : DriverState) (c : RingContents) → IsHonestWith hosts first s c → Rests true hosts first nothing s c
rests_of hosts first s c honest = tells_weaker true (AgreesWith hosts first s) (RestsWith true hosts first nothing s) (λ l kept. (at_rest hosts first s l kept, tt)) c honest

pub honest_of : (hosts : Bool) (first : ℕ) (fact : Fact) (s : DriverState) (c : RingContents) → Rests true hosts first fact s c → IsHonestWith hosts first s c
honest_of hosts first fact s c rests = tells_weaker true (RestsWith true hosts first fact s) (AgreesWith hosts first s) (λ l rest. agrees hosts first s l rest.0) c rests

-- A step that puts and gets nothing.
changed_left : (fairly hosts : Bool) (first : ℕ) (s t : DriverState) (log : Log) → Changes hosts s t
    → Given fairly (IsLeft hosts first s.broken (ends_of_state s) [] log) → Given fairly (IsLeft hosts first t.broken (ends_of_state t) [] log)
changed_left fairly hosts first s t log step left = grind (arith, common_steps)

given_matches : (fairly hosts : Bool) (first broken : ℕ) (part : Ends) (log : Log) → Given fairly (IsLeft hosts first broken part [] log)
    → Given fairly (Matches Driver first part log)
given_matches true hosts first broken part log left = left.matches
given_matches false hosts first broken part log left = tt

-- It carries one fact to another.
pub changed_rests : (fairly hosts : Bool) (first : ℕ) (before after : Fact) (s t : DriverState) (c : RingContents) → (IsFitState hosts s → Changes hosts s t)
    → ((log : Log) → IsFitState hosts s → Given fairly (Matches Driver first (ends_of_state s) log) → Holds before s log → Holds after t log)
    → Rests fairly hosts first before s c → Rests fairly hosts first after t c
changed_rests fairly hosts first before after s t c step carries rests =
    tells_weaker fairly (RestsWith fairly hosts first before s) (RestsWith fairly hosts first after t)
    (λ l rest. let go = step rest.0.0 in (
      (go.fits, changed_left fairly hosts first s t l.entries go rest.0.1, rest.0.2),
      carries l.entries rest.0.0 (given_matches fairly hosts first s.broken (ends_of_state s) l.entries rest.0.1) rest.1,
    )) c rests

pub still_honest : (hosts : Bool) (first : ℕ) (s t : DriverState) (c : RingContents) → (IsFitState hosts s → Changes hosts s t)
    → IsHonestWith hosts first s c → IsHonestWith hosts first t c
still_honest hosts first s t c step honest =
    honest_of hosts first nothing t c (changed_rests true hosts first nothing nothing s t c step (λ log fits m held. tt) (rests_of hosts first s c honest))

-- A connect carries one fact to another, by its answer: where it is refused, and where its REQUEST is put.
pub record CarriesConnect (fairly hosts : Bool) (first peer to : ℕ) (before : Fact) (after : Result ℕ ConnectError → Fact) : Type 0 where
  pub refused : (why : ConnectError) (s : DriverState) (log : Log) → Holds before s log → Holds (after (Err why)) s log
  pub opens : (s : DriverState) (log : Log) → let p = request_on Driver s.cid (next_flow peer to s) Stream in
      IsFitState hosts s → connect_refusal peer to s ≡ None → Given fairly (Matches Driver first (ends_of_state s) log)
      → Given fairly (IsFairLog Driver log) → Given fairly (IsFairLog Driver (PutPacket p ∷ log)) → Holds before s log → Holds (after (Ok s.next_id)) (connected peer to s) (PutPacket p ∷ log)

-- The same of a send: where nothing goes, where credit is wanted, and where payload is put.
pub record CarriesSend (fairly hosts : Bool) (first id : ℕ) (bytes : List ℕ) (before : Fact) (after : Sent → Fact) : Type 0 where
  pub stopped : (why : Stop) (s : DriverState) (log : Log) → Holds before s log → Holds (after (send_stopped why)) s log
  pub unknown : (s : DriverState) (log : Log) → entry_known_as id s ≡ None → Holds before s log → Holds (after (not_sent id s)) s log
  pub empty : (s : DriverState) (log : Log) → Holds before s log → Holds (after (sent.Took 0)) s log
  pub full : (n : ℕ) (s : DriverState) (log : Log) → Holds before s log → Holds (after (sent.NoDescriptor n)) s log
  pub wants : (e : DriverEntry) (s : DriverState) (log : Log) → IsFitState hosts s → Stands s e → Given fairly (Matches Driver first (ends_of_state s) log)
      → Holds before s log → Holds (after (no_credit e.value.end)) (connections.with_end (wanting_credit e.value.end) e s) log
  pub sends : (e : DriverEntry) (n : ℕ) (s : DriverState) (log : Log) → let payload = take n bytes in
      let p = payload_on Driver s.cid e.flow e.value.end payload in
      IsFitState hosts s → Stands s e → entry_known_as id s ≡ Some e → CanSend e.value.end (length payload) → length payload ≤ PAYLOAD_MAX
      → Given fairly (Matches Driver first (ends_of_state s) log) → Given fairly (IsFairLog Driver log)
      → Given fairly (IsFairLog Driver (PutPacket p ∷ log)) → Holds before s log
      → Holds (after (sent.Took (length payload))) (connections.with_end (with_payload_sent e.value.end (length payload)) e s) (PutPacket p ∷ log)

pub connect_nothing : (fairly hosts : Bool) (first peer to : ℕ) → CarriesConnect fairly hosts first peer to nothing (λ answer. nothing)
connect_nothing fairly hosts first peer to = grind (arith, common_steps)

pub send_nothing : (fairly hosts : Bool) (first id : ℕ) (bytes : List ℕ) → CarriesSend fairly hosts first id bytes nothing (λ answer. nothing)
send_nothing fairly hosts first id bytes = grind (arith, common_steps)

-- A fact goes over to another, and nothing else changes.
goes_over : (fairly hosts : Bool) (first : ℕ) (before after : Fact) (s : DriverState) (c : RingContents)
    → ((log : Log) → Holds before s log → Holds after s log) → Rests fairly hosts first before s c → Rests fairly hosts first after s c
goes_over fairly hosts first before after s c go rests =
    tells_weaker fairly (RestsWith fairly hosts first before s) (RestsWith fairly hosts first after s) (λ l rest. (rest.0, go l.entries rest.1)) c rests

can_send : (e : DriverEntry) (credit : ℕ) (bytes : List ℕ) → may_send_of e.value.end ≡ Ok credit
    → CanSend e.value.end (length (payload_of credit bytes)) × (length (payload_of credit bytes) ≤ PAYLOAD_MAX)
can_send e credit bytes is = grind (arith, common_steps)

-- connect.
module _ (fairly hosts : Bool) (first peer to : ℕ) (before : Fact) (after : Result ℕ ConnectError → Fact) (steps : CarriesConnect fairly hosts first peer to before after)
    (peer_fits : peer < 2 ^ 64) (to_fits : to < 2 ^ 32) (all : hosts ≡ true → peer ≡ HOST_CID) where
  abbrev pub ConnectRests : DriverState × Result ℕ ConnectError → RingContents → Type 0
  ConnectRests x c = Rests fairly hosts first (after x.1) x.0 c

  opened_by : (b : Bool) (s : DriverState) (c : RingContents) → connect_refusal peer to s ≡ None → Rests fairly hosts first before s c
      → Keeps ConnectRests (cond b (bind (post_packet (request_bytes peer to s) s) (λ t. Done (connected peer to t, Ok t.next_id)))
      (Done (s, Err (refused.NoDescriptor s.in_flight)))) c
  opened_by true s c free rests =
      keeps_bind ConnectRests (post_packet (request_bytes peer to s) s) (λ t. Done (connected peer to t, Ok t.next_id)) c
      (keeps_weaker (λ u d. (u ≡ one_more_in_flight s) × Rests fairly hosts first (after (Ok s.next_id)) (connected peer to s) d)
      (λ u d. Rests fairly hosts first (after (Ok u.next_id)) (connected peer to u) d)
      (λ u d kept. subst (λ (x : DriverState). Rests fairly hosts first (after (Ok x.next_id)) (connected peer to x) d) (sym kept.0) kept.1)
      (post_packet (request_bytes peer to s) s) c
      (post_tx fairly hosts first before (after (Ok s.next_id)) (request_on Driver s.cid (next_flow peer to s) Stream) s (connected peer to s) (request_bytes peer to s) c
      (λ l rest. record {
        puts = connect_puts peer to s peer_fits to_fits all rest.0 free;
        carries = λ log m was fair held. steps.opens s log rest.0 free m was fair held;
      }) rests))
  opened_by false s c free rests =
      goes_over fairly hosts first before (after (Err (refused.NoDescriptor s.in_flight))) s c
      (λ log held. steps.refused (refused.NoDescriptor s.in_flight) s log held) rests

  connect_page_keeps : (s : DriverState) (c : RingContents) → connect_refusal peer to s ≡ None → Rests fairly hosts first before s c
      → Keeps ConnectRests (connect_with_page peer to s) c
  connect_page_keeps s c free rests = opened_by (has_page s) s c free rests

  is_refused : (why : ConnectError) (s : DriverState) (c : RingContents) → Rests fairly hosts first before s c → Rests fairly hosts first (after (Err why)) s c
  is_refused why s c rests = goes_over fairly hosts first before (after (Err why)) s c (λ log held. steps.refused why s log held) rests

  connect_by : (o : Option ConnectError) (s : DriverState) (c : RingContents) → connect_refusal peer to s ≡ o → Rests fairly hosts first before s c
      → Keeps ConnectRests (elim o [ Some refusal ↦ Done (s, Err refusal) | None ↦ bind (reap_all s) (connect_with_page peer to) ]) c
  connect_by (Some refusal) s c is rests = is_refused refusal s c rests
  connect_by None s c is rests =
      keeps_bind ConnectRests (reap_all s) (connect_with_page peer to) c
      (keeps_weaker (SameBut fairly hosts first before s) (λ t d. Keeps ConnectRests (connect_with_page peer to t) d)
      (λ t d same. subst (λ (x : DriverState). Keeps ConnectRests (connect_with_page peer to x) d) (sym same.0)
      (connect_page_keeps (record s { in_flight = t.in_flight }) d is same.1)) (reap_all s) c (reap_keeps fairly hosts first before s c rests))

  connects_by : (o : Option ConnectError) (s : DriverState) (c : RingContents) → connect_refusal peer to s ≡ o → Rests fairly hosts first before s c
      → Keeps ConnectRests (elim o [ Some refusal ↦ Done (s, Err refusal) | None ↦ connect_with_page peer to s ]) c
  connects_by (Some refusal) s c is rests = is_refused refusal s c rests
  connects_by None s c is rests = connect_page_keeps s c is rests

  pub connects_with : (s : DriverState) (c : RingContents) → Rests fairly hosts first before s c → Keeps ConnectRests (elim (connect_refusal peer to s) [
    | Some refusal ↦ Done (s, Err refusal)
    | None ↦ connect_with_page peer to s
  ]) c
  connects_with s c rests = connects_by (connect_refusal peer to s) s c refl rests

  pub connect_keeps : (s : DriverState) (c : RingContents) → Rests fairly hosts first before s c → Keeps ConnectRests (connect_to peer to s) c
  connect_keeps s c rests = connect_by (connect_refusal peer to s) s c refl rests

-- send.
module _ (fairly hosts : Bool) (first id : ℕ) (bytes : List ℕ) (before : Fact) (after : Sent → Fact) (steps : CarriesSend fairly hosts first id bytes before after) where
  abbrev pub SendRests : DriverState × Sent → RingContents → Type 0
  SendRests x c = Rests fairly hosts first (after x.1) x.0 c

  paged_by : (b : Bool) (e : DriverEntry) (n : ℕ) (s : DriverState) (c : RingContents) → let payload = take n bytes in
      entry_known_as id s ≡ Some e → (IsFitState hosts s → Stands s e) → CanSend e.value.end (length payload) → length payload ≤ PAYLOAD_MAX
      → Rests fairly hosts first before s c
      → Keeps SendRests (cond b (bind (post_packet (payload_bytes e payload s) s)
      (λ t. Done (connections.with_end (with_payload_sent e.value.end (length payload)) e t, sent.Took (length payload))))
      (Done (s, sent.NoDescriptor s.in_flight))) c
  paged_by true e n s c known stands can few rests =
      let payload : List ℕ = take n bytes in
      let now : Fact = after (sent.Took (length payload)) in
      let then : DriverState → DriverState = λ t. connections.with_end (with_payload_sent e.value.end (length payload)) e t in
      keeps_bind SendRests (post_packet (payload_bytes e payload s) s)
      (λ t. Done (connections.with_end (with_payload_sent e.value.end (length payload)) e t, sent.Took (length payload))) c
      (keeps_weaker (λ u d. (u ≡ one_more_in_flight s) × Rests fairly hosts first now (then s) d) (λ u d. Rests fairly hosts first now (then u) d)
      (λ u d kept. subst (λ (x : DriverState). Rests fairly hosts first now (then x) d) (sym kept.0) kept.1) (post_packet (payload_bytes e payload s) s) c
      (post_tx fairly hosts first before now (payload_on Driver s.cid e.flow e.value.end payload) s (then s) (payload_bytes e payload s) c
      (λ l rest. record {
        puts = send_puts e payload s rest.0 (stands rest.0) can few;
        carries = λ log m was fair held. steps.sends e n s log rest.0 (stands rest.0) known can few m was fair held;
      }) rests))
  paged_by false e n s c known stands can few rests =
      goes_over fairly hosts first before (after (sent.NoDescriptor s.in_flight)) s c (λ log held. steps.full s.in_flight s log held) rests

  -- No credit is there.
  wanting : (e : DriverEntry) (s : DriverState) (c : RingContents) → (IsFitState hosts s → Stands s e) → Rests fairly hosts first before s c
      → Rests fairly hosts first (after (no_credit e.value.end)) (connections.with_end (wanting_credit e.value.end) e s) c
  wanting e s c stands rests =
      let t : DriverState = connections.with_end (wanting_credit e.value.end) e s in
      changed_rests fairly hosts first before (after (no_credit e.value.end)) s t c (λ fits. wanting_changes s e fits (stands fits))
      (λ log fits m held. steps.wants e s log fits (stands fits) m held) rests

  -- The connection may not send.
  stops : (why : Stop) (s : DriverState) (c : RingContents) → Rests fairly hosts first before s c → Rests fairly hosts first (after (send_stopped why)) s c
  stops why s c rests = goes_over fairly hosts first before (after (send_stopped why)) s c (λ log held. steps.stopped why s log held) rests

  knows_none : (s : DriverState) (c : RingContents) → entry_known_as id s ≡ None → Rests fairly hosts first before s c → Rests fairly hosts first (after (not_sent id s)) s c
  knows_none s c none rests = goes_over fairly hosts first before (after (not_sent id s)) s c (λ log held. steps.unknown s log none held) rests

  -- Of the whole call, which gets pages back first, and on the pages as they stand.
  module _ (page : DriverEntry → List ℕ → DriverState → DriverTree (DriverState × Sent))
      (paged : (e : DriverEntry) (credit : ℕ) (s : DriverState) (c : RingContents) → entry_known_as id s ≡ Some e → (IsFitState hosts s → Stands s e)
      → may_send_of e.value.end ≡ Ok credit → Rests fairly hosts first before s c → Keeps SendRests (page e (payload_of credit bytes) s) c) where
    credit_by : (a b : Bool) (e : DriverEntry) (credit : ℕ) (s : DriverState) (c : RingContents) → entry_known_as id s ≡ Some e
        → (IsFitState hosts s → Stands s e) → may_send_of e.value.end ≡ Ok credit → Rests fairly hosts first before s c
        → Keeps SendRests (cond a (Done (s, sent.Took 0)) (cond b (Done (connections.with_end (wanting_credit e.value.end) e s, no_credit e.value.end))
        (page e (payload_of credit bytes) s))) c
    credit_by a b e credit s c known stands is rests = grind (arith, common_steps, goes_over, wanting)

    stop_by : (r : Result ℕ Stop) (e : DriverEntry) (s : DriverState) (c : RingContents) → entry_known_as id s ≡ Some e
        → (IsFitState hosts s → Stands s e) → may_send_of e.value.end ≡ r → Rests fairly hosts first before s c
        → Keeps SendRests (elim r [
          | Err why ↦ Done (s, send_stopped why)
          | Ok credit ↦ cond (length bytes == 0) (Done (s, sent.Took 0))
              (cond (credit == 0) (Done (connections.with_end (wanting_credit e.value.end) e s, no_credit e.value.end))
              (page e (payload_of credit bytes) s))
        ]) c
    stop_by (Err why) e s c known stands is rests = stops why s c rests
    stop_by (Ok credit) e s c known stands is rests = credit_by (length bytes == 0) (credit == 0) e credit s c known stands is rests

    sent_by : (o : Option DriverEntry) (s : DriverState) (c : RingContents) → entry_known_as id s ≡ o → Rests fairly hosts first before s c
        → Keeps SendRests (elim o [
          | None ↦ Done (s, not_sent id s)
          | Some e ↦ elim (may_send_of e.value.end) [
            | Err why ↦ Done (s, send_stopped why)
            | Ok credit ↦ cond (length bytes == 0) (Done (s, sent.Took 0))
                (cond (credit == 0) (Done (connections.with_end (wanting_credit e.value.end) e s, no_credit e.value.end))
                (page e (payload_of credit bytes) s))
          ]
        ]) c
    sent_by None s c is rests = knows_none s c is rests
    sent_by (Some e) s c is rests = stop_by (may_send_of e.value.end) e s c is (λ fits. stands_known id s e fits is) refl rests

  reaped_first : (e : DriverEntry) (credit : ℕ) (s : DriverState) (c : RingContents) → entry_known_as id s ≡ Some e → (IsFitState hosts s → Stands s e)
      → may_send_of e.value.end ≡ Ok credit → Rests fairly hosts first before s c
      → Keeps SendRests (bind (reap_all s) (send_with_page e (payload_of credit bytes))) c
  reaped_first e credit s c known stands is rests =
      let payload : List ℕ = payload_of credit bytes in
      let can = can_send e credit bytes is in
      keeps_bind SendRests (reap_all s) (send_with_page e payload) c
      (keeps_weaker (SameBut fairly hosts first before s) (λ t d. Keeps SendRests (send_with_page e payload t) d)
      (λ t d same. subst (λ (x : DriverState). Keeps SendRests (send_with_page e payload x) d) (sym same.0)
      (let r : DriverState = record s { in_flight = t.in_flight } in
      paged_by (has_page r) e (min credit PAYLOAD_MAX) r d known
      (λ fits. let st = stands fits in record { under = st.under; contains = st.contains }) can.0 can.1 same.1))
      (reap_all s) c (reap_keeps fairly hosts first before s c rests))

  pub send_keeps : (s : DriverState) (c : RingContents) → Rests fairly hosts first before s c → Keeps SendRests (send_of id bytes s) c
  send_keeps s c rests = sent_by (λ e payload t. bind (reap_all t) (send_with_page e payload)) reaped_first (entry_known_as id s) s c refl rests

  pub sends_with : (s : DriverState) (c : RingContents) → Rests fairly hosts first before s c → Keeps SendRests (sends id bytes s) c
  sends_with s c rests = sent_by send_with_page
      (λ e credit t d known stands is kept. let can = can_send e credit bytes is in
      paged_by (has_page t) e (min credit PAYLOAD_MAX) t d known stands can.0 can.1 kept) (entry_known_as id s) s c refl rests

-- Making a driver.
abbrev Fresh : EndLog → Type 0
Fresh l = (l.entries ≡ []) × (l.staged.tx ≡ [])

module _ (queue : Queue) (other : queue ≡ Tx → ⊥) (l : EndLog) (fresh : Fresh l) where
  fresh_published : Fresh (log_published queue l)
  fresh_published = grind (arith, common_steps)

  fresh_staged : (page : List ℕ) → Fresh (log_staged queue page l)
  fresh_staged page = grind (arith, common_steps)

module _ (size port id : ℕ) (port_fits : port ≤ LAST_PORT) where
  abbrev made : DriverState
  made = new_state size port id 0

  empty_table : IsTable made.table
  empty_table = grind (arith, common_steps)

  pub made_fits : (cid : ℕ) → cid < 2 ^ 64 → IsFitState true (record made { cid = cid })
  made_fits cid less = record {
    cid_fits = less;
    port_left = omega (arith, port_fits);
    sound = empty_table;
    places = refl;
    given = omega arith;
    entries = λ i d within. absurd (omega (arith, within));
    ports = λ i d within. absurd (omega (arith, within));
    owed = λ i d within. absurd (omega (arith, within));
    clean_fit = λ i d within. absurd (omega (arith, within));
    clean_sound = none_clean made.next_port made.table;
  }

  made_left : (fairly : Bool) (cid : ℕ) → Given fairly (IsLeft true cid 0 (ends_of_state (record made { cid = cid })) [] [])
  made_left fairly cid = grind (arith, common_steps)

  module _ (fairly : Bool) where
    abbrev IsMade : DriverState → RingContents → Type 0
    IsMade s c = (s ≡ record made { staged = s.staged }) × Tells fairly Fresh c

    module _ (queue : Queue) (other : queue ≡ Tx → ⊥) where
      publish_made : (s : DriverState) (c : RingContents) → IsMade s c → Keeps IsMade (publish_of queue s) c
      publish_made s c is = grind (arith, common_steps, moves, fresh_published)

      made_by : (b : Bool) (s : DriverState) (c : RingContents) → IsMade s c
          → Keeps IsMade (cond b (Ask (Publish queue) (λ _. Done (record s { staged = 0 }))) (Done (record s { staged = s.staged + 1 }))) c
      made_by true s c is = publish_made s c is
      made_by false s c is = (ap (λ (x : DriverState). let y : DriverState = record x { staged = s.staged + 1 } in y) is.0, is.1)

      stage_made : (s : DriverState) (c : RingContents) → IsMade s c → Keeps IsMade (stage_of queue [] s) c
      stage_made s c is = grind (arith, common_steps, made_by, moves, fresh_staged)

      post_one_made : (s : DriverState) (c : RingContents) → IsMade s c → Keeps (λ r d. IsMade r.0 d) (post_one queue s) c
      post_one_made s c is = keeps_bind (λ (r : DriverState × Bool) d. IsMade r.0 d) (stage_of queue [] s) (λ t. Done (t, true)) c (stage_made s c is)

      post_all_made : (s : DriverState) (c : RingContents) → IsMade s c → Keeps IsMade (post_all queue s) c
      post_all_made s c is =
          keeps_bind IsMade (posts queue s) (publish_of queue) c
          (keeps_weaker IsMade (λ t d. Keeps IsMade (publish_of queue t) d) publish_made (posts queue s) c
          (keeps_while IsMade (post_one queue) post_one_made s.size s c is))

    loaded : (cid : ℕ) (l : EndLog) → cid < 2 ^ 64 → Fresh l → RestsAs fairly true cid (record made { cid = cid }) (log_loaded cid l)
    loaded cid l less fresh =
        let P : Log → Type 0 = λ entries. Given fairly (IsLeft true cid 0 (ends_of_state (record made { cid = cid })) [] (entries_marked cid entries)) in
        (made_fits cid less, subst P (sym fresh.0) (made_left fairly cid), fresh.1)

    -- What holds of the slots and a log in which nothing passed.
    module _ (fact : Fact) (starts : (cid : ℕ) → Holds fact (record made { cid = cid }) []) where
      loaded_with : (cid : ℕ) (l : EndLog) → cid < 2 ^ 64 → Fresh l → RestsWith fairly true cid fact (record made { cid = cid }) (log_loaded cid l)
      loaded_with cid l less fresh =
          let P : Log → Type 0 = λ entries. Holds fact (record made { cid = cid }) (entries_marked cid entries) in
          (loaded cid l less fresh, subst P (sym fresh.0) (starts cid))

      load_made : (s : DriverState) (c : RingContents) → IsMade s c → Keeps (λ t d. Rests fairly true t.cid fact t d) (load_cid s) c
      load_made s c is = (
        tt,
        λ cid d call.
            let same : record s { cid = cid } ≡ (let t : DriverState = record made { cid = cid; staged = s.staged } in t) = ap (λ (x : DriverState). let t : DriverState = record x { cid = cid } in t) is.0 in
            let rests : Rests fairly true cid fact (record made { cid = cid; staged = s.staged }) d =
            moves fairly _ _ _ _ _ (log_loaded cid) c d call.1 Fresh (RestsWith fairly true cid fact (record made { cid = cid })) (λ l fresh fair. loaded_with cid l call.0 fresh) is.1 in
            subst (λ (t : DriverState). Rests fairly true cid fact t d) (sym same) rests,
      )

      pub new_keeps : (c : RingContents) → Tells fairly Fresh c → Keeps (λ t d. Rests fairly true t.cid fact t d) (new_of size port id) c
      new_keeps c fresh =
          let Q : DriverState → RingContents → Type 0 = λ t d. Rests fairly true t.cid fact t d in
          keeps_bind Q (post_all Rx made) post_events c
          (keeps_weaker IsMade (λ t d. Keeps Q (post_events t) d)
          (λ t d is. keeps_bind Q (post_all Event t) load_cid d
          (keeps_weaker IsMade (λ u e. Keeps Q (load_cid u) e) load_made (post_all Event t) d (post_all_made Event not_tx_event t d is)))
          (post_all Rx made) c (post_all_made Rx not_tx_rx made c (refl, fresh)))

-- What each call may do, and what holds after it.
module _ (hosts : Bool) (first : ℕ) where
  send_kept : (id : ℕ) (bytes : List ℕ) (s : DriverState) (c : RingContents) → IsHonestWith hosts first s c
      → Keeps (λ x d. Rests true hosts first nothing x.0 d) (send_of id bytes s) c
  send_kept id bytes s c honest =
      send_keeps true hosts first id bytes nothing (λ answer. nothing) (send_nothing true hosts first id bytes) s c (rests_of hosts first s c honest)

  poll_kept : (s : DriverState) (c : RingContents) → IsHonestWith hosts first s c → Keeps (λ x d. Rests true hosts first nothing x.0 d) (poll_of s) c
  poll_kept s c honest = poll_keeps true hosts first nothing (carries_nothing true hosts first) s c (rests_of hosts first s c honest)

  pub send_may : (id : ℕ) (bytes : List ℕ) (s : DriverState) (c : RingContents) → IsHonestWith hosts first s c → MayPublishAll (send_of id bytes s) c
  send_may id bytes s c honest = keeps_may _ (send_of id bytes s) c (send_kept id bytes s c honest)

  pub send_honest : (id : ℕ) (bytes : List ℕ) (s : DriverState) (c d : RingContents) (x : DriverState × Sent) → IsHonestWith hosts first s c
      → Plays (send_of id bytes s) c x d → IsHonestWith hosts first x.0 d
  send_honest id bytes s c d x honest plays =
      honest_of hosts first nothing x.0 d (keeps_end _ (send_of id bytes s) c d x (send_kept id bytes s c honest) plays)

  pub poll_may : (s : DriverState) (c : RingContents) → IsHonestWith hosts first s c → MayPublishAll (poll_of s) c
  poll_may s c honest = keeps_may _ (poll_of s) c (poll_kept s c honest)

  pub poll_honest : (s : DriverState) (c d : RingContents) (x : DriverState × Polled) → IsHonestWith hosts first s c → Plays (poll_of s) c x d
      → IsHonestWith hosts first x.0 d
  poll_honest s c d x honest plays = honest_of hosts first nothing x.0 d (keeps_end _ (poll_of s) c d x (poll_kept s c honest) plays)

pub new_may : (size port id : ℕ) (c : RingContents) → port ≤ LAST_PORT → IsFresh c → MayPublishAll (new_of size port id) c
new_may size port id c fits fresh = keeps_may _ (new_of size port id) c (new_keeps size port id fits true nothing (λ cid. tt) c fresh)

pub new_honest : (size port id : ℕ) (c d : RingContents) (s : DriverState) → port ≤ LAST_PORT → IsFresh c → Plays (new_of size port id) c s d
    → IsHonestWith true s.cid s d
new_honest size port id c d s fits fresh plays =
    honest_of true s.cid nothing s d (keeps_end _ (new_of size port id) c d s (new_keeps size port id fits true nothing (λ cid. tt) c fresh) plays)

-- A connect to the host keeps what is said of the peers. One to another guest, and not to the host, leaves less.
pub honest_weaker : (hosts fewer : Bool) → (fewer ≡ true → hosts ≡ true) → (first : ℕ) (s : DriverState) (c : RingContents) → IsHonestWith hosts first s c
    → IsHonestWith fewer first s c
honest_weaker hosts fewer then first s c honest = tells_weaker true (AgreesWith hosts first s) (AgreesWith fewer first s) (λ l a. record {
  fits = fits_weaker hosts fewer then s a.fits;
  published = a.published;
  none_refused = λ is. a.none_refused (then is);
  matches = a.matches;
  fair = a.fair;
  marks = a.marks;
}) c honest

pub both_hosts : (peer : ℕ) (hosts : Bool) → ((peer == HOST_CID) && hosts) ≡ true → (peer ≡ HOST_CID) × (hosts ≡ true)
both_hosts peer hosts is = (grind (arith, nat_tests, common_steps, is), grind (arith, nat_tests, common_steps, is))

module _ (hosts : Bool) (first peer to : ℕ) (s : DriverState) (c : RingContents) (peer_fits : peer < 2 ^ 64) (to_fits : to < 2 ^ 32)
    (honest : IsHonestWith hosts first s c) where
  abbrev with_peer : Bool
  with_peer = (peer == HOST_CID) && hosts

  connect_kept : Keeps (λ x d. Rests true with_peer first nothing x.0 d) (connect_to peer to s) c
  connect_kept =
      connect_keeps true with_peer first peer to nothing (λ answer. nothing) (connect_nothing true with_peer first peer to) peer_fits to_fits (λ is. (both_hosts peer hosts is).0) s c
      (rests_of with_peer first s c (honest_weaker hosts with_peer (λ is. (both_hosts peer hosts is).1) first s c honest))

  pub connect_may : MayPublishAll (connect_to peer to s) c
  connect_may = keeps_may _ (connect_to peer to s) c connect_kept

  pub connect_honest : (d : RingContents) (x : DriverState × Result ℕ ConnectError) → Plays (connect_to peer to s) c x d
      → IsHonestWith ((peer == HOST_CID) && hosts) first x.0 d
  connect_honest d x plays = honest_of with_peer first nothing x.0 d (keeps_end _ (connect_to peer to s) c d x connect_kept plays)
