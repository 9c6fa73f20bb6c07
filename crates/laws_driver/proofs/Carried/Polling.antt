-- A poll keeps the account, with the ids of the connections that it opens.
use Rattle.laws_tables.proofs.{Adding.{number_got, number_put, got_over_put, got_adds}, Fair.{got_goes_on, got_not_refused, heard_all}, Slots.found_by, Tables.driver_begun}
use Rattle.laws_tables.{proofs.{Fair.own_got_fair, OnFlow.end_follows, Goes.{Goes, comes_in, delivers_to, only_delivered, stays_still}}, specs.{Drains.{only_on, receives}, Ends.is_new}}
use Rattle.laws_tables.specs.{Ends.{Ends, ends_of, is_among, replied}, Heard.heard_of, Later.IsLater, Matches.{Matches, MatchesFlows}, Steps.{HasEnd, owed_on, reply_on, is_kept}}
use Rattle.std.proofs.Common.{◌≡◌, ◌≢◌, ℕ, ◌+◌, ◌<◌, ◌==◌, ◌&&◌, not, ◌⊎◌, inl, inr, Bool, true, false, cond, List, [], ◌∷◌, ◌++◌, Contains, Option, Some, None, refl, sym, ap, subst, ◌∙◌}
use Rattle.std.{proofs.{Common.arith, lemmas.{Bool.Decides.nat_tests, Grind.common_steps, List.Elements.All-contains}}, specs.List.{All, filter, slice_get}}
use Rattle.vs_conn.specs.{End.{ConnectionEnd, answering, end_after, is_refused, is_reset, owes_of, verdict_of}, declared.end.{Owed.Owed, State.TheVariants.Ended, Verdict.Verdict}}
use Rattle.vs_conn.proofs.Frames.{got_own}
use Rattle.vs_flow.specs.{Connection.Connection, CleanPairs.of_host, Flow.{host_asks, same_flow}, Table.{IsRising, IsTable, entry_of, without, Table}, declared.flow.Flow.Flow}
use Rattle.vs_flow.proofs.Entries.{none_found, same_flow_false}
use Rattle.vs_limits.specs.declared.TheConstants.{BUF_ALLOC, HOST_CID}
use Rattle.laws_history.specs.{declared.packet.Packet.Packet, Packets.{has_both, is_rw}, Again.count, History.{Answerer, Asker, Got, History, MayPut, Side, gots, puts}}
use Rattle.vs_page.specs.{Fair.{IsFairLog, asked_by, current, number_of, payload_got, payload_of}, Held.IsWhole, Log.{Driver, Log, and_then, flow_got, history_of, side_by}}
use Rattle.vs_page.{specs.{Log.{side_of, whole_of}, Open.{is_dropped, left_kind}, declared.log.LogEntry.TheVariants.{GotEvent, GotPacket, Mark, PutPacket}}, proofs.Flows.{same_is, same_self}}
use Rattle.vs_page.proofs.{PayloadLogs.got_none, Present.present_got}
use Rattle.vs_replies.specs.Owed.{reply_to}
use Rattle.vs_driver_parts.specs.{Conversations.after_paying, Held.HeldSlots, State.{DriverConnection, DriverEntry, DriverState}, Connections.{after_leaving, gone_as, is_let_go}}
use Rattle.vs_driver_parts.specs.{Connections.{paid_connection, with_connection, with_request, waits_no_more, keeping}, Receiving.{after_packet, after_verdict, all_left}}
use Rattle.vs_driver_parts.{specs.Receiving.{is_request, may_open, on_heard, on_known, on_packet, on_unknown, reset_reply, with_reply}, proofs.Ids.found_under}
use Rattle.vs_driver_parts.proofs.Packets.{first_under, others_left, packet_known, packet_unknown}
use Rattle.laws_driver.{specs.{Honest.{IsFitState, ends_of_state, slots_of}, Carried.Received.{Account, AreReceived, EndsClean, GoesOn, ReceivesOn}}}
use Rattle.laws_driver.{specs.Carried.Received.{ends_with, keeps_all, with_opened}, proofs.Carrying.{Carries, Fact}}
use Rattle.laws_driver.proofs.{Tabling.{Stands, entry_fits, has_end, leaves}, Resetting.{first_contained, with_cid}, Taking.with_reply_fits, Carried.Changing.puts_and_alters}
use Rattle.laws_driver.proofs.Carried.{Logging.{leaves_received, opened_goes_on, opened_received, passes_by, same_received}, Reading.given_none, Receiving.changed_received}
use Rattle.laws_driver.proofs.Carried.Receiving.{Keeps, in_clean, keeps_receiving}
use Rattle.vs_header.specs.declared.Kind.TheVariants.{Stream}
use Rattle.vs_conn.specs.declared.end.Owed.TheVariants as owed
use Rattle.vs_conn.specs.declared.end.Verdict.TheVariants as verdict
use Rattle.laws_history.specs.Packets as packets

-- A packet that the driver puts, which opens nothing.
pub puts_received : (a : Account) (p : Packet) (log : Log) (slots : HeldSlots) → packets.is_request p ≡ false → AreReceived a log slots
    → AreReceived a (PutPacket p ∷ log) slots
puts_received a p log slots plain x =
    same_received a log (PutPacket p ∷ log) slots (PutPacket p ∷ [], refl) (got_over_put Driver p log) (λ f. number_put Driver p log f plain) x

-- A connection leaves the table.
pub leaving_received : (a : Account) (log : Log) (s : DriverState) (e : DriverEntry) (end : ConnectionEnd) → end.own ≡ e.value.end.own → IsTable s.table
    → Contains s.table.entries e → (e.value.closed ≡ false → EndsClean e.value → ends_with e.flow log ≡ true) → AreReceived a log (slots_of s)
    → AreReceived a log (slots_of (after_leaving (record e { value = record e.value { end = end } }) s))
leaving_received a log s e end own sound there ends x =
    by e.value.unanswered (leaves_received a log (slots_of s) x sound e there end own (is_let_go e.value) refl ends)
  where
    c : DriverConnection
    c = record e.value { end = end }

    by : (b : Bool) → let gone = cond (is_let_go c) s.gone (s.gone ++ gone_as (record e { value = c }) ∷ []) in
        AreReceived a log (record (slots_of s) { table = without s.table e.slot; gone = gone })
        → AreReceived a log (slots_of (record (cond b (waits_no_more (record e { value = c }) s) s) { table = without s.table e.slot; gone = gone }))
    by true y = y
    by false y = y

-- The peer of a clean end told both bits, and puts no payload.
ends_both : (f : Flow) (log : Log) → has_both (gots (history_of Driver f log)) ≡ true → ends_with f log ≡ true
ends_both f log both = grind (arith, common_steps, both)

no_payload : (side : Side) (p : Packet) (put got : List Packet) → MayPut side put got p → has_both put ≡ true → is_rw p ≡ false
no_payload = grind (arith, nat_tests, common_steps)

clean_got : (first : ℕ) (part : Ends) (log : Log) (f : Flow) (e : ConnectionEnd) → MatchesFlows Driver first part log → HasEnd f e part → f.peer ≡ HOST_CID
    → e.clean ≡ true → has_both (gots (history_of Driver f log)) ≡ true
clean_got first part log f e m has host clean =
    let one = end_follows Driver (side_of Driver f) (heard_of Driver first f log) (left_kind Driver first f log) (is_among f (replied part.replies))
    (ends_of f part.entries) e (m.on f) has (driver_begun first part log f e m has) in
    subst (λ (h : History). has_both (gots h) ≡ true) (heard_all first f log host) (one.follows.clean clean)

-- What a connection owes is put.
new_by : (e : ConnectionEnd) → owes_of e ≡ Some owed.Request → is_new e ≡ true
new_by e owes = grind (arith, common_steps, owes)

owes_over : (e : ConnectionEnd) → owes_of e ≡ Some owed.Rst → e.state ≡ Ended
owes_over e owes = grind (arith, common_steps, owes)

paid_keeps : (what : Owed) (c : DriverConnection) → owes_of c.end ≡ Some what → Keeps c (paid_connection what c)
paid_keeps what c owes = (λ is. grind (arith, common_steps, owes, is), λ over unclosed is. grind (arith, common_steps, owes, over, unclosed, is))

pays_received : (what : Owed) (first : ℕ) (a : Account) (e : DriverEntry) (s : DriverState) (log : Log) → IsFitState true s → Stands s e → owes_of e.value.end ≡ Some what
    → Matches Driver first (ends_of_state s) log → AreReceived a log (slots_of s)
    → AreReceived a (PutPacket (owed_on Driver s.cid e.flow e.value.end what) ∷ log) (slots_of (after_paying what e s))
pays_received owed.Request first a e s log fits stands owes m x =
    let both : true ≡ false = sym (new_by e.value.end owes) ∙ driver_begun first (ends_of_state s) log e.flow e.value.end m.flows (has_end s e fits stands) in absurd cc
pays_received owed.Rst first a e s log fits stands owes m x =
    puts_received a (owed_on Driver s.cid e.flow e.value.end owed.Rst) log (slots_of (after_leaving e s)) refl
    (leaving_received a log s e e.value.end refl fits.sound stands.contains
    (λ unclosed over. ends_both e.flow log (clean_got first (ends_of_state s) log e.flow e.value.end m.flows (has_end s e fits stands)
    ((entry_fits s e fits stands).peer refl) (over unclosed (owes_over e.value.end owes)))) x)
pays_received what first a e s log fits stands owes m x =
    puts_and_alters a log s x (owed_on Driver s.cid e.flow e.value.end what) e (paid_connection what e.value) refl fits.sound stands.contains refl
    (stays_still (keeps_all e.value) (keeps_all (paid_connection what e.value)) e.value.unread [] (paid_keeps what e.value owes).0 (λ on. refl))
    (paid_keeps what e.value owes).1

-- A transport reset: all leave.
all_leave : (a : Account) (cid : ℕ) (log : Log) (es : List DriverEntry) (s : DriverState) → s.table.entries ≡ es → IsFitState true s
    → AreReceived a (Mark cid ∷ log) (slots_of s) → AreReceived a (Mark cid ∷ log) (slots_of (all_left es s))
all_leave a cid log [] s is fits x = x
all_leave a cid log (e ∷ es) s is fits x =
    let P : List DriverEntry → Type 0 = λ xs. IsRising xs in
    let rising : P (e ∷ es) = subst P is fits.sound.rising in
    let first : slice_get s.table.entries 0 ≡ Some e = ap (λ (xs : List DriverEntry). slice_get xs 0) is in
    let stands : Stands s e = record { under = first_under s.table e fits.sound first; contains = first_contained e es s.table.entries is } in
    let l = leaves s e e.value fits stands in
    let m : DriverState = after_leaving e s in
    let table_is : m.table.entries ≡ es = ap (λ (xs : List DriverEntry). filter (λ x. not (x.slot == e.slot)) xs) is ∙ others_left e es rising in
    all_leave a cid log es (with_reply (reset_reply e) m) table_is (with_reply_fits m (reset_reply e) l.fits (entry_fits s e fits stands).ports)
    (leaving_received a (Mark cid ∷ log) s e e.value.end refl fits.sound stands.contains (λ unclosed over. refl) x)

-- A packet is got, of a connection of the table.
got_keeps : (p : Packet) (c : DriverConnection) → is_refused (verdict_of c.end p.header) ≡ false → Keeps c (record c { end = end_after c.end p.header })
got_keeps p c kept = (λ is. grind (arith, common_steps, is), λ over unclosed is. grind (arith, common_steps, kept, over, unclosed, is))

rst_ends : (f : Flow) (p : Packet) (log : Log) → same_flow f (flow_got Driver p) ≡ true → is_reset p.header ≡ true → ends_with f (GotPacket p ∷ log) ≡ true
rst_ends f p log same is = grind (arith, common_steps, same, is)

-- One that is open is given payload by no other verdict; and to one that is over, but not by a close, its peer puts none.
open_or_clean : (c : DriverConnection) → keeps_all c ≡ true → EndsClean c → (receives c.end ≡ true) ⊎ (c.end.clean ≡ true)
open_or_clean c is over = grind (arith, common_steps, is, over)

stays_open : (e : ConnectionEnd) (p : Packet) → is_rw p ≡ true → is_refused (verdict_of e p.header) ≡ false → receives e ≡ true
    → receives (end_after e p.header) ≡ true
stays_open e p piece kept is = grind (arith, nat_tests, common_steps, piece, kept, is)

module _ (first : ℕ) (a : Account) (p : Packet) (e : DriverEntry) (s : DriverState) (log : Log) (fits : IsFitState true s) (stands : Stands s e)
    (same : flow_got Driver p ≡ e.flow) (whole : IsWhole p) (m : Matches Driver first (ends_of_state s) log) (was : IsFairLog Driver log)
    (fair : IsFairLog Driver (GotPacket p ∷ log)) (x : AreReceived a log (slots_of s)) where
  has : HasEnd (flow_got Driver p) e.value.end (ends_of_state s)
  has = subst (λ (g : Flow). HasEnd g e.value.end (ends_of_state s)) (sym same) (has_end s e fits stands)

  plain : packets.is_request p ≡ false
  plain = got_goes_on Driver first p e.value.end (ends_of_state s) log m.flows has (fair (flow_got Driver p))

  host : (flow_got Driver p).peer ≡ HOST_CID
  host = ap (λ (g : Flow). g.peer) same ∙ (entry_fits s e fits stands).peer refl

  kept : is_refused (verdict_of e.value.end p.header) ≡ false
  kept =
      got_not_refused Driver first p e.value.end (ends_of_state s) log m.flows has (fair (flow_got Driver p)) (heard_all first (flow_got Driver p) log host)

  abbrev its : List ℕ → DriverConnection
  its unread = record e.value { end = end_after e.value.end p.header; unread = unread }

  keeps : Keeps e.value (its e.value.unread)
  keeps = got_keeps p e.value kept

  hears : (unread : List ℕ) → Goes (keeps_all e.value) (keeps_all (its unread)) e.value.unread unread [] p.payload
      → AreReceived a (GotPacket p ∷ log) (slots_of (with_connection e.slot (its unread) s))
  hears unread goes =
      changed_received a a.received log (GotPacket p ∷ log) e [] p.payload (λ other. given_none (other == e.value.id) (a.received other))
      (λ k. subst (λ (g : Flow). payload_got Driver k (GotPacket p ∷ log) ≡ payload_got Driver k log ++ only_on (current Driver g log) p.payload k) same
      (got_adds Driver p log plain was fair k))
      (λ f. number_got Driver p log f plain) (GotPacket p ∷ [], refl) (slots_of s) x fits.sound stands.contains (its unread) refl goes keeps.1

  silent : (v : Verdict) → verdict_of e.value.end p.header ≡ v → is_refused v ≡ false → (v ≡ verdict.Deliver → ⊥)
      → (receives e.value.end ≡ true) ⊎ (e.value.end.clean ≡ true) → (b : Bool) → is_rw p ≡ b → is_rw p ≡ false
  silent v is taken other unclosed false piece = piece
  silent v is taken other (inl on) true piece = only_delivered e.value.end p v is taken other (stays_open e.value.end p piece kept on)
  silent v is taken other (inr clean) true piece =
      let f = flow_got Driver p in
      no_payload _ p _ _ ((own_got_fair Driver p log (fair f)).1.goes_on plain) (clean_got first (ends_of_state s) log f e.value.end m.flows has host clean)

  unmoved : (v : Verdict) → verdict_of e.value.end p.header ≡ v → is_refused v ≡ false → (v ≡ verdict.Deliver → ⊥)
      → Goes (keeps_all e.value) (keeps_all (its e.value.unread)) e.value.unread e.value.unread [] p.payload
  unmoved v is taken other =
      let over = (All-contains (ReceivesOn a log) s.table.entries e x.held stands.contains).over in
      stays_still (keeps_all e.value) (keeps_all (its e.value.unread)) e.value.unread p.payload keeps.0
      (λ on. whole.none (silent v is taken other (open_or_clean e.value (keeps.0 on) over) (is_rw p) refl))

  empty_rst : is_reset p.header ≡ true → is_rw p ≡ false
  empty_rst is = grind (arith, nat_tests, common_steps, is)

  peers : (b : Bool) → verdict_of e.value.end p.header ≡ verdict.Peer → is_reset p.header ≡ b
      → let c = after_packet verdict.Peer p e.value in
      AreReceived a (GotPacket p ∷ log) (slots_of (cond b (keeping (is_kept Driver e.flow e.value.end p) e.flow (after_leaving (record e { value = c }) s))
      (with_connection e.slot c s)))
  peers false is reset = hears e.value.unread (unmoved verdict.Peer is refl (λ (q : verdict.Peer ≡ verdict.Deliver). cc))
  peers true is reset =
      in_clean a (GotPacket p ∷ log) _ _
      (leaving_received a (GotPacket p ∷ log) s e (end_after e.value.end p.header) (got_own e.value.end p.header) fits.sound stands.contains
      (λ unclosed over. rst_ends e.flow p log (subst (λ (f : Flow). same_flow f (flow_got Driver p) ≡ true) same (same_self (flow_got Driver p))) reset)
      (same_received a log (GotPacket p ∷ log) (slots_of s) (GotPacket p ∷ [], refl) (λ k. got_none Driver log p k (whole.none (empty_rst reset)))
      (λ f. number_got Driver p log f plain) x))

  by_verdict : (v : Verdict) → verdict_of e.value.end p.header ≡ v → is_refused v ≡ false → AreReceived a (GotPacket p ∷ log) (slots_of (after_verdict v p e s))
  by_verdict (verdict.Rst why) is taken = absurd cc
  by_verdict verdict.Peer is taken = peers (is_reset p.header) is refl
  by_verdict verdict.Deliver is taken =
      hears (e.value.unread ++ p.payload)
      (comes_in (keeps_all e.value) (keeps_all (its (e.value.unread ++ p.payload))) e.value.unread p.payload (keeps_receiving e.value (delivers_to e.value.end p.header is)))
  by_verdict v is taken = hears e.value.unread (unmoved v is taken (λ (q : v ≡ verdict.Deliver). cc))

  pub known_received : AreReceived a (GotPacket p ∷ log) (slots_of (on_known p e s))
  known_received = by_verdict (verdict_of e.value.end p.header) refl kept

-- An account that goes on from another.
abbrev pub IsFurther : Account → HeldSlots → Log → Type 0
IsFurther a slots log = (b : Account) × GoesOn a b × AreReceived b log slots

abbrev pub Further : Account → Fact
Further a part s log = IsFurther a (slots_of s) log

pub goes_then : (a b c : Account) → GoesOn a b → GoesOn b c → GoesOn a c
goes_then a b c one two = grind (arith, common_steps)

number_rises : (side : Side) (put got : List Packet) (p : Packet) → side ≡ Answerer → packets.is_request p ≡ true
    → asked_by side put (p ∷ got) ≡ asked_by side put got + 1
number_rises Answerer put got p is request = ap (λ (b : Bool). cond b (count packets.is_request got + 1) (count packets.is_request got)) request
number_rises Asker put got p is request = absurd cc

-- Of a flow that has no connection.
module _ (a : Account) (p : Packet) (s : DriverState) (log : Log) (whole : IsWhole p) (fair : IsFairLog Driver (GotPacket p ∷ log))
    (absent : All (λ e. e.flow ≢ flow_got Driver p) s.table.entries) (x : IsFurther a (slots_of s) log) where
  abbrev f : Flow
  f = flow_got Driver p

  passes : IsFurther a (slots_of s) (GotPacket p ∷ log)
  passes = (x.0, x.1, passes_by x.0 p log (slots_of s) absent x.2)

  opens : is_request p.header ≡ true → may_open f s ≡ true → IsFurther a (slots_of (with_request f p.header s)) (GotPacket p ∷ log)
  opens asks may =
      let is_one : packets.is_request p ≡ true = asked_by_header asks in
      let none : p.payload ≡ [] = whole.none (no_payload is_one) in
      let side : side_of Driver f ≡ Answerer = ap (λ (b : Bool). side_by Driver b) (assigned_by may) in
      let w = whole_of Driver f log in
      let next : number_of Driver f (GotPacket p ∷ log) ≡ number_of Driver f log + 1 =
      ap (λ (b : Bool). let v = cond b (Got p ∷ w) w in asked_by (side_of Driver f) (puts v) (gots v)) (same_self f)
      ∙ number_rises (side_of Driver f) (puts w) (gots w) p side is_one in
      let got : (k : Connection) → payload_got Driver k (GotPacket p ∷ log) ≡ payload_got Driver k log = λ k. got_none Driver log p k none in
      let nothing : payload_got Driver (current Driver f (GotPacket p ∷ log)) (GotPacket p ∷ log) ≡ [] =
      present_got Driver f (GotPacket p ∷ log) (fair f)
      ∙ ap (λ (b : Bool). payload_of (gots (cond b (and_then (Got p) (history_of Driver f log)) (history_of Driver f log)))) (same_self f)
      ∙ ap (λ (b : Bool). payload_of (gots (cond b (Got p ∷ []) (Got p ∷ history_of Driver f log)))) is_one
      ∙ none in
      let others : (g : Flow) → g ≢ f → number_of Driver g (GotPacket p ∷ log) ≡ number_of Driver g log =
      λ g apart. ap (λ (b : Bool). let v = cond b (Got p ∷ whole_of Driver g log) (whole_of Driver g log) in asked_by (side_of Driver g) (puts v) (gots v))
      (same_flow_false g f apart) in
      let c : DriverConnection = record { id = s.next_id; end = answering Stream BUF_ALLOC p.header; unread = []; unanswered = true; closed = false } in
      let below : host_asks f ≡ false → f.guest < s.next_port =
      λ own. let both : true ≡ false = sym (assigned_by may) ∙ own in absurd cc in
      let later : IsLater log (GotPacket p ∷ log) = (GotPacket p ∷ [], refl) in
      let clean : EndsClean c = λ unclosed is. absurd cc in (
        with_opened s.next_id (current Driver f (GotPacket p ∷ log)) x.0,
        goes_then a x.0 (with_opened s.next_id (current Driver f (GotPacket p ∷ log)) x.0) x.1
            (opened_goes_on x.0 log (GotPacket p ∷ log) (slots_of s) f c s.next_port x.2 got nothing next others refl refl absent (omega arith) below later clean),
        opened_received x.0 log (GotPacket p ∷ log) (slots_of s) f c s.next_port x.2 got nothing next others refl refl absent (omega arith) below later clean,
      )
    where
      asked_by_header : is_request p.header ≡ true → packets.is_request p ≡ true
      asked_by_header is = grind (arith, nat_tests, common_steps, is)

      no_payload : packets.is_request p ≡ true → is_rw p ≡ false
      no_payload is = grind (arith, nat_tests, common_steps, is)

      assigned_by : may_open (flow_got Driver p) s ≡ true → host_asks (flow_got Driver p) ≡ true
      assigned_by is = grind (arith, nat_tests, common_steps, is)

  pub unknown_received : IsFurther a (slots_of (on_unknown p s)) (GotPacket p ∷ log)
  unknown_received = by (is_reset p.header) (is_request p.header) (may_open f s) refl refl
    where
      by : (r q o : Bool) → is_request p.header ≡ q → may_open f s ≡ o
          → IsFurther a (slots_of (cond r s (cond (q && o) (with_request f p.header s) (with_reply (reply_to f p.header) s)))) (GotPacket p ∷ log)
      by true q o asks may = passes
      by false true true asks may = opens asks may
      by false true false asks may = passes
      by false false o asks may = passes

-- A flow without an entry.
pub not_there : (t : Table DriverConnection) (f : Flow) → entry_of t f ≡ None → All (λ e. e.flow ≢ f) t.entries
not_there t f none i d within on =
    let fails = none_found (λ (y : DriverEntry). same_flow f y.flow) t.entries none i d within in
    let both : true ≡ false = sym (same_self f) ∙ ap (λ (g : Flow). same_flow f g) (sym on) ∙ fails in
    cc

-- A packet.
heard_received : (first : ℕ) (a : Account) (p : Packet) (s : DriverState) (log : Log) → IsFitState true s → IsWhole p → Matches Driver first (ends_of_state s) log
    → IsFairLog Driver log → IsFairLog Driver (GotPacket p ∷ log) → IsFurther a (slots_of s) log → IsFurther a (slots_of (on_packet p s)) (GotPacket p ∷ log)
heard_received first a p s log fits whole m was fair x = drop_by (is_dropped Driver s.cid p.header) refl
  where
    found : (o : Option DriverEntry) → entry_of s.table (flow_got Driver p) ≡ o → IsFurther a (slots_of (on_heard p s)) (GotPacket p ∷ log)
    found None none =
        subst (λ (t : DriverState). IsFurther a (slots_of t) (GotPacket p ∷ log)) (sym (packet_unknown p s none))
        (unknown_received a p s log whole fair (not_there s.table (flow_got Driver p) none) x)
    found (Some e) is =
        let passes = found_by (λ (y : DriverEntry). same_flow (flow_got Driver p) y.flow) s.table.entries e is in
        let stands : Stands s e = record { under = found_under _ s.table e fits.sound is; contains = passes.0 } in
        let same = same_is (flow_got Driver p) e.flow passes.1 in
        subst (λ (t : DriverState). IsFurther a (slots_of t) (GotPacket p ∷ log)) (sym (packet_known p s e is))
        (x.0, x.1, known_received first x.0 p e s log fits stands same whole m was fair x.2)

    of_host : p.header.src_cid ≡ HOST_CID → is_dropped Driver s.cid p.header ≡ false
    of_host is = grind (arith, nat_tests, common_steps, is)

    drop_by : (b : Bool) → is_dropped Driver s.cid p.header ≡ b → IsFurther a (slots_of (cond b s (on_heard p s))) (GotPacket p ∷ log)
    drop_by false kept = found (entry_of s.table (flow_got Driver p)) refl
    drop_by true dropped = (x.0, x.1, passes_by x.0 p log (slots_of s) apart x.2)
      where
        apart : All (λ e. e.flow ≢ flow_got Driver p) s.table.entries
        apart i d within on =
            let entry = fits.entries i d within in
            let both : true ≡ false = sym dropped ∙ of_host (sym (ap (λ (f : Flow). f.peer) on) ∙ entry.peer refl) in
            cc

pub poll_carries : (first : ℕ) (a : Account) → Carries true true first (Further a)
poll_carries first a = record {
  owed = λ what e s log fits stands owes m was fair x.
      (x.0, x.1, pays_received what first x.0 e s log fits stands owes m x.2);
  reply = λ r rest s log fits is m fair x. (x.0, x.1, puts_received x.0 (reply_on Driver s.cid r) log (slots_of s) refl x.2);
  got = λ p s log fits ports whole m was fair x. heard_received first a p s log fits whole m was fair x;
  event = λ id s log x. (x.0, x.1, same_received x.0 log (GotEvent id ∷ log) (slots_of s) (GotEvent id ∷ [], refl) (λ c. refl) (λ f. refl) x.2);
  reset = λ cid s log less fits x.
      let marked = same_received x.0 log (Mark cid ∷ log) (slots_of s) (Mark cid ∷ [], refl) (λ c. refl) (λ f. refl) x.2 in (
        x.0,
        x.1,
        all_leave x.0 cid log s.table.entries (record s { cid = cid; clean = of_host s.clean }) refl (with_cid cid s less fits)
            (in_clean x.0 (Mark cid ∷ log) (slots_of s) (of_host s.clean) marked),
      );
}
