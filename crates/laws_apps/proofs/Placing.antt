-- Calls and polls keep what a journal's calls left of the driver's connections.
use Rattle.std.proofs.Common.{◌≡◌, ◌≢◌, ℕ, ◌+◌, ◌<◌, ◌≤◌, ◌==◌, ◌&&◌, ◌||◌, nat_le, nat_lt, not, Bool, true, false, cond, List, [], ◌∷◌, ◌++◌, length, take, get_or, find}
use Rattle.std.proofs.{Common.{Contains, Option, Some, None, is_some, Result, Ok, Err, refl, sym, ap, subst, ◌∙◌, arith, slice_get}, lemmas.Bool.{Decides.nat_tests, and_parts}}
use Rattle.std.proofs.lemmas.{Bool.{eq-eqb, eqb-true}, Grind.common_steps, List.Elements.{All-contains, All-head, All-tail, filter_passes}, Option.get_or_from_slice_get}
use Rattle.std.{proofs.lemmas.Option.{same_Some, slice_get_within}, specs.List.All}
use Rattle.vs_conn.specs.End.{ConnectionEnd, answering, asked, grown, owes_of, paid_of, wanting_credit, with_payload_sent, with_shut}
use Rattle.vs_conn.specs.declared.end.{Owed.Owed, State.State, Verdict.Verdict}
use Rattle.vs_flow.{specs.{Flow.{is_assigned, is_host}, declared.flow.Flow.Flow}, proofs.{Entries.found_passes, Lookups.find_place}}
use Rattle.vs_header.specs.declared.{Header.Header, Kind.TheVariants.Stream}
use Rattle.vs_limits.specs.declared.TheConstants.{BUF_ALLOC, HOST_CID, LAST_ID, LAST_PORT, WAITING}
use Rattle.laws_history.specs.declared.packet.Packet.{Packet}
use Rattle.vs_ring_port.specs.{Contents.RingContents, EndLog.EndLog}
use Rattle.vs_driver_parts.specs.Connections.{after_closing, after_grow, after_read, after_recv, after_shut, after_shutdown, connected}
use Rattle.vs_driver_parts.specs.Connections.{entry_closed, flow_of, is_full, next_flow, paid_connection, state_of}
use Rattle.vs_driver_parts.specs.{Connections.{with_connection, with_end, with_request, without_gone}, Conversations.{new_of, new_state, no_credit, not_sent}}
use Rattle.vs_driver_parts.specs.{Conversations.{poll_of, send_stopped}, Listening.{has_place, is_answered, listen_of, listener_on, listening, next_accepted, with_waiting}}
use Rattle.vs_driver_parts.specs.{Listening.without_id, Playing.Plays, Receiving.{after_packet, may_open}}
use Rattle.vs_driver_parts.specs.{State.{DriverConnection, DriverEntry, DriverState, GoneConnection, Listener, entry_known_as}}
use Rattle.vs_driver_parts.specs.{State.{gone_known_as, is_known_as}, declared.answers.{Accepted.Accepted, ListenError.ListenError, Polled.Polled, Sent.Sent}}
use Rattle.vs_driver_parts.proofs.{Ids.{HasId}}
use Rattle.laws_tables.specs.Steps.{port_after}
use Rattle.vs_driver_parts.proofs.Clean.{given_to, may_connect, port_below, port_rises}
use Rattle.laws_driver.specs.{Honest.{IsFitState, IsFresh, IsHonestWith}, Carried.Calls.{Accept, Close, Connect, Grow, GuestCall, Journal, Listen, LookAt, Made}}
use Rattle.laws_driver.{specs.Carried.Calls.{Recv, ReplyTo, Send, Shutdown, Unlisten, is_right, whole_call}, proofs.{Calls.new_keeps, Carrying.{Carries, Fact}}}
use Rattle.laws_driver.proofs.Calling.{grow_to, recv_to, shutdown_to}
use Rattle.laws_driver.proofs.Sighting.{Small, poll_sees}
use Rattle.laws_driver.proofs.{Changing.stands_known, Keeping.keeps_end, Polling.poll_keeps, Staging.Rests, Tabling.{Stands}}
use Rattle.laws_driver.proofs.{Carried.{Growing.honest_stays, Making.{CarriesCall, whole_with}, Sending.begins}}
use Rattle.laws_driver.proofs.Carried.Righting.{told_before}
use Rattle.vs_apps_parts.specs.{Journals.made_as, Scripts.with_noted, Told.{told_of, wait_of}, declared.journal.{Entry.Entry, WaitsFor.WaitsFor}}
use Rattle.laws_apps.specs.Placed.{AreOwned, ArePlaced, ArePlacedWith, HasPlaces, IsAsked, IsPlacedEntry, IsPlacedValue, IsTo, asked_as, closed_by, stands_closed, stands_unanswered}
use Rattle.laws_apps.{specs.Placed.{was_closed, was_given, was_listened}, proofs.Placed.{alters, closes_entry, closes_gone, forwarded_stands, gone_less, got_stands, goes_on}}
use Rattle.laws_apps.proofs.Placed.{leaving, listens, opening, or_first, or_second, StandsOn, paid_value, ports_kept, reading, shut_stands, stays_behind, value_goes, waits_kept}
use Rattle.laws_apps.proofs.Placed.{waits_less, waits_now}
use Rattle.vs_conn.specs.declared.end.Owed.TheVariants as owed
use Rattle.vs_conn.specs.declared.end.State.TheVariants as state
use Rattle.vs_conn.specs.declared.end.Verdict.TheVariants as verdict
use Rattle.vs_driver_parts.specs.declared.answers.Accepted.TheVariants as accepted
use Rattle.vs_driver_parts.specs.declared.answers.Closed.TheVariants as closed
use Rattle.vs_driver_parts.specs.declared.answers.Sent.TheVariants as sent

abbrev pub places : Journal → Fact
places journal part s log = ArePlaced journal s

module _ (journal : Journal) (s : DriverState) (x : ArePlaced journal s) where
  value_of : (e : DriverEntry) → Stands s e → IsPlacedValue journal e.value
  value_of e stands = (All-contains (IsPlacedEntry journal s.listeners) s.table.entries e x.entries stands.contains).value

  -- What a connection owes is put.
  pays : (what : Owed) (e : DriverEntry) → Stands s e → owes_of e.value.end ≡ Some what
      → ArePlaced journal (with_connection e.slot (paid_connection what e.value) s)
  pays owed.Response e stands owes =
      alters journal s x e (paid_connection owed.Response e.value) stands refl (paid_value journal e.value owed.Response owes (value_of e stands))
  pays what e stands owes = alters journal s x e (paid_connection what e.value) stands refl (paid_value journal e.value what owes (value_of e stands))

  -- A packet of a connection.
  module _ (p : Packet) (e : DriverEntry) (stands : Stands s e) where
    heard_value : (v : Verdict) → IsPlacedValue journal (after_packet v p e.value)
    heard_value v = grind (arith, common_steps, value_goes, got_stands, value_of)

  -- A REQUEST opens a connection, which waits on its port.
  parts : (a b c d e : Bool) → (a && b && c && d && e) ≡ true → ((a && b) ≡ true) × (c ≡ true)
  parts = grind (arith, common_steps)

  placed_some : (o : Option Listener) → elim o [ None ↦ false | Some l ↦ nat_lt (length l.waiting) WAITING ] ≡ true → is_some o ≡ true
  placed_some None is = absurd cc
  placed_some (Some l) is = refl

  requests : (f : Flow) (h : Header) → may_open f s ≡ true → ArePlaced journal (with_request f h s)
  requests f h may =
      let is = parts (is_host f) (is_assigned f.host) (has_place f.guest s.listeners) (not (is_full s)) (nat_le s.next_id LAST_ID) may in
      let c : DriverConnection = record { id = s.next_id; end = answering Stream BUF_ALLOC h; unread = []; unanswered = true; closed = false } in
      let ms : List Listener = with_waiting f.guest (λ ws. ws ++ s.next_id ∷ []) s.listeners in
      opening journal s x f c refl s.next_port ms (omega arith) (λ mine. let no : true ≡ false = sym is.0 ∙ mine in absurd cc)
      (λ p i there. waits_kept p i f.guest (λ ws. ws ++ s.next_id ∷ []) (stays_behind i s.next_id) s.listeners there)
      (ports_kept (λ p. was_listened p journal ≡ true) f.guest (λ ws. ws ++ s.next_id ∷ []) s.listeners x.ports) (record {
        known = or_second (was_given s.next_id journal) _ (or_second (was_closed s.next_id journal) _
            (waits_now f.guest s.next_id s.listeners (placed_some (listener_on f.guest s.listeners) is.1)));
        own = λ mine. let no : true ≡ false = sym is.0 ∙ mine in absurd cc;
      }) refl (λ on. refl)

pub small_places : (journal : Journal) → Small (HasPlaces journal)
small_places journal = record {
  pays = λ what e s stands owes x. pays journal s x what e stands owes;
  hears = λ v p e s stands is x. alters journal s x e (after_packet v p e.value) stands (same_id v p e.value) (heard_value journal s x p e stands v);
  leaves = λ e s sound stands x. leaving journal s x e e.value sound stands refl (value_of journal s x e stands);
  ends = λ p e s sound stands x. leaving journal s x e (after_packet verdict.Peer p e.value) sound stands refl (heard_value journal s x p e stands verdict.Peer);
  asks = λ f h s may x. requests journal s x f h may;
}
  where
    same_id : (v : Verdict) (p : Packet) (c : DriverConnection) → (after_packet v p c).id ≡ c.id
    same_id verdict.Deliver p c = refl
    same_id v p c = refl

pub poll_places : (first : ℕ) (journal : Journal) → Carries true true first (places journal)
poll_places first journal = poll_sees (HasPlaces journal) (small_places journal) first

-- A call of an app's is no unlisten. What is noted of it, and the flow of the connection that it opened.
abbrev pub IsOfApps : GuestCall → Type 0
IsOfApps (Unlisten port) = ⊥
IsOfApps call = Unit {0}

abbrev pub noted : (call : GuestCall) → ReplyTo call → Journal → Journal
noted call reply journal = with_noted (made_as call reply ∷ []) journal

abbrev pub NamesAsked : (call : GuestCall) → ReplyTo call → DriverState → Type 0
NamesAsked (Connect port) reply s = (id : ℕ) → asked_as reply ≡ Some id → IsTo (IsAsked port) (flow_of id s)
NamesAsked call reply s = Unit {0}

abbrev pub places_after : Journal → (call : GuestCall) → ReplyTo call → Fact
places_after journal call reply part s log = ArePlaced (noted call reply journal) s × NamesAsked call reply s

module _ (journal : Journal) where
  silent : (call : GuestCall) (reply : ReplyTo call) (s : DriverState) → closed_by call reply ≡ None → ArePlaced journal s → ArePlaced (noted call reply journal) s
  silent call reply s none x = by (wait_of (told_of (made_as call reply)))
    where
      by : (o : Option WaitsFor) → ArePlaced (elim o as (λ _. Journal) [ None ↦ made_as call reply ∷ journal | Some why ↦ journal ]) s
      by None = goes_on journal (made_as call reply) s x none
      by (Some why) = x

  -- connect.
  last_found : (q : DriverEntry → Bool) (es : List DriverEntry) (e : DriverEntry) → All (λ y. q y ≡ false) es → q e ≡ true → (flow : Option Flow)
      → elim (find q (es ++ e ∷ [])) as (λ _. Option Flow) [ None ↦ flow | Some y ↦ Some y.flow ] ≡ Some e.flow
  last_found q [] e none is flow = ap (λ (b : Bool). elim (cond b (Some e) None) as (λ _. Option Flow) [ None ↦ flow | Some y ↦ Some y.flow ]) is
  last_found q (y ∷ ys) e none is flow =
      ap (λ (b : Bool). elim (cond b (Some y) (find q (ys ++ e ∷ []))) as (λ _. Option Flow) [ None ↦ flow | Some z ↦ Some z.flow ]) (All-head (λ z. q z ≡ false) y ys none)
      ∙ last_found q ys e (All-tail (λ z. q z ≡ false) y ys none) is flow

  unknown_yet : (s : DriverState) → IsFitState true s → ArePlaced journal s → All (λ y. is_known_as s.next_id y ≡ false) s.table.entries
  unknown_yet s fits x = grind (arith, common_steps)

  pub opened_flow : (port : ℕ) (s : DriverState) → IsFitState true s → ArePlaced journal s
      → flow_of s.next_id (connected HOST_CID port s) ≡ Some (next_flow HOST_CID port s)
  opened_flow port s fits x = grind (arith, common_steps, last_found, unknown_yet, eq-eqb)

  connects : (host : ℕ) (s : DriverState) → ArePlaced journal s → ArePlaced (made_as (Connect host) (Ok s.next_id) ∷ journal) (connected HOST_CID host s)
  connects host s x =
      let m : Made = made_as (Connect host) (Ok s.next_id) in
      let c : DriverConnection = record { id = s.next_id; end = paid_of (asked Stream BUF_ALLOC) owed.Request; unread = []; unanswered = false; closed = false } in
      let was = goes_on journal m s x refl in
      let given : was_given s.next_id (m ∷ journal) ≡ true = or_first (s.next_id == s.next_id) (was_given s.next_id journal) (eq-eqb s.next_id s.next_id refl) in
      let f : Flow = next_flow HOST_CID host s in
      opening (m ∷ journal) s was f c refl (port_after s.next_port f.guest) s.listeners (port_rises s.next_port f.guest) (λ mine. port_below s.next_port f.guest)
      (λ p i there. there) was.ports
      (record { known = or_first (was_given s.next_id (m ∷ journal)) _ given; own = λ mine. given }) refl (λ no. absurd cc)

  -- accept.
  accepts : (port : ℕ) (s : DriverState) → ArePlaced journal s → (b : Bool) (o : Option ℕ) → (b ≡ false → o ≡ None)
      → ArePlaced (noted (Accept port) (cond b (elim o as (λ _. Accepted) [ None ↦ accepted.None | Some id ↦ accepted.Conn id ]) accepted.NotListening) journal)
      (elim o as (λ _. DriverState) [ None ↦ s | Some id ↦ record s { listeners = with_waiting port (without_id id) s.listeners } ])
  accepts port s x true None none = x
  accepts port s x false None none = goes_on journal (made_as (Accept port) accepted.NotListening) s x refl
  accepts port s x false (Some id) none = let no : Some id ≡ None = none refl in absurd cc
  accepts port s x true (Some id) none =
      let m : Made = made_as (Accept port) (accepted.Conn id) in
      let known : (i : ℕ) → i ≡ id → (was_given i (m ∷ journal) || was_closed i (m ∷ journal)) ≡ true =
      λ i same. or_first (was_given i (m ∷ journal)) _ (or_first (i == id) (was_given i journal) (eq-eqb i id same)) in
      waits_less (m ∷ journal) s (goes_on journal m s x refl) port id (λ k d less same. known _ same) (λ k d less same. known _ same)

  -- close.
  record IsOver (c : DriverConnection) (d : DriverConnection) : Type 0 where
    id : d.id ≡ c.id
    closed : d.closed ≡ true
    shut : stands_closed d.end.state d.end.own ≡ true
    waits : d.unanswered ≡ true → stands_unanswered d.end.state ≡ true

  closed_live : (e : ConnectionEnd) → e.state ≡ state.Live → stands_closed (with_shut e 3).state (with_shut e 3).own ≡ true
  closed_live e live = grind (arith, common_steps, live)

  closed_so : (c : DriverConnection) → IsPlacedValue journal c → (st : State) → c.end.state ≡ st → IsOver c (after_closing st c)
  closed_so c is st = grind (arith, common_steps, closed_live, shut_stands)

  known : (id : ℕ) (i : ℕ) → i ≡ id → (was_given i (made_as (Close id) closed.Done ∷ journal) || was_closed i (made_as (Close id) closed.Done ∷ journal)) ≡ true
  known id i same = or_second (was_given i (made_as (Close id) closed.Done ∷ journal)) _ (or_first (i == id) (was_closed i journal) (eq-eqb i id same))

  shuts : (id : ℕ) (s : DriverState) → IsFitState true s → ArePlaced journal s → (o : Option DriverEntry) (q : Option GoneConnection) → entry_known_as id s ≡ o
      → gone_known_as id s ≡ q
      → ArePlaced (noted (Close id) (cond (is_some o || is_some q) closed.Done closed.Unknown) journal) (elim o as (λ _. DriverState) [
        | Some e ↦ entry_closed e s
        | None ↦ elim q as (λ _. DriverState) [
          | None ↦ s
          | Some g ↦ record s { gone = without_gone id s.gone; listeners = with_waiting g.flow.guest (without_id id) s.listeners }
        ]
      ])
  shuts id s fits x None None at left = goes_on journal (made_as (Close id) closed.Unknown) s x refl
  shuts id s fits x None (Some g) at left =
      let m : Made = made_as (Close id) closed.Done in
      let place = find_place (λ (h : GoneConnection). h.id == id) s.gone g left in
      let named : g.id ≡ id = eqb-true g.id id (found_passes (λ (h : GoneConnection). h.id == id) s.gone g left) in
      let there = gone_there s.gone g place.0 place.1 in
      let less : id < s.next_id = subst (λ (n : ℕ). n < s.next_id) named (All-contains (λ (h : GoneConnection). h.id < s.next_id) s.gone g x.numbers.below there) in
      let apart = All-contains (λ (h : GoneConnection). All (λ (e : DriverEntry). e.value.id ≢ h.id) s.table.entries) s.gone g x.numbers.apart there in
      let t : DriverState = record s { gone = without_gone id s.gone } in
      let now = closes_gone journal m t (gone_less journal s x (λ h. not (h.id == id))) id refl
      (λ k d within same. other _ (filter_passes (λ (h : GoneConnection). not (h.id == id)) s.gone k d within) same) less
      (λ k d within same. absurd (apart k d within (same ∙ sym named))) in
      waits_less (m ∷ journal) t now g.flow.guest id (λ k d within same. known id _ same) (λ k d within same. known id _ same)
    where
      gone_there : (gs : List GoneConnection) (h : GoneConnection) (i : ℕ) → slice_get gs i ≡ Some h → Contains gs h
      gone_there gs h i is = (i, slice_get_within gs i h is, get_or_from_slice_get gs i h h is)

      other : (i : ℕ) → not (i == id) ≡ true → i ≢ id
      other i differ same = absurd (grind (arith, nat_tests, differ, same))
  shuts id s fits x (Some e) q at left =
      let m : Made = made_as (Close id) closed.Done in
      let stands = stands_known id s e fits at in
      let found = found_passes (is_known_as id) s.table.entries e at in
      let named : e.value.id ≡ id = eqb-true e.value.id id (and_parts (e.value.id == id) (not e.value.closed) found).0 in
      let so = closed_so e.value (value_of journal s x e stands) e.value.end.state refl in
      let t : DriverState = with_connection e.slot (after_closing e.value.end.state e.value) s in
      let mine : e.value.id ≡ 1 + e.slot = All-contains (HasId 1) s.table.entries e x.numbers.slots stands.contains in
      let less : id < s.next_id =
      let under = All-contains (λ (y : DriverEntry). y.slot < s.table.given) s.table.entries e fits.sound.were_given stands.contains in
      let given = x.numbers.given in omega (arith, under, given, mine, named) in
      let now = closes_entry journal m s x id refl
      (λ k d within same. All-contains (λ (y : DriverEntry). y.value.id ≢ (get_or s.gone k d).id) s.table.entries e (x.numbers.apart k d within)
      stands.contains (named ∙ sym same)) less e (after_closing e.value.end.state e.value) stands named so.id so.closed so.shut so.waits in
      waits_less (m ∷ journal) t now e.flow.guest e.value.id (λ k d within same. known id _ (same ∙ named)) (λ k d within same. known id _ (same ∙ named))

  -- All others change the end of a connection at most.
  another : (s : DriverState) → ArePlaced journal s → (e : DriverEntry) (d : ConnectionEnd) → Stands s e → StandsOn e.value.end d → (unread : List ℕ)
      → ArePlaced journal (with_connection e.slot (record e.value { end = d; unread = unread }) s)
  another s x e d stands goes unread =
      alters journal s x e (record e.value { end = d; unread = unread }) stands refl
      (value_goes journal e.value (record e.value { end = d; unread = unread }) refl refl refl goes (value_of journal s x e stands))

  receives : (id n : ℕ) (s : DriverState) → IsFitState true s → ArePlaced journal s → ArePlaced journal (after_recv id n s)
  receives id n s fits x = recv_to (ArePlaced journal) id s x n (λ e at.
      another s x e (after_read n e.value).end (stands_known id s e fits at) (forwarded_stands e.value.end _) (after_read n e.value).unread)
      (reading journal s x id n)

  shutting : (id bits : ℕ) (s : DriverState) → IsFitState true s → ArePlaced journal s → ArePlaced journal (after_shutdown id bits s)
  shutting id bits s fits x = shutdown_to (ArePlaced journal) id s x bits (λ e at.
      another s x e (after_shut bits e.value).end (stands_known id s e fits at) (shut_stands e.value.end bits) (after_shut bits e.value).unread)

  growing : (id alloc : ℕ) (s : DriverState) → IsFitState true s → ArePlaced journal s → ArePlaced journal (after_grow id alloc s)
  growing id alloc s fits x = grow_to (ArePlaced journal) id s x alloc (λ e at done.
      another s x e (grown e.value.end alloc) (stands_known id s e fits at) (record { closed = λ is. is; unanswered = λ is. is }) e.value.unread)

  call_places : (first : ℕ) (call : GuestCall) → IsOfApps call → CarriesCall first call (places journal) (places_after journal call)
  call_places first (Connect port) apps = record {
    refused = λ why s log x. (silent (Connect port) (Err why) s refl x, λ id no. absurd cc);
    opens = λ s log fits free m was fair x. (
      connects port s x,
      λ id is. subst (λ (n : ℕ). IsTo (IsAsked port) (flow_of n (connected HOST_CID port s))) (same_Some s.next_id id is)
          (subst (IsTo (IsAsked port)) (sym (opened_flow port s fits x))
          (given_to HOST_CID port s.next_port s.clean (next_flow HOST_CID port s) (may_connect HOST_CID port s free).flow).port_is),
    );
  }
  call_places first (Send id bytes) apps = record {
    stopped = λ why s log x. unsent (send_stopped why) s x;
    unknown = λ s log none x. unsent (not_sent id s) s x;
    empty = λ s log x. unsent (sent.Took 0) s x;
    full = λ n s log x. unsent (sent.NoDescriptor n) s x;
    wants = λ e s log fits stands m x. unsent (no_credit e.value.end) (with_end (wanting_credit e.value.end) e s)
        (another s x e (wanting_credit e.value.end) stands (record { closed = λ is. is; unanswered = λ is. is }) e.value.unread);
    sends = λ e n s log fits stands known can few m was fair x. let d = with_payload_sent e.value.end (length (take n bytes)) in
        unsent (sent.Took (length (take n bytes))) (with_end d e s) (another s x e d stands (record { closed = λ is. is; unanswered = λ is. is }) e.value.unread);
  }
    where
      unsent : (answer : Sent) (s : DriverState) → ArePlaced journal s → ArePlaced (noted (Send id bytes) answer journal) s × NamesAsked (Send id bytes) answer s
      unsent answer s x = (silent (Send id bytes) answer s refl x, tt)
  call_places first (Listen port) apps = λ s log fits m x. (by s x (listen_of port s), tt)
    where
      by : (s : DriverState) → ArePlaced journal s → (r : Result (Unit {0}) ListenError)
          → ArePlaced (noted (Listen port) r journal) (elim r as (λ _. DriverState) [ Ok y ↦ listening port s | Err why ↦ s ])
      by s x (Ok y) =
          listens (made_as (Listen port) (Ok y) ∷ journal) s (goes_on journal (made_as (Listen port) (Ok y)) s x refl) port
          (or_first (port == port) (was_listened port journal) (eq-eqb port port refl))
      by s x (Err why) = goes_on journal (made_as (Listen port) (Err why)) s x refl
  call_places first (Unlisten port) apps = absurd apps
  call_places first (Accept port) apps = λ s log fits m x.
      (accepts port s x (is_some (listener_on port s.listeners)) (next_accepted port s) (none_on port s (listener_on port s.listeners)), tt)
    where
      none_on : (port : ℕ) (s : DriverState) (o : Option Listener) → is_some o ≡ false
          → elim o as (λ _. Option ℕ) [ None ↦ None | Some l ↦ find (is_answered s) l.waiting ] ≡ None
      none_on port s None none = refl
      none_on port s (Some l) none = absurd cc
  call_places first (Recv id n) apps = λ s log fits m x.
      (silent (Recv id n) _ (after_recv id n s) refl (receives id n s fits x), tt)
  call_places first (Shutdown id bits) apps = λ s log fits m x.
      (silent (Shutdown id bits) _ (after_shutdown id bits s) refl (shutting id bits s fits x), tt)
  call_places first (Grow id alloc) apps = λ s log fits m x.
      (silent (Grow id alloc) _ (after_grow id alloc s) refl (growing id alloc s fits x), tt)
  call_places first (Close id) apps = λ s log fits m x. (shuts id s fits x (entry_known_as id s) (gone_known_as id s) refl refl, tt)
  call_places first (LookAt id) apps = λ s log fits m x. (silent (LookAt id) (state_of id s) s refl x, tt)

module _ (first n : ℕ) (journal : Journal) (entries : List Entry) (s : DriverState) (c d : RingContents) (honest : IsHonestWith true first s c)
    (was : ArePlacedWith n journal entries s c) where
  pub call_placed : (call : GuestCall) (x : DriverState × ReplyTo call) → IsOfApps call → is_right call ≡ true → Plays (whole_call call s) c x d
      → (on : d.honest ≡ true) (m : EndLog) → d.log ≡ Some m → ArePlaced (noted call x.1 journal) x.0 × NamesAsked call x.1 x.0 × AreOwned n entries
  call_placed call x apps right plays on m is =
      let before = told_before (whole_call call s) c d x plays m is in
      let then = was (sym (honest_stays (whole_call call s) c d x plays) ∙ on) before.0 before.1 in
      let kept : Rests true true first (places_after journal call x.1) x.0 d =
      keeps_end _ (whole_call call s) c d x (whole_with first s c call (places journal) (places_after journal call) right (call_places journal first call apps)
      (begins first (places journal) s c before.0 before.1 then.0 honest)) plays in
      ((kept on m is).1.0, named call x.1 x.0 (kept on m is).1.1, then.1)
    where
      named : (call : GuestCall) (reply : ReplyTo call) (t : DriverState) → NamesAsked call reply (record t { in_flight = 0; staged = 0 }) → NamesAsked call reply t
      named (Connect port) reply t is = is
      named call reply t is = tt

  pub poll_placed : (x : DriverState × Polled) → Plays (poll_of s) c x d → ArePlacedWith n journal entries x.0 d
  poll_placed x plays = λ on m is.
      let before = told_before (poll_of s) c d x plays m is in
      let then = was (sym (honest_stays (poll_of s) c d x plays) ∙ on) before.0 before.1 in
      let kept : Rests true true first (places journal) x.0 d =
      keeps_end _ (poll_of s) c d x (poll_keeps true true first (places journal) (poll_places first journal) s c
      (begins first (places journal) s c before.0 before.1 then.0 honest)) plays in
      ((kept on m is).1, then.1)

pub new_placed : (n size port : ℕ) (c d : RingContents) (s : DriverState) → port ≤ LAST_PORT → IsFresh c → Plays (new_of size port 1) c s d
    → ArePlacedWith n [] [] s d
new_placed n size port c d s fits fresh plays = λ on l is. ((kept on l is).1, tt)
  where
    empty : (cid : ℕ) → ArePlaced [] (record (new_state size port 1 0) { cid = cid })
    empty cid = record {
      numbers = record {
        given = refl;
        slots = λ i e within. absurd (omega (arith, within));
        below = λ i e within. absurd (omega (arith, within));
        apart = λ i e within. absurd (omega (arith, within));
        distinct = λ i j e less within. absurd (omega (arith, within));
        ports = λ i e within. absurd (omega (arith, within));
      };
      entries = λ i e within. absurd (omega (arith, within));
      gone = λ i e within. absurd (omega (arith, within));
      below = λ id is. absurd cc;
      ports = λ i e within. absurd (omega (arith, within));
    }

    kept : Rests true true s.cid (places []) s d
    kept =
        keeps_end (λ t e. Rests true true t.cid (places []) t e) (new_of size port 1) c d s (new_keeps size port 1 fits true (places []) empty c fresh) plays
