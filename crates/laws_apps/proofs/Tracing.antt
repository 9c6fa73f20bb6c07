-- What a journal tells of the driver's connections stays so over polls, and with each call that an app makes.
use Rattle.std.proofs.Common.{◌≡◌, ◌≤◌, ◌<◌, ◌⊎◌, inl, inr, ℕ, ◌+◌, ◌==◌, ◌||◌, Bool, true, false, not, cond, List, [], ◌∷◌, length, length-take, map, min, take, Contains, Option}
use Rattle.std.proofs.{Common.{Some, None, Result, Ok, Err, refl, sym, ap, subst, ◌∙◌, arith, get_or}, lemmas.{Bool.{and_parts, eqb-true, eq-eqb}, Grind.common_steps}}
use Rattle.std.{proofs.lemmas.{List.Elements.{All-contains, All-map, Contains-get_or}, Option.{get_or_from_slice_get, same_Some, slice_get_read, slice_get_within}}, specs.List.All}
use Rattle.std.specs.{List.find, Prelude.is_some}
use Rattle.vs_contents.{specs.CallTree.{Done, bind}, proofs.Leads.{AllEnds, end_of}}
use Rattle.vs_conn.specs.{End.{ConnectionEnd, grown, may_send_of, state_may_send, wanting_credit, with_payload_sent}, declared.end.{State.State, Stop.Stop}}
use Rattle.vs_credit.specs.Credit.{free_of}
use Rattle.vs_flow.{specs.Table.{IsTable, entry_under, revalued}, proofs.{Entries.{found_at, found_passes, none_found}, Lookups.find_place}}
use Rattle.vs_ring_port.specs.{Contents.RingContents, EndLog.EndLog}
use Rattle.vs_driver_parts.specs.{State.{DriverConnection, DriverEntry, DriverState, GoneConnection, entry_known_as, gone_known_as, is_known_as}, Connections.after_close}
use Rattle.vs_driver_parts.specs.Connections.{after_closing, after_grow, after_read, after_recv, after_shut, after_shutdown, entry_answer, entry_closed}
use Rattle.vs_driver_parts.specs.Connections.{gone_answer, gone_closed, is_at_end, nothing_read, read_of, recv_of, close_of}
use Rattle.vs_driver_parts.specs.{Connections.{grow_of, state_of, unread_of_id, with_end, without_gone}, Conversations.{has_page, new_of, no_credit, not_sent}}
use Rattle.vs_driver_parts.specs.Conversations.{payload_bytes, payload_of, poll_of, post_packet, reap_all, send_of, send_on, send_stopped, send_with_credit, send_with_page}
use Rattle.vs_driver_parts.specs.{Held.HeldSlots, Listening.{accept_of, after_accept, listen_of, listening, with_waiting, without_id}, Playing.{Plays, RingAllows}}
use Rattle.vs_driver_parts.specs.{SlotFields.AreNumbered, declared.answers.{Polled.Polled, Received.Received, Sent.Sent}}
use Rattle.vs_limits.specs.declared.TheConstants.{HOST_CID, LAST_PORT}
use Rattle.vs_page.specs.declared.page.TheConstants.{PAYLOAD_MAX}
use Rattle.laws_tables.proofs.Slots.{found_by}
use Rattle.laws_driver.proofs.Calling.{close_to, grow_to, recv_to, shutdown_to}
use Rattle.laws_driver.specs.{Honest.{IsFresh, IsHonestWith, slots_of}, Carried.Calls.{GuestCall, Journal, ReplyTo, Connect, Listen, Unlisten, Accept, Send, Recv, Shutdown, Grow}}
use Rattle.laws_driver.{specs.Carried.{Calls.{Close, LookAt, is_right, whole_call}, Received.bytes_got}, proofs.{Calls.{CarriesConnect, CarriesSend, new_keeps}, Keeping.keeps_end}}
use Rattle.laws_driver.proofs.{Polling.poll_keeps, Staging.Rests, Carried.{Changing.{accept_slots, listen_slots}, Growing.honest_stays, Making.whole_with, Righting.told_before}}
use Rattle.laws_driver.proofs.Carried.Sending.{begins}
use Rattle.laws_rest.proofs.Quiet.{ends_any, ends_then}
use Rattle.vs_apps_parts.specs.{Journals.made_as, Scripts.with_noted, Told.{told_by, told_recv, told_send}}
use Rattle.laws_apps.specs.{Traces.{AtId, IsClosing, IsDrained, IsStopped, IsTraced, IsTracedWith, TellsOf, is_shut, is_touched, shuts}, Given.AreGivenWith, Placed.was_given}
use Rattle.laws_apps.proofs.Lasting.{Comes, IsLater, Traced, abort_later, comes_as, end_later, one_comes, poll_traces, read_later, shut_later, traced_still, value_traced}
use Rattle.vs_conn.specs.declared.end.State.TheVariants as state
use Rattle.vs_conn.specs.declared.end.Stop.TheVariants as stop
use Rattle.vs_driver_parts.specs.declared.answers.Received.TheVariants as got
use Rattle.vs_driver_parts.specs.declared.answers.Sent.TheVariants as sent
use Rattle.vs_apps_parts.specs.declared.told.Told.TheVariants as says

-- A call that an app makes, whose connection has this id.
abbrev pub IsApps : ℕ → GuestCall → Type 0
IsApps n (Unlisten port) = ⊥
IsApps n (Send id bytes) = id ≡ n
IsApps n (Recv id count) = id ≡ n
IsApps n (Shutdown id bits) = id ≡ n
IsApps n (Grow id alloc) = id ≡ n
IsApps n (Close id) = id ≡ n
IsApps n (LookAt id) = id ≡ n
IsApps n call = Unit {0}

pub found_gone : (p : GoneConnection → Bool) (gs : List GoneConnection) (g : GoneConnection) → find p gs ≡ Some g → Contains gs g × (p g ≡ true)
found_gone p gs g is = grind (arith, common_steps, find_place, slice_get_within, get_or_from_slice_get, found_passes)

-- The driver's connections by their ids.
module _ (s : DriverState) (sound : IsTable s.table) (numbers : AreNumbered 1 s.next_port s.next_id s.table s.gone) (journal : Journal)
    (x : IsTraced journal journal s.next_id s.table.entries) where
  one_entry : (d e : DriverEntry) → Contains s.table.entries d → Contains s.table.entries e → d.value.id ≡ e.value.id → d ≡ e
  one_entry d e in_d in_e same =
      let of_d = All-contains (λ y. y.value.id ≡ 1 + y.slot) s.table.entries d numbers.slots in_d in
      let of_e = All-contains (λ y. y.value.id ≡ 1 + y.slot) s.table.entries e numbers.slots in_e in
      let slot : d.slot ≡ e.slot = omega (arith, of_d, of_e, same) in
      same_Some d e (sym (under d in_d) ∙ ap (λ (k : ℕ). entry_under s.table k) slot ∙ under e in_e)
    where
      under : (y : DriverEntry) → Contains s.table.entries y → entry_under s.table y.slot ≡ Some y
      under y within = found_at s.table.entries within.0 y sound.rising (slice_get_read s.table.entries (length s.table.entries) within.0 y refl within.1 (sym within.2))

  known : (id : ℕ) (e : DriverEntry) → entry_known_as id s ≡ Some e → Contains s.table.entries e × (e.value.id ≡ id)
  known id e is =
      let found = found_by (is_known_as id) s.table.entries e is in (found.0, eqb-true e.value.id id (and_parts (e.value.id == id) (not e.value.closed) found.1).0)

  -- What is so of the one that is known by an id is so of all that have it.
  all_known : (P : DriverConnection → Type 0) (id : ℕ) (e : DriverEntry) → entry_known_as id s ≡ Some e → P e.value → All (λ d. d.value.id ≡ id → P d.value) s.table.entries
  all_known P id e is holds = λ k d less same.
      let at = known id e is in
      let one = one_entry (get_or s.table.entries k d) e (Contains-get_or s.table.entries k d less) at.0 (same ∙ sym at.1) in
      subst (λ (y : DriverEntry). P y.value) (sym one) holds

  -- One that isn't known is closed.
  unknown : (P : DriverConnection → Type 0) (id : ℕ) → id < s.next_id → entry_known_as id s ≡ None → (is_shut id journal ≡ true) ⊎ AtId P id s.next_id s.table.entries
  unknown P id less none = by (find (λ (e : DriverEntry). e.value.id == id) s.table.entries) refl
    where
      shut : (e : DriverEntry) → Contains s.table.entries e → (e.value.id == id) ≡ true → (b : Bool) → e.value.closed ≡ b → is_shut id journal ≡ true
      shut e within same false is =
          let no = All-contains (λ d. is_known_as id d ≡ false) s.table.entries e (none_found (is_known_as id) s.table.entries none) within in
          absurd (grind (arith, common_steps, no, same, is))
      shut e within same true is =
          subst (λ (i : ℕ). is_shut i journal ≡ true) (eqb-true e.value.id id same)
          (All-contains (λ d. is_touched d.value ≡ true → is_shut d.value.id journal ≡ true) s.table.entries e x.touched within (touched e.value.end.own.send e.value.end.own.receive))
        where
          touched : (a b : Bool) → (a || (b || e.value.closed)) ≡ true
          touched true b = refl
          touched false true = refl
          touched false false = is

      by : (o : Option DriverEntry) → find (λ (e : DriverEntry). e.value.id == id) s.table.entries ≡ o → (is_shut id journal ≡ true) ⊎ AtId P id s.next_id s.table.entries
      by None is = inr (
        less,
        λ k d within same.
            let no = none_found (λ (e : DriverEntry). e.value.id == id) s.table.entries is k d within in
            let yes = eq-eqb (get_or s.table.entries k d).value.id id same in absurd cc,
      )
      by (Some e) is = inl (let found = found_by (λ (d : DriverEntry). d.value.id == id) s.table.entries e is in shut e found.0 found.1 e.value.closed refl)

  shut_then : (e : DriverEntry) → Contains s.table.entries e → is_touched e.value ≡ true → is_shut e.value.id journal ≡ true
  shut_then e within is = All-contains (λ d. is_touched d.value ≡ true → is_shut d.value.id journal ≡ true) s.table.entries e x.touched within is

  known_shut : (id : ℕ) (e : DriverEntry) → entry_known_as id s ≡ Some e → is_touched e.value ≡ true → is_shut id journal ≡ true
  known_shut id e is touched = let at = known id e is in subst (λ (i : ℕ). is_shut i journal ≡ true) at.1 (shut_then e at.0 touched)

  -- A send that was over, and how much one took.
  abbrev SendEnds : ℕ → ℕ → Sent → Type 0
  SendEnds id most r =
      (told_send r ≡ says.Ends → (is_shut id journal ≡ true) ⊎ AtId IsStopped id s.next_id s.table.entries) × ((n : ℕ) → told_send r ≡ says.Took n → n ≤ most)

  stopped_by : (id most : ℕ) (e : DriverEntry) → id < s.next_id → entry_known_as id s ≡ Some e → (st : State) → e.value.end.state ≡ st → (why : Stop)
      → state_may_send st e.value.end ≡ Err why → SendEnds id most (send_stopped why)
  stopped_by id most e less is st at stop.NotOpen says = (λ ends. absurd cc, λ n took. absurd cc)
  stopped_by id most e less is state.Ended at stop.Reset says = (λ ends. inr (less, all_known IsStopped id e is (inl at)), λ n took. absurd cc)
  stopped_by id most e less is state.Ended at stop.ShutDown says = absurd cc
  stopped_by id most e less is state.Asked at stop.Reset says = absurd cc
  stopped_by id most e less is state.Asked at stop.ShutDown says = absurd cc
  stopped_by id most e less is state.Answering at stop.Reset says = absurd cc
  stopped_by id most e less is state.Answering at stop.ShutDown says = absurd cc
  stopped_by id most e less is state.Live at why says = by e.value.end.own.send e.value.end.peer.receive refl refl says
    where
      shuts_down : (why : Stop) → (let r : Result ℕ Stop = Err stop.ShutDown in r) ≡ Err why → (is_shut id journal ≡ true) ⊎ AtId IsStopped id s.next_id s.table.entries → SendEnds id most (send_stopped why)
      shuts_down stop.ShutDown so tells = (λ ends. tells, λ n took. absurd cc)
      shuts_down stop.Reset so tells = absurd cc
      shuts_down stop.NotOpen so tells = absurd cc

      by : (a b : Bool) → e.value.end.own.send ≡ a → e.value.end.peer.receive ≡ b → cond (a || b) (Err stop.ShutDown) (Ok (free_of e.value.end.credit)) ≡ Err why
          → SendEnds id most (send_stopped why)
      by true b own peer so =
          shuts_down why so (inl (known_shut id e is (ap (λ (q : Bool). q || (e.value.end.own.receive || e.value.closed)) own)))
      by false true own peer so = shuts_down why so (inr (less, all_known IsStopped id e is (inr peer)))
      by false false own peer so = absurd cc

  sends_end : (id : ℕ) (bytes : List ℕ) → id < s.next_id → AllEnds (λ (y : DriverState × Sent). SendEnds id (length bytes) y.1) (send_of id bytes s)
  sends_end id bytes less = by (entry_known_as id s) refl
    where
      page : (e : DriverEntry) (payload : List ℕ) → length payload ≤ length bytes → (t : DriverState) (b : Bool) → AllEnds (λ (y : DriverState × Sent). SendEnds id (length bytes) y.1)
          (cond b (bind (post_packet (payload_bytes e payload t) t) (λ u. Done (with_end (with_payload_sent e.value.end (length payload)) e u, sent.Took (length payload))))
          (Done (t, sent.NoDescriptor t.in_flight)))
      page e payload few t true = λ a b. (λ ends. absurd cc, λ n took. let same : length payload ≡ n = cc in omega (arith, few, same))
      page e payload few t false = (λ ends. absurd cc, λ n took. absurd cc)

      credits : (e : DriverEntry) (credit : ℕ) (a b : Bool) → AllEnds (λ (y : DriverState × Sent). SendEnds id (length bytes) y.1) (cond a (Done (s, sent.Took 0))
          (cond b (Done (with_end (wanting_credit e.value.end) e s, no_credit e.value.end)) (bind (reap_all s) (send_with_page e (payload_of credit bytes)))))
      credits e credit true b = (λ ends. absurd cc, λ n took. let same : 0 ≡ n = cc in omega (arith, same))
      credits e credit false true = (λ ends. absurd cc, λ n took. absurd cc)
      credits e credit false false =
          ends_then (λ (y : DriverState × Sent). SendEnds id (length bytes) y.1) (λ (t : DriverState). Unit {0}) (reap_all s) (send_with_page e (payload_of credit bytes))
          (ends_any (λ (t : DriverState). Unit {0}) (λ t. tt) (reap_all s)) (λ t u. page e (payload_of credit bytes) (let few = length-take (min credit PAYLOAD_MAX) bytes in omega (arith, few)) t (has_page t))

      may : (e : DriverEntry) → entry_known_as id s ≡ Some e → (r : Result ℕ Stop) → may_send_of e.value.end ≡ r → AllEnds (λ (y : DriverState × Sent). SendEnds id (length bytes) y.1)
          (elim r [ Err why ↦ Done (s, send_stopped why) | Ok credit ↦ send_with_credit e credit bytes s ])
      may e is (Err why) says = stopped_by id (length bytes) e less is e.value.end.state refl why says
      may e is (Ok credit) says = credits e credit (length bytes == 0) (credit == 0)

      by : (o : Option DriverEntry) → entry_known_as id s ≡ o → AllEnds (λ (y : DriverState × Sent). SendEnds id (length bytes) y.1)
          (elim o [ None ↦ Done (s, not_sent id s) | Some e ↦ send_on e bytes s ])
      by None is = none (is_some (gone_known_as id s))
        where
          none : (b : Bool) → SendEnds id (length bytes) (cond b sent.Reset sent.Unknown)
          none true = (λ ends. unknown IsStopped id less is, λ n took. absurd cc)
          none false = (λ ends. unknown IsStopped id less is, λ n took. absurd cc)
      by (Some e) is = may e is (may_send_of e.value.end) refl

  -- A receive that was over.
  abbrev RecvEnds : ℕ → Received → Type 0
  RecvEnds id r = told_recv r ≡ says.Ends → (is_shut id journal ≡ true) ⊎ AtId IsDrained id s.next_id s.table.entries

  recv_ends : (id n : ℕ) → id < s.next_id → RecvEnds id (recv_of id n s)
  recv_ends id n less = by (entry_known_as id s) refl
    where
      over : (e : DriverEntry) → entry_known_as id s ≡ Some e → (st : State) → e.value.end.state ≡ st → RecvEnds id (nothing_read st)
      over e is state.Asked at ends = absurd cc
      over e is state.Answering at ends = absurd cc
      over e is state.Live at ends = absurd cc
      over e is state.Ended at ends = inr (less, all_known IsDrained id e is (inl at))

      shut : (e : DriverEntry) → entry_known_as id s ≡ Some e → e.value.unread ≡ [] → (a b : Bool) → e.value.end.peer.send ≡ a → e.value.end.own.receive ≡ b
          → RecvEnds id (cond (a || b) got.End (nothing_read e.value.end.state))
      shut e is none true b peer own ends = inr (less, all_known IsDrained id e is (inr (peer, none)))
      shut e is none false true peer own ends = inl (known_shut id e is (touched e.value.end.own.send))
        where
          touched : (q : Bool) → (q || (e.value.end.own.receive || e.value.closed)) ≡ true
          touched true = refl
          touched false = ap (λ (r : Bool). r || e.value.closed) own
      shut e is none false false peer own ends = over e is e.value.end.state refl ends

      unread : (e : DriverEntry) → entry_known_as id s ≡ Some e → (bs : List ℕ) → e.value.unread ≡ bs
          → RecvEnds id (read_of n bs (cond (is_at_end e.value.end) got.End (nothing_read e.value.end.state)))
      unread e is [] none ends = shut e is none e.value.end.peer.send e.value.end.own.receive refl refl ends
      unread e is (b ∷ bs) some ends = absurd cc

      by : (o : Option DriverEntry) → entry_known_as id s ≡ o → RecvEnds id (elim o as (λ _. Received) [
        | Some e ↦ entry_answer n e
        | None ↦ elim (gone_known_as id s) as (λ _. Received) [ None ↦ got.Unknown | Some g ↦ gone_answer n g ]
      ])
      by None is ends = unknown IsDrained id less is
      by (Some e) is ends = unread e is e.value.unread refl ends

-- What a close leaves of a connection.
closing : (st : State) (c : DriverConnection) → IsClosing (after_closing st c) × IsLater c (after_closing st c).end (after_closing st c).unread
closing st c = grind (arith, common_steps, shut_later, abort_later)

closed_id : (st : State) (c : DriverConnection) → (after_closing st c).id ≡ c.id
closed_id state.Live c = refl
closed_id _ c = refl

-- What a call leaves, where a journal that goes on from this one has what it shuts.
module _ (s : DriverState) (by journal : Journal) (x : IsTraced by journal s.next_id s.table.entries) where
  abbrev Still : DriverState → Type 0
  Still t = IsTraced by journal t.next_id t.table.entries

  slots_still : (t : DriverState) → slots_of t ≡ slots_of s → Still t
  slots_still t same = subst (λ (h : HeldSlots). IsTraced by journal h.next_id h.table.entries) (sym same) x

  within : (id : ℕ) (e : DriverEntry) → entry_known_as id s ≡ Some e → Contains s.table.entries e
  within id e is = (found_by (is_known_as id) s.table.entries e is).0

  recv_still : (id n : ℕ) → Still (after_recv id n s)
  recv_still id n = recv_to Still id s x n (λ e is. value_traced by journal s e.slot (after_read n e.value)
      (comes_as by s.table.entries e (after_read n e.value) (within id e is) refl refl refl (read_later n e.value)) x) x

  grow_still : (id alloc : ℕ) → Still (after_grow id alloc s)
  grow_still id alloc = grow_to Still id s x alloc (λ e is done. value_traced by journal s e.slot (record e.value { end = grown e.value.end alloc })
      (comes_as by s.table.entries e _ (within id e is) refl refl refl (end_later e.value (grown e.value.end alloc) (λ is. is) refl refl)) x)

  -- One that is shut, by its id.
  module _ (id : ℕ) (shut : is_shut id by ≡ true) where
    named : (e : DriverEntry) → entry_known_as id s ≡ Some e → Contains s.table.entries e × (is_shut e.value.id by ≡ true)
    named e is = grind (arith, common_steps, found_by, eqb-true, and_parts)

    shutdown_still : (bits : ℕ) → Still (after_shutdown id bits s)
    shutdown_still bits = shutdown_to Still id s x bits (λ e is. value_traced by journal s e.slot (after_shut bits e.value) (record {
      entry = e;
      within = (named e is).0;
      id_is = refl;
      later = shut_later bits e.value;
      touched = λ on. inr (named e is).1;
      closed = λ on. inl on;
    }) x)

    close_comes : (e : DriverEntry) → Contains s.table.entries e × (is_shut e.value.id by ≡ true) → (st : State) → Comes by s.table.entries (after_closing st e.value)
    close_comes e found st = grind (arith, common_steps, closed_id, closing)

    close_still : Still (after_close id s)
    close_still = close_to Still id s x
        (λ e is. value_traced by journal s e.slot (after_closing e.value.end.state e.value) (close_comes e (named e is) e.value.end.state) x) (λ g. x)

-- A closed id: its connection is closing.
module _ (s : DriverState) (sound : IsTable s.table) (numbers : AreNumbered 1 s.next_port s.next_id s.table s.gone) (journal : Journal)
    (x : IsTraced journal journal s.next_id s.table.entries) (id : ℕ) (less : id < s.next_id) where
  abbrev Closes : DriverState → Type 0
  Closes t = AtId IsClosing id t.next_id t.table.entries

  none_closing : entry_known_as id s ≡ None → Closes s
  none_closing none = grind (arith, common_steps, within, none_found, eq-eqb)

  closes_id : Closes (after_close id s)
  closes_id = at (entry_known_as id s) refl
    where
      gone : (o : Option GoneConnection) → Closes s → Closes (elim o as (λ _. DriverState) [
        | None ↦ s
        | Some g ↦ record s { gone = without_gone id s.gone; listeners = with_waiting g.flow.guest (without_id id) s.listeners }
      ])
      gone None y = y
      gone (Some g) y = y

      revalues : (e : DriverEntry) → entry_known_as id s ≡ Some e → (c : DriverConnection) → IsClosing c
          → All (λ d. d.value.id ≡ id → IsClosing d.value) (map (revalued e.slot c) s.table.entries)
      revalues e is c closing = All-map (λ d. d.value.id ≡ id → IsClosing d.value) (revalued e.slot c) s.table.entries
          (λ k d within. each (get_or s.table.entries k d) (Contains-get_or s.table.entries k d within) ((get_or s.table.entries k d).slot == e.slot) refl)
        where
          each : (d : DriverEntry) → Contains s.table.entries d → (b : Bool) → (d.slot == e.slot) ≡ b
              → (cond b (record d { value = c }) d).value.id ≡ id → IsClosing (cond b (record d { value = c }) d).value
          each d within true slot same = closing
          each d within false slot same =
              let at = known s sound numbers journal x id e is in
              let one = one_entry s sound numbers journal x d e within at.0 (same ∙ sym at.1) in
              let own = eq-eqb d.slot e.slot (ap (λ (y : DriverEntry). y.slot) one) in
              let no : true ≡ false = sym own ∙ slot in absurd cc

      at : (o : Option DriverEntry) → entry_known_as id s ≡ o → Closes (elim o as (λ _. DriverState) [ Some e ↦ entry_closed e s | None ↦ gone_closed id s ])
      at None is = gone (gone_known_as id s) (none_closing is)
      at (Some e) is = (less, revalues e is (after_closing e.value.end.state e.value) (closing e.value.end.state e.value).0)

-- A call is noted, unless it told to wait.
noted_traced : (call : GuestCall) (reply : ReplyTo call) (journal : Journal) (next : ℕ) (es : List DriverEntry) → ((id : ℕ) → shuts call id ≡ false)
    → IsTraced journal journal next es → TellsOf call (told_by call reply) journal next es
    → let new = with_noted (made_as call reply ∷ []) journal in IsTraced new new next es
noted_traced call reply journal next es none x tells = grind (arith, common_steps)

-- A send and a connect, on the ring.
send_traces : (first : ℕ) (by journal : Journal) (id : ℕ) (bytes : List ℕ) → CarriesSend true true first id bytes (Traced by journal) (λ answer. Traced by journal)
send_traces first by journal id bytes = record {
  stopped = λ why s log x. x;
  unknown = λ s log none x. x;
  empty = λ s log x. x;
  full = λ n s log x. x;
  wants = λ e s log fits stands m x. changes s e (wanting_credit e.value.end) stands.contains (λ is. is) refl refl x;
  sends = λ e n s log fits stands known can few m was fair x.
      changes s e (with_payload_sent e.value.end (length (take n bytes))) stands.contains (λ is. is) refl refl x;
}
  where
    changes : (s : DriverState) (e : DriverEntry) (end : ConnectionEnd) → Contains s.table.entries e → (e.value.end.state ≡ state.Ended → end.state ≡ state.Ended)
        → end.own ≡ e.value.end.own → end.peer ≡ e.value.end.peer → IsTraced by journal s.next_id s.table.entries
        → let u = with_end end e s in IsTraced by journal u.next_id u.table.entries
    changes s e end within over own peer x = value_traced by journal s e.slot (record e.value { end = end })
        (comes_as by s.table.entries e (record e.value { end = end }) within refl own refl (end_later e.value end over own peer)) x

connect_traces : (first : ℕ) (journal : Journal) (port : ℕ) → CarriesConnect true true first HOST_CID port (Traced journal journal) (λ answer. Traced journal journal)
connect_traces first journal port = record {
  refused = λ why s log x. x;
  opens = λ s log fits free m was fair x.
      traced_still journal s.next_id (s.next_id + 1) s.table.entries _ (omega arith) (one_comes journal s.next_id s.table.entries _ (omega arith) refl) journal x;
}

-- A call of an app's.
module _ (first n : ℕ) (s : DriverState) (c d : RingContents) (journal : Journal) (honest : IsHonestWith true first s c)
    (numbered : c.honest ≡ true → (l : EndLog) → c.log ≡ Some l → AreNumbered 1 s.next_port s.next_id s.table s.gone) (traced : IsTracedWith journal s c)
    (gives : AreGivenWith journal s c) (given : (n ≡ 0) ⊎ (was_given n journal ≡ true)) where
  abbrev Noted : (call : GuestCall) → ReplyTo call → DriverState → Type 0
  Noted call reply t = let new = with_noted (made_as call reply ∷ []) journal in IsTraced new new t.next_id t.table.entries

  call_by : (call : GuestCall) (x : DriverState × ReplyTo call) → is_right call ≡ true → IsApps n call → Plays (whole_call call s) c x d
      → (l : EndLog) → c.honest ≡ true → c.log ≡ Some l → (m : EndLog) → d.honest ≡ true → d.log ≡ Some m → Noted call x.1 x.0
  call_by call x right apps plays l on told m on_now now = by call x right apps plays
    where
      fits : IsTable s.table
      fits = (honest on l told).fits.sound

      numbers : AreNumbered 1 s.next_port s.next_id s.table s.gone
      numbers = numbered on l told

      t : IsTraced journal journal s.next_id s.table.entries
      t = traced on l told

      less : n < s.next_id
      less = of given
        where
          of : (n ≡ 0) ⊎ (was_given n journal ≡ true) → n < s.next_id
          of (inl zero) = let next = numbers.given in omega (arith, zero, next)
          of (inr is) = (gives on l told).given n is

      own_shut : (id : ℕ) → ((id == id) || is_shut id journal) ≡ true
      own_shut id = ap (λ (b : Bool). b || is_shut id journal) (eq-eqb id id refl)

      or_shut : (a b : Bool) → b ≡ true → (a || b) ≡ true
      or_shut true b is = refl
      or_shut false b is = is

      by : (call : GuestCall) (x : DriverState × ReplyTo call) → is_right call ≡ true → IsApps n call → Plays (whole_call call s) c x d → Noted call x.1 x.0
      by (Unlisten port) x right apps plays = absurd apps
      by (Connect port) x right apps plays =
          let kept : Rests true true first (Traced journal journal) x.0 d =
          keeps_end _ (whole_call (Connect port) s) c d x (whole_with first s c (Connect port) (Traced journal journal) (λ answer. Traced journal journal) right
          (connect_traces first journal port) (begins first (Traced journal journal) s c l told t honest)) plays in
          noted_traced (Connect port) x.1 journal x.0.next_id x.0.table.entries (λ id. refl) (kept on_now m now).1 tt
      by (Send id bytes) x right apps plays =
          let tells : TellsOf (Send id bytes) (told_send x.1) journal s.next_id s.table.entries =
          end_of (λ (y : DriverState × Sent). SendEnds s fits numbers journal t id (length bytes) y.1) RingAllows (send_of id bytes s) c d x
          (sends_end s fits numbers journal t id bytes (subst (λ (i : ℕ). i < s.next_id) (sym apps) less)) plays in
          let new = with_noted (made_as (Send id bytes) x.1 ∷ []) journal in
          let noted = noted_traced (Send id bytes) x.1 journal s.next_id s.table.entries (λ i. refl) t tells in
          let kept : Rests true true first (Traced new new) x.0 d =
          keeps_end _ (whole_call (Send id bytes) s) c d x (whole_with first s c (Send id bytes) (Traced new new) (λ r. Traced new new) right (send_traces first new new id bytes)
          (begins first (Traced new new) s c l told noted honest)) plays in
          (kept on_now m now).1
      by (Listen port) x right apps plays = subst (λ (y : DriverState × ReplyTo (Listen port)). Noted (Listen port) y.1 y.0) plays.0
          (slots_still s _ _ (noted_traced (Listen port) (listen_of port s) journal s.next_id s.table.entries (λ id. refl) t tt)
          (elim (listen_of port s) as (λ _. DriverState) [ Ok u ↦ listening port s | Err why ↦ s ]) (listen_slots port s (listen_of port s)))
      by (Accept port) x right apps plays = subst (λ (y : DriverState × ReplyTo (Accept port)). Noted (Accept port) y.1 y.0) plays.0
          (slots_still s _ _ (noted_traced (Accept port) (accept_of port s) journal s.next_id s.table.entries (λ id. refl) t tt)
          (after_accept port s) (accept_slots port s))
      by (Recv id count) x right apps plays = subst (λ (y : DriverState × ReplyTo (Recv id count)). Noted (Recv id count) y.1 y.0) plays.0
          (recv_still s _ _ (noted_traced (Recv id count) (recv_of id count s, bytes_got (recv_of id count s) (unread_of_id id s)) journal s.next_id s.table.entries
          (λ i. refl) t (recv_ends s fits numbers journal t id count (subst (λ (i : ℕ). i < s.next_id) (sym apps) less))) id count)
      by (Shutdown id bits) x right apps plays = subst (λ (y : DriverState × ReplyTo (Shutdown id bits)). Noted (Shutdown id bits) y.1 y.0) plays.0
          (shutdown_still s _ _ (record {
            touched = λ k e within is. or_shut ((get_or s.table.entries k e).value.id == id) _ (t.touched k e within is);
            closed = t.closed;
            tell = (tt, t.tell);
          }) id (own_shut id) bits)
      by (Grow id alloc) x right apps plays = subst (λ (y : DriverState × ReplyTo (Grow id alloc)). Noted (Grow id alloc) y.1 y.0) plays.0
          (grow_still s _ _ (noted_traced (Grow id alloc) (grow_of id alloc s) journal s.next_id s.table.entries (λ i. refl) t tt) id alloc)
      by (Close id) x right apps plays = subst (λ (y : DriverState × ReplyTo (Close id)). Noted (Close id) y.1 y.0) plays.0
          (let still = close_still s (made_as (Close id) (close_of id s) ∷ journal) journal (record {
            touched = λ k e within is. or_shut ((get_or s.table.entries k e).value.id == id) _ (t.touched k e within is);
            closed = t.closed;
            tell = t.tell;
          }) id (own_shut id) in record {
            touched = still.touched;
            closed = still.closed;
            tell = (closes_id s fits numbers journal t id (subst (λ (i : ℕ). i < s.next_id) (sym apps) less), still.tell);
          })
      by (LookAt id) x right apps plays = subst (λ (y : DriverState × ReplyTo (LookAt id)). Noted (LookAt id) y.1 y.0) plays.0
          (noted_traced (LookAt id) (state_of id s) journal s.next_id s.table.entries (λ i. refl) t tt)

  pub call_traced : (call : GuestCall) (x : DriverState × ReplyTo call) → is_right call ≡ true → IsApps n call → Plays (whole_call call s) c x d
      → IsTracedWith (with_noted (made_as call x.1 ∷ []) journal) x.0 d
  call_traced call x right apps plays = λ on m is.
      let before = told_before (whole_call call s) c d x plays m is in
      call_by call x right apps plays before.0 (sym (honest_stays (whole_call call s) c d x plays) ∙ on) before.1 m on is

-- A poll.
pub poll_traced : (first : ℕ) (s : DriverState) (c d : RingContents) (journal : Journal) (x : DriverState × Polled) → IsHonestWith true first s c
    → IsTracedWith journal s c → Plays (poll_of s) c x d → IsTracedWith journal x.0 d
poll_traced first s c d journal x honest traced plays = λ on m is.
    let before = told_before (poll_of s) c d x plays m is in
    let then : c.honest ≡ true = sym (honest_stays (poll_of s) c d x plays) ∙ on in
    let kept : Rests true true first (Traced journal journal) x.0 d =
    keeps_end _ (poll_of s) c d x (poll_keeps true true first (Traced journal journal) (poll_traces journal journal first) s c
    (begins first (Traced journal journal) s c before.0 before.1 (traced then before.0 before.1) honest)) plays in
    (kept on m is).1

-- A driver that was just made.
pub new_traced : (size port : ℕ) (c d : RingContents) (s : DriverState) → port ≤ LAST_PORT → IsFresh c → Plays (new_of size port 1) c s d → IsTracedWith [] s d
new_traced size port c d s fits fresh plays = λ on l is. (kept on l is).1
  where
    none : IsTraced [] [] 1 []
    none = record { touched = λ k e within. absurd (omega (arith, within)); closed = λ k e within. absurd (omega (arith, within)); tell = tt }

    kept : Rests true true s.cid (Traced [] []) s d
    kept = keeps_end (λ t e. Rests true true t.cid (Traced [] []) t e) (new_of size port 1) c d s (new_keeps size port 1 fits true (Traced [] []) (λ cid. none) c fresh) plays
