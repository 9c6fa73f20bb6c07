-- What a journal tells of the driver's connections, through each change of them.
use Rattle.std.proofs.Common.{◌≡◌, ◌≤◌, ◌⊎◌, inl, inr, ℕ, ◌+◌, ◌==◌, Bool, true, false, not, cond, List, [], ◌∷◌, ◌++◌, filter, map, Contains, get_or}
use Rattle.std.proofs.{Common.{Some, refl, arith}, lemmas.{Grind.common_steps, List.Elements.{All-filter, All-map, All-push}}}
use Rattle.std.{proofs.lemmas.List.Elements.Contains-get_or, specs.List.All}
use Rattle.vs_conn.specs.{End.{ConnectionEnd, aborted, end_after, owes_of, paid_of, verdict_of, with_payload_forwarded, with_shut}, declared.end.Owed.Owed}
use Rattle.vs_conn.{specs.declared.end.{Verdict.Verdict, State.TheVariants.Ended}, proofs.Frames.{got_over, got_own, paid_over, paid_own, paid_peer}}
use Rattle.vs_flow.specs.{Table.{revalued}}
use Rattle.vs_header.specs.declared.Header.{Header}
use Rattle.laws_history.specs.declared.packet.Packet.{Packet}
use Rattle.vs_driver_parts.specs.{State.{DriverConnection, DriverEntry, DriverState}, Connections.{after_leaving, after_read, after_shut, paid_connection, waits_no_more}}
use Rattle.vs_driver_parts.specs.{Connections.{with_connection}, Receiving.{after_packet}}
use Rattle.laws_driver.proofs.Sighting.{Small, poll_sees}
use Rattle.laws_driver.{proofs.Carrying.{Carries, Fact}, specs.Carried.Calls.{Journal, Made}}
use Rattle.vs_apps_parts.specs.Told.{told_of}
use Rattle.laws_apps.specs.Traces.{AllTell, AtId, IsClosing, IsDrained, IsStopped, IsTraced, TellsOf, is_shut, is_touched}
use Rattle.vs_conn.specs.declared.end.Owed.TheVariants as owed
use Rattle.vs_conn.specs.declared.end.Verdict.TheVariants as verdict

-- A connection came to have this end and these unread bytes.
pub record IsLater (c : DriverConnection) (end : ConnectionEnd) (unread : List ℕ) : Type 0 where
  pub over : c.end.state ≡ Ended → end.state ≡ Ended
  pub shut_send : c.end.own.send ≡ true → end.own.send ≡ true
  pub shut_receive : c.end.own.receive ≡ true → end.own.receive ≡ true
  pub peer_receives : c.end.peer.receive ≡ true → end.peer.receive ≡ true
  pub drained : c.end.peer.send ≡ true → c.unread ≡ [] → (end.state ≡ Ended) ⊎ ((end.peer.send ≡ true) × (unread ≡ []))

-- What lasts then.
abbrev pub Lasts : (DriverConnection → Type 0) → Type 0
Lasts P = (c d : DriverConnection) → IsLater c d.end d.unread → P c → P d

pub stopped_lasts : Lasts IsStopped
stopped_lasts c d later (inl over) = inl (later.over over)
stopped_lasts c d later (inr peer) = inr (later.peer_receives peer)

pub drained_lasts : Lasts IsDrained
drained_lasts c d later (inl over) = inl (later.over over)
drained_lasts c d later (inr none) = later.drained none.0 none.1

pub closing_lasts : Lasts IsClosing
closing_lasts c d later (inl over) = inl (later.over over)
closing_lasts c d later (inr shut) = inr (later.shut_send shut.0, later.shut_receive shut.1)

-- A connection that comes from one of the table; and one that is new.
pub record Comes (by : Journal) (es : List DriverEntry) (d : DriverConnection) : Type 0 where
  pub entry : DriverEntry
  pub within : Contains es entry
  pub id_is : d.id ≡ entry.value.id
  pub later : IsLater entry.value d.end d.unread
  pub touched : is_touched d ≡ true → (is_touched entry.value ≡ true) ⊎ (is_shut d.id by ≡ true)
  pub closed : d.closed ≡ true → (entry.value.closed ≡ true) ⊎ IsClosing d

abbrev pub Came : Journal → ℕ → List DriverEntry → DriverEntry → Type 0
Came by next es d = Comes by es d.value ⊎ ((next ≤ d.value.id) × (is_touched d.value ≡ false))

closed_touched : (c : DriverConnection) → c.closed ≡ true → is_touched c ≡ true
closed_touched c is = grind (arith, common_steps)

module _ (by : Journal) (next then : ℕ) (es fs : List DriverEntry) (more : next ≤ then) (came : All (Came by next es) fs) where
  pub at_id : (P : DriverConnection → Type 0) → Lasts P → (id : ℕ) → AtId P id next es → AtId P id then fs
  at_id P lasts id at = grind (arith, common_steps)

  either : (P : DriverConnection → Type 0) → Lasts P → (id : ℕ) (older : Journal) → (is_shut id older ≡ true) ⊎ AtId P id next es
      → (is_shut id older ≡ true) ⊎ AtId P id then fs
  either P lasts id older (inl shut) = inl shut
  either P lasts id older (inr at) = inr (at_id P lasts id at)

  pub tells_still : (m : Made) (older : Journal) → TellsOf m.call (told_of m) older next es → TellsOf m.call (told_of m) older then fs
  tells_still m older tells = grind (arith, common_steps, either, stopped_lasts, drained_lasts, at_id, closing_lasts)

  tell_still : (j : Journal) → AllTell j next es → AllTell j then fs
  tell_still [] all = tt
  tell_still (m ∷ older) all = (tells_still m older all.0, tell_still older all.1)

  pub traced_still : (journal : Journal) → IsTraced by journal next es → IsTraced by journal then fs
  traced_still journal x = grind (arith, common_steps, tell_still, closed_touched, closing_lasts)

-- The changes of a table.
pub same_later : (c : DriverConnection) → IsLater c c.end c.unread
same_later c = grind (arith, common_steps)

module _ (by : Journal) (next : ℕ) (es : List DriverEntry) where
  stays : (e : DriverEntry) → Contains es e → Came by next es e
  stays e within = inl (record { entry = e; within = within; id_is = refl; later = same_later e.value; touched = λ is. inl is; closed = λ is. inl is })

  pub all_stay : All (Came by next es) es
  all_stay = λ k d less. stays (get_or es k d) (Contains-get_or es k d less)

  pub value_comes : (slot : ℕ) (c : DriverConnection) → Comes by es c → All (Came by next es) (map (revalued slot c) es)
  value_comes slot c comes = All-map (Came by next es) (revalued slot c) es (λ k d less. at (get_or es k d) (Contains-get_or es k d less))
    where
      at : (e : DriverEntry) → Contains es e → Came by next es (revalued slot c e)
      at e within = is_at (e.slot == slot)
        where
          is_at : (b : Bool) → Came by next es (cond b (record e { value = c }) e)
          is_at true = inl comes
          is_at false = stays e within

  pub others_stay : (slot : ℕ) → All (Came by next es) (filter (λ e. not (e.slot == slot)) es)
  others_stay slot = All-filter (λ e. not (e.slot == slot)) (Came by next es) es all_stay

  pub one_comes : (e : DriverEntry) → next ≤ e.value.id → is_touched e.value ≡ false → All (Came by next es) (es ++ e ∷ [])
  one_comes e above untouched = All-push (Came by next es) es e all_stay (inr (above, untouched))

-- A change that the guest didn't decide.
pub comes_as : (by : Journal) (es : List DriverEntry) (e : DriverEntry) (c : DriverConnection) → Contains es e → c.id ≡ e.value.id
    → c.end.own ≡ e.value.end.own → c.closed ≡ e.value.closed → IsLater e.value c.end c.unread → Comes by es c
comes_as by es e c within id own closed later = grind (arith, common_steps)

-- What an end does.
pub end_later : (c : DriverConnection) (e : ConnectionEnd) → (c.end.state ≡ Ended → e.state ≡ Ended) → e.own ≡ c.end.own → e.peer ≡ c.end.peer
    → IsLater c e c.unread
end_later c e over own peer = grind (arith, common_steps)

got_receives : (e : ConnectionEnd) (h : Header) → e.peer.receive ≡ true → (end_after e h).peer.receive ≡ true
got_receives e h is = grind (arith, common_steps, is)

got_sends : (e : ConnectionEnd) (h : Header) → e.peer.send ≡ true → (end_after e h).peer.send ≡ true
got_sends e h is = grind (arith, common_steps, is)

not_delivered : (e : ConnectionEnd) (h : Header) → e.peer.send ≡ true → verdict_of e h ≡ verdict.Deliver → ⊥
not_delivered e h is delivers = grind (arith, common_steps, is, delivers)

forwarded_over : (e : ConnectionEnd) (n : ℕ) → e.state ≡ Ended → (with_payload_forwarded e n).state ≡ Ended
forwarded_over e n over = grind (arith, common_steps, over)

shut_over : (e : ConnectionEnd) (bits : ℕ) → e.state ≡ Ended → (with_shut e bits).state ≡ Ended
shut_over e bits over = grind (arith, common_steps, over)

packet_later : (v : Verdict) (p : Packet) (c : DriverConnection) → verdict_of c.end p.header ≡ v → IsLater c (after_packet v p c).end (after_packet v p c).unread
packet_later v p c = grind (arith, common_steps, got_over, got_own, got_receives, not_delivered, got_sends)

packet_comes : (by : Journal) (es : List DriverEntry) (e : DriverEntry) (v : Verdict) (p : Packet) → Contains es e → verdict_of e.value.end p.header ≡ v
    → Comes by es (after_packet v p e.value)
packet_comes by es e v p = grind (arith, common_steps, comes_as, got_own, packet_later)

pub read_later : (n : ℕ) (c : DriverConnection) → IsLater c (after_read n c).end (after_read n c).unread
read_later n c = grind (arith, common_steps, forwarded_over)

pub shut_later : (bits : ℕ) (c : DriverConnection) → IsLater c (after_shut bits c).end (after_shut bits c).unread
shut_later bits c = grind (arith, common_steps, shut_over)

pub abort_later : (c : DriverConnection) → IsLater c (aborted c.end) c.unread
abort_later c = record { over = λ is. refl; shut_send = λ is. is; shut_receive = λ is. is; peer_receives = λ is. is; drained = λ sends none. inl refl }

-- A poll.
abbrev pub Traced : Journal → Journal → Fact
Traced by journal part s log = IsTraced by journal s.next_id s.table.entries

module _ (by journal : Journal) where
  abbrev At : DriverState → Type 0
  At s = IsTraced by journal s.next_id s.table.entries

  pub value_traced : (s : DriverState) (slot : ℕ) (c : DriverConnection) → Comes by s.table.entries c → At s → At (with_connection slot c s)
  value_traced s slot c comes x =
      traced_still by s.next_id s.next_id s.table.entries (map (revalued slot c) s.table.entries) (omega arith)
      (value_comes by s.next_id s.table.entries slot c comes) journal x

  leaving_traced : (s : DriverState) (e : DriverEntry) → At s → At (after_leaving e s)
  leaving_traced s e x = on e.value.unanswered (traced_still by s.next_id s.next_id s.table.entries _ (omega arith) (others_stay by s.next_id s.table.entries e.slot) journal x)
    where
      on : (b : Bool) → IsTraced by journal s.next_id (filter (λ y. not (y.slot == e.slot)) s.table.entries)
          → IsTraced by journal (cond b (waits_no_more e s) s).next_id (filter (λ y. not (y.slot == e.slot)) s.table.entries)
      on true y = y
      on false y = y

  pays_traced : (what : Owed) (e : DriverEntry) (s : DriverState) → Contains s.table.entries e → owes_of e.value.end ≡ Some what → At s
      → At (with_connection e.slot (paid_connection what e.value) s)
  pays_traced owed.Response e s within owes x =
      value_traced s e.slot (paid_connection owed.Response e.value)
      (comes_as by s.table.entries e (paid_connection owed.Response e.value) within refl refl refl
      (end_later e.value (paid_of e.value.end owed.Response) (paid_over e.value.end owed.Response owes) refl refl)) x
  pays_traced what e s within owes x =
      value_traced s e.slot (paid_connection what e.value)
      (comes_as by s.table.entries e (paid_connection what e.value) within refl (paid_own e.value.end what) refl
      (end_later e.value (paid_of e.value.end what) (paid_over e.value.end what owes) (paid_own e.value.end what) (paid_peer e.value.end what))) x

  small_traced : Small (λ port next table gone ls. IsTraced by journal next table.entries)
  small_traced = record {
    pays = λ what e s stands owes x. pays_traced what e s stands.contains owes x;
    hears = λ v p e s stands is x. value_traced s e.slot (after_packet v p e.value) (packet_comes by s.table.entries e v p stands.contains is) x;
    leaves = λ e s sound stands x. leaving_traced s e x;
    ends = λ p e s sound stands x. leaving_traced s (record e { value = after_packet verdict.Peer p e.value }) x;
    asks = λ f h s may x.
        traced_still by s.next_id (s.next_id + 1) s.table.entries _ (omega arith) (one_comes by s.next_id s.table.entries _ (omega arith) refl) journal x;
  }

  pub poll_traces : (first : ℕ) → Carries true true first (Traced by journal)
  poll_traces first = poll_sees (λ port next table gone ls. IsTraced by journal next table.entries) small_traced first
