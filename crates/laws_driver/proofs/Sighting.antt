-- A fact of the driver's connections, of those that are gone and of who waits, through all that a poll does: it is kept where small changes
-- keep it.
use Rattle.std.proofs.{Common.arith, lemmas.Grind.common_steps}
use Rattle.std.proofs.Common.{◌≡◌, ℕ, ◌==◌, not, Bool, true, false, cond, List, [], ◌∷◌, filter, Option, Some, None, refl, sym, ap, subst, ◌∙◌, slice_get}
use Rattle.vs_conn.specs.{End.{is_refused, is_reset, owes_of, verdict_of}, declared.end.{Owed.Owed, Verdict.Verdict}}
use Rattle.vs_flow.specs.{CleanPairs.of_host, Flow.same_flow, Table.{IsRising, IsTable, Table, entry_of}, declared.flow.Flow.Flow}
use Rattle.vs_header.specs.declared.Header.{Header}
use Rattle.vs_limits.specs.declared.TheConstants.{HOST_CID}
use Rattle.laws_history.specs.declared.packet.Packet.{Packet}
use Rattle.vs_page.{specs.{Fair.IsFairLog, Log.{Driver, Log, flow_got}, Open.is_dropped, declared.log.LogEntry.TheVariants.GotPacket}, proofs.Flows.same_is}
use Rattle.laws_tables.{specs.{Matches.Matches, Steps.{HasEnd, is_kept}}, proofs.{Fair.{got_not_refused, heard_all}, Slots.found_by}}
use Rattle.vs_driver_parts.specs.{Connections.{after_leaving, keeping, paid_connection, with_connection, with_request}, Conversations.after_paying}
use Rattle.vs_driver_parts.specs.Receiving.{after_packet, after_verdict, all_left, may_open, on_heard, on_known, on_packet, on_unknown, reset_reply, with_reply}
use Rattle.vs_driver_parts.{specs.State.{DriverConnection, DriverEntry, DriverState, GoneConnection, Listener}, proofs.{Ids.found_under, Packets.{first_under, others_left, packet_known, packet_unknown}}}
use Rattle.laws_driver.{specs.Honest.{IsFitState, ends_of_state}, proofs.{Carrying.Carries, Resetting.{first_contained, with_cid}, Tabling.{Stands, entry_fits, has_end, leaves}}}
use Rattle.laws_driver.proofs.Taking.{with_reply_fits}
use Rattle.vs_conn.specs.declared.end.Owed.TheVariants as owed
use Rattle.vs_conn.specs.declared.end.Verdict.TheVariants as verdict

-- Of the next port and the next id, the table, the connections that are gone, and the listeners.
abbrev pub Sight : Type 1
Sight = ℕ → ℕ → Table DriverConnection → List GoneConnection → List Listener → Type 0

abbrev pub Sees : Sight → DriverState → Type 0
Sees P s = P s.next_port s.next_id s.table s.gone s.listeners

pub record Small (P : Sight) : Type 0 where
  -- What a connection owes is put, and it stays; it hears a packet, and stays.
  pub pays : (what : Owed) (e : DriverEntry) (s : DriverState) → Stands s e → owes_of e.value.end ≡ Some what → Sees P s
      → Sees P (with_connection e.slot (paid_connection what e.value) s)
  pub hears : (v : Verdict) (p : Packet) (e : DriverEntry) (s : DriverState) → Stands s e → verdict_of e.value.end p.header ≡ v → Sees P s
      → Sees P (with_connection e.slot (after_packet v p e.value) s)
  -- One leaves the table, as it is or with the packet that ended it.
  pub leaves : (e : DriverEntry) (s : DriverState) → IsTable s.table → Stands s e → Sees P s → Sees P (after_leaving e s)
  pub ends : (p : Packet) (e : DriverEntry) (s : DriverState) → IsTable s.table → Stands s e → Sees P s
      → Sees P (after_leaving (record e { value = after_packet verdict.Peer p e.value }) s)
  -- The host asks for one.
  pub asks : (f : Flow) (h : Header) (s : DriverState) → may_open f s ≡ true → Sees P s → Sees P (with_request f h s)

module _ (P : Sight) (small : Small P) where
  paid_seen : (what : Owed) (e : DriverEntry) (s : DriverState) → IsTable s.table → Stands s e → owes_of e.value.end ≡ Some what → Sees P s
      → Sees P (after_paying what e s)
  paid_seen owed.Rst e s sound stands owes x = small.leaves e s sound stands x
  paid_seen what e s sound stands owes x = small.pays what e s stands owes x

  module _ (p : Packet) (s : DriverState) (x : Sees P s) where
    heard_seen : (e : DriverEntry) → IsTable s.table → Stands s e → (v : Verdict) → verdict_of e.value.end p.header ≡ v → is_refused v ≡ false
        → Sees P (after_verdict v p e s)
    heard_seen e sound stands (verdict.Rst why) is taken = absurd cc
    heard_seen e sound stands verdict.Peer is taken = by (is_reset p.header)
      where
        by : (b : Bool) → let c = after_packet verdict.Peer p e.value in
            Sees P (cond b (keeping (is_kept Driver e.flow e.value.end p) e.flow (after_leaving (record e { value = c }) s)) (with_connection e.slot c s))
        by true = small.ends p e s sound stands x
        by false = small.hears verdict.Peer p e s stands is x
    heard_seen e sound stands v is taken = small.hears v p e s stands is x

    unknown_seen : Sees P (on_unknown p s)
    unknown_seen = grind (arith, common_steps)

    -- Packets of a connection aren't refused.
    packet_seen : (first : ℕ) (log : Log) → IsFitState true s → Matches Driver first (ends_of_state s) log → IsFairLog Driver (GotPacket p ∷ log)
        → Sees P (on_packet p s)
    packet_seen first log fits m fair = drop_by (is_dropped Driver s.cid p.header)
      where
        known : (e : DriverEntry) → Stands s e → flow_got Driver p ≡ e.flow → Sees P (on_known p e s)
        known e stands same =
            let has : HasEnd (flow_got Driver p) e.value.end (ends_of_state s) =
            subst (λ (g : Flow). HasEnd g e.value.end (ends_of_state s)) (sym same) (has_end s e fits stands) in
            let host : (flow_got Driver p).peer ≡ HOST_CID = ap (λ (g : Flow). g.peer) same ∙ (entry_fits s e fits stands).peer refl in
            heard_seen e fits.sound stands (verdict_of e.value.end p.header) refl
            (got_not_refused Driver first p e.value.end (ends_of_state s) log m.flows has (fair (flow_got Driver p)) (heard_all first (flow_got Driver p) log host))

        found : (o : Option DriverEntry) → entry_of s.table (flow_got Driver p) ≡ o → Sees P (on_heard p s)
        found None none = subst (Sees P) (sym (packet_unknown p s none)) unknown_seen
        found (Some e) is =
            let passes = found_by (λ (y : DriverEntry). same_flow (flow_got Driver p) y.flow) s.table.entries e is in
            let stands : Stands s e = record { under = found_under _ s.table e fits.sound is; contains = passes.0 } in
            subst (Sees P) (sym (packet_known p s e is)) (known e stands (same_is (flow_got Driver p) e.flow passes.1))

        drop_by : (b : Bool) → Sees P (cond b s (on_heard p s))
        drop_by true = x
        drop_by false = found (entry_of s.table (flow_got Driver p)) refl

  -- A transport reset: all leave.
  left_seen : (es : List DriverEntry) (s : DriverState) → s.table.entries ≡ es → IsFitState true s → Sees P s → Sees P (all_left es s)
  left_seen [] s is fits x = x
  left_seen (e ∷ es) s is fits x =
      let R : List DriverEntry → Type 0 = λ xs. IsRising xs in
      let rising : R (e ∷ es) = subst R is fits.sound.rising in
      let first : slice_get s.table.entries 0 ≡ Some e = ap (λ (xs : List DriverEntry). slice_get xs 0) is in
      let stands : Stands s e = record { under = first_under s.table e fits.sound first; contains = first_contained e es s.table.entries is } in
      let l = leaves s e e.value fits stands in
      let m : DriverState = after_leaving e s in
      let table_is : m.table.entries ≡ es = ap (λ (xs : List DriverEntry). filter (λ y. not (y.slot == e.slot)) xs) is ∙ others_left e es rising in
      left_seen es (with_reply (reset_reply e) m) table_is (with_reply_fits m (reset_reply e) l.fits (entry_fits s e fits stands).ports)
      (small.leaves e s fits.sound stands x)

  pub poll_sees : (first : ℕ) → Carries true true first (λ part s log. Sees P s)
  poll_sees first = record {
    owed = λ what e s log fits stands owes m was fair x. paid_seen what e s fits.sound stands owes x;
    reply = λ r rest s log fits is m fair x. x;
    got = λ p s log fits ports whole m was fair x. packet_seen p s x first log fits m fair;
    event = λ id s log x. x;
    reset = λ cid s log less fits x. left_seen s.table.entries (record s { cid = cid; clean = of_host s.clean }) refl (with_cid cid s less fits) x;
  }
