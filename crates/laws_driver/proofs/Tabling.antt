-- What steps on the table do to the driver's numbers, and to its connections as ends.
use Rattle.std.proofs.Common.{◌≡◌, ℕ, ◌+◌, ◌<◌, ◌≤◌, ◌^◌, ◌==◌, Bool, true, false, cond, not, List, [], ◌∷◌, ◌++◌, get_or, refl, ap, ◌∙◌, Some, arith}
use Rattle.std.{proofs.lemmas.{Grind.common_steps, List.Elements.{All-map, All-push, All-filter}}, specs.{List.All, Prelude.Contains}}
use Rattle.vs_header.specs.declared.Kind.TheVariants.{Stream}
use Rattle.vs_flow.specs.{CleanPairs.kept_if, Table.{Table, entry_under, with_entry, without, next_entry, revalued}, Flow.host_asks, declared.flow.Flow.Flow}
use Rattle.vs_flow.proofs.Tables.{with_value_sound, without_sound, with_entry_sound, revalued-flow, IsAccepted}
use Rattle.vs_limits.specs.declared.TheConstants.{HOST_CID, LAST_PORT}
use Rattle.vs_replies.specs.declared.Reply.{Reply}
use Rattle.laws_tables.{proofs.Slots.{changed_slot, one_end, removed_slot}, specs.{Ends.{Ends, FlowEnd, entries_of}, Steps.{HasEnd, with_end, left, with_clean}}}
use Rattle.vs_driver_parts.specs.{State.{DriverConnection, DriverEntry, DriverState, GoneConnection}, Connections.{with_connection, after_leaving, waits_no_more, is_let_go}}
use Rattle.vs_driver_parts.{specs.{Connections.{gone_as, keeping}, SlotFields.AreClean}, proofs.{Ids.entry_has, Clean.{clean_left, clean_value, clean_without}}}
use Rattle.laws_driver.{specs.Honest.{IsFit, IsFitEntry, IsFitFlow, IsFitReply, IsFitState, end_in, ends_of_state, IsFitClean}, proofs.Fits.IsHeldBy}

-- An entry that stands in the table.
pub record Stands (s : DriverState) (e : DriverEntry) : Type 0 where
  pub under : entry_under s.table e.slot ≡ Some e
  pub contains : Contains s.table.entries e

module _ {hosts : Bool} where
  pub has_end : (s : DriverState) (e : DriverEntry) → IsFitState hosts s → Stands s e → HasEnd e.flow e.value.end (ends_of_state s)
  has_end s e fits stands = one_end end_in s.table e fits.sound stands.contains

  pub entry_fits : (s : DriverState) (e : DriverEntry) → IsFitState hosts s → Stands s e → IsFitEntry hosts e
  entry_fits s e fits stands = entry_has (IsFitEntry hosts) (λ x. x.slot == e.slot) s.table.entries e fits.entries stands.under

  -- Another connection in its place.
  revalued_fits : (slot : ℕ) (c : DriverConnection) (e : DriverEntry) → IsHeldBy c → c.end.kind ≡ Stream → IsFitEntry hosts e → IsFitEntry hosts (revalued slot c e)
  revalued_fits slot c e held kind fits = grind (arith, common_steps)

  pub connection_fits : (s : DriverState) (slot : ℕ) (c : DriverConnection) → IsFitState hosts s → IsHeldBy c → c.end.kind ≡ Stream
      → IsFitState hosts (with_connection slot c s)
  connection_fits s slot c fits held kind = record {
    cid_fits = fits.cid_fits;
    port_left = fits.port_left;
    sound = with_value_sound s.table slot c fits.sound;
    places = fits.places;
    given = fits.given;
    entries = All-map (IsFitEntry hosts) (revalued slot c) s.table.entries (λ k d lt. revalued_fits slot c (get_or s.table.entries k d) held kind (fits.entries k d lt));
    ports = All-map (λ x. host_asks x.flow ≡ false → x.flow.guest < s.next_port) (revalued slot c) s.table.entries
        (λ k d lt. rw (revalued-flow slot c (get_or s.table.entries k d)) (fits.ports k d lt));
    owed = fits.owed;
    clean_fit = fits.clean_fit;
    clean_sound = clean_value s.next_port s.table s.clean slot c fits.clean_sound;
  }

  pub connection_ends : (s : DriverState) (e : DriverEntry) (c : DriverConnection) → IsFitState hosts s → Stands s e
      → ends_of_state (with_connection e.slot c s) ≡ with_end e.flow c.end (ends_of_state s)
  connection_ends s e c fits stands =
      ap (λ (es : List FlowEnd). let part : Ends = record (ends_of_state s) { entries = es } in part) (changed_slot end_in s.table e c fits.sound stands.contains)

  -- Another CID, and other replies.
  pub replies_fit : (cid : ℕ) (rs : List Reply) (s : DriverState) → IsFitState hosts s → cid < 2 ^ 64 → All IsFitReply rs → IsFitState hosts (record s { cid = cid; replies = rs })
  replies_fit cid rs s fits less owed = grind (arith, common_steps)

  -- It leaves the table.
  left_by : (b : Bool) (s : DriverState) (e : DriverEntry) (t : Table DriverConnection) (gone : List GoneConnection)
      → let s' : DriverState = record (cond b (waits_no_more e s) s) { table = t; gone = gone } in
      (ends_of_state s' ≡ record (ends_of_state s) { entries = entries_of end_in t }) × (s'.replies ≡ s.replies) × (s'.broken ≡ s.broken)
      × (IsFit hosts s.cid s.next_port s.next_id t s.replies s.clean → IsFitState hosts s')
  left_by true s e t gone = (refl, refl, refl, λ fits. fits)
  left_by false s e t gone = (refl, refl, refl, λ fits. fits)

pub record Leaves (hosts : Bool) (s : DriverState) (e : DriverEntry) (t : DriverState) : Type 0 where
  pub ends : ends_of_state t ≡ left e.flow (ends_of_state s)
  pub fits : IsFitState hosts t
  pub broken : t.broken ≡ s.broken
  pub replies : t.replies ≡ s.replies

module _ {hosts : Bool} where
  pub leaves : (s : DriverState) (e : DriverEntry) (c : DriverConnection) → IsFitState hosts s → Stands s e → Leaves hosts s e (after_leaving (record e { value = c }) s)
  leaves s e c fits stands =
      let t = without s.table e.slot in
      let now : DriverEntry = record e { value = c } in
      let by = left_by c.unanswered s now t (cond (is_let_go c) s.gone (s.gone ++ gone_as now ∷ [])) in
      record {
        ends = by.0 ∙ ap (λ (es : List FlowEnd). let part : Ends = record (ends_of_state s) { entries = es } in part) (removed_slot end_in s.table e fits.sound stands.contains);
        fits = by.3 (record {
          cid_fits = fits.cid_fits;
          port_left = fits.port_left;
          sound = without_sound s.table e.slot fits.sound;
          places = fits.places;
          given = fits.given;
          entries = All-filter (λ x. not (x.slot == e.slot)) (IsFitEntry hosts) s.table.entries fits.entries;
          ports = All-filter (λ x. not (x.slot == e.slot)) (λ x. host_asks x.flow ≡ false → x.flow.guest < s.next_port) s.table.entries fits.ports;
          owed = fits.owed;
          clean_fit = fits.clean_fit;
          clean_sound = clean_without s.next_port s.table s.clean e.slot fits.sound fits.clean_sound;
        });
        broken = by.2;
        replies = by.1;
      }

  -- And its flow is kept, or not.
  kept_by : (b k : Bool) (f : Flow) (s : DriverState) (e : DriverEntry) (t : Table DriverConnection) (gone : List GoneConnection)
      → let s' : DriverState = keeping k f (record (cond b (waits_no_more e s) s) { table = t; gone = gone }) in
      (ends_of_state s' ≡ with_clean k f (record (ends_of_state s) { entries = entries_of end_in t })) × (s'.broken ≡ s.broken)
      × (IsFit hosts s.cid s.next_port s.next_id t s.replies (kept_if k f s.clean) → IsFitState hosts s')
  kept_by b k f s e t gone = grind (arith, common_steps)

  kept_fit : (k : Bool) (f : Flow) (fs : List Flow) → IsFitClean hosts f → All (IsFitClean hosts) fs → All (IsFitClean hosts) (kept_if k f fs)
  kept_fit k f fs one all = grind (arith, common_steps)

pub record LeavesKept (hosts : Bool) (k : Bool) (s : DriverState) (e : DriverEntry) (t : DriverState) : Type 0 where
  pub ends : ends_of_state t ≡ with_clean k e.flow (left e.flow (ends_of_state s))
  pub fits : IsFitState hosts t
  pub broken : t.broken ≡ s.broken

module _ {hosts : Bool} where
  pub leaves_kept : (k : Bool) (s : DriverState) (e : DriverEntry) (c : DriverConnection) → IsFitState hosts s → Stands s e → (k ≡ true → host_asks e.flow ≡ false)
      → LeavesKept hosts k s e (keeping k e.flow (after_leaving (record e { value = c }) s))
  leaves_kept k s e c fits stands own =
      let t = without s.table e.slot in
      let now : DriverEntry = record e { value = c } in
      let l = leaves s e c fits stands in
      let entry = entry_fits s e fits stands in
      let by = kept_by c.unanswered k e.flow s now t (cond (is_let_go c) s.gone (s.gone ++ gone_as now ∷ [])) in
      let below = entry_has (λ x. host_asks x.flow ≡ false → x.flow.guest < s.next_port) (λ x. x.slot == e.slot) s.table.entries e fits.ports stands.under in
      record {
        ends = by.0 ∙ ap (λ (es : List FlowEnd). let part : Ends = record (ends_of_state s) { entries = es } in with_clean k e.flow part)
            (removed_slot end_in s.table e fits.sound stands.contains);
        fits = by.2 (record {
          cid_fits = fits.cid_fits;
          port_left = fits.port_left;
          sound = without_sound s.table e.slot fits.sound;
          places = fits.places;
          given = fits.given;
          entries = All-filter (λ x. not (x.slot == e.slot)) (IsFitEntry hosts) s.table.entries fits.entries;
          ports = All-filter (λ x. not (x.slot == e.slot)) (λ x. host_asks x.flow ≡ false → x.flow.guest < s.next_port) s.table.entries fits.ports;
          owed = fits.owed;
          clean_fit = kept_fit k e.flow s.clean (record { ports = entry.ports; peer = entry.peer }) fits.clean_fit;
          clean_sound = clean_left k s.next_port s.table s.clean e.slot e fits.sound stands.under own below fits.clean_sound;
        });
        broken = by.1;
      }

  -- A connection more, and these flows are kept.
  pub opening_fits : (s : DriverState) (f : Flow) (c : DriverConnection) (port : ℕ) (clean : List Flow) → IsFitState hosts s → IsAccepted s.table f → IsFitFlow f
      → (hosts ≡ true → f.peer ≡ HOST_CID) → IsHeldBy c → c.end.kind ≡ Stream
      → port ≤ LAST_PORT + 1 → s.next_port ≤ port → (host_asks f ≡ false → f.guest < port)
      → All (IsFitClean hosts) clean → AreClean port (with_entry s.table f c) clean
      → IsFit hosts s.cid port (s.next_id + 1) (with_entry s.table f c) s.replies clean
  opening_fits s f c port clean fits free ports peer held kind left more below fit sound = record {
    cid_fits = fits.cid_fits;
    port_left = left;
    sound = with_entry_sound s.table f c fits.sound free;
    places = fits.places;
    given = omega (arith, fits.given);
    entries = All-push (IsFitEntry hosts) s.table.entries (next_entry s.table f c) fits.entries (record { ports = ports; peer = peer; kind = kind; buffer = held });
    ports = All-push (λ e. host_asks e.flow ≡ false → e.flow.guest < port) s.table.entries (next_entry s.table f c)
        (λ k d lt mine. let less = fits.ports k d lt mine in omega (arith, less, more)) below;
    owed = fits.owed;
    clean_fit = fit;
    clean_sound = sound;
  }

-- Less is said of the peers.
pub fits_weaker : (hosts fewer : Bool) → (fewer ≡ true → hosts ≡ true) → (s : DriverState) → IsFitState hosts s → IsFitState fewer s
fits_weaker hosts fewer then s fits = grind (arith, common_steps)
