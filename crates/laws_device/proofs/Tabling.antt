-- What steps on the table do to the device's numbers, and to its connections as ends.
use Rattle.std.proofs.lemmas.Grind.{common_steps}
use Rattle.std.proofs.Common.{◌≡◌, ℕ, ◌+◌, ◌-◌, ◌==◌, Bool, true, false, cond, not, List, [], ◌∷◌, get_or, refl, arith, length, Contains, sym, ap, subst, ◌∙◌}
use Rattle.std.{proofs.lemmas.List.Elements.{All-cons, All-map, All-push, All-tail, All-filter}, specs.List.All}
use Rattle.vs_header.specs.declared.Kind.TheVariants.{Stream}
use Rattle.vs_flow.specs.{CleanPairs.{kept_if, without_oldest}, Flow.same_flow, Table.{Table, with_value, without, with_entry, next_entry, revalued}, declared.flow.Flow.Flow}
use Rattle.vs_flow.proofs.Tables.{with_value_sound, without_sound, with_entry_sound, IsAccepted}
use Rattle.laws_tables.{specs.{Ends.{Ends, FlowEnd, entries_of, is_new}, Steps.{HasEnd, with_clean, with_end, left}}, proofs.Slots.{changed_slot, one_end, removed_slot}}
use Rattle.laws_tables.proofs.Changes.{without_changed}
use Rattle.vs_device_parts.specs.{State.{DeviceConnection, DeviceEntry, DeviceState}, Connections.with_connection}
use Rattle.laws_device.specs.Honest.{HasNothing, HoldsBytes, IsFit, IsFitClean, IsFitEntry, IsFitFlow, IsFitState, end_in, ends_of_state}

-- What is kept of a connection.
pub record IsFitConnection (c : DeviceConnection) : Type 0 where
  pub bytes : HoldsBytes c.end.credit (length c.pending)
  pub new : is_new c.end ≡ true → HasNothing c

-- One whose REQUEST was put or got.
pub begun_fits : (c : DeviceConnection) → HoldsBytes c.end.credit (length c.pending) → is_new c.end ≡ false → IsFitConnection c
begun_fits c bytes begun = record { bytes = bytes; new = λ new. absurd cc }

revalued_fits : (slot : ℕ) (c : DeviceConnection) (e : DeviceEntry) → IsFitConnection c → c.end.kind ≡ Stream → IsFitEntry e
    → IsFitEntry (revalued slot c e)
revalued_fits slot c e held kind fits = grind (arith, common_steps)

-- A flow more is kept, or not.
kept_fit : (keep : Bool) (f : Flow) (fs : List Flow) → All IsFitClean fs → (keep ≡ true → IsFitClean f) → All IsFitClean (kept_if keep f fs)
kept_fit keep f fs each own = grind (arith, common_steps)

-- And one is used again.
pub removed_fit : (f : Flow) (fs : List Flow) → All IsFitClean fs → All IsFitClean (without_oldest (same_flow f) fs)
removed_fit f [] each = each
removed_fit f (g ∷ gs) each = by (same_flow f g) (removed_fit f gs (All-tail IsFitClean g gs each))
  where
    by : (b : Bool) → All IsFitClean (without_oldest (same_flow f) gs) → All IsFitClean (cond b gs (g ∷ without_oldest (same_flow f) gs))
    by true rest = All-tail IsFitClean g gs each
    by false rest = All-cons IsFitClean g (without_oldest (same_flow f) gs) (each 0 g (omega arith)) rest

module _ (s : DeviceState) (fits : IsFitState s) where
  -- Another connection under a slot.
  pub connection_fits : (slot : ℕ) (c : DeviceConnection) → IsFitConnection c → c.end.kind ≡ Stream → IsFitState (with_connection slot c s)
  connection_fits slot c held kind = record {
    cid_fits = fits.cid_fits;
    sound = with_value_sound s.table slot c fits.sound;
    entries = All-map IsFitEntry (revalued slot c) s.table.entries
        (λ k d lt. revalued_fits slot c (get_or s.table.entries k d) held kind (fits.entries k d lt));
    owed = fits.owed;
    clean_fit = fits.clean_fit;
  }

  -- A connection more.
  pub opening_fits : (f : Flow) (c : DeviceConnection) → IsAccepted s.table f → IsFitFlow f → IsFitConnection c → c.end.kind ≡ Stream
      → IsFit s.cid (with_entry s.table f c) s.replies s.clean
  opening_fits f c free ports held kind = record {
    cid_fits = fits.cid_fits;
    sound = with_entry_sound s.table f c fits.sound free;
    entries = All-push IsFitEntry s.table.entries (next_entry s.table f c) fits.entries
        (record { ports = ports; kind = kind; bytes = held.bytes; new = held.new });
    owed = fits.owed;
    clean_fit = fits.clean_fit;
  }

  module _ (e : DeviceEntry) (there : Contains s.table.entries e) where
    pub has_end : (port : ℕ) → HasEnd e.flow e.value.end (ends_of_state port s)
    has_end port = one_end end_in s.table e fits.sound there

    pub entry_fits : IsFitEntry e
    entry_fits = subst IsFitEntry there.2 (fits.entries there.0 e there.1)

    pub connection_ends : (port : ℕ) (c : DeviceConnection)
        → ends_of_state port (with_connection e.slot c s) ≡ with_end e.flow c.end (ends_of_state port s)
    connection_ends port c =
        ap (λ (es : List FlowEnd). let part : Ends = record (ends_of_state port s) { entries = es } in part)
        (changed_slot end_in s.table e c fits.sound there)

    -- It leaves the table, after another change of it.
    pub left_fits : (c : DeviceConnection) (keep : Bool) → (keep ≡ true → IsFitClean e.flow)
        → IsFit s.cid (without (with_value s.table e.slot c) e.slot) s.replies (kept_if keep e.flow s.clean)
    left_fits c keep own = subst (λ (t : Table DeviceConnection). IsFit s.cid t s.replies (kept_if keep e.flow s.clean)) (sym (without_changed s.table e.slot c)) (record {
      cid_fits = fits.cid_fits;
      sound = without_sound s.table e.slot fits.sound;
      entries = All-filter (λ x. not (x.slot == e.slot)) IsFitEntry s.table.entries fits.entries;
      owed = fits.owed;
      clean_fit = kept_fit keep e.flow s.clean fits.clean_fit own;
    })

    pub left_ends : (port : ℕ) (c : DeviceConnection) (keep : Bool)
        → ends_of_state port (record s { table = without (with_value s.table e.slot c) e.slot; clean = kept_if keep e.flow s.clean })
        ≡ with_clean keep e.flow (left e.flow (ends_of_state port s))
    left_ends port c keep = ap (λ (es : List FlowEnd). let part : Ends = record (ends_of_state port s) { entries = es; clean = kept_if keep e.flow s.clean } in part)
        (ap (entries_of end_in) (without_changed s.table e.slot c) ∙ removed_slot end_in s.table e fits.sound there) ∙ by keep
      where
        by : (keep : Bool) → record (left e.flow (ends_of_state port s)) { clean = kept_if keep e.flow s.clean } ≡ with_clean keep e.flow (left e.flow (ends_of_state port s))
        by true = refl
        by false = refl
