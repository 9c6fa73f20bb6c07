-- What a packet of a connection, and a transport reset, come to.
use Rattle.std.proofs.Common.{◌≡◌, ◌≢◌, ℕ, ◌+◌, ◌<◌, ◌==◌, Bool, true, false, not, cond, List, [], ◌∷◌, ◌++◌, length, map, Some, None, refl, sym, ap, subst, ◌∙◌, arith, eq-eqb}
use Rattle.std.{proofs.Common.{length-append, ◌&&◌}, specs.{List.{AllPairs, filter, slice_get}, Option.option_map}}
use Rattle.vs_conn.specs.{End.is_refused, declared.end.Verdict.Verdict, Shut.is_both}
use Rattle.vs_flow.{specs.{Table.{Table, IsTable, entry_of, entry_under, with_value, without, revalued}, Flow.host_asks}, proofs.{Entries.found_at, Tables.revalued-slot}}
use Rattle.vs_flow.proofs.Lookups.{entry_under-with_value}
use Rattle.laws_history.specs.{declared.packet.Packet.Packet, Packets.is_clean_rst}
use Rattle.vs_page.specs.{Log.{flow_to_guest, Driver, side_by}, Open.asks_for}
use Rattle.vs_driver_parts.specs.{Connections.{with_connection, leaves_list, after_leaving, waits_no_more, is_let_go, gone_as, keeping}, Receiving.{on_heard, on_known, on_unknown}}
use Rattle.vs_driver_parts.specs.{Receiving.{after_verdict, after_packet, ends_connection, with_reply, reset_reply, all_left}, State.{DriverConnection, DriverEntry, DriverState}}
use Rattle.vs_driver_parts.proofs.Lists.{AtMostOnePasses, one_passes, kept_none}
use Rattle.vs_wrap.specs.Wrap.{counted}
use Rattle.laws_tables.specs.Steps.{is_kept}
use Rattle.vs_conn.specs.declared.end.Verdict.TheVariants as verdict

-- an entry with another value
abbrev pub with_its : DriverEntry → DriverConnection → DriverEntry
with_its e c = record e { value = c }

revalued_here : (slot : ℕ) (c : DriverConnection) (e : DriverEntry) → e.slot ≡ slot → revalued slot c e ≡ with_its e c
revalued_here slot c e at = let e' : (e.slot == slot) ≡ true = eq-eqb e.slot slot at in rw e' refl

pub under_changed : (t : Table DriverConnection) (slot : ℕ) (e : DriverEntry) (c : DriverConnection) → entry_under t slot ≡ Some e → e.slot ≡ slot
    → entry_under (with_value t slot c) slot ≡ Some (with_its e c)
under_changed t slot e c found at =
    entry_under-with_value t slot c slot ∙ (ap (option_map (revalued slot c)) found ∙ ap (λ (x : DriverEntry). Some x) (revalued_here slot c e at))

filter_changed : (slot : ℕ) (c : DriverConnection) (es : List DriverEntry)
    → filter (λ e. not (e.slot == slot)) (map (revalued slot c) es) ≡ filter (λ e. not (e.slot == slot)) es
filter_changed slot c [] = refl
filter_changed slot c (e ∷ es) = by (e.slot == slot) refl (filter_changed slot c es)
  where
    by : (b : Bool) → (e.slot == slot) ≡ b
        → filter (λ x. not (x.slot == slot)) (map (revalued slot c) es) ≡ filter (λ x. not (x.slot == slot)) es
        → filter (λ x. not (x.slot == slot)) (revalued slot c e ∷ map (revalued slot c) es) ≡ filter (λ x. not (x.slot == slot)) (e ∷ es)
    by true at rest = rw (revalued-slot slot c e, at) rest
    by false at rest = rw (revalued-slot slot c e, at) (ap (λ (xs : List DriverEntry). e ∷ xs) rest)

without_changed : (t : Table DriverConnection) (slot : ℕ) (c : DriverConnection) → without (with_value t slot c) slot ≡ without t slot
without_changed t slot c = ap (λ (es : List DriverEntry). let x : Table DriverConnection = record t { entries = es } in x) (filter_changed slot c t.entries)

left_by : (b : Bool) (e : DriverEntry) (c : DriverConnection) (s : DriverState)
    → ◌≡◌ {A = DriverState} (record (cond b (waits_no_more e (with_connection e.slot c s)) (with_connection e.slot c s)) {
      table = without (with_value s.table e.slot c) e.slot;
      gone = cond (is_let_go e.value) s.gone (s.gone ++ gone_as e ∷ []);
    }) (record (cond b (waits_no_more e s) s) { table = without s.table e.slot; gone = cond (is_let_go e.value) s.gone (s.gone ++ gone_as e ∷ []) })
left_by true e c s =
    ap (λ (t : Table DriverConnection). record (waits_no_more e s) { table = t; gone = cond (is_let_go e.value) s.gone (s.gone ++ gone_as e ∷ []) }) (without_changed s.table e.slot c)
left_by false e c s =
    ap (λ (t : Table DriverConnection). record s { table = t; gone = cond (is_let_go e.value) s.gone (s.gone ++ gone_as e ∷ []) }) (without_changed s.table e.slot c)

module _ (p : Packet) (e : DriverEntry) (s : DriverState) (slot : ℕ) (at : e.slot ≡ slot) where
  pub refused : (v : Verdict) (m new : DriverState) → is_refused v ≡ true → m ≡ with_connection slot (after_packet v p e.value) s
      → new ≡ leaves_list (with_its e (after_packet v p e.value)) (record m { broken = counted m.broken }) → new ≡ after_verdict v p e s
  refused (verdict.Rst why) m new true_is mid is =
      let c : DriverConnection = after_packet (verdict.Rst why) p e.value in
      is ∙ (ap (λ (x : DriverState). leaves_list (with_its e c) (record x { broken = counted x.broken })) mid
      ∙ ap (λ (n : ℕ). leaves_list (with_its e c) (with_connection n c (record s { broken = counted s.broken }))) (sym at))
  refused _ m new true_is mid is = absurd (cc)

  left : (c : DriverConnection) (m : DriverState) → m ≡ with_connection slot c s → after_leaving (with_its e c) m ≡ after_leaving (with_its e c) s
  left c m mid =
      ap (λ (x : DriverState). after_leaving (with_its e c) x) (mid ∙ ap (λ (n : ℕ). with_connection n c s) (sym at))
      ∙ left_by c.unanswered (with_its e c) c s

  -- what is kept of a connection that ended cleanly, or not
  kept_as : (assigned own marked : Bool) → ((own && marked) && not assigned) ≡ (asks_for (side_by Driver assigned) && own && marked)
  kept_as true true true = refl
  kept_as true true false = refl
  kept_as true false marked = refl
  kept_as false true true = refl
  kept_as false true false = refl
  kept_as false false marked = refl

  abbrev keeps : Bool
  keeps = is_kept Driver e.flow e.value.end p

  pub over : (v : Verdict) (m new : DriverState) (cleanly : Bool) → cleanly ≡ (is_both e.value.end.own && is_clean_rst p)
      → ends_connection v p.header ≡ true → m ≡ with_connection slot (after_packet v p e.value) s
      → new ≡ keeping (cleanly && not (host_asks e.flow)) e.flow (after_leaving (with_its e (after_packet v p e.value)) m) → new ≡ after_verdict v p e s
  over verdict.Peer m new cleanly clean true_is mid is =
      let c : DriverConnection = after_packet verdict.Peer p e.value in
      let kept : (cleanly && not (host_asks e.flow)) ≡ keeps =
      ap (λ (b : Bool). b && not (host_asks e.flow)) clean ∙ kept_as (host_asks e.flow) (is_both e.value.end.own) (is_clean_rst p) in
      is ∙ (ap (λ (b : Bool). keeping b e.flow (after_leaving (with_its e c) m)) kept ∙ (ap (λ (x : DriverState). keeping keeps e.flow x) (left c m mid)
      ∙ ap (λ (b : Bool). cond b (keeping keeps e.flow (after_leaving (with_its e c) s)) (with_connection e.slot c s)) (sym true_is)))
  over _ m new cleanly clean true_is mid is = absurd (cc)

  pub stays : (v : Verdict) (m : DriverState) → is_refused v ≡ false → ends_connection v p.header ≡ false → m ≡ with_connection slot (after_packet v p e.value) s
      → m ≡ after_verdict v p e s
  stays (verdict.Rst why) m false_is goes_on mid = absurd (cc)
  stays verdict.Peer m false_is goes_on mid =
      let c : DriverConnection = after_packet verdict.Peer p e.value in
      mid ∙ (ap (λ (n : ℕ). with_connection n c s) (sym at)
      ∙ ap (λ (b : Bool). cond b (keeping keeps e.flow (after_leaving (with_its e c) s)) (with_connection e.slot c s)) (sym goes_on))
  stays v m false_is goes_on mid = mid ∙ ap (λ (n : ℕ). with_connection n (after_packet v p e.value) s) (sym at)

pub packet_known : (p : Packet) (s : DriverState) (e : DriverEntry) → entry_of s.table (flow_to_guest p.header) ≡ Some e → on_heard p s ≡ on_known p e s
packet_known p s e found = rw (found, on_heard) refl

pub packet_unknown : (p : Packet) (s : DriverState) → entry_of s.table (flow_to_guest p.header) ≡ None → on_heard p s ≡ on_unknown p s
packet_unknown p s none = rw (none, on_heard) refl

-- a transport reset: the first entry leaves, and the others are left
kept_replies : (b : Bool) (e : DriverEntry) (s : DriverState) → (cond b (waits_no_more e s) s).replies ≡ s.replies
kept_replies true e s = refl
kept_replies false e s = refl

pub leaving-replies : (e : DriverEntry) (s : DriverState) → (after_leaving e s).replies ≡ s.replies
leaving-replies e s = kept_replies e.value.unanswered e s

same_slot : (n : ℕ) → (n == n) ≡ true
same_slot n = eq-eqb n n refl

pub others_left : (e : DriverEntry) (es : List DriverEntry) → AllPairs (λ x y. x.slot < y.slot) (e ∷ es) → filter (λ x. not (x.slot == e.slot)) (e ∷ es) ≡ es
others_left e es rising =
    let differ : AllPairs (λ x y. x.slot ≢ y.slot) (e ∷ es) = λ i j d less within same. let above = rising i j d less within in absurd (omega (arith, above, same)) in
    let one : AtMostOnePasses (λ (x : DriverEntry). x.slot == e.slot) (e ∷ es) = one_passes (λ (x : DriverEntry). x.slot) e.slot (e ∷ es) differ in
    rw (same_slot e.slot) (kept_none (λ (x : DriverEntry). x.slot == e.slot) es (one.0 (same_slot e.slot)))

pub record LeavesFirst (s new : DriverState) : Type 0 where
  pub same : all_left new.table.entries new ≡ all_left s.table.entries s
  pub fewer : length new.table.entries + 1 ≡ length s.table.entries
  pub replies : length new.replies ≡ length s.replies + 1

pub first_left : (s new : DriverState) (e : DriverEntry) → IsTable s.table → slice_get s.table.entries 0 ≡ Some e
    → new ≡ with_reply (reset_reply e) (after_leaving e s) → LeavesFirst s new
first_left s new e sound first is = by s.table.entries refl
  where
    by : (es : List DriverEntry) → s.table.entries ≡ es → LeavesFirst s new
    by [] all = let none : None ≡ Some e = sym (ap (λ (xs : List DriverEntry). slice_get xs 0) all) ∙ first in absurd (cc)
    by (x ∷ es) all =
        let here : Some x ≡ Some e = sym (ap (λ (xs : List DriverEntry). slice_get xs 0) all) ∙ first in
        let head : x ≡ e = cc in
        let P : List DriverEntry → Type 0 = λ xs. AllPairs (λ a b. a.slot < b.slot) xs in
        let rising : P (x ∷ es) = subst P all sound.rising in
        let entries : new.table.entries ≡ es =
        ap (λ (n : DriverState). n.table.entries) is
        ∙ (ap (λ (n : ℕ). filter (λ y. not (y.slot == n)) s.table.entries) (ap (λ (y : DriverEntry). y.slot) (sym head))
        ∙ (ap (λ (xs : List DriverEntry). filter (λ y. not (y.slot == x.slot)) xs) all ∙ others_left x es rising)) in
        let left : new ≡ with_reply (reset_reply x) (after_leaving x s) = is ∙ ap (λ (y : DriverEntry). with_reply (reset_reply y) (after_leaving y s)) (sym head) in
        record {
          same = ap (λ (xs : List DriverEntry). all_left xs new) entries ∙ (ap (λ (n : DriverState). all_left es n) left ∙ ap (λ (xs : List DriverEntry). all_left xs s) (sym all));
          fewer = omega (arith, ap (λ (xs : List DriverEntry). length xs) entries, ap (λ (xs : List DriverEntry). length xs) all);
          replies = ap (λ (n : DriverState). length n.replies) is ∙ (length-append (after_leaving e s).replies (reset_reply e ∷ []) ∙ ap (λ (n : ℕ). n + 1) (ap length (leaving-replies e s)));
        }

pub first_under : (t : Table DriverConnection) (e : DriverEntry) → IsTable t → slice_get t.entries 0 ≡ Some e → entry_under t e.slot ≡ Some e
first_under t e sound first = found_at t.entries 0 e sound.rising first

pub none_left : (s : DriverState) → slice_get s.table.entries 0 ≡ None → s ≡ all_left s.table.entries s
none_left s none = by s.table.entries refl
  where
    by : (es : List DriverEntry) → s.table.entries ≡ es → s ≡ all_left s.table.entries s
    by [] all = ap (λ (xs : List DriverEntry). all_left xs s) (sym all)
    by (x ∷ es) all = let some : Some x ≡ None = sym (ap (λ (xs : List DriverEntry). slice_get xs 0) all) ∙ none in absurd (cc)
