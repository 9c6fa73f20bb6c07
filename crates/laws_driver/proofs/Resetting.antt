-- A transport reset: all connections leave, and a reply is owed to each flow.
use Rattle.std.proofs.{Common.{◌≡◌, ℕ, ◌<◌, ◌^◌, ◌==◌, not, List, [], ◌∷◌, ◌++◌, map, Some, refl, sym, ap, subst, ◌∙◌, arith, Bool}, lemmas.List.{append-nil, append_assoc}}
use Rattle.std.{proofs.lemmas.List.Elements.All-filter, specs.{List.{filter, slice_get, All}, Prelude.Contains}}
use Rattle.vs_flow.specs.{CleanPairs.of_host, Table.IsRising, Flow.is_host, declared.flow.Flow.Flow}
use Rattle.vs_page.specs.{Log.{Driver, Log}, declared.log.LogEntry.TheVariants.Mark}
use Rattle.vs_replies.specs.declared.Reply.{Reply}
use Rattle.laws_tables.{specs.{Ends.{Ends, FlowEnd, replies_of}, Matches.Matches, Steps.reset}, proofs.Keeps.takes_reset}
use Rattle.vs_driver_parts.specs.{State.{DriverEntry, DriverState}, Connections.after_leaving, Receiving.{after_reset, all_left, reset_reply, with_reply}}
use Rattle.vs_driver_parts.proofs.{Clean.clean_host, Packets.{first_under, others_left}}
use Rattle.laws_driver.{specs.Honest.{IsFitState, ends_of_state, IsFitClean}, proofs.{Tabling.{Stands, entry_fits, leaves}, Taking.with_reply_fits}}

-- An entry as it counts among the ends.
abbrev pub out : DriverEntry → FlowEnd
out e = record { flow = e.flow; end = e.value.end }

-- The driver after these connections left, which were all.
record AllLeft (hosts : Bool) (es : List DriverEntry) (s t : DriverState) : Type 0 where
  ends : ends_of_state t ≡ record (ends_of_state s) { entries = []; replies = s.replies ++ replies_of (map out es) }
  fits : IsFitState hosts t
  broken : t.broken ≡ s.broken

pub first_contained : (e : DriverEntry) (es xs : List DriverEntry) → xs ≡ e ∷ es → Contains xs e
first_contained e es xs is = subst (λ (ys : List DriverEntry). Contains ys e) (sym is) (0, omega arith, refl)

module _ {hosts : Bool} where
  all_leave : (es : List DriverEntry) (s : DriverState) → s.table.entries ≡ es → IsFitState hosts s → AllLeft hosts es s (all_left es s)
  all_leave [] s is fits = record {
    ends = ap (λ (xs : List DriverEntry). let part : Ends = record (ends_of_state s) { entries = map out xs } in part) is
        ∙ ap (λ (rs : List Reply). let part : Ends = record (ends_of_state s) { entries = []; replies = rs } in part) (sym (append-nil s.replies));
    fits = fits;
    broken = refl;
  }
  all_leave (e ∷ es) s is fits =
      let P : List DriverEntry → Type 0 = λ xs. IsRising xs in
      let rising : P (e ∷ es) = subst P is fits.sound.rising in
      let first : slice_get s.table.entries 0 ≡ Some e = ap (λ (xs : List DriverEntry). slice_get xs 0) is in
      let stands : Stands s e = record { under = first_under s.table e fits.sound first; contains = first_contained e es s.table.entries is } in
      let l = leaves s e e.value fits stands in
      let m : DriverState = after_leaving e s in
      let next : DriverState = with_reply (reset_reply e) m in
      let next_fits : IsFitState hosts next = with_reply_fits m (reset_reply e) l.fits (entry_fits s e fits stands).ports in
      let table_is : m.table.entries ≡ es = ap (λ (xs : List DriverEntry). filter (λ x. not (x.slot == e.slot)) xs) is ∙ others_left e es rising in
      let rest = all_leave es next table_is next_fits in
      let rs : List Reply = replies_of (map out es) in
      let replies : next.replies ++ rs ≡ s.replies ++ (reset_reply e ∷ rs) =
      ap (λ (xs : List Reply). (xs ++ reset_reply e ∷ []) ++ rs) l.replies ∙ append_assoc s.replies (reset_reply e ∷ []) rs in
      let same : record (ends_of_state next) { entries = []; replies = next.replies ++ rs }
      ≡ (let part : Ends = record (ends_of_state s) { entries = []; replies = next.replies ++ rs } in part) =
      ap (λ (x : Ends). let part : Ends = record x { entries = []; replies = next.replies ++ rs } in part) l.ends in
      record {
        ends = rest.ends ∙ (same ∙ ap (λ (xs : List Reply). let part : Ends = record (ends_of_state s) { entries = []; replies = xs } in part) replies);
        fits = rest.fits;
        broken = rest.broken ∙ l.broken;
      }

pub record Resets (hosts : Bool) (cid : ℕ) (s t : DriverState) : Type 0 where
  pub matches : (first : ℕ) (log : Log) → Matches Driver first (ends_of_state s) log → Matches Driver first (ends_of_state t) (Mark cid ∷ log)
  pub fits : IsFitState hosts t
  pub broken : t.broken ≡ s.broken
  pub ends : ends_of_state t ≡ reset cid (ends_of_state s)

module _ {hosts : Bool} where
  fit_host : (fs : List Flow) → All (IsFitClean hosts) fs → All (IsFitClean hosts) (of_host fs)
  fit_host fs all = All-filter is_host (IsFitClean hosts) fs all

  pub with_cid : (cid : ℕ) (s : DriverState) → cid < 2 ^ 64 → IsFitState hosts s → IsFitState hosts (record s { cid = cid; clean = of_host s.clean })
  with_cid cid s less fits = record {
    cid_fits = less;
    port_left = fits.port_left;
    sound = fits.sound;
    places = fits.places;
    given = fits.given;
    entries = fits.entries;
    ports = fits.ports;
    owed = fits.owed;
    clean_fit = fit_host s.clean fits.clean_fit;
    clean_sound = clean_host s.next_port s.table s.clean fits.clean_sound;
  }

  pub resets : (cid : ℕ) (s : DriverState) → cid < 2 ^ 64 → IsFitState hosts s → Resets hosts cid s (after_reset cid s)
  resets cid s less fits =
      let all = all_leave s.table.entries (record s { cid = cid; clean = of_host s.clean }) refl (with_cid cid s less fits) in
      record {
        matches = λ first log m. subst (λ (x : Ends). Matches Driver first x (Mark cid ∷ log)) (sym all.ends) (takes_reset first cid (ends_of_state s) log m);
        fits = all.fits;
        broken = all.broken;
        ends = all.ends;
      }
