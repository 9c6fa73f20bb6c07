-- Decisions of a connection: no packet passes, and the device still matches its log.
use Rattle.std.proofs.Common.{◌≡◌, ℕ, ◌-◌, ◌≤◌, Bool, true, false, cond, List, [], ◌∷◌, ◌++◌, length, drop, Contains, refl, sym, ap, subst, ◌∙◌, arith, length-append, length-drop}
use Rattle.std.proofs.{Common.length-take, lemmas.Grind.common_steps}
use Rattle.vs_conn.{proofs.Steps.{abort_follows, ask_follows, forward_follows, grow_follows, shut_follows}, specs.End.{ConnectionEnd, grown, wanting_credit}}
use Rattle.vs_conn.specs.{End.{with_payload_forwarded, with_shut}, Follows.Follows, declared.end.State.State}
use Rattle.laws_history.specs.History.{Side, gots, puts, History}
use Rattle.vs_flow.specs.{Flow.same_flow, Table.Table, declared.flow.Flow.Flow}
use Rattle.vs_page.specs.Log.{Device, Log, side_of}
use Rattle.laws_tables.specs.{Ends.{Ends, FlowEnd, ends_of, is_new, is_new_in, replaced}, Both.{Aborts, Decides, Decision, Forwards, Grows, MayDecide, Seat, Shuts, WantsCredit}}
use Rattle.laws_tables.{specs.{Both.decided, Heard.heard_of, Matches.Matches, Steps.with_end}, proofs.Keeps.changes}
use Rattle.laws_device.proofs.{Tabling.{IsFitConnection, begun_fits, connection_ends, connection_fits, entry_fits, has_end}, Seats.{Carried, at_log, seat}, Fits.fits_forwarded}
use Rattle.laws_device.{proofs.Fits.fits_shut, specs.Honest.{HoldsBytes, IsFit, IsFitState, ends_of_state, ends_with}}
use Rattle.vs_replies.specs.declared.Reply.{Reply}
use Rattle.vs_device_parts.specs.{Connections.{after_shut, after_written, cut_off, with_connection}, State.{DeviceConnection, DeviceEntry, DeviceState}, Streams.to_write}
use Rattle.vs_device_parts.proofs.Growing.{MayGrow}

-- What a step does that puts and gets nothing.
pub record ChangesTo (carry : Carried) (port cid overrun : ℕ) (table : Table DeviceConnection) (replies : List Reply) (clean : List Flow)
    (cid' overrun' : ℕ) (table' : Table DeviceConnection) (replies' : List Reply) (clean' : List Flow) : Type 0 where
  pub matches : (first : ℕ) (log : Log) → Matches Device first (ends_with port cid table replies clean) log
      → Matches Device first (ends_with port cid' table' replies' clean') log
  pub fits : IsFit cid' table' replies' clean'
  pub overrun_is : overrun' ≡ overrun
  pub goes : (log : Log) → carry.holds (record { part = ends_with port cid table replies clean; log = log })
      → carry.holds (record { part = ends_with port cid' table' replies' clean'; log = log })

abbrev pub Changes : Carried → ℕ → DeviceState → DeviceState → Type 0
Changes carry port s t = ChangesTo carry port s.cid s.overrun s.table s.replies s.clean t.cid t.overrun t.table t.replies t.clean

-- Whatever follows what the end before it followed.
abbrev pub FollowsAs : ConnectionEnd → ConnectionEnd → Type 0
FollowsAs old new = (side : Side) (h : History) → Follows side (puts h) (gots h) old → Follows side (puts h) (gots h) new

pub shut_old : (e : ConnectionEnd) (bits : ℕ) → is_new e ≡ false → is_new (with_shut e bits) ≡ false
shut_old e bits is = grind (arith, common_steps, is)

pub forward_old : (e : ConnectionEnd) (n : ℕ) → is_new e ≡ false → is_new (with_payload_forwarded e n) ≡ false
forward_old e n is = grind (arith, common_steps, is)

-- A flow's end in place of itself.
none_replaced : (f : Flow) (e : ConnectionEnd) (ys : List FlowEnd) → ends_of f ys ≡ [] → replaced f e ys ≡ ys
none_replaced f e [] none = refl
none_replaced f e (y ∷ ys) none = at (same_flow f y.flow) refl none (none_replaced f e ys)
  where
    at : (b : Bool) → same_flow f y.flow ≡ b → cond b (y.end ∷ ends_of f ys) (ends_of f ys) ≡ [] →
        (ends_of f ys ≡ [] → replaced f e ys ≡ ys)
        → replaced f e (y ∷ ys) ≡ y ∷ ys
    at true same empty rest = absurd cc
    at false same empty rest = rw same (ap (λ (zs : List FlowEnd). y ∷ zs) (rest empty))

pub same_replaced : (f : Flow) (e : ConnectionEnd) (xs : List FlowEnd) → ends_of f xs ≡ e ∷ [] → replaced f e xs ≡ xs
same_replaced f e [] is = refl
same_replaced f e (x ∷ xs) is = by (same_flow f x.flow) refl is (same_replaced f e xs)
  where
    by : (b : Bool) → same_flow f x.flow ≡ b → cond b (x.end ∷ ends_of f xs) (ends_of f xs) ≡ e ∷ [] →
        (ends_of f xs ≡ e ∷ [] → replaced f e xs ≡ xs)
        → replaced f e (x ∷ xs) ≡ x ∷ xs
    by b same one rest = grind (arith, common_steps, replaced, none_replaced)

module _ (carry : Carried) (port : ℕ) (s : DeviceState) (fits : IsFitState s) where
  pub same : Changes carry port s s
  same = record { matches = λ first log m. m; fits = fits; overrun_is = refl; goes = λ log was. was }

  module _ (e : DeviceEntry) (there : Contains s.table.entries e) where
    bytes : HoldsBytes e.value.end.credit (length e.value.pending)
    bytes = (entry_fits s fits e there).bytes

    decides : (c : DeviceConnection) (what : Decision) → c.end ≡ decided e.value.end what → MayDecide e.value.end what → is_new e.value.end ≡ false
        → c.end.kind ≡ e.value.end.kind → IsFitConnection c → FollowsAs e.value.end c.end → Changes carry port s (with_connection e.slot c s)
    decides c what is may begun kind held follows = record {
      matches = λ first log m.
          subst (λ (x : Ends). Matches Device first x log) (sym (connection_ends s fits e there port c))
          (changes Device first e.flow e.value.end c.end (ends_of_state port s) log m (has_end s fits e there port) begun kind
          (follows (side_of Device e.flow) (heard_of Device first e.flow log)));
      fits = connection_fits s fits e.slot c held (kind ∙ (entry_fits s fits e there).kind);
      overrun_is = refl;
      goes = λ log was.
          subst (λ (w : Seat). carry.holds w) (at_log log _ _ (ap (λ (x : ConnectionEnd). with_end e.flow x (ends_of_state port s)) (sym is) ∙ sym (connection_ends s fits e there port c)))
          (carry.step (Decides e.flow e.value.end what) (seat port s log) (has_end s fits e there port, begun, may) tt (λ all. all) was);
    }

    -- The same end.
    pub unseen : (c : DeviceConnection) → c.end ≡ e.value.end → IsFitConnection c → Changes carry port s (with_connection e.slot c s)
    unseen c is held =
        let part : Ends = ends_of_state port s in
        let still : with_end e.flow c.end part ≡ part =
        ap (λ (x : ConnectionEnd). with_end e.flow x part) is
        ∙ ap (λ (xs : List FlowEnd). let x : Ends = record part { entries = xs } in x)
        (same_replaced e.flow e.value.end part.entries (has_end s fits e there port)) in
        record {
          matches = λ first log m. subst (λ (x : Ends). Matches Device first x log) (sym (connection_ends s fits e there port c ∙ still)) m;
          fits = connection_fits s fits e.slot c held
              (ap (λ (x : ConnectionEnd). x.kind) is ∙ (entry_fits s fits e there).kind);
          overrun_is = refl;
          goes = λ log was. subst (λ (x : Ends). carry.holds (record { part = x; log = log })) (sym (connection_ends s fits e there port c ∙ still)) was;
        }

    pub wants : is_new e.value.end ≡ false → Changes carry port s (with_connection e.slot (record e.value { end = wanting_credit e.value.end }) s)
    wants begun =
        let c : DeviceConnection = record e.value { end = wanting_credit e.value.end } in
        decides c WantsCredit refl tt begun refl (begun_fits c (record {
          unread = bytes.unread;
          within = bytes.within;
          alloc = bytes.alloc;
          rx = bytes.rx;
          fwd = bytes.fwd;
        }) begun)
        (λ side h follows. ask_follows _ _ _ e.value.end follows)

    pub grows : (alloc : ℕ) → MayGrow e.value.end alloc → Changes carry port s (with_connection e.slot (record e.value { end = grown e.value.end alloc }) s)
    grows alloc may =
        let c : DeviceConnection = record e.value { end = grown e.value.end alloc } in
        let begun : is_new e.value.end ≡ false = ap (λ (x : State). is_new_in x e.value.end.request_put) may.live in
        decides c (Grows alloc) refl (may.live, may.rises, may.most) begun refl (begun_fits c (record {
          unread = bytes.unread;
          within = omega (arith, bytes.within, may.rises);
          alloc = may.most;
          rx = bytes.rx;
          fwd = bytes.fwd;
        }) begun)
        (λ side h follows. grow_follows _ _ _ e.value.end alloc follows may.live may.rises may.most)

    pub cuts : is_new e.value.end ≡ false → Changes carry port s (with_connection e.slot (cut_off e.value) s)
    cuts begun = decides (cut_off e.value) Aborts refl tt begun refl
        (begun_fits (cut_off e.value) (record {
          unread = omega arith;
          within = bytes.within;
          alloc = bytes.alloc;
          rx = bytes.rx;
          fwd = bytes.fwd;
        }) refl)
        (λ side h follows. abort_follows _ _ _ e.value.end follows)

    pub shuts : (bits now : ℕ) → is_new e.value.end ≡ false → Changes carry port s (with_connection e.slot (after_shut bits now e.value) s)
    shuts bits now begun =
        let c : DeviceConnection = after_shut bits now e.value in
        decides c (Shuts bits) refl tt begun refl (begun_fits c (subst (λ (u : ℕ). HoldsBytes c.end.credit u) (kept_by (with_shut e.value.end bits).own.receive)
        (fits_shut e.value.end bits (length e.value.pending) bytes)) (shut_old e.value.end bits begun))
        (λ side h follows. shut_follows _ _ _ e.value.end bits follows)
      where
        kept_by : (b : Bool) → cond b 0 (length e.value.pending) ≡ length (cond b [] e.value.pending)
        kept_by true = refl
        kept_by false = refl

    -- The stream took n of the bytes that were to be written.
    pub writes : (n : ℕ) → n ≤ length (to_write e.value) → is_new e.value.end ≡ false → Changes carry port s
        (with_connection e.slot (after_written n e.value) s)
    writes n less begun =
        let c : DeviceConnection = after_written n e.value in
        let payload = n - length e.value.ok_line in
        let len = length-take 4096 (e.value.ok_line ++ e.value.pending) in
        let both = length-append e.value.ok_line e.value.pending in
        let few : payload ≤ length e.value.pending = omega (arith, less, len, both) in
        let left : length e.value.pending - payload ≡ length (drop payload e.value.pending) = omega
        (arith, length-drop payload e.value.pending) in
        decides c (Forwards payload) refl (omega (arith, few, bytes.unread)) begun refl
        (begun_fits c (subst (λ (u : ℕ). HoldsBytes c.end.credit u) left
        (fits_forwarded e.value.end.credit payload (length e.value.pending) bytes few))
        (forward_old e.value.end payload begun))
        (λ side h follows. forward_follows _ _ _ e.value.end payload follows (omega (arith, few, bytes.unread)))
