-- Bytes are pending as they are unread, whatever the end does.
use Rattle.std.proofs.Common.{◌≡◌, ◌-◌, ◌≤◌, ℕ, Bool, true, false, cond, List, [], ◌++◌, length, Some, refl, ap, ◌∙◌, arith, length-append, length-drop, length-take}
use Rattle.std.proofs.lemmas.Grind.{common_steps}
use Rattle.vs_conn.specs.{End.{ConnectionEnd, owes_of, paid_of, verdict_of, with_shut}, declared.end.{Owed.Owed, State.{State, TheVariants.Ended}}}
use Rattle.vs_conn.proofs.Frames.{got_over, paid_credit}
use Rattle.vs_credit.specs.Credit.{unread_of}
use Rattle.vs_header.specs.declared.Header.{Header}
use Rattle.laws_tables.{specs.Drains.delivered, proofs.Unread.{Moves, forwards}}
use Rattle.vs_device_parts.specs.{Connections.{after_shut, after_written}, State.DeviceConnection, Streams.to_write, Transmitting.heard}
use Rattle.laws_device.{specs.Honest.HoldsBytes, proofs.Fits.counts}
use Rattle.laws_rest.specs.Pending.{IsExact}
use Rattle.laws_tables.proofs.Unread as unread

pub hears : (c : DeviceConnection) (h : Header) (payload : List ℕ) → HoldsBytes c.end.credit (length c.pending)
    → length payload ≡ delivered (verdict_of c.end h) h.len → IsExact c
    → IsExact (record (heard h c) { pending = c.pending ++ payload })
hears c h payload fits len exact open_yet =
    let m = (unread.hears c.end h (counts c.end.credit (length c.pending) fits)).unread in
    let was = exact (λ over. open_yet (got_over c.end h over)) in
    let both = length-append c.pending payload in omega (arith, m, was, both, len)

paid_state : (e : ConnectionEnd) (what : Owed) → e.state ≡ Ended → owes_of e ≡ Some what → (paid_of e what).state ≡ Ended
paid_state e what over owes = grind (arith, common_steps)

pub pays : (c : DeviceConnection) (what : Owed) → owes_of c.end ≡ Some what → IsExact c → IsExact (record c { end = paid_of c.end what })
pays c what owes exact open_yet = ap unread_of (paid_credit c.end what) ∙ exact (λ over. open_yet (paid_state c.end what over owes))

settled_open : (state : State) (b : Bool) → state ≡ Ended → cond b Ended state ≡ Ended
settled_open state true over = refl
settled_open state false over = over

pub writes : (c : DeviceConnection) (n : ℕ) → HoldsBytes c.end.credit (length c.pending) → n ≤ length (to_write c) → IsExact c
    → IsExact (after_written n c)
writes c n fits less exact open_yet =
    let payload = n - length c.ok_line in
    let len = length-take 4096 (c.ok_line ++ c.pending) in
    let both = length-append c.ok_line c.pending in
    let few : payload ≤ length c.pending = omega (arith, less, len, both) in
    let was = exact (λ over. open_yet (settled_open c.end.state _ over)) in
    let m = (forwards c.end.credit payload (counts c.end.credit (length c.pending) fits) (omega (arith, few, was))).unread in
    let left = length-drop payload c.pending in omega (arith, m, was, few, left)

pub shuts : (c : DeviceConnection) (bits now : ℕ) → HoldsBytes c.end.credit (length c.pending) → IsExact c → IsExact (after_shut bits now c)
shuts c bits now fits exact open_yet =
    by (with_shut c.end bits).own.receive (unread.shuts c.end bits (counts c.end.credit (length c.pending) fits))
    (exact (λ over. open_yet (settled_open c.end.state _ over)))
  where
    by : (b : Bool) → Moves 0 (cond b (unread_of c.end.credit) 0) c.end.credit (with_shut c.end bits).credit → unread_of c.end.credit ≡ length c.pending
        → unread_of (with_shut c.end bits).credit ≡ length (cond b [] c.pending)
    by true m was = omega (arith, m.unread)
    by false m was = omega (arith, m.unread, was)
