-- Through a turn the device holds of each connection just the bytes that its end counts as unread, over a ring that tells its log.
use Rattle.std.proofs.lemmas.Grind.{common_steps}
use Rattle.std.proofs.Common.{◌≡◌, ◌-◌, ◌≤◌, ◌==◌, ◌&&◌, not, ℕ, nat_le, nat_lt, true, false, cond, List, [], ◌∷◌, ◌++◌, length, drop, take, get_or, Option, Some, None}
use Rattle.std.proofs.{Common.{refl, sym, ap, subst, ◌∙◌, arith, length-append, length-drop, length-take}, lemmas.{Bool.Decides.nat_tests, List.Elements.All-contains}}
use Rattle.std.proofs.lemmas.List.Elements.{All-filter, All-map, All-push}
use Rattle.vs_contents.specs.{CallTree.{Ask, Done, bind}, Contents.Exposes}
use Rattle.vs_conn.specs.End.{answering, asked, is_of, is_reset, paid_of, verdict_of, wanting_credit, with_payload_sent, owes_of}
use Rattle.vs_conn.specs.declared.end.{Owed.Owed, Verdict.Verdict}
use Rattle.vs_flow.specs.{Flow.is_assigned, Table.{Table, entry_of, has_place, next_entry, revalued, with_entry, with_value, without}, declared.flow.Flow.Flow}
use Rattle.vs_header.specs.{Op.op_number, Packet.header_of, declared.{Header.Header, Kind.TheVariants.Stream, Op.TheVariants.Request, TheConstants.HEADER_LEN}}
use Rattle.vs_limits.specs.declared.TheConstants.{BUF_ALLOC, DEVICE_REPLIES}
use Rattle.vs_outside.specs.declared.host_net.{Accepted.Accepted, Dialed.Dialed, StreamRead.StreamRead, StreamWrite.StreamWrite}
use Rattle.vs_page.specs.{Log.{Device, flow_to_host}, Open.is_dropped}
use Rattle.vs_ring_port.specs.{Chains.bytes_in, Contents.{DeviceAnswer, DeviceCall, Given, PublishCid, Read, Return, RingContents, Take, Write}, DeviceCalls.IsTakenAs}
use Rattle.vs_ring_port.specs.{EndLog.{EndLog, log_reset, log_returned, log_taken, log_written}, declared.{device_ring.{Chain.Chain, Next.Next}, failure.Failure.Failure}}
use Rattle.vs_ring_port.specs.declared.queue.Queue.TheVariants.{Tx}
use Rattle.vs_device_parts.specs.{Calls.{Accept, Allows, Answer, Call, CloseStream, Label, ReadStream, Ring, ShutWrite, Situation, WriteStream}, Connections.after_shut}
use Rattle.vs_device_parts.specs.{Connections.{after_written, cut_off, new_connection}, Playing.Runs, State.{DeviceConnection, DeviceEntry, DeviceState}, Streams.to_write}
use Rattle.vs_device_parts.specs.Transmitting.{dial_answered, heard, keeps_flow, on_header, on_known, on_next, on_packet, on_unknown, take_tx_of}
use Rattle.vs_proxy_parts.specs.{State.{Handshake, ProxyState}, Turns.turn_of, declared.answers.Turn.Turn}
use Rattle.laws_tables.proofs.Changes.{without_changed}
use Rattle.laws_device.{specs.{Honest.HoldsBytes, Walk.Seen.Seen}, proofs.{Ringing.same_self, Fits.{fewer, fits_forwarded, fits_paid, fits_sent}}}
use Rattle.laws_device.proofs.{Named.Keeping.{asking, keeps_end}, Walk.{Keeping.{Asking, Keeps, keeps_if, keeps_some, keeps_then}, Serving.{AfterRead, AfterWrite, Closes, Fills}}}
use Rattle.laws_device.proofs.Walk.{Serving.{IsIn, Writes, by_flow, keeps_fill_rx, keeps_leaving, keeps_pay_event, keeps_pump, keeps_tick}, Turning.{AfterAccept, AfterByte}}
use Rattle.laws_device.proofs.Walk.Turning.{Between, Ends, Shakes, keeps_turn_by}
use Rattle.laws_rest.{proofs.Unread.{pays, writes}}
use Rattle.laws_settled.specs.Exact.{AreExact, HoldsExactly}
use Rattle.vs_conn.specs.declared.end.Verdict.TheVariants as verdict
use Rattle.vs_conn.specs.declared.end.Why.TheVariants as why
use Rattle.vs_outside.specs.declared.host_net.Accepted.TheVariants as accepted
use Rattle.vs_outside.specs.declared.host_net.Dialed.TheVariants as dialed
use Rattle.vs_outside.specs.declared.host_net.StreamRead.TheVariants as read
use Rattle.vs_outside.specs.declared.host_net.StreamWrite.TheVariants as write
use Rattle.vs_ring_port.specs.declared.device_ring.Next.TheVariants as next
use Rattle.vs_device_parts.specs.declared.answers.Taken.TheVariants as taken
use Rattle.laws_device.proofs.Walk.Serving as serving

-- CONNECTIONS
cuts_hold : (c : DeviceConnection) → HoldsExactly c → HoldsExactly (cut_off c)
cuts_hold c is = record { bytes = fewer c.end.credit (length c.pending) 0 is.bytes (omega arith); exact = λ open_yet. absurd (open_yet refl) }

sends_hold : (c : DeviceConnection) (n : ℕ) → HoldsExactly c → HoldsExactly (record c { end = with_payload_sent c.end n })
sends_hold c n is = record { bytes = fits_sent c.end.credit n (length c.pending) is.bytes; exact = λ open_yet. is.exact open_yet }

wants_hold : (c : DeviceConnection) → HoldsExactly c → HoldsExactly (record c { end = wanting_credit c.end })
wants_hold c is = record { bytes = fewer c.end.credit (length c.pending) (length c.pending) is.bytes (omega arith); exact = λ open_yet. is.exact open_yet }

pays_hold : (c : DeviceConnection) (what : Owed) (asked_at : Option ℕ) → owes_of c.end ≡ Some what → HoldsExactly c
    → HoldsExactly (record c { end = paid_of c.end what; asked_at = asked_at })
pays_hold c what asked_at owes is = record { bytes = fits_paid c.end what (length c.pending) is.bytes; exact = λ open_yet. pays c what owes is.exact open_yet }

shuts_hold : (c : DeviceConnection) (bits now : ℕ) → HoldsExactly c → HoldsExactly (after_shut bits now c)
shuts_hold c bits now is = grind (arith, common_steps)

writes_hold : (c : DeviceConnection) (n : ℕ) → n ≤ length (to_write c) → HoldsExactly c → HoldsExactly (after_written n c)
writes_hold c n less is =
    let payload = n - length c.ok_line in
    let len = length-take 4096 (c.ok_line ++ c.pending) in
    let both = length-append c.ok_line c.pending in
    let few : payload ≤ length c.pending = omega (arith, less, len, both) in
    record {
      bytes = subst (λ (u : ℕ). HoldsBytes (after_written n c).end.credit u) (sym (length-drop payload c.pending))
          (fits_forwarded c.end.credit payload (length c.pending) is.bytes few);
      exact = writes c n is.bytes less is.exact;
    }

hears_hold : (c : DeviceConnection) (h : Header) (line : List ℕ) → (verdict_of c.end h ≡ verdict.Deliver → ⊥) → HoldsExactly c
    → HoldsExactly (record (heard h c) { ok_line = line })
hears_hold c h line other is = grind (arith, common_steps)

delivers_hold : (c : DeviceConnection) (h : Header) (payload : List ℕ) → verdict_of c.end h ≡ verdict.Deliver → length payload ≡ h.len → HoldsExactly c
    → HoldsExactly (record (heard h c) { pending = c.pending ++ payload })
delivers_hold c h payload is len held = grind (arith, common_steps)

-- TABLES
abbrev EntryHolds : DeviceEntry → Type 0
EntryHolds e = HoldsExactly e.value

revalued_holds : (slot : ℕ) (c : DeviceConnection) (e : DeviceEntry) → HoldsExactly c → EntryHolds e → EntryHolds (revalued slot c e)
revalued_holds slot c e one is = grind (arith, common_steps)

with_holds : (t : Table DeviceConnection) (slot : ℕ) (c : DeviceConnection) → HoldsExactly c → AreExact t → AreExact (with_value t slot c)
with_holds t slot c one all =
    All-map EntryHolds (revalued slot c) t.entries (λ k d less. revalued_holds slot c (get_or t.entries k d) one (all k d less))

added_holds : (t : Table DeviceConnection) (f : Flow) (c : DeviceConnection) → HoldsExactly c → AreExact t → AreExact (with_entry t f c)
added_holds t f c one all = All-push EntryHolds t.entries (next_entry t f c) all one

left_holds : (t : Table DeviceConnection) (slot : ℕ) (c : DeviceConnection) → AreExact t → AreExact (without (with_value t slot c) slot)
left_holds t slot c all =
    subst AreExact (sym (without_changed t slot c)) (All-filter (λ x. not (x.slot == slot)) EntryHolds t.entries all)

in_table : (t : Table DeviceConnection) (e : DeviceEntry) → IsIn t e → AreExact t → HoldsExactly e.value
in_table t e is all = All-contains EntryHolds t.entries e all is.among

empty_fits : HoldsBytes (asked Stream BUF_ALLOC).credit 0
empty_fits = record { unread = omega arith; within = omega arith; alloc = omega arith; rx = omega arith; fwd = omega arith }

client_holds : (stream : ℕ) → HoldsExactly (new_connection (asked Stream BUF_ALLOC) stream true)
client_holds stream = record { bytes = empty_fits; exact = λ open_yet. refl }

dialed_holds : (h : Header) (stream : ℕ) → HoldsExactly (new_connection (answering Stream BUF_ALLOC h) stream false)
dialed_holds h stream = grind (arith, common_steps)

-- RINGS: one that tells its log goes on telling it, and while a chain of tx is held, its bytes.
abbrev Told : RingContents → Type 0
Told c = (l : EndLog) × (c.log ≡ Some l)

abbrev Holds : Chain → RingContents → Type 0
Holds chain c = (l : EndLog) × (c.log ≡ Some l) × (length (bytes_in chain l.held) ≡ chain.readable)

abbrev InPage : Option Chain → RingContents → Type 0
InPage None c = Told c
InPage (Some chain) c = Holds chain c

told_on : (o n : Option EndLog) (P : EndLog → Type 0) (g : EndLog → EndLog) → Exposes o n P g → (l : EndLog) → o ≡ Some l → P l × (n ≡ Some (g l))
told_on o n P g exposes l is = subst (λ (x : Option EndLog). Exposes x n P g) is exposes

told_by : (o n : Option EndLog) (P : EndLog → Type 0) (g : EndLog → EndLog) → Exposes o n P g → (l : EndLog) × (o ≡ Some l) → (m : EndLog) × (n ≡ Some m)
told_by o n P g exposes told = (g told.0, (told_on o n P g exposes told.0 told.1).1)

ring_told : (call : DeviceCall) (a : DeviceAnswer call) (s t : Situation) → Allows (Ring call) a s t → Told s.ring → Told t.ring
ring_told (Take queue) a s t allowed told = told_by s.ring.log t.ring.log _ (log_taken queue a allowed.0.0) allowed.0.1.log told
ring_told (Read chain place n) a s t allowed told = told_by s.ring.log t.ring.log _ (λ l. l) allowed.0.log told
ring_told (Write chain place bytes) a s t allowed told = told_by s.ring.log t.ring.log _ (log_written chain place bytes) allowed.0.log told
ring_told (Return chain len) a s t allowed told = told_by s.ring.log t.ring.log _ (log_returned chain len) allowed.0.1.log told
ring_told (Given queue) a s t allowed told = told_by s.ring.log t.ring.log _ (λ l. l) allowed.0.1.log told
ring_told (PublishCid cid) a s t allowed told = told_by s.ring.log t.ring.log _ (log_reset cid) allowed.0.log told

page_stays : (page : Option Chain) (c d : RingContents) → d ≡ c → InPage page c → InPage page d
page_stays page c d same told = subst (λ (x : RingContents). InPage page x) (sym same) told

call_told : (call : Call) (a : Answer call) (s t : Situation) → Allows call a s t → Told s.ring → Told t.ring
call_told call a s t = grind (arith, common_steps, ring_told, page_stays)

taken_in : (chain : Chain) (page : Option (List ℕ)) (l : EndLog) → IsTakenAs Tx (next.Chain chain) page
    → length (bytes_in chain (log_taken Tx (next.Chain chain) page l).held) ≡ chain.readable
taken_in chain None l is = absurd is
taken_in chain (Some page) l is = let same = same_self chain in rw same (sym is.1)

not_more : (a b : ℕ) → nat_lt a b ≡ false → b ≤ a
not_more a b is = grind (arith, nat_tests, is)

payload_len : (readable len : ℕ) (bytes payload : List ℕ) → nat_lt (readable - HEADER_LEN) len ≡ false → length bytes ≡ readable
    → payload ≡ take len (drop HEADER_LEN bytes) → length payload ≡ len
payload_len readable len bytes payload whole all is =
    let less = not_more (readable - HEADER_LEN) len whole in
    let taken = length-take len (drop HEADER_LEN bytes) in
    let rest = length-drop HEADER_LEN bytes in
    ap (λ (bs : List ℕ). length bs) is ∙ omega (arith, less, all, taken, rest)

-- THE WALK
abbrev calls : Asking Situation
calls = asking (λ (call : Call) (c : Situation). Unit {0}) Allows

abbrev D : List Handshake → Option Chain → Seen → Situation → Type 0
D hands page s c = AreExact s.table × InPage page c.ring

abbrev At : DeviceState → Situation → Type 0
At s c = AreExact s.table × Told c.ring

abbrev Heard : Chain → DeviceState → Situation → Type 0
Heard chain s c = AreExact s.table × Holds chain c.ring

module _ (hands : List Handshake) where
  closes : Closes calls (D hands)
  closes = record {
    cuts = λ e s c is at still. (
      tt,
      λ a d allowed. (
        with_holds s.table e.slot (cut_off e.value) (cuts_hold e.value (in_table s.table e is at.0)) at.0,
        call_told (CloseStream e.value.stream) a c d allowed at.1,
      ),
    );
    was_cut = λ e s c is at closed. (with_holds s.table e.slot (cut_off e.value) (cuts_hold e.value (in_table s.table e is at.0)) at.0, at.1);
    leaves = λ page e v s c is closed stream at still. (tt, λ a d allowed. (left_holds s.table e.slot _ at.0, page_stays page c.ring d.ring allowed.ring at.1));
    was_left = λ page e v s c is closed stream at gone. (left_holds s.table e.slot _ at.0, at.1);
  }

  wrote : (e : DeviceEntry) (s : DeviceState) (a : StreamWrite) (c d : Situation) → IsIn s.table e → Allows (WriteStream e.value.stream (to_write e.value)) a c d
      → At s c → AfterWrite calls (D hands) e s a d
  wrote e s (write.Took n) c d is allowed at = (
    with_holds s.table e.slot (after_written n e.value) (writes_hold e.value n allowed.1 (in_table s.table e is at.0)) at.0,
    call_told (WriteStream e.value.stream (to_write e.value)) (write.Took n) c d allowed at.1,
  )
  wrote e s write.Again c d is allowed at = (at.0, call_told (WriteStream e.value.stream (to_write e.value)) write.Again c d allowed at.1)
  wrote e s write.Closed c d is allowed at = (
    with_holds s.table e.slot (after_shut 1 s.now e.value) (shuts_hold e.value 1 s.now (in_table s.table e is at.0)) at.0,
    call_told (WriteStream e.value.stream (to_write e.value)) write.Closed c d allowed at.1,
  )
  wrote e s write.Failed c d is allowed at = (at.0, call_told (WriteStream e.value.stream (to_write e.value)) write.Failed c d allowed at.1)

  shut_holds : (c : DeviceConnection) → HoldsExactly c → HoldsExactly (record c { write_shut = true })
  shut_holds c is = record { bytes = is.bytes; exact = is.exact }

  streams : Writes calls (D hands)
  streams = record {
    writes = λ e s c is still at. (tt, λ a d allowed. wrote e s a c d is allowed at);
    shuts = λ e s c is out at. (
      tt,
      λ a d allowed. (
        with_holds s.table e.slot _ (shut_holds e.value (in_table s.table e is at.0)) at.0,
        call_told (ShutWrite e.value.stream) a c d allowed at.1,
      ),
    );
  }

  event_came : (s : DeviceState) (n : Next) (d : Situation) → At s d → serving.AfterEvent calls (D hands) s n d
  event_came s n d at = grind (arith, common_steps)

  held : (s : DeviceState) (n : Next) (d : Situation) → At s d → serving.AfterTake calls (D hands) s n d
  held s (next.Chain chain) d at = at
  held s _ d at = at

  have_read : (e : DeviceEntry) (chain : Chain) (s : DeviceState) (a : StreamRead) (payload : List ℕ) (d : Situation) → IsIn s.table e → At s d
      → AfterRead calls (D hands) e chain s a payload d
  have_read e chain s (read.Got n) [] d is at =
      let one = with_holds s.table e.slot _ (sends_hold e.value 0 (in_table s.table e is at.0)) at.0 in
      (tt, λ a f w. (tt, λ b g r. (one, call_told (Ring (Return chain _)) b f g r (call_told (Ring (Write chain _ _)) a d f w at.1))))
  have_read e chain s (read.Got n) (x ∷ payload) d is at =
      let one = with_holds s.table e.slot _ (sends_hold e.value (length (x ∷ payload)) (in_table s.table e is at.0)) at.0 in (
        tt,
        λ a f w. (
          tt,
          λ b g v. (
            tt,
            λ i j r. (
              one,
              call_told (Ring (Return chain _)) i g j r (call_told (Ring (Write chain _ _)) b f g v
                  (call_told (Ring (Write chain _ _)) a d f w at.1)),
            ),
          ),
        ),
      )
  have_read e chain s read.End payload d is at = (with_holds s.table e.slot _ (shuts_hold e.value 2 s.now (in_table s.table e is at.0)) at.0, at.1)
  have_read e chain s _ payload d is at = at

  fills : Fills calls (D hands)
  fills = record {
    event = λ s c at owed. (tt, λ a d allowed. event_came s a d (at.0, call_told (Ring (Take _)) a c d allowed at.1));
    holds = λ s c at none. (tt, λ a d allowed. held s a d (at.0, call_told (Ring (Take _)) a c d allowed at.1));
    puts = λ h chain s c at is. (tt, λ a d w. (tt, λ b f r. (at.0, call_told (Ring (Return chain _)) b d f r (call_told (Ring (Write chain _ _)) a c d w at.1))));
    reads = λ e chain s c is at held may. (
      tt,
      λ a d allowed. have_read e chain s a.0 a.1 d is
          (at.0, call_told (ReadStream e.value.stream _) a c d allowed at.1),
    );
    wants = λ e s c is at. (with_holds s.table e.slot _ (wants_hold e.value (in_table s.table e is at.0)) at.0, at.1);
    pays = λ e what asked_at s c is owes at. (with_holds s.table e.slot _ (pays_hold e.value what asked_at owes (in_table s.table e is at.0)) at.0, at.1);
  }

  -- Packets that are taken: a payload is delivered whole.
  module _ (chain : Chain) (h : Header) (whole : nat_lt (chain.readable - HEADER_LEN) h.len ≡ false) where
    other_holds : (e : DeviceEntry) (s : DeviceState) (line : List ℕ) (v : Verdict) → verdict_of e.value.end h ≡ v → (v ≡ verdict.Deliver → ⊥) → IsIn s.table e
        → AreExact s.table → AreExact (with_value s.table e.slot (record (heard h e.value) { ok_line = line }))
    other_holds e s line v is other there all =
        with_holds s.table e.slot _ (hears_hold e.value h line (λ no. other (sym is ∙ no)) (in_table s.table e there all)) all

    known : (v : Verdict) (e : DeviceEntry) (s : DeviceState) (c : Situation) → IsIn s.table e → verdict_of e.value.end h ≡ v → Heard chain s c
        → Keeps calls (λ t d. Heard chain t d) (on_known v chain h e s) c
    known verdict.Accept e s c there is at = (other_holds e s _ verdict.Accept is (λ no. absurd cc) there at.0, at.1)
    known verdict.Deliver e s c there is at = (
      tt,
      λ payload d allowed.
          let l = at.1.0 in
          let came = told_on c.ring.log d.ring.log _ (λ m. m) allowed.0.log l at.1.1 in
          let len = payload_len chain.readable h.len (bytes_in chain l.held) payload whole at.1.2 came.0 in
          (with_holds s.table e.slot _ (delivers_hold e.value h payload is len (in_table s.table e there at.0)) at.0, (l, came.1, at.1.2)),
    )
    known verdict.Peer e s c there is at =
        keeps_if calls (λ t d. Heard chain t d) (is_reset h) _ _ c
        (λ reset. keeps_leaving calls (D hands) closes (keeps_flow h e) (Some chain) e (heard h e.value) s c there refl refl at)
        (λ no. (other_holds e s e.value.ok_line verdict.Peer is (λ no. absurd cc) there at.0, at.1))
    known (verdict.Rst (why.Overrun o)) e s c there is at =
        (other_holds e s e.value.ok_line (verdict.Rst (why.Overrun o)) is (λ no. absurd cc) there at.0, at.1)
    known (verdict.Rst w) e s c there is at = (other_holds e s e.value.ok_line (verdict.Rst w) is (λ no. absurd cc) there at.0, at.1)
    known verdict.Discard e s c there is at = (other_holds e s e.value.ok_line verdict.Discard is (λ no. absurd cc) there at.0, at.1)
    known verdict.Ignore e s c there is at = (other_holds e s e.value.ok_line verdict.Ignore is (λ no. absurd cc) there at.0, at.1)

    dials : (s : DeviceState) (a : Dialed) (d : Situation) → Heard chain s d → Heard chain (dial_answered h a s).0 d
    dials s (dialed.Stream id) d at = (added_holds s.table (flow_to_host h) _ (dialed_holds h id) at.0, at.1)
    dials s _ d at = at

    unknown : (s : DeviceState) (c : Situation) → Heard chain s c → Keeps calls (λ r d. Heard chain r.0 d) (on_unknown h s) c
    unknown s c at =
        keeps_if calls (λ r d. Heard chain r.0 d) (is_reset h) _ _ c (λ reset. at) (λ other.
        keeps_if calls (λ r d. Heard chain r.0 d) (is_of Stream h && (h.op == op_number Request)) _ _ c (λ asks.
        keeps_if calls (λ r d. Heard chain r.0 d) (is_assigned h.dst_port) _ _ c (λ mine. at) (λ free.
        keeps_if calls (λ r d. Heard chain r.0 d) (has_place s.table) _ _ c
        (λ place. (tt, λ a d allowed. dials s a d (at.0, page_stays (Some chain) c.ring d.ring allowed.ring at.1))) (λ full. at))) (λ none. at))

    packet : (s : DeviceState) (c : Situation) → Heard chain s c → Keeps calls (λ r d. Heard chain r.0 d) (on_packet chain h s) c
    packet s c at =
        keeps_if calls (λ r d. Heard chain r.0 d) (is_dropped Device s.cid h) _ _ c (λ dropped. at) (λ stays.
        keeps_some calls (λ r d. Heard chain r.0 d) (entry_of s.table (flow_to_host h)) (on_unknown h s)
        (λ e. let v = verdict_of e.value.end h in bind (on_known v chain h e s) (λ t. Done (t, v))) c (λ none. unknown s c at) (λ e found.
        keeps_then calls (λ r d. Heard chain r.0 d) (λ t d. Heard chain t d) (on_known (verdict_of e.value.end h) chain h e s) _ c
        (known (verdict_of e.value.end h) e s c (by_flow s.table (flow_to_host h) e found) refl at) (λ t d kept. kept)))

  header : (chain : Chain) (h : Header) (s : DeviceState) (c : Situation) → Heard chain s c → Keeps calls (λ r d. At r.0 d) (on_header chain h s) c
  header chain h s c at =
      keeps_if calls (λ r d. At r.0 d) (nat_lt (chain.readable - HEADER_LEN) h.len) _ _ c (λ short. (at.0, (at.1.0, at.1.1))) (λ whole.
      keeps_then calls (λ r d. At r.0 d) (λ r d. Heard chain r.0 d) (on_packet chain h s) _ c (packet chain h whole s c at)
      (λ r d kept. (tt, λ a e returned. (kept.0, call_told (Ring (Return chain 0)) a d e returned (kept.1.0, kept.1.1)))))

  came : (s : DeviceState) (n : Next) (c d : Situation) → Allows (Ring (Take Tx)) n c d → At s c → Keeps calls (λ r e. At r.0 e) (on_next n s) d
  came s (next.Chain chain) c d allowed at =
      let got = told_on c.ring.log d.ring.log _ (log_taken Tx (next.Chain chain) allowed.0.0) allowed.0.1.log at.1.0 at.1.1 in (
        tt,
        λ bytes e again. header chain (header_of bytes) s e (
          at.0,
          (_, (told_on d.ring.log e.ring.log _ (λ l. l) again.0.log _ got.1).1, taken_in chain allowed.0.0 at.1.0 got.0.0),
        ),
      )
  came s next.None c d allowed at = (at.0, call_told (Ring (Take Tx)) next.None c d allowed at.1)
  came s (next.Failed f) c d allowed at = (at.0, call_told (Ring (Take Tx)) (next.Failed f) c d allowed at.1)

  takes : (s : DeviceState) (c : Situation) → At s c → Keeps calls (λ r d. At r.0 d) (take_tx_of s) c
  takes s c at = by s.failed
    where
      by : (o : Option Failure) → Keeps calls (λ r d. At r.0 d) (elim o [
        | Some f ↦ Done (s, taken.Failed f)
        | None ↦ cond (nat_le DEVICE_REPLIES (length s.replies)) (Done (s, taken.RepliesFull DEVICE_REPLIES)) (Ask (Ring (Take Tx)) (λ a. on_next a s))
      ]) c
      by (Some f) = at
      by None = keeps_if calls (λ r d. At r.0 d) (nat_le DEVICE_REPLIES (length s.replies)) _ _ c (λ full. at)
          (λ room. (tt, λ a d allowed. came s a c d allowed at))

-- Handshakes, and the turn.
accepted_by : (hands : List Handshake) (port : ℕ) (s : DeviceState) (a : Accepted) (d : Situation) → At s d → AfterAccept calls (Between D) hands port s a d
accepted_by hands port s (accepted.Stream id) d at = at
accepted_by hands port s _ d at = at

byte_read : (h : Handshake) (hands : List Handshake) (port : ℕ) (s : DeviceState) (a : StreamRead) (bytes : List ℕ) (d : Situation) → At s d
    → AfterByte calls (Between D) h hands port s a bytes d
byte_read h hands port s (read.Got n) bytes d at = record {
  more = λ is. at;
  ends = (tt, λ a e allowed. (at.0, call_told (CloseStream h.stream) a d e allowed at.1));
  refused = λ guest flow fault decided given full. at;
  opens = λ guest flow decided given none.
      (tt, λ a e allowed. (added_holds s.table flow _ (client_holds h.stream) at.0, call_told (Label h.stream flow) a d e allowed at.1));
}
byte_read h hands port s _ bytes d at = at

shakes : Shakes calls (Between D)
shakes = grind (arith, common_steps, call_told, accepted_by, byte_read)

pub exact_turns : (size now : ℕ) (s : ProxyState) (a b : Situation) (x : ProxyState × Turn) (l : EndLog) → a.ring.log ≡ Some l → AreExact s.device.table
    → Runs (turn_of size now s) a x b → AreExact x.0.device.table
exact_turns size now s a b x l told exact runs =
    (keeps_end (λ (call : Call) (c : Situation). Unit {0}) Allows (Ends calls (Between D)) (turn_of size now s) a b x
    (keeps_turn_by calls (Between D) shakes size now (λ hands port. keeps_tick calls (D hands) (closes hands) now)
    (λ hands port. keeps_pay_event calls (D hands) (closes hands) (fills hands)) (λ hands port. takes hands)
    (λ hands port. keeps_pump calls (D hands) (closes hands) (streams hands)) (λ hands port. keeps_fill_rx calls (D hands) (closes hands) (fills hands))
    s a (exact, (l, told))) runs).0
