-- Through a turn the device shuts the receiving of a connection only where the host's program closed its stream.
use Rattle.std.proofs.lemmas.Grind.{common_steps}
use Rattle.std.proofs.Common.{◌≡◌, ℕ, zero, suc, ◌-◌, ◌==◌, ◌||◌, not, Bool, true, false, cond, List, [], ◌++◌, length, get_or, Option, Some, None, refl, sym, ap, subst}
use Rattle.std.proofs.{Common.{◌∙◌, arith, drop, take}, lemmas.{Bool.{eq-eqb, eqb-true}, List.Elements.{All-contains, All-filter, All-map, All-push}, Option.same_Some}}
use Rattle.std.specs.{Option.{ForSome}}
use Rattle.vs_contents.specs.Contents.{Exposes}
use Rattle.vs_conn.{specs.{End.{answering, asked, paid_of, wanting_credit, with_payload_sent}, Headers.payload_header, Shut.neither}, proofs.Frames.{got_own, paid_own}}
use Rattle.vs_flow.specs.{Table.{Table, next_entry, revalued, with_entry, with_value, without}, declared.flow.Flow.Flow}
use Rattle.vs_header.specs.declared.{Header.Header, Kind.TheVariants.Stream}
use Rattle.vs_limits.specs.declared.TheConstants.{BUF_ALLOC}
use Rattle.vs_page.specs.Log.{flow_to_host}
use Rattle.vs_uds.specs.OkLine.{ok_text}
use Rattle.vs_outside.specs.Host.{HostContents, Stream as HostStream, after_accept, after_dial, after_read, after_write, called, stream_at}
use Rattle.vs_outside.specs.Host.{with_label_call, with_shut_write_call, with_stream, write_answer, give_bytes, read_answer, take_bytes}
use Rattle.vs_outside.{specs.declared.host_net.{Accepted.Accepted, Dialed.Dialed, StreamRead.StreamRead, StreamWrite.StreamWrite}, proofs.Frames.{keeps_others, slice_get-append}}
use Rattle.vs_outside.proofs.Frames.{stream_at-with_stream, stream_place}
use Rattle.vs_ring_port.specs.declared.device_ring.{Chain.Chain, Next.Next}
use Rattle.vs_device_parts.specs.{Calls.{Allows, IsReadOf, ReadStream, Situation, WriteStream}, Connections.{after_shut, after_written, cut_off, new_connection, route_to_guest}}
use Rattle.vs_device_parts.specs.{Connections.stream_closed, Playing.Runs, Receiving.written, State.{DeviceConnection, DeviceEntry, DeviceState}, Streams.to_write}
use Rattle.vs_device_parts.specs.Transmitting.{heard}
use Rattle.vs_proxy_parts.specs.{State.{Handshake, ProxyState}, Turns.turn_of, declared.answers.Turn.Turn}
use Rattle.laws_tables.proofs.Changes.{without_changed}
use Rattle.laws_device.{specs.Walk.Seen.Seen, proofs.Walk.{Keeping.Keeps, Serving.{AfterEvent, AfterRead, AfterWrite, Closes, Fills, Writes, by_flow}, Taking.{AfterDial, Takes}}}
use Rattle.laws_device.proofs.Walk.Turning.{AfterAccept, AfterByte, Between, Shakes, keeps_turn}
use Rattle.laws_settled.{specs.Shut.{AreShutBy, GivesNoMore, IsClosedAt, IsEndedAt, IsShutBy}, proofs.Tallying.{allowed, runs_end}}
use Rattle.vs_outside.specs.declared.host_net.Accepted.TheVariants as accepted
use Rattle.vs_outside.specs.declared.host_net.Dialed.TheVariants as dialed
use Rattle.vs_outside.specs.declared.host_net.StreamRead.TheVariants as read
use Rattle.vs_outside.specs.declared.host_net.StreamState.TheVariants as state
use Rattle.vs_outside.specs.declared.host_net.StreamWrite.TheVariants as write
use Rattle.vs_ring_port.specs.declared.device_ring.Next.TheVariants as next
use Rattle.laws_device.proofs.Walk.Serving as serving
use Rattle.laws_device.proofs.Walk.Taking as taking

-- HOSTS: a stream that is closed, or gives no more, stays so.
abbrev Stay : HostContents → HostContents → Type 0
Stay h g = (id : ℕ) (s : HostStream) → stream_at id h ≡ Some s → (t : HostStream) × (stream_at id g ≡ Some t) × (t.host_closed ≡ s.host_closed) × (GivesNoMore s → GivesNoMore t)

stream_stays : (id : ℕ) (f : HostStream → HostStream) (h : HostContents) → ((s : HostStream) → ((f s).host_closed ≡ s.host_closed) × (GivesNoMore s → GivesNoMore (f s)))
    → Stay h (with_stream id f h)
stream_stays id f h same other s at = by (other == id) refl
  where
    by : (b : Bool) → (other == id) ≡ b
        → (t : HostStream) × (stream_at other (with_stream id f h) ≡ Some t) × (t.host_closed ≡ s.host_closed) × (GivesNoMore s → GivesNoMore t)
    by true is =
        let one = eqb-true other id is in (
          f s,
          ap (λ (n : ℕ). stream_at n (with_stream id f h)) one ∙ stream_at-with_stream id f h s (ap (λ (n : ℕ). stream_at n h) (sym one) ∙ at),
          (same s).0,
          (same s).1,
        )
    by false is = (s, keeps_others id f h other (λ on. let yes = eq-eqb other id on in let no : true ≡ false = sym yes ∙ is in cc) ∙ at, refl, λ none. none)

stays_none : (h : HostContents) → Stay h h
stays_none h id s at = (s, at, refl, λ none. none)

dial_stays : (flow : Flow) (a : Dialed) (h : HostContents) → Stay h (after_dial flow a h)
dial_stays flow a h = grind (arith, common_steps, stream_place, slice_get-append, stays_none)

accept_stays : (a : Accepted) (h : HostContents) → Stay h (after_accept a h)
accept_stays (accepted.Stream id) h = stream_stays id (λ s. record s { state = state.Open }) (called h) (λ s. (refl, λ none. none))
accept_stays _ h = stays_none h

read_stays : (id : ℕ) (a : StreamRead) (h : HostContents) → Stay h (after_read id a h)
read_stays id (read.Got n) h = stream_stays id (take_bytes n) (called h) (λ s. (refl, λ none. (none.0, λ e. ap (λ (xs : List ℕ). drop n xs) (none.1 e) ∙ nothing n)))
  where
    nothing : (m : ℕ) → let none : List ℕ = [] in drop m none ≡ none
    nothing zero = refl
    nothing (suc m) = refl
read_stays id _ h = stays_none h

write_stays : (id : ℕ) (bytes : List ℕ) (a : StreamWrite) (h : HostContents) → Stay h (after_write id bytes a h)
write_stays id bytes (write.Took n) h = stream_stays id (give_bytes n bytes) (called h)
    (λ s. (refl, λ none. (none.0, λ e. ap (λ (b : Bool). cond b (s.untaken ++ take n bytes) s.untaken) e ∙ none.1 e)))
write_stays id bytes write.Failed h = dial_stays (record { guest = 0; host = 0; peer = 0 }) dialed.Failed h
write_stays id bytes _ h = stays_none h

-- A write that says so was of such a stream.
closed_so : (id n : ℕ) (h : HostContents) → write.Closed ≡ write_answer id n h → IsClosedAt id h
closed_so id n h is = grind (arith, common_steps)

ended_so : (id n : ℕ) (h : HostContents) → read.End ≡ read_answer id n h → IsEndedAt id h
ended_so id n h is = grind (arith, common_steps)

-- TABLES
same_shut : (h : HostContents) (c d : DeviceConnection) → d.stream ≡ c.stream → d.end.own ≡ c.end.own → IsShutBy c h → IsShutBy d h
same_shut h c d stream own is = grind (arith, common_steps)

stays_shut : (h g : HostContents) (c : DeviceConnection) → Stay h g → IsShutBy c h → IsShutBy c g
stays_shut h g c stays is = grind (arith, common_steps)

goes_on : (t : Table DeviceConnection) (o n : Option HostContents) (P : HostContents → Type 0) (f : HostContents → HostContents) → Exposes o n P f
    → ((h : HostContents) → Stay h (f h)) → AreShutBy t o → AreShutBy t n
goes_on t None n P f exposes stays shut = λ h is. absurd (let no : ◌≡◌ {A = Option HostContents} None (Some h) = sym exposes ∙ is in cc)
goes_on t (Some c) n P f exposes stays shut = λ h is k e less.
    subst (λ (g : HostContents). IsShutBy (get_or t.entries k e).value g) (same_Some (f c) h (sym exposes.1 ∙ is))
    (stays_shut c (f c) (get_or t.entries k e).value (stays c) (shut c refl k e less))

same_host : (t : Table DeviceConnection) (o n : Option HostContents) → n ≡ o → AreShutBy t o → AreShutBy t n
same_host t o n same shut = subst (AreShutBy t) (sym same) shut

module _ (t : Table DeviceConnection) (host : Option HostContents) (shut : AreShutBy t host) where
  with_shut_by : (slot : ℕ) (c : DeviceConnection) → ForSome host (IsShutBy c) → AreShutBy (with_value t slot c) host
  with_shut_by slot c one = λ h is. All-map (λ e. IsShutBy e.value h) (revalued slot c) t.entries (λ k d less. by h (get_or t.entries k d) (one h is) (shut h is k d less))
    where
      by : (h : HostContents) (e : DeviceEntry) → IsShutBy c h → IsShutBy e.value h → IsShutBy (revalued slot c e).value h
      by h e mine is = at (e.slot == slot)
        where
          at : (b : Bool) → IsShutBy (cond b (record e { value = c }) e).value h
          at true = mine
          at false = is

  -- A connection of the table changes, and shuts nothing.
  changes_shut : (e : DeviceEntry) (c : DeviceConnection) → serving.IsIn t e → c.stream ≡ e.value.stream → c.end.own ≡ e.value.end.own
      → AreShutBy (with_value t e.slot c) host
  changes_shut e c there stream own = with_shut_by e.slot c (λ h is. same_shut h e.value c stream own
      (All-contains (λ x. IsShutBy x.value h) t.entries e (shut h is) there.among))

  opens_shut : (f : Flow) (c : DeviceConnection) → c.end.own ≡ neither → AreShutBy (with_entry t f c) host
  opens_shut f c none = λ h is. All-push (λ e. IsShutBy e.value h) t.entries (next_entry t f c) (shut h is) (record {
    receives = λ own. absurd (let no : true ≡ false = sym own ∙ ap (λ o. o.receive) none in cc);
    sends = λ own. absurd (let no : true ≡ false = sym own ∙ ap (λ o. o.send) none in cc);
  })

  leaves_shut : (slot : ℕ) (c : DeviceConnection) → AreShutBy (without (with_value t slot c) slot) host
  leaves_shut slot c = subst (λ (u : Table DeviceConnection). AreShutBy u host) (sym (without_changed t slot c))
      (λ h is. All-filter (λ e. not (e.slot == slot)) (λ e. IsShutBy e.value h) t.entries (shut h is))

  at_entry : (h : HostContents) → host ≡ Some h → (e : DeviceEntry) → serving.IsIn t e → IsShutBy e.value h
  at_entry h is e there = All-contains (λ x. IsShutBy x.value h) t.entries e (shut h is) there.among

or_none : (b : Bool) → (b || false) ≡ true → b ≡ true
or_none true so = refl
or_none false so = so

-- A write that was answered Closed shuts the receiving, and a read that was answered End the sending.
closes_shut : (t : Table DeviceConnection) (e : DeviceEntry) (bytes : List ℕ) (now : ℕ) (o n : Option HostContents) → serving.IsIn t e
    → Exposes o n (λ h. write.Closed ≡ write_answer e.value.stream (length bytes) h) (after_write e.value.stream bytes write.Closed) → AreShutBy t o
    → AreShutBy (with_value t e.slot (after_shut 1 now e.value)) n
closes_shut t e bytes now None n there exposes shut = λ h is. absurd (let no : ◌≡◌ {A = Option HostContents} None (Some h) = sym exposes ∙ is in cc)
closes_shut t e bytes now (Some c) n there exposes shut =
    goes_on (with_value t e.slot (after_shut 1 now e.value)) (Some c) n (λ h. write.Closed ≡ write_answer e.value.stream (length bytes) h)
    (after_write e.value.stream bytes write.Closed) exposes (λ h. write_stays e.value.stream bytes write.Closed h)
    (with_shut_by t (Some c) shut e.slot (after_shut 1 now e.value) (λ h is. record {
      receives = λ own. subst (λ (g : HostContents). IsClosedAt e.value.stream g) (same_Some c h is) (closed_so e.value.stream (length bytes) c exposes.0);
      sends = λ own. (at_entry t (Some c) shut h is e there).sends (or_none e.value.end.own.send own);
    }))

ends_shut : (t : Table DeviceConnection) (e : DeviceEntry) (count : ℕ) (bytes : List ℕ) (now : ℕ) (o n : Option HostContents) → serving.IsIn t e
    → Exposes o n (IsReadOf e.value.stream count (read.End, bytes)) (after_read e.value.stream read.End) → AreShutBy t o
    → AreShutBy (with_value t e.slot (after_shut 2 now e.value)) n
ends_shut t e count bytes now None n there exposes shut = λ h is. absurd (let no : ◌≡◌ {A = Option HostContents} None (Some h) = sym exposes ∙ is in cc)
ends_shut t e count bytes now (Some c) n there exposes shut =
    goes_on (with_value t e.slot (after_shut 2 now e.value)) (Some c) n (IsReadOf e.value.stream count (read.End, bytes))
    (after_read e.value.stream read.End) exposes (λ h. read_stays e.value.stream read.End h)
    (with_shut_by t (Some c) shut e.slot (after_shut 2 now e.value) (λ h is. record {
      receives = λ own. (at_entry t (Some c) shut h is e there).receives (or_none e.value.end.own.receive own);
      sends = λ own. subst (λ (g : HostContents). IsEndedAt e.value.stream g) (same_Some c h is) (ended_so e.value.stream count c exposes.0.0);
    }))

-- THE WALK
abbrev D : List Handshake → Option Chain → Seen → Situation → Type 0
D hands page s c = AreShutBy s.table c.host

abbrev U : List Handshake → Chain → Header → Seen → Situation → Type 0
U hands chain h s c = AreShutBy s.table c.host

written_still : (t : Table DeviceConnection) (chain : Chain) (h : Header) (payload : List ℕ) (c : Situation) → AreShutBy t c.host
    → Keeps allowed (λ x d. AreShutBy t d.host) (written chain h payload) c
written_still t chain h payload c at = grind (arith, common_steps)

module _ (hands : List Handshake) where
  closes : Closes allowed (D hands)
  closes = record {
    cuts = λ e s c is at still a d made.
        goes_on (with_value s.table e.slot (cut_off e.value)) c.host d.host _ _ made.host (λ h. stream_stays e.value.stream _ h (λ x. (refl, λ none. none)))
        (changes_shut s.table c.host at e (cut_off e.value) is refl refl);
    was_cut = λ e s c is at closed. changes_shut s.table c.host at e (cut_off e.value) is refl refl;
    leaves = λ page e v s c is closed stream at still a d made.
        goes_on (without (with_value s.table e.slot (stream_closed v)) e.slot) c.host d.host _ _ made.host (λ h. stream_stays v.stream _ h (λ x. (refl, λ none. none)))
        (leaves_shut s.table c.host at e.slot (stream_closed v));
    was_left = λ page e v s c is closed stream at gone. leaves_shut s.table c.host at e.slot (stream_closed v);
  }

  wrote : (e : DeviceEntry) (s : DeviceState) (a : StreamWrite) (c d : Situation) → serving.IsIn s.table e
      → Allows (WriteStream e.value.stream (to_write e.value)) a c d → AreShutBy s.table c.host → AfterWrite allowed (D hands) e s a d
  wrote e s (write.Took n) c d is made at =
      goes_on (with_value s.table e.slot (after_written n e.value)) c.host d.host _ _ made.0.host (λ h. write_stays e.value.stream (to_write e.value) (write.Took n) h)
      (changes_shut s.table c.host at e (after_written n e.value) is refl refl)
  wrote e s write.Again c d is made at = goes_on s.table c.host d.host _ _ made.0.host (λ h. write_stays e.value.stream (to_write e.value) write.Again h) at
  wrote e s write.Closed c d is made at = closes_shut s.table e (to_write e.value) s.now c.host d.host is made.0.host at
  wrote e s write.Failed c d is made at = goes_on s.table c.host d.host _ _ made.0.host (λ h. write_stays e.value.stream (to_write e.value) write.Failed h) at

  writes : Writes allowed (D hands)
  writes = record {
    writes = λ e s c is still at a d made. wrote e s a c d is made at;
    shuts = λ e s c is out at a d made.
        goes_on (with_value s.table e.slot (record e.value { write_shut = true })) c.host d.host _ _ made.host
        (λ h. stream_stays e.value.stream _ (with_shut_write_call h) (λ x. (refl, λ none. none)))
        (changes_shut s.table c.host at e (record e.value { write_shut = true }) is refl refl);
  }

  held : (s : DeviceState) (n : Next) (d : Situation) → AreShutBy s.table d.host → serving.AfterTake allowed (D hands) s n d
  held s (next.Chain chain) d at = at
  held s _ d at = at

  event_taken : (s : DeviceState) (n : Next) (d : Situation) → AreShutBy s.table d.host → AfterEvent allowed (D hands) s n d
  event_taken s (next.Chain chain) d at = λ a e made b f more. same_host s.table e.host f.host more.1 (same_host s.table d.host e.host made.1 at)
  event_taken s _ d at = at

  have_read : (e : DeviceEntry) (chain : Chain) (s : DeviceState) (a : StreamRead) (payload : List ℕ) (n : ℕ) (c d : Situation) → serving.IsIn s.table e
      → Allows (ReadStream e.value.stream n) (a, payload) c d → AreShutBy s.table c.host → AfterRead allowed (D hands) e chain s a payload d
  have_read e chain s (read.Got k) payload n c d is made at =
      written_still (with_value s.table e.slot (record e.value { end = with_payload_sent e.value.end (length payload) })) chain
      (payload_header e.value.end (route_to_guest s.cid e.flow) (length payload)) payload d
      (changes_shut s.table d.host (goes_on s.table c.host d.host _ _ made.0.host (λ h. read_stays e.value.stream (read.Got k) h) at) e
      (record e.value { end = with_payload_sent e.value.end (length payload) }) is refl refl)
  have_read e chain s read.End payload n c d is made at = ends_shut s.table e n payload s.now c.host d.host is made.0.host at
  have_read e chain s read.Again payload n c d is made at = goes_on s.table c.host d.host _ _ made.0.host (λ h. read_stays e.value.stream read.Again h) at
  have_read e chain s read.Failed payload n c d is made at = goes_on s.table c.host d.host _ _ made.0.host (λ h. read_stays e.value.stream read.Failed h) at

  fills : Fills allowed (D hands)
  fills = record {
    event = λ s c at owed a d made. event_taken s a d (same_host s.table c.host d.host made.1 at);
    holds = λ s c at none a d made. held s a d (same_host s.table c.host d.host made.1 at);
    puts = λ h chain s c at is. written_still s.table chain h [] c at;
    reads = λ e chain s c is at held_one may a d made. have_read e chain s a.0 a.1 _ c d is made at;
    wants = λ e s c is at. changes_shut s.table c.host at e (record e.value { end = wanting_credit e.value.end }) is refl refl;
    pays = λ e what asked s c is owes at.
        changes_shut s.table c.host at e (record e.value { end = paid_of e.value.end what; asked_at = asked }) is refl (paid_own e.value.end what);
  }

  taken_by : (s : DeviceState) (n : Next) (c d : Situation) → d.host ≡ c.host → AreShutBy s.table c.host → taking.AfterTake allowed (D hands) (U hands) s n d
  taken_by s (next.Chain chain) c d same at = λ bytes e reads.
      let now = same_host s.table d.host e.host reads.1 (same_host s.table c.host d.host same at) in
      record { short = λ less. now; drops = λ whole is. now; comes = λ whole is. now }
  taken_by s _ c d same at = same_host s.table c.host d.host same at

  dials : (chain : Chain) (h : Header) (s : DeviceState) (a : Dialed) (d : Situation) → AreShutBy s.table d.host
      → AfterDial allowed (D hands) (U hands) chain h s a d
  dials chain h s (dialed.Stream id) d at = opens_shut s.table d.host at (flow_to_host h) (new_connection (answering Stream BUF_ALLOC h) id false) refl
  dials chain h s _ d at = at

  takes : Takes allowed (D hands) (U hands)
  takes = record {
    takes = λ s c at a d made. taken_by s a c d made.1 at;
    returns = λ chain s c at a d made. same_host s.table c.host d.host made.1 at;
    ignores = λ chain h s c at. at;
    dials = λ chain h s c none place at a d made. dials chain h s a d
        (goes_on s.table c.host d.host _ _ made.host (λ g. dial_stays (flow_to_host h) a g) at);
    accepts = λ chain h e s c found is at. changes_shut s.table c.host at e (record (heard h e.value) { ok_line = cond e.value.by_client (ok_text e.flow.host) [] })
        (by_flow s.table (flow_to_host h) e found) refl (got_own e.value.end h);
    delivers = λ chain h e s c found is at a d made. same_host (with_value s.table e.slot (record (heard h e.value) { pending = e.value.pending ++ a })) c.host d.host made.1
        (changes_shut s.table c.host at e (record (heard h e.value) { pending = e.value.pending ++ a }) (by_flow s.table (flow_to_host h) e found) refl
        (got_own e.value.end h));
    hears = λ chain h e s c v found is other at. changes_shut s.table c.host at e (heard h e.value) (by_flow s.table (flow_to_host h) e found) refl
        (got_own e.value.end h);
  }

accepted_by : (hands : List Handshake) (port : ℕ) (s : DeviceState) (a : Accepted) (d : Situation) → AreShutBy s.table d.host
    → AfterAccept allowed (Between D) hands port s a d
accepted_by hands port s (accepted.Stream id) d at = at
accepted_by hands port s _ d at = at

byte_read : (h : Handshake) (hands : List Handshake) (port : ℕ) (s : DeviceState) (a : StreamRead) (bytes : List ℕ) (d : Situation) → AreShutBy s.table d.host
    → AfterByte allowed (Between D) h hands port s a bytes d
byte_read h hands port s (read.Got k) bytes d at = record {
  more = λ is. at;
  ends = λ a e made. goes_on s.table d.host e.host _ _ made.host (λ g. stream_stays h.stream _ g (λ x. (refl, λ none. none))) at;
  refused = λ guest flow fault decided given full. at;
  opens = λ guest flow decided given none a e made. opens_shut s.table e.host
      (goes_on s.table d.host e.host _ _ made.host (λ g. stream_stays h.stream _ (with_label_call h.stream g) (λ x. (refl, λ none. none))) at) flow
      (new_connection (asked Stream BUF_ALLOC) h.stream true) refl;
}
byte_read h hands port s _ bytes d at = at

shakes : Shakes allowed (Between D)
shakes = record {
  drops = λ h hands port s c on at a d made. goes_on s.table c.host d.host _ _ made.host (λ g. stream_stays h.stream _ g (λ x. (refl, λ none. none))) at;
  accepts = λ hands port s c at a d made. accepted_by hands port s a d (goes_on s.table c.host d.host _ _ made.host (λ g. accept_stays a g) at);
  reads = λ h hands port s c on at a d made. byte_read h hands port s a.0 a.1 d
      (goes_on s.table c.host d.host _ _ made.0.host (λ g. read_stays h.stream a.0 g) at);
}

pub turn_shuts : (size now : ℕ) (s : ProxyState) (a b : Situation) (x : ProxyState × Turn) → AreShutBy s.device.table a.host → Runs (turn_of size now s) a x b
    → AreShutBy x.0.device.table b.host
turn_shuts size now s a b x at runs =
    runs_end (λ (y : ProxyState × Turn) d. AreShutBy y.0.device.table d.host) (turn_of size now s) a b x
    (keeps_turn allowed D shakes closes U takes writes fills size now s a at) runs
