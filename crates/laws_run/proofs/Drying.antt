-- A stage of filling that puts nothing read each stream that may be read, and each gave Again.
use Rattle.std.proofs.lemmas.Grind.{common_steps}
use Rattle.std.proofs.Common.{slice_get, slice_set, ◌-◌, ◌≡◌, ◌≢◌, ◌≤◌, ◌+◌, ◌==◌, ◌&&◌, ◌||◌, not, ℕ, zero, suc, Bool, true, false, cond, List, [], ◌∷◌, ◌++◌, length, Option}
use Rattle.std.{proofs.{Common.{Some, None, refl, sym, ap, subst, ◌∙◌, arith}, lemmas.{Bool.{eq-eqb, eqb-true}, Option.same_Some}}, specs.Option.{ForSome, option_map}}
use Rattle.std.specs.{Option.option_map_or, Prelude.{take}}
use Rattle.vs_contents.specs.{CallTree.{Ask, Done, bind, for_each, while_up_to}}
use Rattle.vs_conn.specs.{End.{ConnectionEnd, wanting_credit, with_payload_sent, with_shut}, Headers.{payload_header}, declared.end.{State.State}}
use Rattle.vs_credit.specs.Credit.{free_of}
use Rattle.vs_flow.{specs.Table.{Table, entry_under, slots, with_value}, proofs.Lookups.entry_under-with_value}
use Rattle.vs_header.specs.declared.Header.{Header}
use Rattle.vs_outside.specs.{Host.{HostContents, Stream, with_stream, after_close, after_read, stream_at}, declared.host_net.StreamRead.StreamRead}
use Rattle.vs_outside.proofs.Frames.{keeps_others, stream_at-with_stream}
use Rattle.vs_replies.specs.declared.Reply.{Reply}
use Rattle.vs_ring_port.specs.{declared.{device_ring.{Chain.Chain}}}
use Rattle.vs_device_parts.specs.{Calls.{Allows, Answer, CloseStream, DeviceTree, HostMoves, IsReadOf, ReadStream, Situation}, Connections.{after_shut, cut_off}}
use Rattle.vs_device_parts.specs.{Connections.{route_to_guest, with_connection, with_fault}, Playing.Runs, Receiving.{Filling, hold, may_read, put_on}}
use Rattle.vs_device_parts.specs.Receiving.{put_owed, put_packet, put_reply, put_reply_of, read_answered, read_room, read_stream, read_with_chain, reply_header, round_from}
use Rattle.vs_device_parts.{specs.{Receiving.{serve_slot}, State.{DeviceConnection, DeviceEntry, DeviceState}, Steps.filling, Streams.closing}, proofs.Under.has_slot}
use Rattle.laws_device.{specs.{Named.Waiting.filling_of, Honest.end_in}, proofs.Walk.Keeping.{Asking, Keeps, keeps_then, keeps_weaker}}
use Rattle.laws_rest.proofs.{Owing.{listed, same_slots}, Quiet.in_list, Stages.in_round}
use Rattle.laws_run.specs.Dry.{IsDry, IsDryAt, IsFull, IsFullAt, IsTaken, IsTakenAt, IsToldDry, IsToldFull, IsToldTaken, reads_of, reads_under, writes_of, writes_under}
use Rattle.vs_limits.specs.declared.TheConstants.{OWED_MAX}
use Rattle.vs_outside.specs.declared.host_net.StreamRead.TheVariants as read
use Rattle.vs_outside.specs.declared.host_net.StreamState.TheVariants as state

-- Whatever ring and host answer.
abbrev pub allowed : Asking Situation
allowed = record {
  asks = λ call c P. (a : Answer call) (d : Situation) → Allows call a c d → P a d;
  weaker = λ call c P R weaker asks a d made. weaker a d (asks a d made);
}

pub keeps_run : {A : Type 0} (Q : A → Situation → Type 0) (tree : DeviceTree A) (c d : Situation) (x : A) → Keeps allowed Q tree c → Runs tree c x d → Q x d
keeps_run Q (Done y) c d x keeps runs = subst (λ z. Q z d) runs.0 (subst (λ (e : Situation). Q y e) runs.1 keeps)
keeps_run Q (Ask call k) c d x keeps runs = keeps_run Q (k runs.0) runs.1 d x (keeps runs.0 runs.1 runs.2) runs.3

keeps_any : {A : Type 0} (Q : A → Situation → Type 0) → ((x : A) (d : Situation) → Q x d) → (tree : DeviceTree A) (c : Situation) → Keeps allowed Q tree c
keeps_any Q all (Done x) c = all x c
keeps_any Q all (Ask call k) c = λ a d made. keeps_any Q all (k a) d

-- A step of the stage. Where it put nothing and the stage isn't over after it, it wasn't before, and N holds.
abbrev Relation : Type 1
Relation = Filling → Situation → Filling → Situation → Type 0

record Step (N : Relation) (r : Filling) (c : Situation) (x : Filling) (d : Situation) : Type 0 where
  rises : r.put ≤ x.put
  same : x.put ≡ r.put → x.over ≡ false → (r.over ≡ false) × N r c x d

more : (N : Relation) (r : Filling) (c : Situation) (x : Filling) (d : Situation) → x.put ≡ r.put + 1 → Step N r c x d
more N r c x d one = record { rises = omega (arith, one); same = λ e o. absurd (omega (arith, one, e)) }

is_over : (N : Relation) (r : Filling) (c : Situation) (x : Filling) (d : Situation) → r.put ≤ x.put → x.over ≡ true → Step N r c x d
is_over N r c x d least over = record { rises = least; same = λ e o. absurd (let no : true ≡ false = sym over ∙ o in cc) }

one_then : (N M K : Relation) (r : Filling) (c : Situation) (q : Filling) (d : Situation) (x : Filling) (e : Situation)
    → (N r c q d → M q d x e → K r c x e) → Step N r c q d → Step M q d x e → Step K r c x e
one_then N M K r c q d x e gives a b = grind (arith, common_steps)

-- The table and the host stay.
record Same (r : Filling) (c : Situation) (x : Filling) (d : Situation) : Type 0 where
  table : x.state.table ≡ r.state.table
  host : d.host ≡ c.host

still : (r : Filling) (c : Situation) → r.over ≡ false → Step Same r c r c
still r c on = record { rises = omega arith; same = λ e o. (on, record { table = refl; host = refl }) }

same_then : (r : Filling) (c : Situation) (q : Filling) (d : Situation) (x : Filling) (e : Situation) → Same r c q d → Same q d x e → Same r c x e
same_then r c q d x e a b = record { table = b.table ∙ a.table; host = b.host ∙ a.host }

-- Streams that are dry stay so, and those that don't wait to be accepted.
pub record Calm (o q : Option HostContents) : Type 0 where
  pub dry : (id : ℕ) → IsToldDry id o → IsToldDry id q
  pub taken : (id : ℕ) → IsToldTaken id o → IsToldTaken id q

pub calm_same : (o q : Option HostContents) → q ≡ o → Calm o q
calm_same o q same = grind (arith, common_steps)

pub calm_both : (o q p : Option HostContents) → Calm o q → Calm q p → Calm o p
calm_both o q p a b = record { dry = λ id is. b.dry id (a.dry id is); taken = λ id is. b.taken id (a.taken id is) }

-- What has something to write had it before, and streams that take nothing stay so.
pub record KeepsFull (t : Table DeviceConnection) (o : Option HostContents) (u : Table DeviceConnection) (q : Option HostContents) : Type 0 where
  pub less : (n id : ℕ) → writes_under n u ≡ Some id → writes_under n t ≡ Some id
  pub full : (id : ℕ) → IsToldFull id o → IsToldFull id q
  pub calm : Calm o q

keeps_same : (t : Table DeviceConnection) (o : Option HostContents) (u : Table DeviceConnection) (q : Option HostContents) → u ≡ t → q ≡ o → KeepsFull t o u q
keeps_same t o u q table host = grind (arith, common_steps, calm_same)

keeps_both : (t : Table DeviceConnection) (o : Option HostContents) (u : Table DeviceConnection) (q : Option HostContents) (v : Table DeviceConnection)
    (p : Option HostContents) → KeepsFull t o u q → KeepsFull u q v p → KeepsFull t o v p
keeps_both t o u q v p a b = record {
  less = λ n id at. a.less n id (b.less n id at);
  full = λ id is. b.full id (a.full id is);
  calm = calm_both o q p a.calm b.calm;
}

abbrev Frame : Relation
Frame r c x d = KeepsFull r.state.table c.host x.state.table d.host

-- At most the connection under one slot changes; and that one is dry where it is read.
record Touches (slot : ℕ) (r : Filling) (c : Situation) (x : Filling) (d : Situation) : Type 0 where
  slots : slots x.state.table ≡ slots r.state.table
  frame : Frame r c x d
  others : (n : ℕ) → (n == slot) ≡ false → reads_under n x.state.table ≡ reads_under n r.state.table
  dry : (id : ℕ) → IsToldDry id c.host → IsToldDry id d.host

abbrev OwnDry : ℕ → Filling → Situation → Type 0
OwnDry n x d = (id : ℕ) → reads_under n x.state.table ≡ Some id → IsToldDry id d.host

record Serves (slot : ℕ) (r : Filling) (c : Situation) (x : Filling) (d : Situation) : Type 0 where
  touches : Touches slot r c x d
  own : OwnDry slot x d

serves_then : (slot : ℕ) (r : Filling) (c : Situation) (q : Filling) (d : Situation) (x : Filling) (e : Situation) → Serves slot r c q d → Same q d x e
    → Serves slot r c x e
serves_then slot r c q d x e a same = grind (arith, common_steps)

then_serves : (slot : ℕ) (r : Filling) (c : Situation) (q : Filling) (d : Situation) (x : Filling) (e : Situation) → Same r c q d → Serves slot q d x e
    → Serves slot r c x e
then_serves slot r c q d x e same b = grind (arith, common_steps)

-- A chain is held, or the stage is over.
record Held (r : Filling) (c : Situation) (q : Filling) (d : Situation) : Type 0 where
  table : q.state.table ≡ r.state.table
  step : Step Same r c q d
  over : q.state.chain ≡ None → q.over ≡ true

holds : (r : Filling) (c : Situation) → r.over ≡ false → Keeps allowed (λ q d. Held r c q d) (hold r) c
holds r c on = grind (arith, common_steps)

held_none : (N : Relation) (r : Filling) (c : Situation) (q : Filling) (d : Situation) → Held r c q d → q.state.chain ≡ None → Step N r c q d
held_none N r c q d held none = is_over N r c q d held.step.rises (held.over none)

-- A packet is put, or the stage is over.
one_put : (chain : Chain) (h : Header) (payload : List ℕ) (q : Filling) (d : Situation)
    → Keeps allowed (λ p e. p.put ≡ q.put + 1) (put_on chain h payload q) d
one_put chain h payload q d = grind (arith, common_steps, keeps_then, keeps_any)

puts_packet : (N : Relation) (h : Header) (f : DeviceState → DeviceTree DeviceState) (r : Filling) (c : Situation) → r.over ≡ false
    → Keeps allowed (λ x d. Step N r c x d) (put_packet h f r) c
puts_packet N h f r c on =
    keeps_then allowed (λ q d. Step N r c q d) (λ q d. Held r c q d) (hold r)
    (λ q. elim q.state.chain [
      | None ↦ Done q
      | Some chain ↦ bind (put_on chain h [] q) (λ p. bind (f p.state) (λ s. Done (record p { state = s })))
    ]) c (holds r c on) (λ q d held. by q d held q.state.chain refl)
  where
    by : (q : Filling) (d : Situation) → Held r c q d → (o : Option Chain) → q.state.chain ≡ o
        → Keeps allowed (λ x e. Step N r c x e) (elim o as (λ _. DeviceTree Filling) [
          | None ↦ Done q
          | Some chain ↦ bind (put_on chain h [] q) (λ p. bind (f p.state) (λ s. Done (record p { state = s })))
        ]) d
    by q d held None is = held_none N r c q d held is
    by q d held (Some chain) is =
        keeps_then allowed (λ x e. Step N r c x e) (λ p e. p.put ≡ q.put + 1) (put_on chain h [] q)
        (λ p. bind (f p.state) (λ s. Done (record p { state = s }))) d (one_put chain h [] q d)
        (λ p e one. keeps_then allowed (λ x g. Step N r c x g) (λ s g. Unit {0}) (f p.state) (λ s. Done (record p { state = s })) e
        (keeps_any (λ s g. Unit {0}) (λ s g. tt) (f p.state) e)
        (λ s g any. let least = held.step.rises in record {
          rises = omega (arith, least, one);
          same = λ put o. absurd (omega (arith, least, one, put));
        }))

-- Steps that leave the table and the host, again and again while the stage goes on.
abbrev Going : Filling → Situation → Filling × Bool → Situation → Type 0
Going r c x d = Step Same r c x.0 d × (x.1 ≡ true → x.0.over ≡ false)

stays_while : (step : Filling → DeviceTree (Filling × Bool))
    → ((r : Filling) (c : Situation) → r.over ≡ false → Keeps allowed (Going r c) (step r) c)
    → (n : ℕ) (r : Filling) (c : Situation) → r.over ≡ false → Keeps allowed (λ x d. Step Same r c x d) (while_up_to n step r) c
stays_while step each zero r c on = still r c on
stays_while step each (suc n) r c on =
    keeps_then allowed (λ x d. Step Same r c x d) (Going r c) (step r)
    (λ q. elim q.1 [ true ↦ while_up_to n step q.0 | false ↦ Done q.0 ]) c (each r c on)
    (λ x d a. by x.0 d x.1 a (λ going. stays_while step each n x.0 d going))
  where
    by : (q : Filling) (d : Situation) (b : Bool) → Going r c (q, b) d
        → (q.over ≡ false → Keeps allowed (λ x e. Step Same q d x e) (while_up_to n step q) d)
        → Keeps allowed (λ x e. Step Same r c x e) (elim b as (λ _. DeviceTree Filling) [ true ↦ while_up_to n step q | false ↦ Done q ]) d
    by q d true a rest =
        keeps_weaker allowed (λ x e. Step Same q d x e) (λ x e. Step Same r c x e) (λ x e b. one_then Same Same Same r c q d x e (same_then r c q d x e) a.0 b)
        (while_up_to n step q) d (rest (a.1 refl))
    by q d false a rest = a.0

-- What goes on says so only while the stage isn't over.
going : (r : Filling) (c : Situation) (q : Filling) (d : Situation) → Step Same r c q d → Going r c (q, not q.over) d
going r c q d step = grind (arith, common_steps)

puts_going : (h : Header) (f : DeviceState → DeviceTree DeviceState) (r : Filling) (c : Situation) → r.over ≡ false
    → Keeps allowed (Going r c) (bind (put_packet h f r) (λ q. Done (q, not q.over))) c
puts_going h f r c on =
    keeps_then allowed (Going r c) (λ q d. Step Same r c q d) (put_packet h f r) (λ q. Done (q, not q.over)) c (puts_packet Same h f r c on)
    (λ q d step. going r c q d step)

puts_reply : (rs : List Reply) (r : Filling) (c : Situation) → r.over ≡ false → Keeps allowed (Going r c) (put_reply_of rs r) c
puts_reply [] r c on = (still r c on, λ no. absurd cc)
puts_reply (reply ∷ rs) r c on = puts_going (reply_header reply r.state) (λ s. Done (record s { replies = rs })) r c on

puts_owed : (slot : ℕ) (r : Filling) (c : Situation) → r.over ≡ false → Keeps allowed (Going r c) (put_owed slot r) c
puts_owed slot r c on = grind (arith, common_steps, Keeps, still, puts_going)

-- Another connection under a slot.
abbrev pub under : (DeviceEntry → Option ℕ) → ℕ → Table DeviceConnection → Option ℕ
under look slot t = elim (entry_under t slot) as (λ _. Option ℕ) [ None ↦ None | Some e ↦ look e ]

pub under_other : (look : DeviceEntry → Option ℕ) (t : Table DeviceConnection) (slot n : ℕ) (v : DeviceConnection) → (n == slot) ≡ false
    → under look n (with_value t slot v) ≡ under look n t
under_other look t slot n v other = grind (arith, common_steps, entry_under-with_value, has_slot)

pub under_own : (look : DeviceEntry → Option ℕ) (t : Table DeviceConnection) (slot : ℕ) (e : DeviceEntry) (v : DeviceConnection) → entry_under t slot ≡ Some e
    → under look slot (with_value t slot v) ≡ look (record e { value = v })
under_own look t slot e v at = grind (arith, common_steps, entry_under-with_value, has_slot, eq-eqb)

pub under_at : (look : DeviceEntry → Option ℕ) (t : Table DeviceConnection) (slot : ℕ) (o : Option DeviceEntry) → entry_under t slot ≡ o
    → under look slot t ≡ elim o as (λ _. Option ℕ) [ None ↦ None | Some e ↦ look e ]
under_at look t slot o at = ap (λ (q : Option DeviceEntry). elim q as (λ _. Option ℕ) [ None ↦ None | Some e ↦ look e ]) at

-- It has no more to write than the one before it.
less_written : (t : Table DeviceConnection) (slot : ℕ) (e : DeviceEntry) (v : DeviceConnection) → entry_under t slot ≡ Some e
    → ((id : ℕ) → writes_of (record e { value = v }) ≡ Some id → writes_of e ≡ Some id)
    → (n id : ℕ) → writes_under n (with_value t slot v) ≡ Some id → writes_under n t ≡ Some id
less_written t slot e v at less n id writes = by (n == slot) refl
  where
    by : (b : Bool) → (n == slot) ≡ b → writes_under n t ≡ Some id
    by false other = sym (under_other writes_of t slot n v other) ∙ writes
    by true is =
        let same : n ≡ slot = eqb-true n slot is in
        let here : writes_under slot (with_value t slot v) ≡ Some id = subst (λ (m : ℕ). writes_under m (with_value t slot v) ≡ Some id) same writes in
        subst (λ (m : ℕ). writes_under m t ≡ Some id) (sym same)
        (under_at writes_of t slot (Some e) at ∙ less id (sym (under_own writes_of t slot e v at) ∙ here))

-- A connection that reads nothing is put in the place of another.
replaces : (slot : ℕ) (e : DeviceEntry) (v : DeviceConnection) (r : Filling) (c : Situation) (x : Filling) (d : Situation) → entry_under r.state.table slot ≡ Some e
    → reads_of (record e { value = v }) ≡ None → x.state.table ≡ with_value r.state.table slot v
    → ((id : ℕ) → writes_of (record e { value = v }) ≡ Some id → writes_of e ≡ Some id)
    → Calm c.host d.host → ((id : ℕ) → IsToldFull id c.host → IsToldFull id d.host) → Serves slot r c x d
replaces slot e v r c x d at none table less calm full = record {
  touches = record {
    frame = record {
      less = λ n id writes. less_written r.state.table slot e v at less n id (ap (λ (t : Table DeviceConnection). writes_under n t) (sym table) ∙ writes);
      full = full;
      calm = calm;
    };
    slots = ap (λ (t : Table DeviceConnection). slots t) table ∙ same_slots end_in r.state.table slot v;
    others = λ n other. ap (λ (t : Table DeviceConnection). reads_under n t) table ∙ under_other reads_of r.state.table slot n v other;
    dry = calm.dry;
  };
  own = λ id reads. absurd (let no : None ≡ Some id = sym none ∙ sym (under_own reads_of r.state.table slot e v at) ∙ ap (λ (t : Table DeviceConnection). reads_under slot t) (sym table) ∙ reads in cc);
}

still_none : (slot : ℕ) (r : Filling) (c : Situation) → reads_under slot r.state.table ≡ None → Serves slot r c r c
still_none slot r c none = record {
  touches = record { slots = refl; frame = keeps_same _ _ _ _ refl refl; others = λ n other. refl; dry = λ id is. is };
  own = λ id reads. absurd (let no : None ≡ Some id = sym none ∙ reads in cc);
}

-- What the answers leave of a host.
abbrev pub IsQuiet : StreamRead → Type 0
IsQuiet (read.Got n) = ⊥
IsQuiet a = Unit {0}

pub host_moves : (Q : ℕ → HostContents → Type 0) (failed : Bool) (P : HostContents → Type 0) (f : HostContents → HostContents) (c d : Situation)
    → HostMoves failed P f c d → ((id : ℕ) (h : HostContents) → Q id h → Q id (f h)) → (id : ℕ) → ForSome c.host (Q id) → ForSome d.host (Q id)
host_moves Q failed P f c d moves keeps id dry = grind (arith, common_steps)

pub stays_with : (P : Stream → Type 0) (f : Stream → Stream) → ((s : Stream) → P s → P (f s)) → (i id : ℕ) (h : HostContents)
    → ForSome (stream_at i h) P → ForSome (stream_at i (with_stream id f h)) P
stays_with P f stays i id h dry = by (i == id) refl
  where
    own : (o : Option Stream) → stream_at id h ≡ o → ForSome (stream_at id h) P → ForSome (stream_at id (with_stream id f h)) P
    own None at was = λ s there.
        absurd (let same : (with_stream id f h).streams ≡ h.streams = ap (λ (q : Option Stream). option_map_or (λ x. slice_set h.streams (id - 1) (f x)) q h.streams) at in
        let gone : None ≡ Some s = sym at ∙ sym (ap (λ (xs : List Stream). cond (id == 0) None (slice_get xs (id - 1))) same) ∙ there in cc)
    own (Some x) at was = λ s there.
        let same : f x ≡ s = same_Some _ s (sym (stream_at-with_stream id f h x at) ∙ there) in subst P same (stays x (was x at))

    by : (b : Bool) → (i == id) ≡ b → ForSome (stream_at i (with_stream id f h)) P
    by true is = subst (λ (j : ℕ). ForSome (stream_at j (with_stream id f h)) P) (sym (eqb-true i id is))
        (own (stream_at id h) refl (subst (λ (j : ℕ). ForSome (stream_at j h) P) (eqb-true i id is) dry))
    by false is =
        let apart : i ≢ id = λ e. let no : true ≡ false = sym (eq-eqb i id e) ∙ is in absurd cc in
        λ s there. dry s (sym (keeps_others id f h i apart) ∙ there)

dry_closed : (i id : ℕ) (h : HostContents) → IsDryAt i h → IsDryAt i (after_close id h)
dry_closed i id h = stays_with IsDry (λ s. record s { state = state.Closed }) (λ s is. record { untaken = is.untaken; goes_on = is.goes_on }) i id h

pub full_closed : (i id : ℕ) (h : HostContents) → IsFullAt i h → IsFullAt i (after_close id h)
full_closed i id h = stays_with IsFull (λ s. record s { state = state.Closed }) (λ s is. is) i id h

full_read : (a : StreamRead) (stream i : ℕ) (h : HostContents) → IsQuiet a → IsFullAt i h → IsFullAt i (after_read stream a h)
full_read a stream i h quiet full = grind (arith, common_steps)

dry_read : (a : StreamRead) (stream i : ℕ) (h : HostContents) → IsQuiet a → IsDryAt i h → IsDryAt i (after_read stream a h)
dry_read a stream i h quiet dry = grind (arith, common_steps)

-- The same of streams that wait.
taken_closed : (i id : ℕ) (h : HostContents) → IsTakenAt i h → IsTakenAt i (after_close id h)
taken_closed i id h = stays_with IsTaken (λ s. record s { state = state.Closed }) (λ s is. refl) i id h

taken_read : (a : StreamRead) (stream i : ℕ) (h : HostContents) → IsQuiet a → IsTakenAt i h → IsTakenAt i (after_read stream a h)
taken_read a stream i h quiet taken = grind (arith, common_steps)

pub calm_moves : (failed : Bool) (P : HostContents → Type 0) (f : HostContents → HostContents) (c d : Situation) → HostMoves failed P f c d
    → ((id : ℕ) (h : HostContents) → IsDryAt id h → IsDryAt id (f h)) → ((id : ℕ) (h : HostContents) → IsTakenAt id h → IsTakenAt id (f h)) → Calm c.host d.host
calm_moves failed P f c d moves dry taken =
    record { dry = host_moves IsDryAt failed P f c d moves dry; taken = host_moves IsTakenAt failed P f c d moves taken }

pub calm_close : (stream : ℕ) (c d : Situation) → HostMoves false (λ h. Unit {0}) (after_close stream) c d → Calm c.host d.host
calm_close stream c d moves = calm_moves false (λ h. Unit {0}) (after_close stream) c d moves (λ id h. dry_closed id stream h) (λ id h. taken_closed id stream h)

pub calm_read : (a : StreamRead) (stream room : ℕ) (payload : List ℕ) (c d : Situation) → IsQuiet a → Allows (ReadStream stream room) (a, payload) c d
    → Calm c.host d.host
calm_read a stream room payload c d quiet made = grind (arith, common_steps, calm_moves, dry_read, taken_read)

-- What Again says of a stream.
pub told_again : (stream room : ℕ) (c d : Situation) (payload : List ℕ)
    → HostMoves false (IsReadOf stream room (read.Again, payload)) (after_read stream read.Again) c d → IsToldDry stream d.host
told_again stream room c d payload moves = grind (arith, common_steps)

-- An end that told that it sends no more reads nothing.
not_sending : (x : ConnectionEnd) (st : State) → x.own.send ≡ true → may_read x st ≡ false
not_sending x st is = grind (arith, common_steps)

reads_none : (e : DeviceEntry) → may_read e.value.end e.value.end.state ≡ false → reads_of e ≡ None
reads_none e is = ap (λ (b : Bool). cond (b && not (free_of e.value.end.credit == 0)) (Some e.value.stream) None) is

pub or_true : (a b : Bool) → b ≡ true → (a || b) ≡ true
or_true true b is = refl
or_true false b is = is

module _ (e : DeviceEntry) where
  abbrev Served : Relation
  Served = Serves e.slot

  read_stays : (a : StreamRead) (room : ℕ) (payload : List ℕ) (c d : Situation) → IsQuiet a
      → Allows (ReadStream e.value.stream room) (a, payload) c d → Calm c.host d.host
  read_stays a room payload c d quiet made = calm_read a e.value.stream room payload c d quiet made

  read_full : (a : StreamRead) (room : ℕ) (payload : List ℕ) (c d : Situation) → IsQuiet a
      → Allows (ReadStream e.value.stream room) (a, payload) c d → (id : ℕ) → IsToldFull id c.host → IsToldFull id d.host
  read_full a room payload c d quiet made = grind (arith, common_steps, host_moves, full_read)

  -- A connection that shuts has no more to write than before.
  shut_writes : (bits now : ℕ) (v : DeviceConnection) (id : ℕ) → writes_of (record e { value = after_shut bits now v }) ≡ Some id
      → writes_of (record e { value = v }) ≡ Some id
  shut_writes bits now v id = by v.closed (with_shut v.end bits).own.receive
    where
      by : (closed b : Bool)
          → cond (not closed && not (length (take 4096 (cond b [] v.ok_line ++ cond b [] v.pending)) == 0)) (Some v.stream) None ≡ Some id
          → cond (not closed && not (length (take 4096 (v.ok_line ++ v.pending)) == 0)) (Some v.stream) None ≡ Some id
      by true b writes = absurd cc
      by false true writes = absurd cc
      by false false writes = writes

  answered : (chain : Chain) (a : StreamRead) (payload : List ℕ) (room : ℕ) (q : Filling) (c d : Situation) → entry_under q.state.table e.slot ≡ Some e
      → Allows (ReadStream e.value.stream room) (a, payload) c d
      → Keeps allowed (λ x f. Step Served q c x f) (read_answered chain e a payload q) d
  answered chain (read.Got n) payload room q c d at made =
      keeps_then allowed (λ x f. Step Served q c x f) (λ p f. p.put ≡ q.put + 1)
      (put_on chain (payload_header e.value.end (route_to_guest q.state.cid e.flow) (length payload)) payload q)
      (λ p. Done (record p {
        state = record (with_connection e.slot (record e.value { end = with_payload_sent e.value.end (length payload) }) p.state)
            { last_put = Some e.slot };
        read = p.read + length payload;
      })) d (one_put chain (payload_header e.value.end (route_to_guest q.state.cid e.flow) (length payload)) payload q d)
      (λ p f one. more Served q c _ f one)
  answered chain read.Again payload room q c d at made = record {
    rises = omega arith;
    same = λ put on. (
      on,
      record {
        touches = record {
          slots = refl;
          frame = record {
            less = λ n id writes. writes;
            full = read_full read.Again room payload c d tt made;
            calm = read_stays read.Again room payload c d tt made;
          };
          others = λ n other. refl;
          dry = (read_stays read.Again room payload c d tt made).dry;
        };
        own = λ id reads.
            subst (λ (i : ℕ). IsToldDry i d.host) (its_stream (may_read e.value.end e.value.end.state && not (free_of e.value.end.credit == 0)) id
            (sym (ap (λ (o : Option DeviceEntry). elim o as (λ _. Option ℕ) [ None ↦ None | Some x ↦ reads_of x ]) at) ∙ reads))
            (told_again e.value.stream room c d payload made.0);
      },
    );
  }
    where
      its_stream : (b : Bool) (id : ℕ) → cond b (Some e.value.stream) None ≡ Some id → e.value.stream ≡ id
      its_stream true id is = cc
      its_stream false id is = absurd cc
  answered chain read.End payload room q c d at made = record {
    rises = omega arith;
    same = λ put on. (
      on,
      replaces e.slot e (after_shut 2 q.state.now e.value) q c _ d at
          (reads_none (record e { value = after_shut 2 q.state.now e.value })
          (not_sending (with_shut e.value.end 2) (with_shut e.value.end 2).state (or_true e.value.end.own.send _ refl))) refl
          (shut_writes 2 q.state.now e.value) (read_stays read.End room payload c d tt made) (read_full read.End room payload c d tt made),
    );
  }
  answered chain read.Failed payload room q c d at made =
      keeps_then allowed (λ x f. Step Served q c x f)
      (λ s f. (s ≡ cut) × Calm d.host f.host × ((id : ℕ) → IsToldFull id d.host → IsToldFull id f.host))
      (closing e cut_off (with_fault q.state)) (λ s. Done (record q { state = s })) d (closes e.value.closed)
      (λ s f is. record {
        rises = omega arith;
        same = λ put on. (
          on,
          replaces e.slot e (cut_off e.value) q c (record q { state = s }) f at refl (ap (λ (t : DeviceState). t.table) is.0)
              (λ id writes. absurd cc) (calm_both c.host d.host f.host (read_stays read.Failed room payload c d tt made) is.1)
              (λ id full. is.2 id (read_full read.Failed room payload c d tt made id full)),
        );
      })
    where
      cut : DeviceState
      cut = with_connection e.slot (cut_off e.value) (with_fault q.state)

      closes : (b : Bool) → Keeps allowed
          (λ s f. (s ≡ cut) × Calm d.host f.host × ((id : ℕ) → IsToldFull id d.host → IsToldFull id f.host)) (cond b
          (Done (with_connection e.slot (cut_off e.value) (with_fault q.state)))
          (Ask (CloseStream e.value.stream) (λ u. Done (with_connection e.slot (cut_off e.value) (with_fault q.state))))) d
      closes true = (refl, calm_same d.host d.host refl, λ id full. full)
      closes false = λ u f closed. (
        refl,
        calm_close e.value.stream d f closed,
        host_moves IsFullAt false (λ h. Unit {0}) (after_close e.value.stream) d f closed (λ id h full. full_closed id e.value.stream h full),
      )

  with_chain : (r q : Filling) (c d : Situation) → Held r c q d → entry_under q.state.table e.slot ≡ Some e
      → Keeps allowed (λ x f. Step Served r c x f) (read_with_chain e q) d
  with_chain r q c d held at = by q.state.chain refl
    where
      by : (o : Option Chain) → q.state.chain ≡ o → Keeps allowed (λ x f. Step Served r c x f) (elim o as (λ _. DeviceTree Filling) [
        | None ↦ Done q
        | Some chain ↦
            Ask (ReadStream e.value.stream (read_room (free_of e.value.end.credit) chain)) (λ answer. read_answered chain e answer.0 answer.1 q)
      ]) d
      by None is = held_none Served r c q d held is
      by (Some chain) is = λ a f made.
          keeps_weaker allowed (λ x g. Step Served q d x g) (λ x g. Step Served r c x g)
          (λ x g step. one_then Same Served Served r c q d x g (then_serves e.slot r c q d x g) held.step step) (read_answered chain e a.0 a.1 q) f
          (answered chain a.0 a.1 (read_room (free_of e.value.end.credit) chain) q d f at made)

  reads : (r : Filling) (c : Situation) → r.over ≡ false → entry_under r.state.table e.slot ≡ Some e
      → Keeps allowed (λ x d. Step Served r c x d) (read_stream e r) c
  reads r c on at = by (may_read e.value.end e.value.end.state) refl (free_of e.value.end.credit == 0) refl
    where
      under : reads_under e.slot r.state.table ≡ reads_of e
      under = ap (λ (o : Option DeviceEntry). elim o as (λ _. Option ℕ) [ None ↦ None | Some x ↦ reads_of x ]) at

      no_credit : (a b : Bool) → b ≡ true → cond (a && not b) (Some e.value.stream) None ≡ None
      no_credit true true is = refl
      no_credit false true is = refl
      no_credit a false is = absurd cc

      by : (may : Bool) → may_read e.value.end e.value.end.state ≡ may → (none : Bool) → (free_of e.value.end.credit == 0) ≡ none
          → Keeps allowed (λ x d. Step Served r c x d) (cond may
          (cond none (Done (record r { state = with_connection e.slot (record e.value { end = wanting_credit e.value.end }) r.state }))
          (bind (hold r) (read_with_chain e))) (Done r)) c
      by false may none free = record { rises = omega arith; same = λ put o. (on, still_none e.slot r c (under ∙ reads_none e may)) }
      by true may true free = record {
        rises = omega arith;
        same = λ put o. (
          on,
          replaces e.slot e (record e.value { end = wanting_credit e.value.end }) r c _ c at
              (no_credit (may_read e.value.end e.value.end.state) (free_of e.value.end.credit == 0) free) refl (λ id writes. writes)
              (calm_same c.host c.host refl) (λ id full. full),
        );
      }
      by true may false free =
          keeps_then allowed (λ x d. Step Served r c x d) (λ q d. Held r c q d) (hold r) (read_with_chain e) c (holds r c on)
          (λ q d held. with_chain r q c d held (ap (λ (t : Table DeviceConnection). entry_under t e.slot) held.table ∙ at))

-- A slot is served.
slot_read : (slot : ℕ) (r : Filling) (c : Situation) → r.over ≡ false → (o : Option DeviceEntry) → entry_under r.state.table slot ≡ o
    → Keeps allowed (λ x d. Step (Serves slot) r c x d) (elim o as (λ _. DeviceTree Filling) [ None ↦ Done r | Some e ↦ read_stream e r ]) c
slot_read slot r c on None at = record {
  rises = omega arith;
  same = λ put o. (on, still_none slot r c (ap (λ (q : Option DeviceEntry). elim q as (λ _. Option ℕ) [ None ↦ None | Some e ↦ reads_of e ]) at));
}
slot_read slot r c on (Some e) at =
    let own : e.slot ≡ slot = has_slot r.state.table slot e at in
    subst (λ (n : ℕ). Keeps allowed (λ x d. Step (Serves n) r c x d) (read_stream e r) c) own
    (reads e r c on (subst (λ (n : ℕ). entry_under r.state.table n ≡ Some e) (sym own) at))

serves_slot : (slot : ℕ) (r : Filling) (c : Situation) → Keeps allowed (λ x d. Step (Serves slot) r c x d) (serve_slot slot r) c
serves_slot slot r c = by r.over refl
  where
    pays : (q : Filling) (d : Situation) → Step (Serves slot) r c q d → (b : Bool) → q.over ≡ b
        → Keeps allowed (λ x f. Step (Serves slot) r c x f) (cond b (Done q) (while_up_to OWED_MAX (put_owed slot) q)) d
    pays q d step true over = step
    pays q d step false on =
        keeps_weaker allowed (λ x f. Step Same q d x f) (λ x f. Step (Serves slot) r c x f)
        (λ x f same. one_then (Serves slot) Same (Serves slot) r c q d x f (serves_then slot r c q d x f) step same)
        (while_up_to OWED_MAX (put_owed slot) q) d (stays_while (put_owed slot) (puts_owed slot) OWED_MAX q d on)

    by : (b : Bool) → r.over ≡ b → Keeps allowed (λ x d. Step (Serves slot) r c x d) (cond b (Done r)
        (bind (elim (entry_under r.state.table slot) as (λ _. DeviceTree Filling) [ None ↦ Done r | Some e ↦ read_stream e r ]) (λ q.
        cond q.over (Done q) (while_up_to OWED_MAX (put_owed slot) q)))) c
    by true over = is_over (Serves slot) r c r c (omega arith) over
    by false on =
        keeps_then allowed (λ x d. Step (Serves slot) r c x d) (λ q d. Step (Serves slot) r c q d)
        (elim (entry_under r.state.table slot) as (λ _. DeviceTree Filling) [ None ↦ Done r | Some e ↦ read_stream e r ])
        (λ q. cond q.over (Done q) (while_up_to OWED_MAX (put_owed slot) q)) c (slot_read slot r c on (entry_under r.state.table slot) refl)
        (λ q d step. pays q d step q.over refl)

-- All slots of a list.
record ServesAll (is : List ℕ) (r : Filling) (c : Situation) (x : Filling) (d : Situation) : Type 0 where
  slots : slots x.state.table ≡ slots r.state.table
  frame : Frame r c x d
  all : (n : ℕ) → in_list n is ≡ true → OwnDry n x d
  keeps : (n : ℕ) → OwnDry n r c → OwnDry n x d

serve_keeps : (slot n : ℕ) (r : Filling) (c : Situation) (x : Filling) (d : Situation) (b : Bool) → (n == slot) ≡ b → Serves slot r c x d → OwnDry n r c → OwnDry n x d
serve_keeps slot n r c x d true is s own = subst (λ (m : ℕ). OwnDry m x d) (sym (eqb-true n slot is)) s.own
serve_keeps slot n r c x d false is s own = λ id at. s.touches.dry id (own id (sym (s.touches.others n is) ∙ at))

serves_more : (slot : ℕ) (is : List ℕ) (r : Filling) (c : Situation) (q : Filling) (d : Situation) (x : Filling) (f : Situation) → Serves slot r c q d
    → ServesAll is q d x f → ServesAll (slot ∷ is) r c x f
serves_more slot is r c q d x f s rest = record {
  slots = rest.slots ∙ s.touches.slots;
  frame = keeps_both _ _ _ _ _ _ s.touches.frame rest.frame;
  all = λ n at. by n (n == slot) refl at;
  keeps = λ n own. rest.keeps n (serve_keeps slot n r c q d (n == slot) refl s own);
}
  where
    by : (n : ℕ) (b : Bool) → (n == slot) ≡ b → (b || in_list n is) ≡ true → OwnDry n x f
    by n true same at = rest.keeps n (subst (λ (m : ℕ). OwnDry m q d) (sym (eqb-true n slot same)) s.own)
    by n false other at = rest.all n at

serves_each : (is : List ℕ) (r : Filling) (c : Situation) → Keeps allowed (λ x d. Step (ServesAll is) r c x d) (for_each serve_slot is r) c
serves_each [] r c = record { rises = omega arith; same = λ put o. (o, record { slots = refl; frame = keeps_same _ _ _ _ refl refl; all = λ n at. absurd cc; keeps = λ n own. own }) }
serves_each (slot ∷ is) r c =
    keeps_then allowed (λ x d. Step (ServesAll (slot ∷ is)) r c x d) (λ q d. Step (Serves slot) r c q d) (serve_slot slot r) (for_each serve_slot is) c
    (serves_slot slot r c)
    (λ q d step. keeps_weaker allowed (λ x f. Step (ServesAll is) q d x f) (λ x f. Step (ServesAll (slot ∷ is)) r c x f)
    (λ x f a. one_then (Serves slot) (ServesAll is) (ServesAll (slot ∷ is)) r c q d x f (serves_more slot is r c q d x f) step a)
    (for_each serve_slot is q) d (serves_each is q d))

-- The whole stage.
abbrev AllDry : Relation
AllDry r c x d = ((n : ℕ) → OwnDry n x d) × Frame r c x d

listed_reads : (n : ℕ) (t : Table DeviceConnection) (id : ℕ) → reads_under n t ≡ Some id → in_list n (slots t) ≡ true
listed_reads n t id at = by (entry_under t n) refl
  where
    by : (o : Option DeviceEntry) → entry_under t n ≡ o → in_list n (slots t) ≡ true
    by None none =
        absurd (let no : None ≡ Some id = sym (ap (λ (q : Option DeviceEntry). elim q as (λ _. Option ℕ) [ None ↦ None | Some e ↦ reads_of e ]) none) ∙ at in cc)
    by (Some e) there = listed end_in t n e.value.end (ap (option_map (λ (x : DeviceEntry). x.value.end)) there)

all_slots : (s : DeviceState) (r : Filling) (c : Situation) (q : Filling) (d : Situation) → Step Same r c q d → (b : Bool) → q.over ≡ b
    → Keeps allowed (λ x f. Step AllDry r c x f) (cond b (Done q) (for_each serve_slot (round_from q.state.last_put (slots q.state.table)) q)) d
all_slots s r c q d step true over = is_over AllDry r c q d step.rises over
all_slots s r c q d step false on =
    let round = round_from q.state.last_put (slots q.state.table) in
    keeps_weaker allowed (λ x f. Step (ServesAll round) q d x f) (λ x f. Step AllDry r c x f)
    (λ x f a. one_then Same (ServesAll round) AllDry r c q d x f
    (λ same all. (
      λ n id at. all.all n (in_round q.state.last_put (slots q.state.table) n
          (subst (λ (ns : List ℕ). in_list n ns ≡ true) all.slots (listed_reads n x.state.table id at))) id at,
      keeps_both _ _ _ _ _ _ (keeps_same _ _ _ _ same.table same.host) all.frame,
    )) step a)
    (for_each serve_slot round q) d (serves_each round q d)

pub stage_dry : (s : DeviceState) (a b : Situation) (q : Filling) → Runs (filling_of s) a q b → q.put ≡ 0 → q.over ≡ false
    → ((n id : ℕ) → reads_under n q.state.table ≡ Some id → IsToldDry id b.host) × KeepsFull s.table a.host q.state.table b.host
stage_dry s a b q runs none over =
    ((keeps_run (λ x d. Step AllDry (filling s) a x d) (filling_of s) a b q
    (keeps_then allowed (λ x d. Step AllDry (filling s) a x d) (λ r c. Step Same (filling s) a r c) (while_up_to (length s.replies) put_reply (filling s))
    (λ r. cond r.over (Done r) (for_each serve_slot (round_from r.state.last_put (slots r.state.table)) r)) a
    (stays_while put_reply (λ r c on. puts_reply r.state.replies r c on) (length s.replies) (filling s) a refl)
    (λ r c step. all_slots s (filling s) a r c step r.over refl)) runs).same none over).1
