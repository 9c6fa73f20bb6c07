-- What reading a stream comes to, for the packet that it puts.
use Rattle.std.proofs.Common.{◌≡◌, ℕ, ◌+◌, ◌≤◌, ◌<◌, arith, ◌||◌, ◌⊎◌, inl, inr, Bool, true, false, not, cond, List, length, take, Option, Some, None, refl, sym, ap, subst, ◌∙◌}
use Rattle.std.{proofs.lemmas.{List.length-take-le, Bool.Decides.nat_tests}, specs.{Prelude.{if◌then◌else◌, ◌==◌}, Option.{IfSome, IsSomeAnd, option_map}}}
use Rattle.vs_contents.{specs.CallTree.{Done, Ask, bind, while_up_to}, proofs.{Leads.{leads_of, leads_bind}, Conditions.{may_first, may_rest, may_of}}}
use Rattle.vs_conn.specs.{End.{ConnectionEnd, owes_of, with_payload_sent, wanting_credit}, Headers.payload_header}
use Rattle.vs_header.specs.declared.{TheConstants.HEADER_LEN, Header.Header}
use Rattle.vs_page.specs.declared.page.TheConstants.{PAYLOAD_MAX}
use Rattle.vs_credit.specs.Credit.{free_of}
use Rattle.vs_flow.specs.Table.{Table, IsTable, entry_under, value_under}
use Rattle.vs_outside.specs.{Host.ReadsSome, InOut.MovesSome, declared.host_net.StreamRead.StreamRead}
use Rattle.vs_ring_port.specs.declared.device_ring.Chain.{Chain}
use Rattle.vs_device_parts.specs.Receiving.{Filling, hold, written, put_on, put_owed, put_payload, may_read, read_room, read_answered, read_with_chain, read_stream, serve_slot}
use Rattle.vs_device_parts.specs.{Calls.{DeviceTree, Situation, Allows, ReadStream}, Connections.{with_connection, route_to_guest}, Filling.read_slot, Playing.{CanMake, MayRun}}
use Rattle.vs_device_parts.specs.{Playing.Runs, State.{DeviceConnection, DeviceEntry, DeviceState}, Steps.{filling, puts_payload, reads, to_read}, Served.{OnlyReads, Reads, Rests, WaitsForCredit}}
use Rattle.vs_device_parts.proofs.Under.{with_value_again}
use Rattle.vs_limits.specs.declared.TheConstants.{OWED_MAX}
use Rattle.vs_outside.specs.declared.host_net.StreamRead.TheVariants as read

-- payload is put
module _ (chain : Chain) (e : DeviceEntry) (payload : List ℕ) (r : Filling) where
  abbrev pub header : Header
  header = payload_header e.value.end (route_to_guest r.state.cid e.flow) (length payload)

  abbrev put : Filling
  put = record r { state = record r.state { chain = None }; put = r.put + 1 }

  abbrev pub after_payload : Filling
  after_payload = record put {
    state = record (with_connection e.slot (record e.value { end = with_payload_sent e.value.end (length payload) }) put.state) { last_put = Some e.slot };
    read = r.read + length payload;
  }

  pub payload_put : (c t : Situation) → Runs (written chain header payload) c tt t → Runs (put_payload chain e payload r) c after_payload t
  payload_put c t writes =
      let first : Runs (put_on chain header payload r) c put t = leads_bind Allows (written chain header payload) _ c t t tt put writes (refl, refl) in
      leads_bind Allows (put_on chain header payload r) _ c t t put after_payload first (refl, refl)

  pub may_put : (c : Situation) → MayRun (put_payload chain e payload r) c → MayRun (written chain header payload) c
  may_put c may =
      may_first CanMake Allows (written chain header payload) _ c (may_first CanMake Allows (put_on chain header payload r) _ c may)

-- the stream is read with a chain held
module _ (chain : Chain) (e : DeviceEntry) (q : Filling) (held : q.state.chain ≡ Some chain) where
  abbrev room : ℕ
  room = read_room (free_of e.value.end.credit) chain

  asks : read_with_chain e q ≡ Ask (ReadStream e.value.stream room) (λ answer. read_answered chain e answer.0 answer.1 q)
  asks = rw held refl

  pub answered : (answer : StreamRead) (bytes : List ℕ) (p : Filling) (c m t : Situation) → Allows (ReadStream e.value.stream room) (answer, bytes) c m
      → Runs (read_answered chain e answer bytes q) m p t → Runs (read_with_chain e q) c p t
  answered answer bytes p c m t allowed rest = leads_of Allows _ _ c t p asks ((answer, bytes), m, allowed, rest)

  pub may_ask : (c : Situation) → MayRun (read_with_chain e q) c → CanMake (ReadStream e.value.stream room) c
  may_ask c may = (may_of CanMake Allows _ _ c asks may).0

  pub may_answered : (answer : StreamRead) (bytes : List ℕ) (c m : Situation) → MayRun (read_with_chain e q) c → Allows (ReadStream e.value.stream room) (answer, bytes) c m
      → MayRun (read_answered chain e answer bytes q) m
  may_answered answer bytes c m may allowed = (may_of CanMake Allows _ _ c asks may).1 (answer, bytes) m allowed

-- a connection without credit wants some, one with credit needs a chain
abbrev want : DeviceEntry → DeviceState → DeviceState
want e s = with_connection e.slot (record e.value { end = wanting_credit e.value.end }) s

-- one that has asked for credit stays as it is
asked_already : (e : ConnectionEnd) → e.credit_asked ≡ true → wanting_credit e ≡ e
asked_already e asked = λ i. record e { credit_asked = sym asked i; credit_request_owed = owed i }
  where
    owed : (e.credit_request_owed || not e.credit_asked) ≡ e.credit_request_owed
    owed = rw asked (elim e.credit_request_owed as (λ b. (b || false) ≡ b) [ true ↦ refl | false ↦ refl ])

wants_again : (slot : ℕ) (s : DeviceState) (e : DeviceEntry) → IsTable s.table → entry_under s.table slot ≡ Some e → e.value.end.credit_asked ≡ true → want e s ≡ s
wants_again slot s e sound found asked =
    ap (λ (x : ConnectionEnd). with_connection e.slot (record e.value { end = x }) s) (asked_already e.value.end asked)
    ∙ ap (λ (t : Table DeviceConnection). let u : DeviceState = record s { table = t } in u) (with_value_again s.table slot e sound found)

pub record IsToRead (slot : ℕ) (s t : DeviceState) : Type 0 where
  pub entry : DeviceEntry
  pub found : entry_under s.table slot ≡ Some entry
  pub reads : may_read entry.value.end entry.value.end.state ≡ true
  pub some : (free_of entry.value.end.credit == 0) ≡ false
  pub same : t ≡ s

abbrev Asked : Type 0
Asked = DeviceState × Bool

apart : (t u : DeviceState) (a b : Bool) → (let is : Asked = (t, a) in is) ≡ (u, b) → a ≡ b
apart t u a b is = ap (λ (r : Asked). r.1) is

true_false : true ≡ false → ⊥
true_false is = absurd (cc)

module _ (slot : ℕ) (s t : DeviceState) where
  reads_by : (a b : Bool) (e : DeviceEntry) → entry_under s.table slot ≡ Some e → may_read e.value.end e.value.end.state ≡ a
      → (free_of e.value.end.credit == 0) ≡ b → (let is : Asked = (t, true) in is) ≡ cond a (cond b (want e s, false) (s, true)) (s, false) → IsToRead slot s t
  reads_by true true e found may free is = absurd (true_false (apart t (want e s) true false is))
  reads_by true false e found may free is = record { entry = e; found = found; reads = may; some = free; same = ap (λ (r : Asked). r.0) is }
  reads_by false b e found may free is = absurd (true_false (apart t s true false is))

  reads_at : (o : Option DeviceEntry) → entry_under s.table slot ≡ o
      → (let is : Asked = (t, true) in is) ≡ elim o [
        | None ↦ (s, false)
        | Some e ↦ cond (may_read e.value.end e.value.end.state) (cond (free_of e.value.end.credit == 0) (want e s, false) (s, true)) (s, false)
      ] → IsToRead slot s t
  reads_at None found is = absurd (true_false (apart t s true false is))
  reads_at (Some e) found is = reads_by (may_read e.value.end e.value.end.state) (free_of e.value.end.credit == 0) e found refl refl is

  pub reads_stream : (t, true) ≡ to_read slot s → IsToRead slot s t
  reads_stream is = reads_at (entry_under s.table slot) refl is

module _ (slot : ℕ) (t : DeviceState) where
  module _ (A : Type 0) (s : DeviceState) (done : DeviceState → DeviceTree A) where
    rests_by : (a b : Bool) (e : DeviceEntry) (page : DeviceTree A) → (let is : Asked = (t, false) in is) ≡ cond a (cond b (want e s, false) (s, true)) (s, false)
        → cond a (cond b (done (want e s)) page) (done s) ≡ done t
    rests_by true true e page is = ap done (sym (ap (λ (r : Asked). r.0) is))
    rests_by true false e page is = absurd (true_false (sym (apart t s false true is)))
    rests_by false b e page is = ap done (sym (ap (λ (r : Asked). r.0) is))

    rests_at : (o : Option DeviceEntry) (page : DeviceEntry → DeviceTree A)
        → (let is : Asked = (t, false) in is) ≡ elim o [
          | None ↦ (s, false)
          | Some e ↦ cond (may_read e.value.end e.value.end.state) (cond (free_of e.value.end.credit == 0) (want e s, false) (s, true)) (s, false)
        ] → (let tree : DeviceTree A = elim o [
          | None ↦ done s
          | Some e ↦ cond (may_read e.value.end e.value.end.state) (cond (free_of e.value.end.credit == 0) (done (want e s)) (page e)) (done s)
        ] in tree) ≡ done t
    rests_at None page is = ap done (sym (ap (λ (r : Asked). r.0) is))
    rests_at (Some e) page is = rests_by (may_read e.value.end e.value.end.state) (free_of e.value.end.credit == 0) e (page e) is

  pub not_read : (r : Filling) → (t, false) ≡ to_read slot r.state → read_slot slot r ≡ Done (record r { state = t })
  not_read r is =
      rests_at Filling r.state (λ u. Done (record r { state = u })) (entry_under r.state.table slot) (λ e. bind (hold r) (read_with_chain e)) is

  pub step_not_read : (s : DeviceState) → (t, false) ≡ to_read slot s → puts_payload slot s ≡ Done t
  step_not_read s is =
      rests_at DeviceState s (λ u. Done u) (entry_under s.table slot) (λ e. bind (read_with_chain e (filling s)) (λ r. Done r.state)) is

pub wants_is : (slot : ℕ) (s : DeviceState) (e : DeviceEntry) → entry_under s.table slot ≡ Some e → may_read e.value.end e.value.end.state ≡ true
    → (free_of e.value.end.credit == 0) ≡ true → to_read slot s ≡ (want e s, false)
wants_is slot s e found reads none = rw (found, reads, none, to_read) refl

module _ (slot : ℕ) (r : Filling) (t : DeviceState) (k : IsToRead slot r.state t) where
  reading_is : read_slot slot r ≡ bind (hold r) (read_with_chain k.entry)
  reading_is = rw (k.found, read_slot) (rw (k.reads, k.some, read_stream) refl)

  pub read_then : (q p : Filling) (c m u : Situation) → Runs (hold r) c q m → Runs (read_with_chain k.entry q) m p u → Runs (read_slot slot r) c p u
  read_then q p c m u holds rest = leads_of Allows _ _ c u p reading_is (leads_bind Allows (hold r) (read_with_chain k.entry) c m u q p holds rest)

  pub may_read_then : (q : Filling) (c m : Situation) → MayRun (read_slot slot r) c → Runs (hold r) c q m → MayRun (read_with_chain k.entry q) m
  may_read_then q c m may holds = may_rest CanMake Allows (hold r) (read_with_chain k.entry) c m q (may_of CanMake Allows _ _ c reading_is may) holds

of_filling : Filling → DeviceTree DeviceState
of_filling r = Done r.state

module _ (slot : ℕ) (s t : DeviceState) (k : IsToRead slot s t) where
  step_is : puts_payload slot s ≡ bind (read_with_chain k.entry (filling s)) of_filling
  unfolding of_filling
  step_is = rw (k.found, puts_payload) (rw (k.reads, k.some, reads) refl)

  pub may_step_read : (c : Situation) → MayRun (puts_payload slot s) c → MayRun (read_with_chain k.entry (filling s)) c
  may_step_read c may = may_first CanMake Allows (read_with_chain k.entry (filling s)) of_filling c (may_of CanMake Allows _ _ c step_is may)

  pub read_stepped : (p : Filling) (c u : Situation) → Runs (read_with_chain k.entry (filling s)) c p u → Runs (puts_payload slot s) c p.state u
  unfolding of_filling
  read_stepped p c u rest = leads_of Allows _ _ c u p.state step_is (leads_bind Allows (read_with_chain k.entry (filling s)) of_filling c u u p p.state rest (refl, refl))

-- a connection is served
abbrev owed_on : ℕ → Filling → Bool → DeviceTree Filling
owed_on slot q over = if over then Done q else while_up_to OWED_MAX (put_owed slot) q

abbrev then_owed : ℕ → Filling → DeviceTree Filling
then_owed slot q = owed_on slot q q.over

abbrev serve_on : ℕ → Filling → Bool → DeviceTree Filling
serve_on slot r over = if over then Done r else bind (read_slot slot r) (then_owed slot)

module _ (slot : ℕ) (r : Filling) (going : r.over ≡ false) where
  served_is : serve_slot slot r ≡ bind (read_slot slot r) (then_owed slot)
  served_is = ap (serve_on slot r) going

  pub may_serve : (c : Situation) → MayRun (serve_slot slot r) c → MayRun (read_slot slot r) c
  may_serve c may = may_first CanMake Allows (read_slot slot r) (then_owed slot) c (may_of CanMake Allows _ _ c served_is may)

  pub may_serve_then : (q : Filling) (c m : Situation) → q.over ≡ false → MayRun (serve_slot slot r) c → Runs (read_slot slot r) c q m → MayRun (while_up_to OWED_MAX (put_owed slot) q) m
  may_serve_then q c m on may first =
      may_of CanMake Allows _ _ m (ap (owed_on slot q) on) (may_rest CanMake Allows (read_slot slot r) (then_owed slot) c m q (may_of CanMake Allows _ _ c served_is may) first)

  pub served : (q p : Filling) (c m t : Situation) → q.over ≡ false → Runs (read_slot slot r) c q m → Runs (while_up_to OWED_MAX (put_owed slot) q) m p t → Runs (serve_slot slot r) c p t
  served q p c m t on first rest =
      leads_of Allows _ _ c t p served_is (leads_bind Allows (read_slot slot r) (then_owed slot) c m t q p first (leads_of Allows _ _ m t p (ap (owed_on slot q) on) rest))

-- a connection that owes nothing reads its stream
module _ (slot : ℕ) (r : Filling) (going : r.over ≡ false) (e : DeviceEntry) (found : entry_under r.state.table slot ≡ Some e)
    (reads : may_read e.value.end e.value.end.state ≡ true) (some : 0 < free_of e.value.end.credit) where
  credit_left : (free_of e.value.end.credit == 0) ≡ false
  credit_left = grind (arith, nat_tests, some)

  known_is : read_slot slot r ≡ bind (hold r) (read_with_chain e)
  known_is = rw (found, read_slot) (rw (reads, credit_left, read_stream) refl)

  pub may_read_known : (q : Filling) (c m : Situation) → MayRun (serve_slot slot r) c → Runs (hold r) c q m → MayRun (read_with_chain e q) m
  may_read_known q c m may holds =
      may_rest CanMake Allows (hold r) (read_with_chain e) c m q (may_of CanMake Allows _ _ c known_is (may_serve slot r going c may)) holds

  pub known_was_read : (q p : Filling) (c m u : Situation) → Runs (hold r) c q m → Runs (read_with_chain e q) m p u → Runs (read_slot slot r) c p u
  known_was_read q p c m u holds rest = leads_of Allows _ _ c u p known_is (leads_bind Allows (hold r) (read_with_chain e) c m u q p holds rest)

-- what it owes is put, unless the stage is over
module _ (slot : ℕ) (r : Filling) (going : r.over ≡ false) where
  serves : (q p : Filling) (c m t : Situation) → Runs (read_slot slot r) c q m → Runs (then_owed slot q) m p t → Runs (serve_slot slot r) c p t
  serves q p c m t first rest = leads_of Allows _ _ c t p (served_is slot r going) (leads_bind Allows (read_slot slot r) (then_owed slot) c m t q p first rest)

  pub served_over : (q : Filling) (c m : Situation) → q.over ≡ true → Runs (read_slot slot r) c q m → Runs (serve_slot slot r) c q m
  served_over q c m over first = serves q q c m m first (leads_of Allows _ _ m m q (ap (owed_on slot q) over) (refl, refl))

  owes_nothing : (q : Filling) (e : DeviceEntry) (over : Bool) → entry_under q.state.table slot ≡ Some e → owes_of e.value.end ≡ None → owed_on slot q over ≡ Done q
  owes_nothing q e true found none = refl
  owes_nothing q e false found none = rw (found, none, put_owed) refl

  pub served_none_owed : (q : Filling) (e : DeviceEntry) (c m : Situation) → entry_under q.state.table slot ≡ Some e → owes_of e.value.end ≡ None
      → Runs (read_slot slot r) c q m → Runs (serve_slot slot r) c q m
  served_none_owed q e c m found none first = serves q q c m m first (leads_of Allows _ _ m m q (owes_nothing q e q.over found none) (refl, refl))

  -- one that neither reads nor owes
  rests_is : (o : Option DeviceEntry) → entry_under r.state.table slot ≡ o → IfSome (option_map (λ (e : DeviceEntry). e.value) o) Rests
      → owed_on slot r r.over ≡ Done r
  rests_is None is rest = rw going (rw (is, put_owed) refl)
  rests_is (Some e) is rest = owes_nothing r e r.over is rest.owes

  read_at_rest : (e : DeviceEntry) (reads : Bool) → IsTable r.state.table → entry_under r.state.table slot ≡ Some e → may_read e.value.end e.value.end.state ≡ reads
      → (reads ≡ false) ⊎ WaitsForCredit e.value → read_slot slot r ≡ Done r
  read_at_rest e false sound found reads rest = rw (found, read_slot) (rw (reads, read_stream) refl)
  read_at_rest e true sound found reads (inl isnt) = absurd (true_false isnt)
  read_at_rest e true sound found reads (inr waits) =
      let none : (free_of e.value.end.credit == 0) ≡ true = grind (arith, nat_tests, waits.none) in
      rw (found, read_slot) (rw (reads, none, read_stream) (ap (λ (s : DeviceState). let tree : DeviceTree Filling = Done (record r { state = s }) in tree)
      (wants_again slot r.state e sound found waits.asked)))

  reads_none : (o : Option DeviceEntry) → IsTable r.state.table → entry_under r.state.table slot ≡ o
      → IfSome (option_map (λ (e : DeviceEntry). e.value) o) Rests → read_slot slot r ≡ Done r
  reads_none None sound is rest = rw (is, read_slot) refl
  reads_none (Some e) sound is rest = read_at_rest e (may_read e.value.end e.value.end.state) sound is refl rest.reads_not

  pub served_at_rest : (c : Situation) → IsTable r.state.table → IfSome (value_under r.state.table slot) Rests
      → Runs (serve_slot slot r) c r c
  served_at_rest c sound rest =
      let o = entry_under r.state.table slot in
      serves r r c c c (leads_of Allows _ _ c c r (reads_none o sound refl rest) (refl, refl)) (leads_of Allows _ _ c c r (rests_is o refl rest) (refl, refl))

pub if_some : {X : Type 0} (o : Option X) (x : X) (P : X → Type 0) → o ≡ Some x → P x → IfSome o P
if_some {X = X} o x P is holds = let Q : Option X → Type 0 = λ p. IfSome p P in subst Q (sym is) holds

pub at_some : {X : Type 0} (o : Option X) (x : X) (P : X → Type 0) → o ≡ Some x → IfSome o P → P x
at_some {X = X} o x P is holds = let Q : Option X → Type 0 = λ p. IfSome p P in subst Q is holds

pub same_entry : (o : Option DeviceEntry) (e f : DeviceEntry) → o ≡ Some e → o ≡ Some f → e ≡ f
same_entry o e f is also = let both : Some e ≡ Some f = sym is ∙ also in cc

pub same_chain : (o : Option Chain) (c d : Chain) → o ≡ Some c → o ≡ Some d → c ≡ d
same_chain o c d is also = let both : Some c ≡ Some d = sym is ∙ also in cc

-- what was read of a connection's stream, into the chain that is held
pub record WasRead (slot : ℕ) (s : DeviceState) (answer : StreamRead) : Type 0 where
  pub entry : DeviceEntry
  pub found : entry_under s.table slot ≡ Some entry
  pub chain : Chain
  pub held : s.chain ≡ Some chain
  pub reads : may_read entry.value.end entry.value.end.state ≡ true
  pub some : ReadsSome answer (read_room (free_of entry.value.end.credit) chain)

abbrev MayRead : DeviceConnection → Type 0
MayRead c = may_read c.end c.end.state ≡ true

abbrev ReadSo : StreamRead → Option DeviceConnection → Chain → Type 0
ReadSo answer o chain = IsSomeAnd o (λ c. ReadsSome answer (read_room (free_of c.end.credit) chain))

pub was_read : (slot : ℕ) (s : DeviceState) (answer : StreamRead) → IsSomeAnd (value_under s.table slot) MayRead
    → IsSomeAnd s.chain (ReadSo answer (value_under s.table slot)) → WasRead slot s answer
was_read slot s answer reads some = by (entry_under s.table slot) s.chain refl refl reads some
  where
    by : (o : Option DeviceEntry) (h : Option Chain) → entry_under s.table slot ≡ o → s.chain ≡ h
        → IsSomeAnd (option_map (λ (e : DeviceEntry). e.value) o) MayRead
        → IsSomeAnd h (ReadSo answer (option_map (λ (e : DeviceEntry). e.value) o)) → WasRead slot s answer
    by None h found held reads some = absurd reads
    by (Some e) None found held reads some = absurd some
    by (Some e) (Some chain) found held reads some = record { entry = e; found = found; chain = chain; held = held; reads = reads; some = some }

pub none_read : (chain : Chain) (e : DeviceEntry) (answer : StreamRead) (bytes : List ℕ) (q : Filling) (c : Situation) → answer ≡ read.Again
    → Runs (read_answered chain e answer bytes q) c q c
none_read chain e answer bytes q c is = let P : StreamRead → Type 0 = λ a. Runs (read_answered chain e a bytes q) c q c in subst P (sym is) (refl, refl)

pub got_some : (answer : StreamRead) (n room : ℕ) → answer ≡ read.Got n → ReadsSome answer room → MovesSome n room
got_some answer n room is some = let P : StreamRead → Type 0 = λ a. ReadsSome a room in subst P is some

-- the read that was made, as that of the connection in the slot
pub record IsRead (chain : Chain) (stream most : ℕ) (e : DeviceEntry) : Type 0 where
  pub stream_is : stream ≡ e.value.stream
  pub room_is : most ≡ read_room (free_of e.value.end.credit) chain

-- the entry whose stream is read
pub record Known (slot : ℕ) (t : Table DeviceConnection) (stream credit : ℕ) : Type 0 where
  pub entry : DeviceEntry
  pub found : entry_under t slot ≡ Some entry
  pub reads : Reads stream credit entry.value

pub known : (slot : ℕ) (t : Table DeviceConnection) (stream credit : ℕ) → IsSomeAnd (value_under t slot) (Reads stream credit) → Known slot t stream credit
known slot t stream credit has = by (entry_under t slot) refl has
  where
    by : (o : Option DeviceEntry) → entry_under t slot ≡ o → IsSomeAnd (option_map (λ (e : DeviceEntry). e.value) o) (Reads stream credit)
        → Known slot t stream credit
    by None is has = absurd has
    by (Some e) is has = record { entry = e; found = is; reads = has }

pub known_read : (slot : ℕ) (t : Table DeviceConnection) (chain : Chain) (stream credit most : ℕ) (e : DeviceEntry)
    → IsSomeAnd (value_under t slot) (Reads stream credit) → entry_under t slot ≡ Some e → most ≡ read_room credit chain → IsRead chain stream most e
known_read slot t chain stream credit most e has is much =
    let k = known slot t stream credit has in
    let same : k.entry ≡ e = same_entry (entry_under t slot) k.entry e k.found is in record {
      stream_is = k.reads.stream_is ∙ ap (λ (x : DeviceEntry). x.value.stream) same;
      room_is = much ∙ ap (λ (n : ℕ). read_room n chain) (k.reads.credit_is ∙ ap (λ (x : DeviceEntry). free_of x.value.end.credit) same);
    }

-- one that owes nothing besides
pub record Owing (slot : ℕ) (t : Table DeviceConnection) (stream credit : ℕ) : Type 0 where
  pub entry : DeviceEntry
  pub found : entry_under t slot ≡ Some entry
  pub only : OnlyReads stream credit entry.value
  pub free : 0 < free_of entry.value.end.credit

pub owing : (slot : ℕ) (t : Table DeviceConnection) (stream credit : ℕ) → IsSomeAnd (value_under t slot) (OnlyReads stream credit) → Owing slot t stream credit
owing slot t stream credit has = by (entry_under t slot) refl has
  where
    by : (o : Option DeviceEntry) → entry_under t slot ≡ o → IsSomeAnd (option_map (λ (e : DeviceEntry). e.value) o) (OnlyReads stream credit)
        → Owing slot t stream credit
    by None is has = absurd has
    by (Some e) is has = let r : OnlyReads stream credit e.value = has in record {
      entry = e;
      found = is;
      only = r;
      free = omega (arith, r.reads.some, r.reads.credit_is);
    }

pub some_and : {X : Type 0} (o : Option X) (x : X) (P : X → Type 0) → o ≡ Some x → P x → IsSomeAnd o P
some_and {X = X} o x P is holds = let Q : Option X → Type 0 = λ p. IsSomeAnd p P in subst Q (sym is) holds

-- the bytes that it gave have room in the chain, and credit
pub record Fits (e : ConnectionEnd) (chain : Chain) (bytes : List ℕ) : Type 0 where
  pub within : HEADER_LEN + length bytes ≤ chain.writable
  pub credit : length bytes ≤ free_of e.credit

pub fits : (e : ConnectionEnd) (chain : Chain) (n free most : ℕ) (out : List ℕ) → HEADER_LEN + 1 ≤ chain.writable → free ≡ free_of e.credit
    → most ≡ read_room free chain → n ≤ most → PAYLOAD_MAX ≤ length out → Fits e chain (take n out)
fits e chain n free most out long credit much le big =
    let len : length (take n out) ≡ n = length-take-le n out (omega (arith, much, le, big)) in
    record { within = omega (arith, long, much, le, len); credit = omega (arith, credit, much, le, len) }
