-- What a call on one connection leaves of it, and of all others.
use Rattle.std.proofs.Common.{◌≡◌, ◌≢◌, ℕ, zero, suc, ◌<◌, ◌==◌, Bool, true, false, not, cond, List, [], ◌∷◌, ◌++◌, map, length, get_or, drop, take, min, Option, Some, None, Ok}
use Rattle.std.proofs.{Common.{Err, Result, refl, sym, ap, subst, ◌∙◌, arith}, lemmas.{List.{length-take, take_at, take_min, take-append-drop}, Bool.Decides.nat_tests}}
use Rattle.std.{proofs.lemmas.Option.{get_or_from_slice_get, slice_get_within}, specs.{List.{All, find}, Option.{option_map, option_map_or}}}
use Rattle.vs_conn.specs.{End.{ConnectionEnd, may_send_of, with_payload_sent, wanting_credit}, Shut.shut_of, declared.end.{State.State, Stop.Stop}}
use Rattle.vs_flow.{specs.Table.{IsRising, IsTable, revalued}, proofs.{Entries.found_passes, Lookups.find_place}}
use Rattle.vs_driver_parts.specs.{State.{DriverConnection, DriverEntry, DriverState, GoneConnection, is_known_as, entry_known_as, gone_known_as}, Connections.with_connection}
use Rattle.vs_driver_parts.specs.Connections.{with_end, recv_of, read_of, unread_of_id, after_recv, after_read, gone_answer, all_gone_after_read, bytes_read, nothing_read}
use Rattle.vs_driver_parts.specs.Connections.{is_at_end, after_shutdown, after_shut, shut_in, shut_answer, shutdown_of, after_close, after_closing, gone_closed, without_gone}
use Rattle.vs_driver_parts.specs.{Connections.state_of, declared.answers.{Received.Received, Sent.Sent, Shut.Shut}, Listening.{with_waiting, without_id}}
use Rattle.vs_driver_parts.proofs.{Known.{after_recv_gone, after_recv_known, recv_known, unread_known, shutdown_known, after_shutdown_known, after_close_known}, SameIds.closing_id}
use Rattle.vs_driver.specs.{Outcomes.{Sends, SendsBy, SendsOn, SendsWith, SendsFront, sent_at_most}, Pipes.{KeepsOthers, bytes_given, connection_of, receives, IfShut, UnlessShut}}
use Rattle.vs_conn.specs.declared.end.State.TheVariants as state
use Rattle.vs_driver_parts.specs.declared.answers.Received.TheVariants as got
use Rattle.vs_driver_parts.specs.declared.answers.Sent.TheVariants as sent
use Rattle.vs_driver_parts.specs.declared.answers.Shut.TheVariants as shut
use Rattle.vs_driver_parts.specs.declared.answers.ConnectionState.TheVariants as seen

-- an entry is the only one with its slot
abbrev pub IsAlone : DriverEntry → List DriverEntry → Type 0
IsAlone e es = All (λ d. d.slot ≡ e.slot → d ≡ e) es

pub alone : (p : DriverEntry → Bool) (es : List DriverEntry) (e : DriverEntry) → IsRising es → find p es ≡ Some e → IsAlone e es
alone p es e rising found k d lt same =
    let place = find_place p es e found in
    let within : place.0 < length es = slice_get_within es place.0 e place.1 in
    let at : get_or es place.0 d ≡ e = get_or_from_slice_get es place.0 e d place.1 in
    let here : (get_or es k d).slot ≡ (get_or es place.0 d).slot = same ∙ ap (λ (x : DriverEntry). x.slot) (sym at) in
    let not_below : k < place.0 → ⊥ = λ below. (let less = rising k place.0 d below within in omega (arith, less, here)) in
    let not_above : place.0 < k → ⊥ = λ above. (let less = rising place.0 k d above lt in omega (arith, less, here)) in
    let is : k ≡ place.0 = grind (arith, not_below, not_above) in
    ap (λ (n : ℕ). get_or es n d) is ∙ at

-- a connection changes, and keeps its id: every other id finds what it found
others_found : (c : DriverConnection) (slot other : ℕ) (es : List DriverEntry) → other ≢ c.id → All (λ d. d.slot ≡ slot → d.value.id ≡ c.id) es
    → find (is_known_as other) (map (revalued slot c) es) ≡ find (is_known_as other) es
others_found c slot other [] apart ids = refl
others_found c slot other (d ∷ es) apart ids =
    let here = ids 0 d (omega arith) in
    let rest = others_found c slot other es apart (λ k x lt. ids (suc k) x (omega arith)) in
    grind (arith, nat_tests, here, apart, rest)

-- its own id finds it changed
own_found : (c : DriverConnection) (id : ℕ) (e : DriverEntry) (es : List DriverEntry) → IsAlone e es → find (is_known_as id) es ≡ Some e
    → c.id ≡ e.value.id → c.closed ≡ e.value.closed
    → find (is_known_as id) (map (revalued e.slot c) es) ≡ Some (record e { value = c })
own_found c id e [] only found same closed = absurd (cc)
own_found c id e (d ∷ es) only found same closed =
    let here = only 0 d (omega arith) in
    let passes = found_passes (is_known_as id) (d ∷ es) e found in
    let rest = own_found c id e es (λ k x lt. only (suc k) x (omega arith)) in
    grind (arith, nat_tests, here, passes, found, same, closed, rest)

-- the same of connections that are gone
gone_others_read : (id n other : ℕ) (gone : List GoneConnection) → other ≢ id
    → find (λ g. g.id == other) (all_gone_after_read id n gone) ≡ find (λ g. g.id == other) gone
gone_others_read id n other [] apart = refl
gone_others_read id n other (g ∷ gs) apart = grind (arith, nat_tests, apart, gone_others_read id n other gs apart)

abbrev read_from : ℕ → GoneConnection → GoneConnection
read_from n g = record g { unread = drop n g.unread }

gone_own_read : (id n : ℕ) (gone : List GoneConnection)
    → find (λ g. g.id == id) (all_gone_after_read id n gone) ≡ option_map (read_from n) (find (λ g. g.id == id) gone)
gone_own_read id n [] = refl
gone_own_read id n (g ∷ gs) = grind (arith, nat_tests, gone_own_read id n gs)

gone_others_closed : (id other : ℕ) (gone : List GoneConnection) → other ≢ id
    → find (λ g. g.id == other) (without_gone id gone) ≡ find (λ g. g.id == other) gone
gone_others_closed id other [] apart = refl
gone_others_closed id other (g ∷ gs) apart = grind (arith, nat_tests, apart, gone_others_closed id other gs apart)

gone_own_closed : (id : ℕ) (gone : List GoneConnection) → find (λ g. g.id == id) (without_gone id gone) ≡ None
gone_own_closed id [] = refl
gone_own_closed id (g ∷ gs) = grind (arith, nat_tests, gone_own_closed id gs)

-- what is given of these bytes, and those that are left
given_some : (bytes out : List ℕ) → take (min (length out) (length bytes)) (bytes_read bytes out) ++ drop (length out) bytes ≡ bytes
given_some bytes out =
    let n : ℕ = length out in
    let m : ℕ = min n (length bytes) in
    let long : length (take m bytes) ≡ m = length-take m bytes ∙ omega arith in
    let front : take m (bytes_read bytes out) ≡ take n bytes = take_at (take m bytes) (drop m out) m long ∙ take_min n bytes in
    ap (λ (x : List ℕ). x ++ drop n bytes) front ∙ take-append-drop n bytes

nothing_given : (s : State) (ended : Bool) (out : List ℕ) → bytes_given (cond ended got.End (nothing_read s)) out ≡ []
nothing_given s true out = refl
nothing_given state.Live false out = refl
nothing_given state.Ended false out = refl
nothing_given _ false out = refl

given : (bytes out : List ℕ) (none : Received) → bytes_given none (bytes_read bytes out) ≡ []
    → bytes_given (read_of (length out) bytes none) (bytes_read bytes out) ++ drop (length out) bytes ≡ bytes
given [] out none nothing = ap (λ (x : List ℕ). x ++ drop (length out) []) nothing ∙ dropped (length out)
  where
    dropped : (n : ℕ) → drop {A = ℕ} n [] ≡ []
    dropped zero = refl
    dropped (suc n) = refl
given (b ∷ bs) out none nothing = given_some (b ∷ bs) out

module _ (id : ℕ) (s : DriverState) (e : DriverEntry) (sound : IsTable s.table) (known : entry_known_as id s ≡ Some e) where
  only : IsAlone e s.table.entries
  only = alone (is_known_as id) s.table.entries e sound.rising known

  id_is : e.value.id ≡ id
  id_is = let passes = found_passes (is_known_as id) s.table.entries e known in grind (arith, nat_tests, passes)

  pub keeps_others : (c : DriverConnection) → c.id ≡ e.value.id → KeepsOthers id s (with_connection e.slot c s)
  keeps_others c same other apart =
      ap (λ (o : Option DriverEntry). (o, gone_known_as other s))
      (others_found c e.slot other s.table.entries (λ is. apart (is ∙ (same ∙ id_is))) (λ k d lt at. ap (λ (x : DriverEntry). x.value.id) (only k d lt at) ∙ sym same))

  pub known_after : (c : DriverConnection) → c.id ≡ e.value.id → c.closed ≡ e.value.closed
      → entry_known_as id (with_connection e.slot c s) ≡ Some (record e { value = c })
  known_after c same closed = own_found c id e s.table.entries only known same closed

  pub unread_after : (c : DriverConnection) → c.id ≡ e.value.id → c.closed ≡ e.value.closed → unread_of_id id (with_connection e.slot c s) ≡ c.unread
  unread_after c same closed = rw (known_after c same closed, unread_of_id) refl

  -- recv
  pub known_recv_others : (n : ℕ) → KeepsOthers id s (after_recv id n s)
  known_recv_others n = rw (after_recv_known id s e known n) (by (length e.value.unread == 0))
    where
      by : (b : Bool) → KeepsOthers id s (cond b s (with_connection e.slot (after_read n e.value) s))
      by true other apart = refl
      by false other apart = keeps_others (after_read n e.value) refl other apart

  left_unread : (n : ℕ) → unread_of_id id (after_recv id n s) ≡ drop n e.value.unread
  left_unread n = rw (after_recv_known id s e known n) (by (length e.value.unread == 0) refl)
    where
      none_left : (bytes : List ℕ) (k : ℕ) → (length bytes == 0) ≡ true → bytes ≡ drop k bytes
      none_left [] zero is = refl
      none_left [] (suc k) is = refl
      none_left (b ∷ bs) k is = absurd (let no : suc (length bs) ≡ 0 = grind (arith, nat_tests, is) in omega arith)

      by : (b : Bool) → (length e.value.unread == 0) ≡ b
          → unread_of_id id (cond b s (with_connection e.slot (after_read n e.value) s)) ≡ drop n e.value.unread
      by true is = unread_known id s e known ∙ none_left e.value.unread n is
      by false is = unread_after (after_read n e.value) refl refl

  pub known_recv_pipe : (out : List ℕ)
      → bytes_given (recv_of id (length out) s) (bytes_read (unread_of_id id s) out) ++ unread_of_id id (after_recv id (length out) s) ≡ unread_of_id id s
  known_recv_pipe out =
      rw (recv_known id s e known (length out), unread_known id s e known, left_unread (length out))
      (given e.value.unread out (cond (is_at_end e.value.end) got.End (nothing_read e.value.end.state))
      (nothing_given e.value.end.state (is_at_end e.value.end) (bytes_read e.value.unread out)))

  -- shutdown
  pub known_shutdown_others : (bits : ℕ) → KeepsOthers id s (after_shutdown id bits s)
  known_shutdown_others bits = rw (after_shutdown_known id s e known bits) (by e.value.end.state)
    where
      by : (x : State) → KeepsOthers id s (shut_in x bits e s)
      by state.Live other apart = keeps_others (after_shut bits e.value) refl other apart
      by _ other apart = refl

  shut_unread : (bits : ℕ) → unread_of_id id (with_connection e.slot (after_shut bits e.value) s) ≡ (after_shut bits e.value).unread
  shut_unread bits = unread_after (after_shut bits e.value) refl refl

  pub known_dropped : (bits : ℕ) → (shut_of bits).receive ≡ true → IfShut (shutdown_of id s) (unread_of_id id (after_shutdown id bits s) ≡ [])
  known_dropped bits receive = rw (shutdown_known id s e known, after_shutdown_known id s e known bits) (by e.value.end.state)
    where
      none : (after_shut bits e.value).unread ≡ []
      none = grind (arith, receive)

      by : (x : State) → IfShut (shut_answer x) (unread_of_id id (shut_in x bits e s) ≡ [])
      by state.Live = shut_unread bits ∙ none
      by _ = tt

  pub known_kept : (bits : ℕ) → receives id s ≡ true → (shut_of bits).receive ≡ false → unread_of_id id (after_shutdown id bits s) ≡ unread_of_id id s
  known_kept bits going still = rw (after_shutdown_known id s e known bits) (by e.value.end.state)
    where
      receiving : e.value.end.own.receive ≡ false
      receiving = let is : not e.value.end.own.receive ≡ true = rw (known, receives) at going in grind (arith, is)

      all : (after_shut bits e.value).unread ≡ e.value.unread
      all = grind (arith, receiving, still)

      by : (x : State) → unread_of_id id (shut_in x bits e s) ≡ unread_of_id id s
      by state.Live = shut_unread bits ∙ (all ∙ sym (unread_known id s e known))
      by _ = refl

  -- close
  pub known_close_others : KeepsOthers id s (after_close id s)
  known_close_others = rw (after_close_known id s e known) (keeps_others (after_closing e.value.end.state e.value) (closing_id e.value.end.state e.value))

-- where no connection of the table has the id
abbrev answer_of : ℕ → Option GoneConnection → Received
answer_of n o = elim o [ None ↦ got.Unknown | Some g ↦ gone_answer n g ]

abbrev bytes_of : Option GoneConnection → List ℕ
bytes_of o = option_map_or (λ g. g.unread) o []

module _ (id : ℕ) (s : DriverState) (unknown : entry_known_as id s ≡ None) where
  pub gone_recv_others : (n : ℕ) → KeepsOthers id s (after_recv id n s)
  gone_recv_others n other apart =
      rw (unknown, after_recv) (ap (λ (o : Option GoneConnection). (entry_known_as other s, o)) (gone_others_read id n other s.gone apart))

  pub gone_recv_pipe : (out : List ℕ)
      → bytes_given (recv_of id (length out) s) (bytes_read (unread_of_id id s) out) ++ unread_of_id id (after_recv id (length out) s) ≡ unread_of_id id s
  gone_recv_pipe out =
      ap (λ (r : Received). bytes_given r (bytes_read (unread_of_id id s) out) ++ unread_of_id id (after_recv id (length out) s)) answers
      ∙ (ap (λ (bytes : List ℕ). bytes_given (answer_of (length out) (gone_known_as id s)) (bytes_read (unread_of_id id s) out) ++ bytes) leaves
      ∙ (ap (λ (bytes : List ℕ). bytes_given (answer_of (length out) (gone_known_as id s)) (bytes_read bytes out) ++ bytes_of (option_map (read_from (length out)) (gone_known_as id s))) had
      ∙ (by (gone_known_as id s) ∙ sym had)))
    where
      answers : recv_of id (length out) s ≡ answer_of (length out) (gone_known_as id s)
      answers = rw (unknown, recv_of) refl

      had : unread_of_id id s ≡ bytes_of (gone_known_as id s)
      had = rw (unknown, unread_of_id) refl

      read : unread_of_id id (record s { gone = all_gone_after_read id (length out) s.gone }) ≡ bytes_of (option_map (read_from (length out)) (gone_known_as id s))
      read = rw (unknown, unread_of_id) (ap bytes_of (gone_own_read id (length out) s.gone))

      leaves : unread_of_id id (after_recv id (length out) s) ≡ bytes_of (option_map (read_from (length out)) (gone_known_as id s))
      leaves = ap (unread_of_id id) (after_recv_gone id s unknown (length out)) ∙ read

      by : (o : Option GoneConnection) → bytes_given (answer_of (length out) o) (bytes_read (bytes_of o) out) ++ bytes_of (option_map (read_from (length out)) o) ≡ bytes_of o
      by None = refl
      by (Some g) = given g.unread out (cond (is_at_end g.end) got.End got.Reset) (none (is_at_end g.end))
        where
          none : (b : Bool) → bytes_given (cond b got.End got.Reset) (bytes_read g.unread out) ≡ []
          none true = refl
          none false = refl

  closed_gone : Option GoneConnection → DriverState
  closed_gone o = elim o [
    | None ↦ s
    | Some g ↦ record s { gone = without_gone id s.gone; listeners = with_waiting g.flow.guest (without_id id) s.listeners }
  ]

  pub gone_close_others : KeepsOthers id s (after_close id s)
  unfolding closed_gone
  gone_close_others other apart = rw (unknown, after_close, gone_closed) (by (gone_known_as id s))
    where
      by : (o : Option GoneConnection) → connection_of other (closed_gone o) ≡ connection_of other s
      by None = refl
      by (Some g) = ap (λ (o : Option GoneConnection). (entry_known_as other s, o)) (gone_others_closed id other s.gone apart)

  pub gone_close_unknown : state_of id (after_close id s) ≡ seen.Unknown
  unfolding closed_gone
  gone_close_unknown = rw (unknown, after_close, gone_closed) (by (gone_known_as id s) refl)
    where
      by : (o : Option GoneConnection) → gone_known_as id s ≡ o → state_of id (closed_gone o) ≡ seen.Unknown
      by None none = rw (unknown, none, state_of) refl
      by (Some g) there = rw (unknown, gone_own_closed id s.gone, state_of) refl

-- an id that is known to none
pub known_to_none : (id : ℕ) (s : DriverState) → (entry_known_as id s ≡ None) × (gone_known_as id s ≡ None) → state_of id s ≡ seen.Unknown
known_to_none id s none = rw (none.0, none.1, state_of) refl

-- where a state is one that keeps others, and what recv gave
pub others_by : (id : ℕ) (s t u : DriverState) → t ≡ u → KeepsOthers id s u → KeepsOthers id s t
others_by id s t u is keeps other apart = ap (connection_of other) is ∙ keeps other apart

pub pipe_by : (id : ℕ) (s t : DriverState) (out given : List ℕ) (answer : Received) → answer ≡ recv_of id (length out) s
    → given ≡ bytes_read (unread_of_id id s) out → t ≡ after_recv id (length out) s
    → bytes_given (recv_of id (length out) s) (bytes_read (unread_of_id id s) out) ++ unread_of_id id (after_recv id (length out) s) ≡ unread_of_id id s
    → bytes_given answer given ++ unread_of_id id t ≡ unread_of_id id s
pipe_by id s t out given answer answers gives leaves pipe =
    ap (λ (r : Received). bytes_given r given ++ unread_of_id id t) answers
    ∙ (ap (λ (bytes : List ℕ). bytes_given (recv_of id (length out) s) bytes ++ unread_of_id id t) gives
    ∙ (ap (λ (u : DriverState). bytes_given (recv_of id (length out) s) (bytes_read (unread_of_id id s) out) ++ unread_of_id id u) leaves ∙ pipe))

pub dropped_by : (id bits : ℕ) (s t : DriverState) (answer : Shut) → answer ≡ shutdown_of id s → t ≡ after_shutdown id bits s
    → ((shut_of bits).receive ≡ true → IfShut (shutdown_of id s) (unread_of_id id (after_shutdown id bits s) ≡ []))
    → IfShut answer ((shut_of bits).receive ≡ true → unread_of_id id t ≡ [])
dropped_by id bits s t shut.Done answers leaves none = λ receive.
    let done : unread_of_id id (after_shutdown id bits s) ≡ [] =
    subst (λ (a : Shut). IfShut a (unread_of_id id (after_shutdown id bits s) ≡ [])) (sym answers) (none receive) in
    ap (unread_of_id id) leaves ∙ done
dropped_by id bits s t _ answers leaves none = tt

pub unchanged_by : (x : State) (bits : ℕ) (e : DriverEntry) (s t : DriverState) (answer : Shut) → answer ≡ shut_answer x → t ≡ shut_in x bits e s
    → UnlessShut answer (t ≡ s)
unchanged_by state.Live bits e s t answer answers leaves = subst (λ (a : Shut). UnlessShut a (t ≡ s)) (sym answers) tt
unchanged_by _ bits e s t answer answers leaves = subst (λ (a : Shut). UnlessShut a (t ≡ s)) (sym answers) leaves

-- send
module _ (id : ℕ) (bytes : List ℕ) (s t : DriverState) (answer : Sent) (sound : IsTable s.table) where
  -- nothing changes of other connections, and the unread bytes of this one stay
  pub record IsSent : Type 0 where
    pub others : KeepsOthers id s t
    pub unread : unread_of_id id t ≡ unread_of_id id s

  unchanged : t ≡ s → IsSent
  unchanged is = record {
    others = λ other apart. ap (connection_of other) is;
    unread = ap (unread_of_id id) is;
  }

  changed : (e : DriverEntry) (end : ConnectionEnd) → entry_known_as id s ≡ Some e → t ≡ record (with_end end e s) { in_flight = t.in_flight } → IsSent
  changed e end known is = record {
    others = λ other apart. ap (connection_of other) is ∙ keeps_others id s e sound known (record e.value { end = end }) refl other apart;
    unread = ap (unread_of_id id) is ∙ (unread_after id s e sound known (record e.value { end = end }) refl refl ∙ sym (unread_known id s e known));
  }

  by_front : (a : Sent) (e : DriverEntry) (n : ℕ) → entry_known_as id s ≡ Some e → SendsFront e n s t a → IsSent
  by_front (sent.Took k) e n known left = changed e (with_payload_sent e.value.end n) known left.2
  by_front (sent.NoDescriptor k) e n known left = record {
    others = λ other apart. ap (connection_of other) left.2;
    unread = ap (unread_of_id id) left.2;
  }
  by_front _ e n known left = absurd left

  by_credit : (empty none : Bool) (e : DriverEntry) (credit : ℕ) → entry_known_as id s ≡ Some e → SendsWith empty none e credit bytes s t answer → IsSent
  by_credit true none e credit known left = unchanged left.1
  by_credit false true e credit known left =
      changed e (wanting_credit e.value.end) known (let u : DriverState = with_end (wanting_credit e.value.end) e s in
      left.1 ∙ ap (λ (n : ℕ). record u { in_flight = n }) (sym (ap (λ (x : DriverState). x.in_flight) left.1)))
  by_credit false false e credit known left = by_front answer e (sent_at_most credit bytes) known left

  by_stop : (r : Result ℕ Stop) (e : DriverEntry) → entry_known_as id s ≡ Some e → SendsOn r e bytes s t answer → IsSent
  by_stop (Err why) e known left = unchanged left.1
  by_stop (Ok credit) e known left = by_credit (length bytes == 0) (credit == 0) e credit known left

  by_entry : (o : Option DriverEntry) → entry_known_as id s ≡ o → SendsBy o id bytes s t answer → IsSent
  by_entry None known left = unchanged left.1
  by_entry (Some e) known left = by_stop (may_send_of e.value.end) e known left

  pub send_leaves : Sends id bytes s t answer → IsSent
  send_leaves left = by_entry (entry_known_as id s) refl left
