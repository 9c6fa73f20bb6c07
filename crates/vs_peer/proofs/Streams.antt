-- What each call does to the client's stream.
use Rattle.std.proofs.Common.{◌≡◌, ℕ, zero, suc, ◌≤◌, Bool, true, false, cond, ◌||◌, List, [], ◌∷◌, ◌++◌, length, take, min, ◌==◌, ◌≢◌, Option, Some, None, refl, sym, ap, ◌∙◌}
use Rattle.std.{proofs.{Common.{subst, append_assoc, append-nil, arith}, lemmas.Bool.Decides.nat_tests}, specs.{Prelude.IsSomeAnd, Option.{ForSome, option_map_or}}}
use Rattle.vs_contents.specs.Contents.{Exposes, Relates}
use Rattle.vs_outside.specs.{declared.host_net.{StreamRead.StreamRead, StreamWrite.StreamWrite}, Host.{Stream, HostContents, stream_at, KeepsOthers, IsOpen, called, fails_now}}
use Rattle.vs_outside.specs.Host.{read_of, write_of, read_answer, write_answer, after_read, after_write, after_shut_write, take_bytes, give_bytes, ReadsFrom, next_bytes, IsRead}
use Rattle.vs_outside.{specs.Host.{IsWritten, with_shut_write_call}, proofs.Frames.{stream_at-with_stream, keeps_others, stream_at-after_failed, open_of}}
use Rattle.vs_peer.specs.Passing.{IsMoved, Moves, IsClosed, WritesAgain, ReadsAgain, ReadsEnd, SameStreams, ReadPasses, WritePasses}
use Rattle.vs_outside.specs.declared.host_net.StreamState.TheVariants as state
use Rattle.vs_outside.specs.declared.host_net.StreamRead.TheVariants as read
use Rattle.vs_outside.specs.declared.host_net.StreamWrite.TheVariants as write

-- Nothing passed.
same_stream : (s : Stream) → IsMoved [] [] false s s
same_stream s = record {
  label = refl;
  state = refl;
  given = sym (append-nil s.given);
  taken = sym
      (append-nil s.taken);
  shut = refl;
  closed = refl;
}

pub moves_not : (id : ℕ) (c d : HostContents) → ((other : ℕ) → stream_at other d ≡ stream_at other c) → Moves id [] [] false c d
moves_not id c d same = record { stream = λ s there. (s, same id ∙ there, same_stream s); others = λ other apart. same other }

pub relates_not : (id : ℕ) (o : Option HostContents) → Relates o o (Moves id [] [] false)
relates_not id None = refl
relates_not id (Some c) = moves_not id c c (λ other. refl)

-- One thing passed, and then another.
or_assoc : (a b w : Bool) → (b || (a || w)) ≡ ((b || a) || w)
or_assoc a true w = refl
or_assoc a false w = refl

pub moves_then : (id : ℕ) (g g' k k' : List ℕ) (w w' : Bool) (a b c : HostContents) → Moves id g k w a b → Moves id g' k' w' b c →
    Moves id (g ++ g') (k ++ k') (w' || w) a c
moves_then id g g' k k' w w' a b c m n = record {
  stream = λ s there.
      let t = m.stream s there in
      let u = n.stream t.0 t.1 in (
        u.0,
        u.1,
        record {
          label = u.2.label ∙ t.2.label;
          state = u.2.state ∙ t.2.state;
          given = u.2.given ∙ (ap (λ xs. xs ++ g') t.2.given ∙ append_assoc s.given g g');
          taken = u.2.taken ∙ (ap (λ xs. xs ++ k') t.2.taken ∙ append_assoc s.taken k k');
          shut = u.2.shut ∙ (ap (λ x. w' || x) t.2.shut ∙ or_assoc w w' s.write_shut);
          closed = u.2.closed ∙ t.2.closed;
        },
      );
  others = λ other apart. n.others other apart ∙ m.others other apart;
}

pub relates_then : (id : ℕ) (g g' k k' : List ℕ) (w w' : Bool) (a b c : Option HostContents) → Relates a b (Moves id g k w) →
    Relates b c (Moves id g' k' w') → Relates a c (Moves id (g ++ g') (k ++ k') (w' || w))
relates_then id g g' k k' w w' None b c m n = subst (λ o. Relates o c (Moves id g' k' w') → c ≡ None) (sym m) (λ x. x) n
relates_then id g g' k k' w w' (Some a) None c m n = absurd m
relates_then id g g' k k' w w' (Some a) (Some b) None m n = absurd n
relates_then id g g' k k' w w' (Some a) (Some b) (Some c) m n = moves_then id g g' k k' w w' a b c m n

-- The same, said otherwise.
pub relates_as : (id : ℕ) (g g' k k' : List ℕ) (w w' : Bool) (a b : Option HostContents) → Relates a b (Moves id g k w) → g ≡ g' →
    k ≡ k' → w ≡ w' →
    Relates a b (Moves id g' k' w')
relates_as id g g' k k' w w' a b m p q r =
    let P : List ℕ → Type 0 = λ x. Relates a b (Moves id x k w) in
    let Q : List ℕ → Type 0 = λ x. Relates a b (Moves id g' x w) in
    let R : Bool → Type 0 = λ x. Relates a b (Moves id g' k' x) in
    subst R r (subst Q q (subst P p m))

pub same_moves : (id : ℕ) (a b : Option HostContents) → Relates a b SameStreams → Relates a b (Moves id [] [] false)
same_moves id None b same = same
same_moves id (Some a) None same = absurd same
same_moves id (Some a) (Some b) same = moves_not id a b same

-- One thing passed, and then nothing.
pub still_moves : (id : ℕ) (g k : List ℕ) (w : Bool) (a b c : Option HostContents) → Relates a b (Moves id g k w) →
    Relates b c SameStreams → Relates a c (Moves id g k w)
still_moves id g k w a b c m same =
    relates_as id (g ++ []) g (k ++ []) k w w a c (relates_then id g [] k [] w false a b c m (same_moves id b c same)) (append-nil g)
    (append-nil k) refl

-- What a call's clause says of the contents.
pub exposed_relates : (P : HostContents → Type 0) (f : HostContents → HostContents) (R : HostContents → HostContents →
    Type 0) (a b : Option HostContents) →
    Exposes a b P f → ((c : HostContents) → a ≡ Some c → P c → R c (f c)) → Relates a b R
exposed_relates P f R None b h then = h
exposed_relates P f R (Some a) None h then = cc
exposed_relates P f R (Some a) (Some b) h then =
    let same : f a ≡ b = cc in subst (λ x. R a x) same (then a refl h.0)

exposed_now : (P : HostContents → Type 0) (f : HostContents → HostContents) (Q : HostContents → Type 0) (a b : Option HostContents) →
    Exposes a b P f → ((c : HostContents) → a ≡ Some c → P c → Q (f c)) → ForSome b Q
exposed_now P f Q None b h then c is = cc
exposed_now P f Q (Some a) b h then c is =
    let same : f a ≡ c = cc in subst Q same (then a refl h.0)

-- The stream stays open.
opened : (o : Option Stream) → IsSomeAnd o (λ s. s.state ≡ state.Open) → (s : Stream) × (o ≡ Some s) × (s.state ≡ state.Open)
opened None h = absurd h
opened (Some s) h = (s, refl, h)

pub moves_open : (id : ℕ) (g k : List ℕ) (w : Bool) (a b : Option HostContents) → Relates a b (Moves id g k w) → ForSome a (IsOpen id) →
    ForSome b (IsOpen id)
moves_open id g k w None b m was c is = cc
moves_open id g k w (Some a) None m was c is = cc
moves_open id g k w (Some a) (Some b) m was c is =
    let s = opened (stream_at id a) (was a refl) in
    let t = m.stream s.0 s.1 in
    let same : b ≡ c = cc in
    subst (IsOpen id) same (open_of id b t.0 t.1 (t.2.state ∙ s.2))

-- What was closed stays closed.
found : {P : Stream → Type 0} (o : Option Stream) → IsSomeAnd o P → (s : Stream) × (o ≡ Some s) × P s
found None h = absurd h
found (Some s) h = (s, refl, h)

-- A write, a read, a shutting of the write side.
changed : (id : ℕ) (g k : List ℕ) (w : Bool) (f : Stream → Stream) (c d : HostContents) →
    ((s : Stream) → stream_at id c ≡ Some s → stream_at id d ≡ Some (f s)) → KeepsOthers id c d →
    ((s : Stream) → stream_at id c ≡ Some s → IsMoved g k w s (f s)) → Moves id g k w c d
changed id g k w f c d there others moved = record { stream = λ s at. (f s, there s at, moved s at); others = others }

wrote : (id n : ℕ) (bytes : List ℕ) (c : HostContents) → Moves id (take n bytes) [] false c (after_write id bytes (write.Took n) c)
wrote id n bytes c =
    changed id (take n bytes) [] false (give_bytes n bytes) c (after_write id bytes (write.Took n) c)
    (λ s there. stream_at-with_stream id (give_bytes n bytes) (called c) s there) (keeps_others id (give_bytes n bytes) (called c))
    (λ s there. record { label = refl; state = refl; given = refl; taken = sym (append-nil s.taken); shut = refl; closed = refl })

next_of : (id n : ℕ) (c : HostContents) (s : Stream) → stream_at id c ≡ Some s → next_bytes id n c ≡ take n s.untaken
next_of id n c s there = rw there refl

reads : (id n : ℕ) (out : List ℕ) (c : HostContents) → ReadsFrom id (read.Got n) out c →
    Moves id [] (take n out) false c (after_read id (read.Got n) c)
reads id n out c from =
    changed id [] (take n out) false (take_bytes n) c (after_read id (read.Got n) c)
    (λ s there. stream_at-with_stream id (take_bytes n) (called c) s there) (keeps_others id (take_bytes n) (called c))
    (λ s there. record {
      label = refl;
      state = refl;
      given = sym (append-nil s.given);
      taken = ap (λ xs. s.taken ++ xs) (sym (from ∙ next_of id n c s there));
      shut = refl;
      closed = refl;
    })

pub shut_writes : (id : ℕ) (c : HostContents) → Moves id [] [] true c (after_shut_write id c)
shut_writes id c =
    changed id [] [] true (λ s. record s { write_shut = true }) c (after_shut_write id c)
    (λ s there. stream_at-with_stream id (λ t. record t { write_shut = true }) (with_shut_write_call c) s there) (keeps_others id
    (λ s. record s { write_shut = true }) (with_shut_write_call c))
    (λ s there. record {
      label = refl;
      state = refl;
      given = sym (append-nil s.given);
      taken = sym
          (append-nil s.taken);
      shut = refl;
      closed = refl;
    })

-- What the answers say of the stream.
full : (n : ℕ) (room : Option ℕ) → 1 ≤ n → (option_map_or (λ r. min n r) room n == 0) ≡ true → room ≡ Some 0
full zero room some h = absurd (omega (arith, some))
full (suc n) None some h = absurd (grind (arith, nat_tests, h))
full (suc n) (Some zero) some h = refl
full (suc n) (Some (suc r)) some h = absurd (grind (arith, nat_tests, h))

again_of : (n : ℕ) (s : Stream) (b d : Bool) → s.host_closed ≡ b → (option_map_or (λ r. min n r) s.room n == 0) ≡ d → 1 ≤ n →
    write.Again ≡ cond b write.Closed (cond d write.Again (write.Took (option_map_or (λ r. min n r) s.room n))) → WritesAgain s
again_of n s true d p q some h = cc
again_of n s false true p q some h = record { takes = p; full = full n s.room some q }
again_of n s false false p q some h = cc

closed_of : (b d : Bool) (n : ℕ) → write.Closed ≡ cond b write.Closed (cond d write.Again (write.Took n)) → b ≡ true
closed_of true d n h = refl
closed_of false true n h = cc
closed_of false false n h = cc

not_failing : (b : Bool) (a d : StreamWrite) → a ≢ write.Failed → a ≡ cond b write.Failed d → a ≡ d
not_failing true a d fails h = absurd (fails h)
not_failing false a d fails h = h

not_failing_read : (b : Bool) (a d : StreamRead) → a ≢ read.Failed → a ≡ cond b read.Failed d → a ≡ d
not_failing_read true a d fails h = absurd (fails h)
not_failing_read false a d fails h = h

writes_again : (id n : ℕ) (c : HostContents) → IsOpen id c → 1 ≤ n → write.Again ≡ write_answer id n c →
    IsSomeAnd (stream_at id (called c)) WritesAgain
writes_again id n c was some h =
    let s = opened (stream_at id c) was in
    let by : write.Again ≡ option_map_or (write_of n) (stream_at id c) write.Again = not_failing (fails_now c) write.Again _ (λ e. cc) h in
    let of : write.Again ≡ write_of n s.0 = by ∙ ap (λ o. option_map_or (write_of n) o write.Again) s.1 in
    rw s.1 (again_of n s.0 s.0.host_closed (option_map_or (λ r. min n r) s.0.room n == 0) refl refl some of)

writes_closed : (id n : ℕ) (c : HostContents) → IsOpen id c → write.Closed ≡ write_answer id n c →
    IsSomeAnd (stream_at id (called c)) IsClosed
writes_closed id n c was h =
    let s = opened (stream_at id c) was in
    let by : write.Closed ≡ option_map_or (write_of n) (stream_at id c) write.Again = not_failing (fails_now c) write.Closed _
    (λ e. cc) h in
    let of : write.Closed ≡ write_of n s.0 = by ∙ ap (λ o. option_map_or (write_of n) o write.Again) s.1 in
    rw s.1 (closed_of s.0.host_closed (option_map_or (λ r. min n r) s.0.room n == 0) _ of)

no_bytes : (xs : List ℕ) → (length xs == 0) ≡ true → xs ≡ []
no_bytes [] h = refl
no_bytes (x ∷ xs) h = absurd (grind (arith, nat_tests, h))

read_again_of : (room : ℕ) (s : Stream) (z b : Bool) → (length s.untaken == 0) ≡ z → s.ended ≡ b →
    read.Again ≡ cond z (cond b read.End read.Again) (read.Got (min room (length s.untaken))) → ReadsAgain s
read_again_of room s true true p q h = cc
read_again_of room s true false p q h = record { none = no_bytes s.untaken p; more = q }
read_again_of room s false b p q h = cc

read_end_of : (room : ℕ) (s : Stream) (z b : Bool) → (length s.untaken == 0) ≡ z → s.ended ≡ b →
    read.End ≡ cond z (cond b read.End read.Again) (read.Got (min room (length s.untaken))) → ReadsEnd s
read_end_of room s true true p q h = record { none = no_bytes s.untaken p; over = q }
read_end_of room s true false p q h = cc
read_end_of room s false b p q h = cc

reads_again : (id room : ℕ) (c : HostContents) → IsOpen id c → read.Again ≡ read_answer id room c →
    IsSomeAnd (stream_at id (called c)) ReadsAgain
reads_again id room c was h =
    let s = opened (stream_at id c) was in
    let by : read.Again ≡ option_map_or (read_of room) (stream_at id c) read.Again = not_failing_read (fails_now c) read.Again _
    (λ e. cc) h in
    let of : read.Again ≡ read_of room s.0 = by ∙ ap (λ o. option_map_or (read_of room) o read.Again) s.1 in
    rw s.1 (read_again_of room s.0 (length s.0.untaken == 0) s.0.ended refl refl of)

reads_end : (id room : ℕ) (c : HostContents) → IsOpen id c → read.End ≡ read_answer id room c →
    IsSomeAnd (stream_at id (called c)) ReadsEnd
reads_end id room c was h =
    let s = opened (stream_at id c) was in
    let by : read.End ≡ option_map_or (read_of room) (stream_at id c) read.Again = not_failing_read (fails_now c) read.End _ (λ e. cc) h in
    let of : read.End ≡ read_of room s.0 = by ∙ ap (λ o. option_map_or (read_of room) o read.Again) s.1 in
    rw s.1 (read_end_of room s.0 (length s.0.untaken == 0) s.0.ended refl refl of)

-- What passes in a write and in a read; the stream stays open.
pub write_passes : (id : ℕ) (bytes : List ℕ) (answer : StreamWrite) (a b : Option HostContents) → 1 ≤ length bytes → ForSome a (IsOpen id) →
    Exposes a b (IsWritten id (length bytes) answer) (after_write id bytes answer) → WritePasses id bytes answer a b
write_passes id bytes (write.Took n) a b some was h =
    exposed_relates _ _ (Moves id (take n bytes) [] false) a b h (λ c is p. wrote id n bytes c)
write_passes id bytes write.Again a b some was h = (
  exposed_relates _ _ SameStreams a b h (λ c is p other. refl),
  exposed_now _ _ (λ c. IsSomeAnd (stream_at id c) WritesAgain) a b h (λ c is p. writes_again id (length bytes) c (was c is) some p),
)
write_passes id bytes write.Closed a b some was h = (
  exposed_relates _ _ SameStreams a b h (λ c is p other. refl),
  exposed_now _ _ (λ c. IsSomeAnd (stream_at id c) IsClosed) a b h (λ c is p. writes_closed id (length bytes) c (was c is) p),
)
write_passes id bytes write.Failed a b some was h =
    exposed_relates _ _ SameStreams a b h (λ c is p other. stream_at-after_failed other c)

same_open : (id : ℕ) (a b : Option HostContents) → Relates a b SameStreams → ForSome a (IsOpen id) → ForSome b (IsOpen id)
same_open id a b same was = moves_open id [] [] false a b (same_moves id a b same) was

pub write_open : (id : ℕ) (bytes : List ℕ) (answer : StreamWrite) (a b : Option HostContents) → WritePasses id bytes answer a b →
    ForSome a (IsOpen id) → ForSome b (IsOpen id)
write_open id bytes (write.Took n) a b p was = moves_open id (take n bytes) [] false a b p was
write_open id bytes write.Again a b p was = same_open id a b p.0 was
write_open id bytes write.Closed a b p was = same_open id a b p.0 was
write_open id bytes write.Failed a b p was = same_open id a b p was

pub read_passes : (id : ℕ) (out : List ℕ) (answer : StreamRead) (a b : Option HostContents) → ForSome a (IsOpen id) →
    Exposes a b (IsRead id answer out) (after_read id answer) → ReadPasses id out answer a b
read_passes id out (read.Got n) a b was h =
    exposed_relates _ _ (Moves id [] (take n out) false) a b h (λ c is p. reads id n out c p.1)
read_passes id out read.End a b was h = (
  exposed_relates _ _ SameStreams a b h (λ c is p other. refl),
  exposed_now _ _ (λ c. IsSomeAnd (stream_at id c) ReadsEnd) a b h (λ c is p. reads_end id (length out) c (was c is) p.0),
)
read_passes id out read.Again a b was h = (
  exposed_relates _ _ SameStreams a b h (λ c is p other. refl),
  exposed_now _ _ (λ c. IsSomeAnd (stream_at id c) ReadsAgain) a b h (λ c is p. reads_again id (length out) c (was c is) p.0),
)
read_passes id out read.Failed a b was h = exposed_relates _ _ SameStreams a b h (λ c is p other. refl)

pub read_open : (id : ℕ) (out : List ℕ) (answer : StreamRead) (a b : Option HostContents) → ReadPasses id out answer a b →
    ForSome a (IsOpen id) → ForSome b (IsOpen id)
read_open id out (read.Got n) a b p was = moves_open id [] (take n out) false a b p was
read_open id out read.End a b p was = same_open id a b p.0 was
read_open id out read.Again a b p was = same_open id a b p.0 was
read_open id out read.Failed a b p was = same_open id a b p was
