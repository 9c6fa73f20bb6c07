-- What a call of the proxy does to the streams: its own stream is changed as the call says, and the others stay.
use Rattle.std.proofs.{lemmas.{Bool.Decides.nat_tests, Option.slice_get_past, List.Quantifiers.position-Some}, Common.{◌≡◌, ◌≢◌, ℕ, zero, suc, ◌+◌, ◌-◌, ◌≤◌, Bool, true, false}}
use Rattle.std.{proofs.Common.{cond, eqb, List, [], ◌∷◌, ◌++◌, length, get_or, set, Option, None, Some, refl, ap, ◌∙◌, arith}, specs.Prelude.{slice_get, IsSomeAnd, position}}
use Rattle.std.specs.Option.{option_map, option_map_or}
use Rattle.vs_flow.specs.declared.flow.Flow.{Flow}
use Rattle.vs_outside.specs.{HostProgram.client_stream, declared.host_net.{StreamState.StreamState, Dialed.Dialed, StreamRead.StreamRead, StreamWrite.StreamWrite}, Host.Stream}
use Rattle.vs_outside.specs.Host.{HostContents, stream_at, with_stream, IsOpen, KeepsOthers, called, fails_now, after_failed, is_waiting, waits, take_bytes, give_bytes}
use Rattle.vs_outside.specs.Host.{accept_answer, after_accept, dialed_stream, after_dial, with_label_call, after_label, after_read, after_write, with_shut_write_call}
use Rattle.vs_outside.{specs.Host.{after_shut_write, after_close}, proofs.Streams.stream_there}
use Rattle.vs_outside.specs.declared.host_net.StreamState.TheVariants as state
use Rattle.vs_outside.specs.declared.host_net.Accepted.TheVariants as accepted
use Rattle.vs_outside.specs.declared.host_net.Dialed.TheVariants as dialed
use Rattle.vs_outside.specs.declared.host_net.StreamRead.TheVariants as read
use Rattle.vs_outside.specs.declared.host_net.StreamWrite.TheVariants as write

slice_get-set_same : {X : Type 0} (xs : List X) (k : ℕ) (x y : X) → slice_get xs k ≡ Some x → slice_get (set xs k y) k ≡ Some y
slice_get-set_same [] k x y h = cc
slice_get-set_same (z ∷ zs) zero x y h = refl
slice_get-set_same (z ∷ zs) (suc k) x y h = slice_get-set_same zs k x y h

slice_get-set_other : {X : Type 0} (xs : List X) (k j : ℕ) (y : X) → j ≢ k → slice_get (set xs k y) j ≡ slice_get xs j
slice_get-set_other [] k j y h = refl
slice_get-set_other (z ∷ zs) zero zero y h = absurd (h refl)
slice_get-set_other (z ∷ zs) zero (suc j) y h = refl
slice_get-set_other (z ∷ zs) (suc k) zero y h = refl
slice_get-set_other (z ∷ zs) (suc k) (suc j) y h = slice_get-set_other zs k j y (λ e. h (ap suc e))

pub slice_get-append : {X : Type 0} (xs ys : List X) (k : ℕ) (x : X) → slice_get xs k ≡ Some x → slice_get (xs ++ ys) k ≡ Some x
slice_get-append [] ys k x h = cc
slice_get-append (z ∷ zs) ys zero x h = h
slice_get-append (z ∷ zs) ys (suc k) x h = slice_get-append zs ys k x h

slice_get-append_end : {X : Type 0} (xs : List X) (y : X) → slice_get (xs ++ y ∷ []) (length xs) ≡ Some y
slice_get-append_end [] y = refl
slice_get-append_end (z ∷ zs) y = slice_get-append_end zs y

-- a stream that is there stands at the place before its id
behind : (b : Bool) (o : Option Stream) (s : Stream) → cond b None o ≡ Some s → (b ≡ false) × (o ≡ Some s)
behind true o s h = cc
behind false o s h = (refl, h)

pub stream_place : (id : ℕ) (c : HostContents) (s : Stream) → stream_at id c ≡ Some s →
    (eqb id 0 ≡ false) × (slice_get c.streams (id - 1) ≡ Some s)
stream_place id c s h = behind (eqb id 0) (slice_get c.streams (id - 1)) s h

-- THE STREAM OF THE ID is the changed one.
pub stream_at-with_stream : (id : ℕ) (f : Stream → Stream) (c : HostContents) (s : Stream) → stream_at id c ≡ Some s →
    stream_at id (with_stream id f c) ≡ Some (f s)
stream_at-with_stream id f c s h =
    let p = stream_place id c s h in
    rw (h, p.0) (slice_get-set_same c.streams (id - 1) s (f s) p.1)

-- THE OTHERS STAY.
others_stay : (id other : ℕ) (f : Stream → Stream) (c : HostContents) (o : Option Stream) (b d : Bool) → eqb id 0 ≡ b →
    eqb other 0 ≡ d → stream_at id c ≡ o → other ≢ id →
    cond d None (slice_get (option_map_or (λ s. set c.streams (id - 1) (f s)) o c.streams) (other - 1)) ≡
    cond d None (slice_get c.streams (other - 1))
others_stay id other f c o b true p q at h = refl
others_stay id other f c None b false p q at h = refl
others_stay id other f c (Some s) true false p q here h = let gone = rw p at here in cc
others_stay id other f c (Some s) false false p q at h =
    let i : 1 ≤ id = grind (arith, nat_tests) in
    let j : 1 ≤ other = grind (arith, nat_tests) in
    let apart : other - 1 ≢ id - 1 = λ e. h (omega arith) in
    slice_get-set_other c.streams (id - 1) (other - 1) (f s) apart

pub keeps_others : (id : ℕ) (f : Stream → Stream) (c : HostContents) → KeepsOthers id c (with_stream id f c)
keeps_others id f c other h = others_stay id other f c (stream_at id c) (eqb id 0) (eqb other 0) refl refl refl h

failed_streams : (b : Bool) (c : HostContents) → (cond b (called c) (record (called c) { starved = true })).streams ≡ c.streams
failed_streams true c = refl
failed_streams false c = refl

-- a call that failed leaves all streams
pub stream_at-after_failed : (id : ℕ) (c : HostContents) → stream_at id (after_failed c) ≡ stream_at id c
stream_at-after_failed id c = rw (failed_streams (fails_now c) c) refl

pub others-after_accept : (id : ℕ) (c : HostContents) → KeepsOthers id c (after_accept (accepted.Stream id) c)
others-after_accept id c other h = keeps_others id (λ s. record s { state = state.Open }) (called c) other h

pub others-after_label : (id : ℕ) (flow : Flow) (c : HostContents) → KeepsOthers id c (after_label id flow c)
others-after_label id flow c other h = keeps_others id (λ s. record s { label = Some flow }) (with_label_call id c) other h

pub others-after_read : (id : ℕ) (answer : StreamRead) (c : HostContents) → KeepsOthers id c (after_read id answer c)
others-after_read id (read.Got n) c other h = keeps_others id (take_bytes n) (called c) other h
others-after_read id read.End c other h = refl
others-after_read id read.Again c other h = refl
others-after_read id read.Failed c other h = refl

pub others-after_write : (id : ℕ) (bytes : List ℕ) (answer : StreamWrite) (c : HostContents) →
    KeepsOthers id c (after_write id bytes answer c)
others-after_write id bytes (write.Took n) c other h = keeps_others id (give_bytes n bytes) (called c) other h
others-after_write id bytes write.Again c other h = refl
others-after_write id bytes write.Closed c other h = refl
others-after_write id bytes write.Failed c other h = stream_at-after_failed other c

pub others-after_shut_write : (id : ℕ) (c : HostContents) → KeepsOthers id c (after_shut_write id c)
others-after_shut_write id c other h = keeps_others id (λ s. record s { write_shut = true }) (with_shut_write_call c) other h

pub others-after_close : (id : ℕ) (c : HostContents) → KeepsOthers id c (after_close id c)
others-after_close id c other h = keeps_others id (λ s. record s { state = state.Closed }) c other h

-- A dial leaves all streams that are there.
pub stream_at-after_dial : (id : ℕ) (flow : Flow) (answer : Dialed) (c : HostContents) (s : Stream) → stream_at id c ≡ Some s →
    stream_at id (after_dial flow answer c) ≡ Some s
stream_at-after_dial id flow (dialed.Stream new) c s h =
    let p = stream_place id c s h in
    rw p.0 (slice_get-append c.streams (dialed_stream flow c.prepared ∷ []) (id - 1) s p.1)
stream_at-after_dial id flow dialed.Refused c s h = h
stream_at-after_dial id flow dialed.Failed c s h = stream_at-after_failed id c ∙ h

-- OPEN STREAMS
pub open_stream : (o : Option Stream) → IsSomeAnd o (λ s. s.state ≡ state.Open) → (s : Stream) × (o ≡ Some s) × (s.state ≡ state.Open)
open_stream None h = absurd h
open_stream (Some s) h = (s, refl, h)

pub open_of : (id : ℕ) (c : HostContents) (s : Stream) → stream_at id c ≡ Some s → s.state ≡ state.Open → IsOpen id c
open_of id c s there h = rw there h

-- the others stay open
pub stays_open : (id other : ℕ) (before after : HostContents) → KeepsOthers id before after → other ≢ id → IsOpen other before →
    IsOpen other after
stays_open id other before after keeps h o = rw (keeps other h) o

-- and so does the stream itself, where its state isn't changed
keeps_open : (id : ℕ) (f : Stream → Stream) (c : HostContents) → ((s : Stream) → (f s).state ≡ s.state) → IsOpen id c →
    IsOpen id (with_stream id f c)
keeps_open id f c same o =
    let s = open_stream (stream_at id c) o in
    open_of id (with_stream id f c) (f s.0) (stream_at-with_stream id f c s.0 s.1) (same s.0 ∙ s.2)

pub open-after_label : (id : ℕ) (flow : Flow) (c : HostContents) → IsOpen id c → IsOpen id (after_label id flow c)
open-after_label id flow c o = keeps_open id (λ s. record s { label = Some flow }) (with_label_call id c) (λ s. refl) o

pub open-after_read : (id : ℕ) (answer : StreamRead) (c : HostContents) → IsOpen id c → IsOpen id (after_read id answer c)
open-after_read id (read.Got n) c o = keeps_open id (take_bytes n) (called c) (λ s. refl) o
open-after_read id read.End c o = o
open-after_read id read.Again c o = o
open-after_read id read.Failed c o = o

pub open-after_write : (id : ℕ) (bytes : List ℕ) (answer : StreamWrite) (c : HostContents) → IsOpen id c →
    IsOpen id (after_write id bytes answer c)
open-after_write id bytes (write.Took n) c o = keeps_open id (give_bytes n bytes) (called c) (λ s. refl) o
open-after_write id bytes write.Again c o = o
open-after_write id bytes write.Closed c o = o
open-after_write id bytes write.Failed c o = rw (stream_at-after_failed id c) o

pub open-after_shut_write : (id : ℕ) (c : HostContents) → IsOpen id c → IsOpen id (after_shut_write id c)
open-after_shut_write id c o = keeps_open id (λ s. record s { write_shut = true }) (with_shut_write_call c) (λ s. refl) o

-- A dial's stream is open, and of an id that no stream had.
pub open-dialed : (flow : Flow) (id : ℕ) (c : HostContents) → id ≡ length c.streams + 1 →
    (stream_at id c ≡ None) × (stream_at id (after_dial flow (dialed.Stream id) c) ≡ Some (dialed_stream flow c.prepared))
open-dialed flow id c e =
    let counted : eqb id 0 ≡ false = grind (arith, nat_tests) in
    let back : id - 1 ≡ length c.streams = omega arith in (
      rw (counted, back) (slice_get_past c.streams (length c.streams) (omega arith)),
      rw (counted, back) (slice_get-append_end c.streams (dialed_stream flow c.prepared)),
    )

accepted_place : (b : Bool) (o : Option ℕ) (id : ℕ) →
    cond b accepted.Failed (option_map_or accepted.Stream (option_map (λ place. place + 1) o) accepted.None) ≡ accepted.Stream id →
    (place : ℕ) × (o ≡ Some place) × (id ≡ place + 1)
accepted_place true o id h = cc
accepted_place false None id h = cc
accepted_place false (Some place) id h = (place, refl, cc)

waits_only : (s : StreamState) → waits s ≡ true → s ≡ state.Waiting
waits_only state.Waiting h = refl
waits_only state.Open h = cc
waits_only state.Closed h = cc

-- An accept's stream is a client's that waited, and is open then.
pub accepts_waiting : (id : ℕ) (c : HostContents) → accept_answer c ≡ accepted.Stream id →
    (s : Stream) × (stream_at id c ≡ Some s) × (s.state ≡ state.Waiting) ×
    (stream_at id (after_accept (accepted.Stream id) c) ≡ Some (record s { state = state.Open }))
accepts_waiting id c h =
    let p = accepted_place (fails_now c) (position is_waiting c.streams) id h in
    let q = position-Some is_waiting c.streams p.0 client_stream p.1 in
    let there : stream_at id c ≡ Some (get_or c.streams p.0 client_stream) = stream_there id p.0 c client_stream p.2 q.0 in (
      get_or c.streams p.0 client_stream,
      there,
      waits_only _ q.1,
      stream_at-with_stream id (λ s. record s { state = state.Open }) (called c) _ there,
    )
