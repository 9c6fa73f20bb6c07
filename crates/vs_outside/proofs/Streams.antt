-- The streams of a host, by id: where they stand, and what a call does to one of them and to the others.
use Rattle.std.proofs.Common.{◌≡◌, ℕ, zero, suc, ◌+◌, ◌-◌, ◌<◌, Bool, true, false, cond, eqb, List, [], ◌∷◌, ◌++◌, length, min, get_or, set, Option, None, Some, refl, sym, ap, ◌∙◌}
use Rattle.std.proofs.{Common.arith, lemmas.{List.Sums.sum_by-set, Option.{slice_get-get_or, slice_get_within, get_or_from_slice_get}, Bool.Decides.nat_tests}}
use Rattle.std.specs.{Prelude.{slice_get, IsSomeAnd}, Option.{is_none, is_some}}
use Rattle.vs_outside.specs.{declared.{host_net.{StreamRead.StreamRead, StreamWrite.StreamWrite}, mem_stream.StreamChange.StreamChange}, Host.{Stream, HostContents, stream_at}}
use Rattle.vs_outside.specs.Host.{IsOpen, called, fails_now, ReadsFrom, IsRead, read_of, read_failed, after_read, taken_of, write_of, write_answer, write_failed, IsWritten}
use Rattle.vs_outside.specs.{Host.{after_write, after_label}, Faults.{CountsFault, one_more}, HostProgram.{changed, unlabelled, ReadsStream, stream_after_write}}
use Rattle.vs_flow.specs.declared.flow.Flow.{Flow}
use Rattle.vs_outside.specs.declared.host_net.StreamState.TheVariants as state
use Rattle.vs_outside.specs.declared.host_net.StreamRead.TheVariants as read
use Rattle.vs_outside.specs.declared.host_net.StreamWrite.TheVariants as write
use Rattle.vs_outside.specs.declared.mem_stream.StreamChange.TheVariants as change

-- the stream at a place
pub stream_there : (id place : ℕ) (c : HostContents) (d : Stream) → id ≡ place + 1 → place < length c.streams →
    stream_at id c ≡ Some (get_or c.streams place d)
stream_there id place c d e h =
    let counted : eqb id 0 ≡ false = grind (arith, nat_tests) in
    let back : id - 1 ≡ place = omega arith in
    rw (counted, back) (slice_get-get_or c.streams place d h)

-- a stream put back as it was
pub set_same : (streams : List Stream) (place : ℕ) (s : Stream) → s ≡ get_or streams place s → set streams place s ≡ streams
set_same [] place s e = refl
set_same (z ∷ zs) zero s e = ap (λ x. x ∷ zs) e
set_same (z ∷ zs) (suc place) s e = ap (λ xs. z ∷ xs) (set_same zs place s e)

-- an open stream stands at the place before its id
open_behind : (b : Bool) (o : Option Stream) → IsSomeAnd (cond b None o) (λ s. s.state ≡ state.Open) →
    (s : Stream) × (b ≡ false) × (o ≡ Some s) × (s.state ≡ state.Open)
open_behind true o h = absurd h
open_behind false None h = absurd h
open_behind false (Some s) h = (s, refl, refl, h)

pub open_there : (id : ℕ) (c : HostContents) (d : Stream) → IsOpen id c → stream_at id c ≡ Some (get_or c.streams (id - 1) d)
open_there id c d h =
    let o = open_behind (eqb id 0) (slice_get c.streams (id - 1)) h in
    rw (o.1, get_or_from_slice_get c.streams (id - 1) o.0 d o.2) o.2

pub open_at : (id : ℕ) (c : HostContents) (s : Stream) → IsOpen id c → s ≡ get_or c.streams (id - 1) s → stream_at id c ≡ Some s
open_at id c s opened at = open_there id c s opened ∙ ap Some (sym at)

pub open_within : (id : ℕ) (c : HostContents) → IsOpen id c → id - 1 < length c.streams
open_within id c h = let o = open_behind (eqb id 0) (slice_get c.streams (id - 1)) h in slice_get_within c.streams (id - 1) o.0 o.2

-- the host with a stream put back as it was
put_back : (id : ℕ) (c : HostContents) (old new : Stream) → old ≡ get_or c.streams (id - 1) old → new ≡ old →
    record (called c) { streams = set c.streams (id - 1) new } ≡ called c
put_back id c old new at same = ap (λ (xs : List Stream). record (called c) { streams = xs }) (rw same (set_same c.streams (id - 1) old at))

-- the host after a read of a stream, and after a write to one
pub after_reads : (id : ℕ) (answer : StreamRead) (out : List ℕ) (c : HostContents) (old new : Stream) → IsOpen id c →
    old ≡ get_or c.streams (id - 1) old → ReadsStream answer out old new →
    record (called c) { streams = set c.streams (id - 1) new } ≡ after_read id answer c
after_reads id (read.Got n) out c old new opened at h = rw (open_at id c old opened at, h.1) refl
after_reads id read.End out c old new opened at h = put_back id c old new at h
after_reads id read.Again out c old new opened at h = put_back id c old new at h
after_reads id read.Failed out c old new opened at h = put_back id c old new at h

reads_from : (id : ℕ) (answer : StreamRead) (out : List ℕ) (c : HostContents) (old new : Stream) → stream_at id c ≡ Some old →
    ReadsStream answer out old new → ReadsFrom id answer out c
reads_from id (read.Got n) out c old new there h = rw there h.0
reads_from id read.End out c old new there h = tt
reads_from id read.Again out c old new there h = tt
reads_from id read.Failed out c old new there h = tt

-- what an open stream answers is the call's answer, where that isn't to fail
pub is_read : (id : ℕ) (answer : StreamRead) (out : List ℕ) (c : HostContents) (old new : Stream) → IsOpen id c →
    old ≡ get_or c.streams (id - 1) old → fails_now c ≡ false → answer ≡ read_of (length out) old → ReadsStream answer out old new →
    IsRead id answer out c
is_read id answer out c old new opened at works by h =
    let there = open_at id c old opened at in (
      rw (works, there) by,
      reads_from id answer out c old new there h,
    )

never_failed_read : (a b : Bool) (n : ℕ) → read.Failed ≡ cond a (cond b read.End read.Again) (read.Got n) → ⊥
never_failed_read true true n h = cc
never_failed_read true false n h = cc
never_failed_read false b n h = cc

works_read : (room : ℕ) (answer : StreamRead) (s : Stream) → answer ≡ read_of room s → read_failed answer ≡ false
works_read room (read.Got n) s h = refl
works_read room read.End s h = refl
works_read room read.Again s h = refl
works_read room read.Failed s h = absurd (never_failed_read (eqb (length s.untaken) 0) s.ended (min room (length s.untaken)) h)

pub read_counts_none : (room : ℕ) (answer : StreamRead) (s : Stream) (old new : ℕ) → answer ≡ read_of room s → new ≡ old →
    CountsFault (read_failed answer) old new
read_counts_none room answer s old new by h = rw (works_read room answer s by) h

never_failed : (a b : Bool) (n : ℕ) → write.Failed ≡ cond a write.Closed (cond b write.Again (write.Took n)) → ⊥
never_failed true b n h = cc
never_failed false true n h = cc
never_failed false false n h = cc

works_write : (n : ℕ) (answer : StreamWrite) (s : Stream) → answer ≡ write_of n s → write_failed answer ≡ false
works_write n (write.Took k) s h = refl
works_write n write.Again s h = refl
works_write n write.Closed s h = refl
works_write n write.Failed s h = absurd (never_failed s.host_closed (eqb (taken_of n s) 0) (taken_of n s) h)

pub write_counts_none : (n : ℕ) (answer : StreamWrite) (s : Stream) (old new : ℕ) → answer ≡ write_of n s → new ≡ old →
    CountsFault (write_failed answer) old new
write_counts_none n answer s old new by h = rw (works_write n answer s by) h

as_written : (id n : ℕ) (answer : StreamWrite) (c : HostContents) → answer ≡ write_answer id n c → IsWritten id n answer c
as_written id n (write.Took k) c h = h
as_written id n write.Again c h = h
as_written id n write.Closed c h = h
as_written id n write.Failed c h = tt

pub is_written : (id n : ℕ) (answer : StreamWrite) (c : HostContents) (old : Stream) → IsOpen id c → old ≡ get_or c.streams (id - 1) old →
    fails_now c ≡ false → answer ≡ write_of n old → IsWritten id n answer c
is_written id n answer c old opened at unfailing by = as_written id n answer c (rw (unfailing, open_at id c old opened at) by)

pub after_writes : (id : ℕ) (answer : StreamWrite) (bytes : List ℕ) (c : HostContents) (old new : Stream) →
    answer ≡ write_of (length bytes) old → IsOpen id c → old ≡ get_or c.streams (id - 1) old →
    new ≡ stream_after_write bytes answer old →
    record (called c) { streams = set c.streams (id - 1) new } ≡ after_write id bytes answer c
after_writes id (write.Took n) bytes c old new by opened at h = rw (open_at id c old opened at, h) refl
after_writes id write.Again bytes c old new by opened at h = put_back id c old new at h
after_writes id write.Closed bytes c old new by opened at h = put_back id c old new at h
after_writes id write.Failed bytes c old new by opened at h =
    absurd (never_failed old.host_closed (eqb (taken_of (length bytes) old) 0) (taken_of (length bytes) old) by)

-- a change of a stream leaves its label, so as many have none as before
label_kept : (most : ℕ) (x : StreamChange) (s : Stream) → (changed most x s).label ≡ s.label
label_kept most change.Accept s = refl
label_kept most change.ShutWrite s = refl
label_kept most change.Close s = refl
label_kept most (change.Allow n) s = refl
label_kept most change.End s = refl
label_kept most change.CloseByHost s = refl

pub as_many_unlabelled : (most : ℕ) (x : StreamChange) (streams : List Stream) (place : ℕ) (old new : Stream) →
    old ≡ get_or streams place old → new ≡ changed most x old → place < length streams →
    unlabelled (set streams place new) ≡ unlabelled streams
as_many_unlabelled most x streams place old new at is within =
    let count : Stream → ℕ = λ s. cond (is_none s.label) 1 0 in
    let kept : new.label ≡ old.label = rw is (label_kept most x old) in
    let before : count (get_or streams place old) ≡ count old = rw (← at) refl in
    let after : count new ≡ count old = rw kept refl in
    omega (arith, sum_by-set count streams place new old within, before, after)

-- one stream less has no label once a stream got its first
pub labels_one : (id : ℕ) (c : HostContents) (streams : List Stream) (old new : Stream) → IsOpen id c → streams ≡ c.streams →
    old ≡ get_or streams (id - 1) old → is_none old.label ≡ true → is_none new.label ≡ false →
    unlabelled (set streams (id - 1) new) + 1 ≡ unlabelled streams
labels_one id c streams old new opened same at none some =
    let count : Stream → ℕ = λ s. cond (is_none s.label) 1 0 in
    let before : count (get_or streams (id - 1) old) ≡ 1 = rw (← at, none) refl in
    let after : count new ≡ 0 = rw some refl in
    let within : id - 1 < length streams = rw same (open_within id c opened) in
    omega (arith, sum_by-set count streams (id - 1) new old within, before, after)

none_or_some : (o : Option Flow) → is_none o ≡ true → is_some o ≡ false
none_or_some None h = refl
none_or_some (Some f) h = cc

-- the host after a stream got its first label
pub after_labels : (id : ℕ) (flow : Flow) (c : HostContents) (old : Stream) → IsOpen id c → old ≡ get_or c.streams (id - 1) old →
    is_none old.label ≡ true →
    record c {
      streams = set c.streams (id - 1) (record old { label = Some flow });
      labelled = c.labelled ++ id ∷ [];
      label_calls = one_more c.label_calls;
    } ≡
    after_label id flow c
after_labels id flow c old opened at none = rw (open_at id c old opened at, none_or_some old.label none) refl
