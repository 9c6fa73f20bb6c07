-- A host and its streams, as far as it exposes them to contracts: what each call of the proxy is answered by, and what it changes.
-- (The mapping of sockets is that of Firecracker's vsock documentation.)
use Rattle.std.specs.{List.list_any, Option.{is_some, option_map, option_map_or}, Str.bytes_eq, Prelude.{◌≡◌, ◌≢◌, ℕ, ◌+◌, ◌-◌, min, ◌==◌, Bool, true, false, if◌then◌else◌, List}}
use Rattle.std.specs.Prelude.{[], ◌∷◌, ◌++◌, length, take, drop, position, slice_get, slice_set, Option, None, Some, IsSomeAnd}
use Rattle.vs_flow.specs.declared.flow.Flow.{Flow}
use Rattle.vs_outside.specs.{Faults.{fails_next, counted_down, one_more}, InOut.MovesSome, declared.host_net.{StreamState.StreamState, Started.Started, Accepted.Accepted}}
use Rattle.vs_outside.specs.declared.host_net.{Dialed.Dialed, StreamRead.StreamRead, StreamWrite.StreamWrite}
use Rattle.vs_outside.specs.declared.host_net.StreamState.TheVariants as state
use Rattle.vs_outside.specs.declared.host_net.Started.TheVariants as started
use Rattle.vs_outside.specs.declared.host_net.Accepted.TheVariants as accepted
use Rattle.vs_outside.specs.declared.host_net.Dialed.TheVariants as dialed
use Rattle.vs_outside.specs.declared.host_net.StreamRead.TheVariants as read
use Rattle.vs_outside.specs.declared.host_net.StreamWrite.TheVariants as write

-- One stream of a host. The proxy reads and writes at one end of it, a program of the host at the other.
pub record Stream : Type 0 where
  -- the flow that the proxy gave it
  pub label : Option Flow
  -- whether a client of the host made it, or else a dial of the proxy
  pub by_client : Bool
  -- whether the proxy was given it, and whether it closed it
  pub state : StreamState
  -- the bytes that the proxy took of it so far
  pub taken : List ℕ
  -- the bytes that the host's program wrote and the proxy hasn't taken yet
  pub untaken : List ℕ
  -- whether the host's program writes no more
  pub ended : Bool
  -- the bytes that the proxy gave it so far
  pub given : List ℕ
  -- how many bytes it takes now; none: any number
  pub room : Option ℕ
  -- whether the host's program writes back what it is given, and what is taken then makes room
  pub echoes : Bool
  -- whether the host's program closed it
  pub host_closed : Bool
  -- whether the proxy shut the side that it writes to
  pub write_shut : Bool

-- What a stream is like when a dial makes it, at the end of the host's program: the bytes that wait to be taken, whether no more
-- come, how many it takes (none: any number), whether the program writes back what it is given, whether it closed the stream.
pub record Prepared : Type 0 where
  pub untaken : List ℕ
  pub ended : Bool
  pub room : Option ℕ
  pub echoes : Bool
  pub host_closed : Bool

-- A host.
pub record HostContents : Type 0 where
  -- the base path
  pub base : List ℕ
  -- the streams by rising id: the first one has id 1
  pub streams : List Stream
  -- the ids of the streams with a label, in the order in which each got one
  pub labelled : List ℕ
  -- the paths at which a dial finds a listener
  pub listening : List (List ℕ)
  -- what a stream is like when a dial makes it
  pub prepared : Prepared
  -- which of the accepts, dials, reads and writes to come are to fail, and which of the starts
  pub to_fail : List ℕ
  pub starts_to_fail : List ℕ
  -- whether a dial or a write found no memory, or could count no more, and failed
  pub starved : Bool
  -- how many calls of `label` were made, and how many of `shut_write`; each count stands still at the last number of 64 bits
  pub label_calls : ℕ
  pub shut_write_calls : ℕ

-- The stream of that id. None has id 0.
abbrev pub stream_at : ℕ → HostContents → Option Stream
stream_at id c = if id == 0 then None else slice_get c.streams (id - 1)

-- The host with its stream of that id changed by f, and nothing else.
abbrev pub with_stream : ℕ → (Stream → Stream) → HostContents → HostContents
with_stream id f c = record c { streams = option_map_or (λ s. slice_set c.streams (id - 1) (f s)) (stream_at id c) c.streams }

-- whether a stream is a client's which the proxy hasn't accepted
abbrev pub waits : StreamState → Bool
waits state.Waiting = true
waits _ = false

abbrev pub is_waiting : Stream → Bool
is_waiting s = waits s.state

-- The proxy was given the stream of that id, by an accept or a dial, and hasn't closed it.
abbrev pub IsOpen : ℕ → HostContents → Type 0
IsOpen id c = IsSomeAnd (stream_at id c) (λ s. s.state ≡ state.Open)

-- Whether the accept, dial, read or write that comes next is to fail.
abbrev pub fails_now : HostContents → Bool
fails_now c = fails_next c.to_fail

-- One more accept, dial, read or write was made.
abbrev pub called : HostContents → HostContents
called c = record c { to_fail = counted_down c.to_fail }

-- A call that failed changes nothing else. One that wasn't to fail found no memory, or could count no more.
abbrev pub after_failed : HostContents → HostContents
after_failed c = if fails_now c then called c else record (called c) { starved = true }

-- START: it fails only on purpose.
abbrev pub start_answer : HostContents → Started
start_answer c = if fails_next c.starts_to_fail then started.Failed else started.Ready

abbrev pub after_start : HostContents → HostContents
after_start c = record c { starts_to_fail = counted_down c.starts_to_fail }

-- ACCEPT: the oldest client that waits, which is the waiting stream of the least id.
abbrev pub oldest_client : HostContents → Option ℕ
oldest_client c = option_map (λ place. place + 1) (position is_waiting c.streams)

abbrev pub accept_answer : HostContents → Accepted
accept_answer c = if fails_now c then accepted.Failed else option_map_or accepted.Stream (oldest_client c) accepted.None

abbrev pub after_accept : Accepted → HostContents → HostContents
after_accept (accepted.Stream id) c = with_stream id (λ s. record s { state = state.Open }) (called c)
after_accept _ c = called c

-- DIAL: a new stream of the next id where a listener is at the path.
abbrev pub is_listened : List ℕ → HostContents → Bool
is_listened path c = list_any (λ p. bytes_eq p path) c.listening

abbrev pub dial_answer : List ℕ → HostContents → Dialed
dial_answer path c =
    if fails_now c then dialed.Failed
    else (if is_listened path c then dialed.Stream (length c.streams + 1) else dialed.Refused)

abbrev pub dialed_stream : Flow → Prepared → Stream
dialed_stream flow p = record {
  label = Some flow;
  by_client = false;
  state = state.Open;
  taken = [];
  untaken = p.untaken;
  ended = p.ended;
  given = [];
  room = p.room;
  echoes = p.echoes;
  host_closed = p.host_closed;
  write_shut = false;
}

abbrev pub after_dial : Flow → Dialed → HostContents → HostContents
after_dial flow (dialed.Stream id) c =
    record (called c) { streams = c.streams ++ dialed_stream flow c.prepared ∷ []; labelled = c.labelled ++ id ∷ [] }
after_dial flow dialed.Refused c = called c
after_dial flow dialed.Failed c = after_failed c

-- LABEL: the stream has that label from now on, and the call is counted.
abbrev pub has_label : ℕ → HostContents → Bool
has_label id c = option_map_or (λ s. is_some s.label) (stream_at id c) false

-- The host with the stream of that id among those with a label, and one more call of `label`.
abbrev pub with_label_call : ℕ → HostContents → HostContents
with_label_call id c = record c {
  labelled = if has_label id c then c.labelled else c.labelled ++ id ∷ [];
  label_calls = one_more c.label_calls;
}

abbrev pub after_label : ℕ → Flow → HostContents → HostContents
after_label id flow c = with_stream id (λ s. record s { label = Some flow }) (with_label_call id c)

-- READ: the next bytes, as many as there is room for and as there are. At the end there are none, and no more come.
abbrev pub read_of : ℕ → Stream → StreamRead
read_of room s =
    if length s.untaken == 0 then (if s.ended then read.End else read.Again) else read.Got (min room (length s.untaken))

abbrev pub read_answer : ℕ → ℕ → HostContents → StreamRead
read_answer id room c = if fails_now c then read.Failed else option_map_or (read_of room) (stream_at id c) read.Again

-- the stream after n of its bytes were taken
abbrev pub take_bytes : ℕ → Stream → Stream
take_bytes n s = record s {
  taken = s.taken ++ take n s.untaken;
  untaken = drop n s.untaken;
  room = if s.echoes then option_map (λ room. room + n) s.room else s.room;
}

abbrev pub after_read : ℕ → StreamRead → HostContents → HostContents
after_read id (read.Got n) c = with_stream id (take_bytes n) (called c)
after_read id _ c = called c

-- the bytes that a read of n bytes gives
abbrev pub next_bytes : ℕ → ℕ → HostContents → List ℕ
next_bytes id n c = option_map_or (λ s. take n s.untaken) (stream_at id c) []

-- Where bytes were read, these are the first ones of `out`.
abbrev pub ReadsFrom : ℕ → StreamRead → List ℕ → HostContents → Type 0
ReadsFrom id (read.Got n) out c = take n out ≡ next_bytes id n c
ReadsFrom id _ out c = Unit {0}

-- A read's answer and its bytes follow from the contents.
abbrev pub IsRead : ℕ → StreamRead → List ℕ → HostContents → Type 0
IsRead id answer out c = (answer ≡ read_answer id (length out) c) × ReadsFrom id answer out c

-- WRITE: the first of the bytes, as many as the stream takes now. One that the host closed takes none.
abbrev pub taken_of : ℕ → Stream → ℕ
taken_of n s = option_map_or (λ room. min n room) s.room n

abbrev pub write_of : ℕ → Stream → StreamWrite
write_of n s =
    if s.host_closed then write.Closed else (if taken_of n s == 0 then write.Again else write.Took (taken_of n s))

abbrev pub write_answer : ℕ → ℕ → HostContents → StreamWrite
write_answer id n c = if fails_now c then write.Failed else option_map_or (write_of n) (stream_at id c) write.Again

-- the stream after the first n of these bytes were given to it
abbrev pub give_bytes : ℕ → List ℕ → Stream → Stream
give_bytes n bytes s = record s {
  given = s.given ++ take n bytes;
  room = option_map (λ room. room - n) s.room;
  untaken = if s.echoes then s.untaken ++ take n bytes else s.untaken;
}

abbrev pub after_write : ℕ → List ℕ → StreamWrite → HostContents → HostContents
after_write id bytes (write.Took n) c = with_stream id (give_bytes n bytes) (called c)
after_write id bytes write.Failed c = after_failed c
after_write id bytes _ c = called c

-- SHUT WRITE, which is counted, and CLOSE
abbrev pub with_shut_write_call : HostContents → HostContents
with_shut_write_call c = record c { shut_write_calls = one_more c.shut_write_calls }

abbrev pub after_shut_write : ℕ → HostContents → HostContents
after_shut_write id c = with_stream id (λ s. record s { write_shut = true }) (with_shut_write_call c)

abbrev pub after_close : ℕ → HostContents → HostContents
after_close id c = with_stream id (λ s. record s { state = state.Closed }) c

-- whether a call failed
abbrev pub start_failed : Started → Bool
start_failed started.Failed = true
start_failed _ = false

abbrev pub accept_failed : Accepted → Bool
accept_failed accepted.Failed = true
accept_failed _ = false

abbrev pub dial_failed : Dialed → Bool
dial_failed dialed.Failed = true
dial_failed _ = false

abbrev pub read_failed : StreamRead → Bool
read_failed read.Failed = true
read_failed _ = false

abbrev pub write_failed : StreamWrite → Bool
write_failed write.Failed = true
write_failed _ = false

-- A dial is answered as its contents say, unless it failed for want of memory.
abbrev pub IsDialed : List ℕ → Dialed → HostContents → Type 0
IsDialed path dialed.Failed c = Unit {0}
IsDialed path answer c = answer ≡ dial_answer path c

-- A write of n bytes is answered as its contents say, unless it failed for want of memory, or since all bytes can't be counted in 64 bits.
abbrev pub IsWritten : ℕ → ℕ → StreamWrite → HostContents → Type 0
IsWritten id n write.Failed c = Unit {0}
IsWritten id n answer c = answer ≡ write_answer id n c

-- Where bytes were read or taken, they are some.
abbrev pub ReadsSome : StreamRead → ℕ → Type 0
ReadsSome (read.Got n) room = MovesSome n room
ReadsSome _ room = Unit {0}

abbrev pub TakesSome : StreamWrite → ℕ → Type 0
TakesSome (write.Took n) len = MovesSome n len
TakesSome _ len = Unit {0}

-- Every stream but that of the id is as before.
abbrev pub KeepsOthers : ℕ → HostContents → HostContents → Type 0
KeepsOthers id before after = (other : ℕ) → other ≢ id → stream_at other after ≡ stream_at other before
