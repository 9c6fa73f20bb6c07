-- What the programs of a host in memory do: listeners, clients, and the other ends of the streams.
use Rattle.std.specs.Prelude.{◌≡◌, ℕ, ◌+◌, min, Bool, true, false, not, ◌||◌, if◌then◌else◌, List, [], ◌∷◌, ◌++◌, filter, None, Some, is_some, is_none, unwrap_or, count_by, take}
use Rattle.std.specs.{Prelude.{codes, decimal, bytes_eq}, Option.option_map_or}
use Rattle.vs_outside.specs.{Faults.one_more, declared.{host_net.{StreamRead.StreamRead, StreamWrite.StreamWrite, StreamState.StreamState}, mem_stream.HostWritten.HostWritten}}
use Rattle.vs_outside.specs.{declared.mem_stream.StreamChange.StreamChange, Host.{Stream, Prepared, HostContents, called, stream_at, with_stream, take_bytes, give_bytes}}
use Rattle.vs_outside.specs.Host.{dialed_stream}
use Rattle.vs_flow.specs.declared.flow.Flow.{Flow}
use Rattle.vs_header.specs.declared.Kind.{Kind}
use Rattle.vs_header.specs.declared.Kind.TheVariants as kind
use Rattle.vs_outside.specs.declared.host_net.StreamRead.TheVariants as read
use Rattle.vs_outside.specs.declared.host_net.StreamWrite.TheVariants as write
use Rattle.vs_outside.specs.declared.host_net.StreamState.TheVariants as state
use Rattle.vs_outside.specs.declared.mem_stream.HostWritten.TheVariants as written
use Rattle.vs_outside.specs.declared.mem_stream.StreamChange.TheVariants as change

-- What a host in memory exposes, and how many of its calls failed.
pub record HostMemory : Type 0 where
  pub contents : HostContents
  pub faults : ℕ

-- A program that wrote nothing yet and takes all.
abbrev pub plain : Prepared
plain = record { untaken = []; ended = false; room = None; echoes = false; host_closed = false }

-- A host without streams, at which these paths are listened on.
abbrev pub new_host : List ℕ → List (List ℕ) → Prepared → HostMemory
new_host base listening prepared = record {
  contents = record {
    base = base;
    streams = [];
    labelled = [];
    listening = listening;
    prepared = prepared;
    to_fail = [];
    starts_to_fail = [];
    starved = false;
    label_calls = 0;
    shut_write_calls = 0;
  };
  faults = 0;
}

-- The path at which a port of the host is listened on: the base path, `_`, and the port in decimal; for messages with `.seq` behind it.
abbrev pub port_path : List ℕ → ℕ → Kind → List ℕ
port_path base port kind.Stream = base ++ codes "_" ++ decimal port
port_path base port kind.Seqpacket = base ++ codes "_" ++ decimal port ++ codes ".seq"

-- A program listens on a port for sockets of that kind, and does so no more.
abbrev pub after_listen : ℕ → Kind → HostContents → HostContents
after_listen port kind c = record c { listening = c.listening ++ port_path c.base port kind ∷ [] }

abbrev pub after_unlisten : ℕ → Kind → HostContents → HostContents
after_unlisten port kind c = record c { listening = filter (λ p. not (bytes_eq p (port_path c.base port kind))) c.listening }

-- A client connects to the base path: its stream, of the next id, waits to be accepted.
abbrev pub client_stream : Stream
client_stream = record {
  label = None;
  by_client = true;
  state = state.Waiting;
  taken = [];
  untaken = [];
  ended = false;
  given = [];
  room = None;
  echoes = false;
  host_closed = false;
  write_shut = false;
}

abbrev pub after_client : HostContents → HostContents
after_client c = record c { streams = c.streams ++ client_stream ∷ [] }

-- whether there is a stream of that id
abbrev pub has_stream : ℕ → HostContents → Bool
has_stream id c = is_some (stream_at id c)

-- whether the proxy closed a stream
abbrev pub closes : StreamState → Bool
closes state.Closed = true
closes _ = false

abbrev pub is_closed : Stream → Bool
is_closed s = closes s.state

-- whether the host's program can write to a stream no more: it ended it, or the proxy closed it
abbrev pub is_over : Stream → Bool
is_over s = s.ended || is_closed s

-- The host's program writes bytes to a stream.
abbrev pub host_write_answer : ℕ → HostContents → HostWritten
host_write_answer id c = option_map_or (λ s. if is_over s then written.Ended else written.Ok) (stream_at id c) written.NoStream

abbrev pub with_bytes : List ℕ → Stream → Stream
with_bytes bytes s = record s { untaken = s.untaken ++ bytes }

abbrev pub after_host_write : ℕ → List ℕ → HostWritten → HostContents → HostContents
after_host_write id bytes written.Ok c = with_stream id (with_bytes bytes) c
after_host_write id bytes _ c = c

-- The host's program takes n bytes more of a stream; before the first time it takes all. The sum stands still at `most`.
abbrev pub allowed : ℕ → ℕ → Stream → Stream
allowed most n s = record s { room = Some (min most (unwrap_or s.room 0 + n)) }

-- The host's program ends a stream: it writes no more.
abbrev pub ended : Stream → Stream
ended s = record s { ended = true }

-- The host's program closes a stream: it takes nothing more.
abbrev pub closed : Stream → Stream
closed s = record s { host_closed = true }

-- What each change does to a stream; the room for bytes stands still at `most`.
abbrev pub changed : ℕ → StreamChange → Stream → Stream
changed most change.Accept s = record s { state = state.Open }
changed most change.ShutWrite s = record s { write_shut = true }
changed most change.Close s = record s { state = state.Closed }
changed most (change.Allow n) s = allowed most n s
changed most change.End s = ended s
changed most change.CloseByHost s = closed s

-- The nth accept, dial, read or write from now is to fail.
abbrev pub after_fail : ℕ → HostContents → HostContents
after_fail n c = record c { to_fail = c.to_fail ++ n ∷ [] }

-- The nth start from now is to fail.
abbrev pub after_fail_start : ℕ → HostContents → HostContents
after_fail_start n c = record c { starts_to_fail = c.starts_to_fail ++ n ∷ [] }

-- One more accept, dial, read or write was made, which failed on purpose or didn't; or the one that failed found no memory, or could
-- count no more.
abbrev pub after_call : Bool → HostMemory → HostMemory
after_call true m = record m { contents = called m.contents; faults = one_more m.faults }
after_call false m = record m { contents = called m.contents }

abbrev pub starves : HostMemory → HostMemory
starves m = record m { contents = record m.contents { starved = true }; faults = one_more m.faults }

-- The stream of a dial, of that id, is there.
abbrev pub adds_dialed : Flow → ℕ → HostContents → HostContents
adds_dialed flow id c = record c { streams = c.streams ++ dialed_stream flow c.prepared ∷ []; labelled = c.labelled ++ id ∷ [] }

-- How many of these streams have no label.
abbrev pub unlabelled : List Stream → ℕ
unlabelled streams = count_by (λ s. is_none s.label) streams

-- Where bytes were read of a stream, these are the first ones of `out`, and taken; a read of another answer changes nothing.
abbrev pub ReadsStream : StreamRead → List ℕ → Stream → Stream → Type 0
ReadsStream (read.Got n) out old new = (take n out ≡ take n old.untaken) × (new ≡ take_bytes n old)
ReadsStream _ out old new = new ≡ old

-- The stream after a write of these bytes was answered.
abbrev pub stream_after_write : List ℕ → StreamWrite → Stream → Stream
stream_after_write bytes (write.Took n) s = give_bytes n bytes s
stream_after_write bytes _ s = s
