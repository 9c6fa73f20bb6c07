-- What passes at a client's end of its stream.
use Rattle.std.specs.{Prelude.{◌≡◌, ℕ, Bool, true, false, ◌||◌, List, [], ◌++◌, take, Option, Some, IsSomeAnd}, Option.ForSome}
use Rattle.vs_contents.specs.Contents.{Relates}
use Rattle.vs_outside.specs.{Host.{Stream, HostContents, stream_at, KeepsOthers}, declared.host_net.{StreamRead.StreamRead, StreamWrite.StreamWrite}}
use Rattle.vs_outside.specs.declared.host_net.StreamRead.TheVariants as read
use Rattle.vs_outside.specs.declared.host_net.StreamWrite.TheVariants as write

-- A stream between two moments, between which these bytes were given to it and these taken of it, and its write side was shut or wasn't.
pub record IsMoved (given' taken' : List ℕ) (shut' : Bool) (s t : Stream) : Type 0 where
  pub label : t.label ≡ s.label
  pub state : t.state ≡ s.state
  pub given : t.given ≡ s.given ++ given'
  pub taken : t.taken ≡ s.taken ++ taken'
  pub shut : t.write_shut ≡ (shut' || s.write_shut)
  pub closed : t.host_closed ≡ s.host_closed

-- The same of the stream of that id. All others stay.
pub record Moves (id : ℕ) (given' taken' : List ℕ) (shut' : Bool) (before after : HostContents) : Type 0 where
  pub stream : (s : Stream) → stream_at id before ≡ Some s → (t : Stream) × (stream_at id after ≡ Some t) × IsMoved given' taken' shut' s t
  pub others : KeepsOthers id before after

-- What holds of the stream of that id now, where the host exposes its streams.
abbrev pub Now : ℕ → (Stream → Type 0) → Option HostContents → Type 0
Now id P host = ForSome host (λ c. IsSomeAnd (stream_at id c) P)

-- The host's program closed the stream: a write is answered Closed.
abbrev pub IsClosed : Stream → Type 0
IsClosed s = s.host_closed ≡ true

-- A write is answered Again.
pub record WritesAgain (s : Stream) : Type 0 where
  pub takes : s.host_closed ≡ false
  pub full : s.room ≡ Some 0

-- A read is answered Again.
pub record ReadsAgain (s : Stream) : Type 0 where
  pub none : s.untaken ≡ []
  pub more : s.ended ≡ false

-- A read is answered End.
pub record ReadsEnd (s : Stream) : Type 0 where
  pub none : s.untaken ≡ []
  pub over : s.ended ≡ true

-- All streams are as before.
abbrev pub SameStreams : HostContents → HostContents → Type 0
SameStreams before after = (id : ℕ) → stream_at id after ≡ stream_at id before

-- What passes in a write of these bytes, by its answer. Where none are taken, all streams are as before, and say why.
abbrev pub WritePasses : ℕ → List ℕ → StreamWrite → Option HostContents → Option HostContents → Type 0
WritePasses id bytes (write.Took n) before after = Relates before after (Moves id (take n bytes) [] false)
WritePasses id bytes write.Again before after = Relates before after SameStreams × Now id WritesAgain after
WritePasses id bytes write.Closed before after = Relates before after SameStreams × Now id IsClosed after
WritePasses id bytes write.Failed before after = Relates before after SameStreams

-- What passes in a read into the front of `out`, by its answer.
abbrev pub ReadPasses : ℕ → List ℕ → StreamRead → Option HostContents → Option HostContents → Type 0
ReadPasses id out (read.Got n) before after = Relates before after (Moves id [] (take n out) false)
ReadPasses id out read.End before after = Relates before after SameStreams × Now id ReadsEnd after
ReadPasses id out read.Again before after = Relates before after SameStreams × Now id ReadsAgain after
ReadPasses id out read.Failed before after = Relates before after SameStreams
