-- A client's stream, from its dial on.
use Rattle.std.specs.Prelude.{◌≡◌, ◌<◌, ℕ, ◌+◌, Bool, true, false, List, [], length, take, Option, Some, Result, Ok, Err}
use Rattle.vs_contents.specs.Contents.{Relates}
use Rattle.vs_flow.specs.{Flow.host_flow, declared.flow.Flow.Flow}
use Rattle.vs_outside.specs.Host.{Stream, HostContents, stream_at, is_listened, KeepsOthers}
use Rattle.vs_uds.specs.{ConnectLine.connect_text, OkLine.{IsOkLine, ok_step}, declared.scan.Step.TheVariants.{More, Bad}}
use Rattle.vs_peer.specs.{declared.{converse.Opened.Opened, stop.Stop.Stop}, Passing.{IsClosed, ReadsAgain, ReadsEnd, WritesAgain, SameStreams}}
use Rattle.vs_peer.specs.declared.stop.Stop.TheVariants as stop

-- The flow of a client that asks for that port: no host port is known before the answer.
abbrev pub client_flow : ℕ → Flow
client_flow port = host_flow port 0

-- The base path was listened on, and the client's dial made one stream. These bytes were given to it and those taken of it. All other
-- streams are as before.
pub record IsClient (base : List ℕ) (port : ℕ) (given' taken' : List ℕ) (before after : HostContents) (s : Stream) : Type 0 where
  pub listened : is_listened base before ≡ true
  pub there : stream_at (length before.streams + 1) after ≡ Some s
  pub label : s.label ≡ Some (client_flow port)
  pub given : s.given ≡ given'
  pub taken : s.taken ≡ taken'
  pub others : KeepsOthers (length before.streams + 1) before after

-- The stream of that id is the client's, and its write side was shut or wasn't.
pub record HasClient (base : List ℕ) (port id : ℕ) (given' taken' : List ℕ) (shut' : Bool) (before after : HostContents) : Type 0 where
  pub stream : Stream
  pub newest : id ≡ length before.streams + 1
  pub client : IsClient base port given' taken' before after stream
  pub shut : stream.write_shut ≡ shut'

-- A dial made the client's stream; or nobody listened, or the call failed, and all streams are as before.
abbrev pub IsUnheard : List ℕ → HostContents → HostContents → Type 0
IsUnheard base before after = (is_listened base before ≡ false) × SameStreams before after

abbrev pub Dials : List ℕ → ℕ → Option HostContents → Option HostContents → Result ℕ Stop → Type 0
Dials base port host host' (Ok id) = Relates host host' (HasClient base port id [] [] false)
Dials base port host host' (Err stop.Refused) = Relates host host' (IsUnheard base)
Dials base port host host' (Err stop.Host) = Relates host host' SameStreams
Dials base port host host' (Err e) = ⊥

-- The CONNECT line isn't given whole, and this holds of the stream now.
pub record IsAsking (base : List ℕ) (port : ℕ) (P : Stream → Type 0) (before after : HostContents) : Type 0 where
  pub stream : Stream
  pub sent : ℕ
  pub less : sent < length (connect_text port)
  pub client : IsClient base port (take sent (connect_text port)) [] before after stream
  pub now : P stream

-- The CONNECT line is given, no whole line was taken yet, and this holds of the stream now.
pub record IsAsked (base : List ℕ) (port : ℕ) (P : Stream → Type 0) (before after : HostContents) : Type 0 where
  pub stream : Stream
  pub line : List ℕ
  pub more : ok_step line ≡ More
  pub client : IsClient base port (connect_text port) line before after stream
  pub now : P stream

-- The CONNECT line is given, and the bytes that were taken are no OK line.
pub record IsMisheard (base : List ℕ) (port : ℕ) (before after : HostContents) : Type 0 where
  pub stream : Stream
  pub line : List ℕ
  pub bad : ok_step line ≡ Bad
  pub client : IsClient base port (connect_text port) line before after stream

-- The client is refused: nobody listens, or the stream ended or was closed before a whole OK line, or the line is another.
pub data IsRefused (base : List ℕ) (port : ℕ) (before after : HostContents) : Type 0 where
  Unheard : IsUnheard base before after → IsRefused base port before after
  Closed : IsAsking base port IsClosed before after → IsRefused base port before after
  Ended : IsAsked base port ReadsEnd before after → IsRefused base port before after
  Misheard : IsMisheard base port before after → IsRefused base port before after

-- The client waits for its CONNECT line to be taken, or for the OK line.
pub data IsUnanswered (base : List ℕ) (port : ℕ) (before after : HostContents) : Type 0 where
  Asking : IsAsking base port WritesAgain before after → IsUnanswered base port before after
  Asked : IsAsked base port ReadsAgain before after → IsUnanswered base port before after

-- The OK line of that port was taken, and nothing else passed but the CONNECT line.
pub record IsAnswered (base : List ℕ) (port id host_port : ℕ) (before after : HostContents) : Type 0 where
  pub line : List ℕ
  pub is : IsOkLine line host_port
  pub client : HasClient base port id (connect_text port) line false before after

-- Of a stream that may stand in any way.
abbrev pub Anyhow : Stream → Type 0
Anyhow s = Unit {0}

-- A call of the host failed: the dial, and all streams are as before; or a later one, and no whole line was taken.
pub data IsUnopened (base : List ℕ) (port : ℕ) (before after : HostContents) : Type 0 where
  Undialed : SameStreams before after → IsUnopened base port before after
  Unasked : IsAsking base port Anyhow before after → IsUnopened base port before after
  Untold : IsAsked base port Anyhow before after → IsUnopened base port before after

abbrev pub Opens : List ℕ → ℕ → Option HostContents → Option HostContents → Result Opened Stop → Type 0
Opens base port host host' (Ok opened) = Relates host host' (IsAnswered base port opened.id opened.host_port)
Opens base port host host' (Err stop.Refused) = Relates host host' (IsRefused base port)
Opens base port host host' (Err stop.Waited) = Relates host host' (IsUnanswered base port)
Opens base port host host' (Err stop.Host) = Relates host host' (IsUnopened base port)
Opens base port host host' (Err stop.Sink) = ⊥
