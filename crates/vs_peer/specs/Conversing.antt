-- A client's whole conversation with a host.
use Rattle.std.specs.Prelude.{◌≡◌, ◌≤◌, ◌<◌, ◌⊎◌, ℕ, true, List, [], ◌++◌, length, take, Option, Result, Ok, Err}
use Rattle.vs_contents.specs.Contents.{Relates}
use Rattle.vs_outside.specs.Host.{Stream, HostContents}
use Rattle.vs_uds.specs.{ConnectLine.connect_text, OkLine.IsOkLine}
use Rattle.vs_peer.specs.{Client.IsClient, Client.IsRefused, Client.IsUnanswered, Client.IsUnopened, Passing.IsClosed, Passing.ReadsAgain}
use Rattle.vs_peer.specs.{Passing.ReadsEnd, Passing.WritesAgain, Pieces.Emits, Pieces.EmitsSome, Text.port_text, declared.stop.Stop.Stop}
use Rattle.vs_peer.specs.declared.stop.Stop.TheVariants as stop

-- What a client carried that was answered. The stream was given the CONNECT line and the first bytes of the source. What it gave after the
-- OK line was to be written, behind the line that tells the host's port.
pub record Carries (base : List ℕ) (port : ℕ) (source written : List ℕ) (before after : HostContents) : Type 0 where
  pub stream : Stream
  pub host_port : ℕ
  pub line : List ℕ
  pub rest : List ℕ
  pub sent : ℕ
  pub is : IsOkLine line host_port
  pub within : sent ≤ length source
  pub client : IsClient base port (connect_text port ++ take sent source) (line ++ rest) before after stream
  pub writes : written ≡ port_text host_port ++ rest

-- All of the source was sent, and the client's side was shut; or the stream was closed before.
abbrev pub HasSent : ℕ → ℕ → Stream → Type 0
HasSent sent all s = ((sent ≡ all) × (s.write_shut ≡ true)) ⊎ ((sent < all) × IsClosed s)

-- The client is done: nothing more comes either.
pub record IsDone (base : List ℕ) (port : ℕ) (source written : List ℕ) (before after : HostContents) : Type 0 where
  pub carries : Carries base port source written before after
  pub has_sent : HasSent carries.sent (length source) carries.stream
  pub no_more : ReadsEnd carries.stream

-- Nothing moves: nothing comes now, and nothing is unsent or the stream takes nothing; or nothing more comes, and the stream takes nothing
-- now of what is unsent.
abbrev pub IsStuckNow : ℕ → ℕ → Stream → Type 0
IsStuckNow sent all s =
    ((HasSent sent all s ⊎ ((sent < all) × WritesAgain s)) × ReadsAgain s) ⊎ ((sent < all) × WritesAgain s × ReadsEnd s)

pub record IsStuckAt (base : List ℕ) (port : ℕ) (source written : List ℕ) (before after : HostContents) : Type 0 where
  pub carries : Carries base port source written before after
  pub stuck : IsStuckNow carries.sent (length source) carries.stream

-- The client waits, before it is answered or after.
pub data IsWaiting (base : List ℕ) (port : ℕ) (source written : List ℕ) (before after : HostContents) : Type 0 where
  Unanswered : written ≡ [] → IsUnanswered base port before after → IsWaiting base port source written before after
  Stuck : IsStuckAt base port source written before after → IsWaiting base port source written before after

-- A call of the host failed, before an OK line was taken or after.
pub data IsFailed (base : List ℕ) (port : ℕ) (source written : List ℕ) (before after : HostContents) : Type 0 where
  Unopened : written ≡ [] → IsUnopened base port before after → IsFailed base port source written before after
  Failed : Carries base port source written before after → IsFailed base port source written before after

abbrev pub Converses : List ℕ → ℕ → List ℕ → Option HostContents → Option HostContents → Option (List ℕ) → Option (List ℕ) →
    Result (Unit {0}) Stop → Type 0
Converses base port source host host' out out' (Ok u) = (written : List ℕ) × Emits out out' written × Relates host host'
    (IsDone base port source written)
Converses base port source host host' out out' (Err stop.Waited) =
    (written : List ℕ) × Emits out out' written × Relates host host' (IsWaiting base port source written)
Converses base port source host host' out out' (Err stop.Refused) = (out' ≡ out) × Relates host host' (IsRefused base port)
Converses base port source host host' out out' (Err stop.Host) =
    (written : List ℕ) × Emits out out' written × Relates host host' (IsFailed base port source written)
Converses base port source host host' out out' (Err stop.Sink) =
    (written : List ℕ) × EmitsSome out out' written × Relates host host' (Carries base port source written)
