-- What a client receives.
use Rattle.std.specs.Prelude.{◌≡◌, ℕ, false, List, [], Option, Result, Ok, Err}
use Rattle.vs_contents.specs.Contents.{Relates}
use Rattle.vs_outside.specs.Host.{HostContents}
use Rattle.vs_peer.specs.{Passing.{Moves, Now, ReadsAgain, ReadsEnd, SameStreams}, Pieces.{Emits, EmitsSome}, declared.{receive.Came.Came, stop.Stop.Stop}}
use Rattle.vs_peer.specs.declared.receive.Came.TheVariants as came
use Rattle.vs_peer.specs.declared.stop.Stop.TheVariants as stop

-- These bytes went to the sink; or a call of the sink failed, and less went.
abbrev pub Gives : Option (List ℕ) → Option (List ℕ) → List ℕ → Result Came Stop → Type 0
Gives old new bytes (Ok came.Bytes) = Emits old new bytes
Gives old new bytes (Err stop.Sink) = EmitsSome old new bytes
Gives old new bytes _ = ⊥

-- The bytes that were taken of the stream went to the sink. Where nothing came all streams are as before.
abbrev pub Receives : ℕ → Option HostContents → Option HostContents → Option (List ℕ) → Option (List ℕ) → Result Came Stop → Type 0
Receives id host host' out out' (Ok came.Bytes) =
    (bytes : List ℕ) × Relates host host' (Moves id [] bytes false) × Emits out out' bytes
Receives id host host' out out' (Ok came.Nothing) =
    Relates host host' SameStreams × Now id ReadsAgain host' × (out' ≡ out)
Receives id host host' out out' (Ok came.End) =
    Relates host host' SameStreams × Now id ReadsEnd host' × (out' ≡ out)
Receives id host host' out out' (Err stop.Sink) =
    (bytes : List ℕ) × Relates host host' (Moves id [] bytes false) × EmitsSome out out' bytes
Receives id host host' out out' (Err stop.Host) = Relates host host' SameStreams × (out' ≡ out)
Receives id host host' out out' (Err e) = ⊥
