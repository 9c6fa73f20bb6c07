-- What was received goes to the sink.
use Rattle.std.proofs.Common.{ℕ, List, [], false, Option, Result, Ok, Err}
use Rattle.vs_contents.specs.Contents.{Relates}
use Rattle.vs_outside.specs.Host.{HostContents}
use Rattle.vs_peer.specs.{Passing.Moves, Receiving.Gives, Receiving.Receives, declared.receive.Came.Came, declared.stop.Stop.Stop}
use Rattle.vs_peer.specs.declared.receive.Came.TheVariants as came
use Rattle.vs_peer.specs.declared.stop.Stop.TheVariants as stop

pub received : (id : ℕ) (host host' : Option HostContents) (out out' : Option (List ℕ)) (bytes : List ℕ) (result : Result Came Stop) →
    Relates host host' (Moves id [] bytes false) → Gives out out' bytes result → Receives id host host' out out' result
received id host host' out out' bytes (Ok came.Bytes) m h = (bytes, m, h)
received id host host' out out' bytes (Ok came.Nothing) m h = absurd h
received id host host' out out' bytes (Ok came.End) m h = absurd h
received id host host' out out' bytes (Err stop.Sink) m h = (bytes, m, h)
received id host host' out out' bytes (Err stop.Host) m h = absurd h
received id host host' out out' bytes (Err stop.Waited) m h = absurd h
received id host host' out out' bytes (Err stop.Refused) m h = absurd h
