-- What passes once a client was answered.
use Rattle.std.specs.Prelude.{◌≡◌, ◌≢◌, ◌⊎◌, ℕ, Bool, true, false, List, take, Option, Result, Ok, Err}
use Rattle.vs_contents.specs.Contents.{Relates}
use Rattle.vs_outside.specs.Host.{HostContents}
use Rattle.vs_peer.specs.{Passing.{Moves, Now, ReadsAgain, ReadsEnd}, Pieces.{Emits, EmitsSome}, Sending.{IsSending, IsStill, between, is_shut, shuts}}
use Rattle.vs_peer.specs.declared.{exchange.Progress.Progress, receive.Came.Came, send.{Sending.Sending, Side.Side}, stop.Stop.Stop}
use Rattle.vs_peer.specs.declared.exchange.Progress.TheVariants as progress
use Rattle.vs_peer.specs.declared.receive.Came.TheVariants as came
use Rattle.vs_peer.specs.declared.send.Side.TheVariants as side
use Rattle.vs_peer.specs.declared.stop.Stop.TheVariants as stop

-- What a step comes to, in which bytes were sent or weren't, and this came.
abbrev pub still : Bool → Progress
still true = progress.Moved
still false = progress.Still

abbrev pub comes_to : Side → Bool → Came → Progress
comes_to s sent came.Bytes = progress.Moved
comes_to s sent came.Nothing = still sent
comes_to side.Open sent came.End = still sent
comes_to side.Shut sent came.End = progress.Done
comes_to side.Closed sent came.End = progress.Done

-- Nothing is sent, and nothing comes: it doesn't now, or it never does while bytes are unsent.
abbrev pub IsStuck : ℕ → List ℕ → Sending → Option HostContents → Type 0
IsStuck id bytes s host = IsStill id bytes s host × (Now id ReadsAgain host ⊎ ((s.side ≡ side.Open) × Now id ReadsEnd host))

-- What a step leaves, by what it comes to.
abbrev pub Leaves : ℕ → List ℕ → Sending → Option HostContents → Progress → Type 0
Leaves id bytes s host progress.Done = (s.side ≢ side.Open) × Now id ReadsEnd host
Leaves id bytes s host progress.Moved = Unit {0}
Leaves id bytes s host progress.Still = IsStuck id bytes s host

-- In a step bytes were sent, and what was taken went to the sink.
pub record Stepped (id : ℕ) (bytes : List ℕ) (s t : Sending) (host host' : Option HostContents) (out out' : Option (List ℕ)) : Type 0 where
  pub taken : List ℕ
  pub passes : Relates host host' (Moves id (between s t bytes) taken (shuts s.side t.side))
  pub gets : Emits out out' taken

-- The same, where the sink got less than what was taken.
pub record SteppedCut (id : ℕ) (bytes : List ℕ) (s t : Sending) (host host' : Option HostContents) (out out' : Option
    (List ℕ)) : Type 0 where
  pub taken : List ℕ
  pub passes : Relates host host' (Moves id (between s t bytes) taken (shuts s.side t.side))
  pub gets : EmitsSome out out' taken

abbrev pub Steps : ℕ → List ℕ → Sending → Sending → Option HostContents → Option HostContents → Option (List ℕ) → Option (List ℕ) →
    Result Progress Stop → Type 0
Steps id bytes s t host host' out out' (Ok w) = Stepped id bytes s t host host' out out' × Leaves id bytes t host' w
Steps id bytes s t host host' out out' (Err stop.Host) = Stepped id bytes s t host host' out out'
Steps id bytes s t host host' out out' (Err stop.Sink) = SteppedCut id bytes s t host host' out out'
Steps id bytes s t host host' out out' (Err e) = ⊥

-- So far so many bytes were sent, and what was taken is in the sink.
pub record Exchanged (id : ℕ) (bytes : List ℕ) (s : Sending) (host host' : Option HostContents) (out out' : Option (List ℕ)) : Type 0 where
  pub sending : IsSending id bytes s host'
  pub taken : List ℕ
  pub passes : Relates host host' (Moves id (take s.sent bytes) taken (is_shut s.side))
  pub gets : Emits out out' taken

-- The same, where the sink got less than what was taken.
pub record ExchangedCut (id : ℕ) (bytes : List ℕ) (s : Sending) (host host' : Option HostContents) (out out' : Option
    (List ℕ)) : Type 0 where
  pub sending : IsSending id bytes s host'
  pub taken : List ℕ
  pub passes : Relates host host' (Moves id (take s.sent bytes) taken (is_shut s.side))
  pub gets : EmitsSome out out' taken

-- All passed; or nothing moves any more; or a call failed.
abbrev pub Exchanges : ℕ → List ℕ → Option HostContents → Option HostContents → Option (List ℕ) → Option (List ℕ) →
    Result (Unit {0}) Stop → Type 0
Exchanges id bytes host host' out out' (Ok u) =
    (s : Sending) × Exchanged id bytes s host host' out out' × (s.side ≢ side.Open) × Now id ReadsEnd host'
Exchanges id bytes host host' out out' (Err stop.Waited) =
    (s : Sending) × Exchanged id bytes s host host' out out' × IsStuck id bytes s host'
Exchanges id bytes host host' out out' (Err stop.Host) = (s : Sending) × Exchanged id bytes s host host' out out'
Exchanges id bytes host host' out out' (Err stop.Sink) = (s : Sending) × ExchangedCut id bytes s host host' out out'
Exchanges id bytes host host' out out' (Err stop.Refused) = ⊥
