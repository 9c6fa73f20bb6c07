-- How far a client is with what it sends.
use Rattle.std.specs.Prelude.{◌≡◌, ◌≢◌, ◌≤◌, ◌<◌, ◌⊎◌, ℕ, Bool, true, false, ◌||◌, List, length, take, drop, Option, Result, Ok, Err}
use Rattle.vs_outside.specs.Host.{HostContents}
use Rattle.vs_peer.specs.{Passing.{Now, IsClosed, WritesAgain}, declared.{send.{Sending.Sending, Side.Side}, stop.Stop.Stop}}
use Rattle.vs_peer.specs.declared.send.Side.TheVariants as side
use Rattle.vs_peer.specs.declared.stop.Stop.TheVariants as stop

-- So much of the bytes was sent. The side is shut once all is; it is closed where the host closed the stream before.
pub record IsSending (id : ℕ) (bytes : List ℕ) (s : Sending) (host : Option HostContents) : Type 0 where
  pub within : s.sent ≤ length bytes
  pub whole : s.side ≡ side.Shut → s.sent ≡ length bytes
  pub cut : s.side ≡ side.Closed → s.sent < length bytes
  pub closed : s.side ≡ side.Closed → Now id IsClosed host

-- The bytes that were sent from one moment to another.
abbrev pub between : Sending → Sending → List ℕ → List ℕ
between s t bytes = drop s.sent (take t.sent bytes)

-- Whether the side was shut between two moments.
abbrev pub shuts : Side → Side → Bool
shuts side.Open side.Shut = true
shuts _ _ = false

abbrev pub is_shut : Side → Bool
is_shut side.Shut = true
is_shut _ = false

-- The sending goes on from one moment to another.
pub record GoesOn (s t : Sending) : Type 0 where
  pub grows : s.sent ≤ t.sent
  pub shut : is_shut t.side ≡ (shuts s.side t.side || is_shut s.side)

-- Nothing more is sent, or a write now gives Again.
abbrev pub IsStill : ℕ → List ℕ → Sending → Option HostContents → Type 0
IsStill id bytes s host = (s.side ≢ side.Open) ⊎ ((s.side ≡ side.Open) × (s.sent < length bytes) × Now id WritesAgain host)

-- What a write answers: whether bytes were sent.
abbrev pub Writes : ℕ → List ℕ → Sending → Option HostContents → Result Bool Stop → Type 0
Writes id bytes s host (Ok true) = Unit {0}
Writes id bytes s host (Ok false) = (s.sent ≡ length bytes) ⊎ IsStill id bytes s host
Writes id bytes s host (Err stop.Host) = Unit {0}
Writes id bytes s host (Err e) = ⊥

-- What a step of the sending answers: whether bytes were sent.
abbrev pub Sends : ℕ → List ℕ → Sending → Option HostContents → Result Bool Stop → Type 0
Sends id bytes s host (Ok true) = Unit {0}
Sends id bytes s host (Ok false) = IsStill id bytes s host
Sends id bytes s host (Err stop.Host) = Unit {0}
Sends id bytes s host (Err e) = ⊥
