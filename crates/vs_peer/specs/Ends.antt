-- How a client ends: what it writes, and its status.
use Rattle.std.specs.Prelude.{◌≡◌, ◌≤◌, ◌<◌, ◌⊎◌, ℕ, true, List, ◌++◌, length, Option}
use Rattle.vs_contents.specs.Contents.{Relates}
use Rattle.vs_outside.specs.{Faults.CountsFault, Host.HostContents}
use Rattle.vs_peer.specs.{Client.IsRefused, Conversing.{Carries, IsDone, IsFailed, IsWaiting}, Pieces.{Emits, EmitsSome, ReadsAll}, Text.{host_fault_text, no_memory_text}}
use Rattle.vs_peer.specs.{Text.{read_fault_text, refused_text, too_long_text, waited_text}, Waiting.Paused, declared.source.{ReadError.ReadError, TheConstants.SOURCE_MAX}}
use Rattle.vs_peer.specs.declared.source.ReadError.TheVariants as read_error

-- All that a client is lent, at one moment: what source, host and sink expose, how many of their calls failed, and how many pauses its gate
-- counts.
pub record Lent : Type 0 where
  pub source : Option (List ℕ)
  pub host : Option HostContents
  pub out : Option (List ℕ)
  pub source_faults : ℕ
  pub host_faults : ℕ
  pub sink_faults : ℕ
  pub pauses : ℕ

-- The text was written, and the status is its own; or a call of the sink failed, less of the text was written, and the status is 4.
abbrev pub EndsAs : Option (List ℕ) → Option (List ℕ) → ℕ → ℕ → List ℕ → ℕ → ℕ → Type 0
EndsAs out out' faults faults' text status result =
    ((result ≡ status) × Emits out out' text × (faults' ≡ faults)) ⊎
    ((result ≡ 4) × EmitsSome out out' text × CountsFault true faults faults')

-- Why the source wasn't read.
abbrev pub EndsUnread : Option (List ℕ) → Option (List ℕ) → ℕ → ℕ → ReadError → ℕ → Type 0
EndsUnread out out' faults faults' read_error.Fault result = EndsAs out out' faults faults' read_fault_text 3 result
EndsUnread out out' faults faults' read_error.OutOfMemory result = EndsAs out out' faults faults' no_memory_text 9 result

-- A client with these bytes to send, over the host between two moments: the text that it writes and the status that belongs to it. Where
-- the host exposes its streams they tell why.
pub data Means (base : List ℕ) (port : ℕ) (source : List ℕ) (idle : ℕ) (host host' : Option HostContents) (faults faults' pauses pauses' : ℕ)
    (text : List ℕ) (status : ℕ) : Type 0 where
  -- what the stream gave, and it is done
  Done : status ≡ 0 → Relates host host' (IsDone base port source text) → faults' ≡ faults →
      Means base port source idle host host' faults faults' pauses pauses' text status
  -- what the stream gave, and nothing moves now, nor did in the steps with the last pauses
  Waits : status ≡ 5 → (written : List ℕ) → text ≡ written ++ waited_text idle → Relates host host' (IsWaiting base port source written) →
      faults' ≡ faults → Paused idle pauses pauses' →
      Means base port source idle host host' faults faults' pauses pauses' text status
  -- what the stream gave before a call of the host failed
  HostFails : status ≡ 6 → (written : List ℕ) → text ≡ written ++ host_fault_text → Relates host host' (IsFailed base port source written) →
      CountsFault true faults faults' →
      Means base port source idle host host' faults faults' pauses pauses' text status
  -- nobody listened, or no OK line came
  Refuses : status ≡ 8 → text ≡ refused_text → Relates host host' (IsRefused base port) → faults' ≡ faults →
      Means base port source idle host host' faults faults' pauses pauses' text status

-- Such a client ends as it should; or a call of the sink failed before, at a byte that the stream gave.
abbrev pub Meets : List ℕ → ℕ → List ℕ → ℕ → Option HostContents → Option HostContents → ℕ → ℕ → ℕ → ℕ → Option (List ℕ) → Option (List ℕ) → ℕ →
    ℕ → ℕ → Type 0
Meets base port source idle host host' faults faults' pauses pauses' out out' sink_faults sink_faults' result =
    ((text : List ℕ) × (status : ℕ) × Means base port source idle host host' faults faults' pauses pauses' text status × EndsAs out out' sink_faults
    sink_faults' text status result)
    ⊎ ((text : List ℕ) × (result ≡ 4) × EmitsSome out out' text × CountsFault true sink_faults sink_faults' × Relates host host'
    (Carries base port source text) × (faults' ≡ faults))

-- How a client ends: it has read its source, and then meets the host; or the source gave too much, or failed, or memory ran out, and the
-- host is as before.
pub data PeerEnds (base : List ℕ) (port idle : ℕ) (old new : Lent) (result : ℕ) : Type 0 where
  Met : (bytes : List ℕ) → ReadsAll old.source bytes → length bytes ≤ SOURCE_MAX → new.source_faults ≡ old.source_faults →
      Meets base port bytes idle old.host new.host old.host_faults new.host_faults old.pauses new.pauses old.out new.out old.sink_faults new.sink_faults result →
      PeerEnds base port idle old new result
  TooLong : (bytes : List ℕ) → ReadsAll old.source bytes → SOURCE_MAX < length bytes → new.source_faults ≡ old.source_faults →
      new.host ≡ old.host → new.host_faults ≡ old.host_faults →
      EndsAs old.out new.out old.sink_faults new.sink_faults too_long_text 2 result → PeerEnds base port idle old new result
  SourceFails : CountsFault true old.source_faults new.source_faults → new.host ≡ old.host → new.host_faults ≡ old.host_faults →
      EndsAs old.out new.out old.sink_faults new.sink_faults read_fault_text 3 result → PeerEnds base port idle old new result
  NoMemory : new.source_faults ≡ old.source_faults → new.host ≡ old.host → new.host_faults ≡ old.host_faults →
      EndsAs old.out new.out old.sink_faults new.sink_faults no_memory_text 9 result → PeerEnds base port idle old new result
