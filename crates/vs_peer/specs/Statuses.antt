-- What each status of a client says.
use Rattle.std.specs.{Prelude.{◌≡◌, ◌<◌, ◌⊎◌, ◌-◌, ◌^◌, ◌==◌, ◌||◌, ℕ, Bool, true, List, ◌++◌, length, Option}, Option.ForSome}
use Rattle.vs_contents.specs.Contents.{Relates}
use Rattle.vs_outside.specs.Faults.{CountsFault}
use Rattle.vs_peer.specs.{Client.IsRefused, Conversing.{Carries, IsDone, IsFailed, IsWaiting}, Ends.{Lent, Means}, Pieces.{Emits, EmitsSome}, Text.host_fault_text}
use Rattle.vs_peer.specs.{Text.{no_memory_text, read_fault_text, refused_text, too_long_text, waited_text}, Waiting.Paused, declared.source.TheConstants.SOURCE_MAX}

-- These are the bytes that the source had.
abbrev pub IsSource : Option (List ℕ) → List ℕ → Type 0
IsSource left bytes = ForSome left (λ l. bytes ≡ l)

-- 0: the source was sent and what came was written, to the end of both.
pub record SaysDone (base : List ℕ) (port : ℕ) (old new : Lent) : Type 0 where
  pub source : List ℕ
  pub written : List ℕ
  pub is_source : IsSource old.source source
  pub writes : Emits old.out new.out written
  pub is_done : Relates old.host new.host (IsDone base port source written)

-- 2: the source had more bytes than a client takes. The host is as before.
pub record SaysTooLong (old new : Lent) : Type 0 where
  pub long : ForSome old.source (λ left. SOURCE_MAX < length left)
  pub writes : Emits old.out new.out too_long_text
  pub kept : new.host ≡ old.host

-- 3: a call of the source failed.
pub record SaysSourceFault (old new : Lent) : Type 0 where
  pub counts : CountsFault true old.source_faults new.source_faults
  pub writes : Emits old.out new.out read_fault_text
  pub kept : new.host ≡ old.host

-- A text that was to be written: a line that stands alone; what belongs to a status; or what the stream gave so far.
pub data IsMeant (base : List ℕ) (port idle : ℕ) (old new : Lent) (text : List ℕ) : Type 0 where
  Line : (text ≡ too_long_text) ⊎ (text ≡ read_fault_text) ⊎ (text ≡ no_memory_text) → IsMeant base port idle old new text
  Belongs : (source : List ℕ) → IsSource old.source source → (status : ℕ) →
      Means base port source idle old.host new.host old.host_faults new.host_faults old.pauses new.pauses text status → IsMeant base port idle old new text
  Came : (source : List ℕ) → IsSource old.source source → Relates old.host new.host (Carries base port source text) →
      IsMeant base port idle old new text

-- 4: a call of the sink failed, and less was written than was to be.
pub record SaysSinkFault (base : List ℕ) (port idle : ℕ) (old new : Lent) : Type 0 where
  pub counts : CountsFault true old.sink_faults new.sink_faults
  pub text : List ℕ
  pub meant : IsMeant base port idle old new text
  pub writes : EmitsSome old.out new.out text

-- 5: nothing moves, and with each of `idle` steps in which nothing moved the gate paused.
pub record SaysWaited (base : List ℕ) (port idle : ℕ) (old new : Lent) : Type 0 where
  pub source : List ℕ
  pub written : List ℕ
  pub is_source : IsSource old.source source
  pub writes : Emits old.out new.out (written ++ waited_text idle)
  pub waits : Relates old.host new.host (IsWaiting base port source written)
  pub paused : Paused idle old.pauses new.pauses

-- 6: a call of the host failed. What the stream gave was written before.
pub record SaysHostFault (base : List ℕ) (port : ℕ) (old new : Lent) : Type 0 where
  pub counts : CountsFault true old.host_faults new.host_faults
  pub source : List ℕ
  pub written : List ℕ
  pub is_source : IsSource old.source source
  pub writes : Emits old.out new.out (written ++ host_fault_text)
  pub failed : Relates old.host new.host (IsFailed base port source written)

-- 8: nobody listened, or no OK line came.
pub record SaysRefused (base : List ℕ) (port : ℕ) (old new : Lent) : Type 0 where
  pub writes : Emits old.out new.out refused_text
  pub refused : Relates old.host new.host (IsRefused base port)

-- 9: memory ran out. The host is as before.
pub record SaysNoMemory (old new : Lent) : Type 0 where
  pub writes : Emits old.out new.out no_memory_text
  pub kept : new.host ≡ old.host

-- What a status says; there is no other status.
pub data Says (base : List ℕ) (port idle : ℕ) (old new : Lent) (status : ℕ) : Type 0 where
  Done : status ≡ 0 → SaysDone base port old new → Says base port idle old new status
  TooLong : status ≡ 2 → SaysTooLong old new → Says base port idle old new status
  SourceFault : status ≡ 3 → SaysSourceFault old new → Says base port idle old new status
  SinkFault : status ≡ 4 → SaysSinkFault base port idle old new → Says base port idle old new status
  Waited : status ≡ 5 → SaysWaited base port idle old new → Says base port idle old new status
  HostFault : status ≡ 6 → SaysHostFault base port old new → Says base port idle old new status
  Refused : status ≡ 8 → SaysRefused base port old new → Says base port idle old new status
  NoMemory : status ≡ 9 → SaysNoMemory old new → Says base port idle old new status

-- No call of source, host or sink failed, which their counts show as long as they can rise.
pub record NoFault (old new : Lent) : Type 0 where
  pub source : new.source_faults ≡ old.source_faults
  pub host : new.host_faults ≡ old.host_faults
  pub sink : new.sink_faults ≡ old.sink_faults
  pub source_rises : old.source_faults < 2 ^ 64 - 1
  pub host_rises : old.host_faults < 2 ^ 64 - 1
  pub sink_rises : old.sink_faults < 2 ^ 64 - 1

-- The statuses that a client has where no call failed.
abbrev pub is_faultless : ℕ → Bool
is_faultless n = n == 0 || (n == 2 || (n == 5 || (n == 8 || n == 9)))
