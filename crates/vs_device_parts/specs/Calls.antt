-- The calls that a device makes on its ring and on its host, and the answers that they may get.
use Rattle.std.specs.Prelude.{◌≡◌, ℕ, ◌<◌, ◌≤◌, Bool, false, List, [], length, slice_index, Option, IfSome}
use Rattle.vs_contents.specs.{CallTree.CallTree, Contents.Exposes}
use Rattle.vs_flow.specs.declared.flow.Flow.{Flow}
use Rattle.vs_outside.specs.{Faults.CountsFault, Host.{HostContents, accept_answer, after_accept, IsDialed, after_dial, after_label, after_read, IsWritten, after_write}}
use Rattle.vs_outside.specs.Host.{after_shut_write, after_close, accept_failed, dial_failed, read_failed, write_failed, read_answer, next_bytes}
use Rattle.vs_outside.specs.declared.host_net.{Accepted.Accepted, Dialed.Dialed, StreamRead.StreamRead, StreamWrite.StreamWrite}
use Rattle.vs_ring_port.specs.{Chains.{IsLongEnough, chain_of}, Contents.{RingContents, DeviceCall, DeviceAnswer, Take, Read}, DeviceCalls.DeviceAllows}
use Rattle.vs_ring_port.specs.declared.{device_ring.Chain.Chain, queue.Queue.Queue}
use Rattle.vs_outside.specs.declared.host_net.StreamRead.TheVariants as read
use Rattle.vs_outside.specs.declared.host_net.StreamWrite.TheVariants as write

-- A call on the ring or on the host. A read of a stream is into a buffer of so many bytes.
pub data Call : Type 0 where
  Ring : DeviceCall → Call
  Accept : Call
  Dial : List ℕ → Flow → Call
  Label : ℕ → Flow → Call
  ReadStream : ℕ → ℕ → Call
  WriteStream : ℕ → List ℕ → Call
  ShutWrite : ℕ → Call
  CloseStream : ℕ → Call

-- What is read of a stream: the answer, and the bytes where there are some.
abbrev pub Answer : Call → Type 0
Answer (Ring call) = DeviceAnswer call
Answer Accept = Accepted
Answer (Dial path flow) = Dialed
Answer (ReadStream stream n) = StreamRead × List ℕ
Answer (WriteStream stream bytes) = StreamWrite
Answer _ = Unit {0}

abbrev pub DeviceTree : Type 0 → Type 0
DeviceTree A = CallTree Call Answer A

-- What ring and host expose, and how many of the host's calls failed.
pub record Situation : Type 0 where
  pub ring : RingContents
  pub host : Option HostContents
  pub faults : ℕ

-- A call on the host, which failed or not: the ring stays; where the host exposes its contents, P holds of them and f changes them.
pub record HostMoves (failed : Bool) (P : HostContents → Type 0) (f : HostContents → HostContents) (old new : Situation) : Type 0 where
  pub ring : new.ring ≡ old.ring
  pub faults : CountsFault failed old.faults new.faults
  pub host : Exposes old.host new.host P f

-- The bytes of an answer are the next ones of the stream, and none where nothing was got.
abbrev pub IsReadOf : ℕ → ℕ → StreamRead × List ℕ → HostContents → Type 0
IsReadOf stream n (read.Got k, bytes) c = (read.Got k ≡ read_answer stream n c) × (bytes ≡ next_bytes stream k c)
IsReadOf stream n (answer, bytes) c = (answer ≡ read_answer stream n c) × (bytes ≡ [])

-- A chain that a queue gives is of that queue, and long enough for it.
pub record IsFitChain (queue : Queue) (chain : Chain) : Type 0 where
  pub queue_is : chain.queue ≡ queue
  pub long : IsLongEnough queue chain

-- A ring keeps to the bounds of a call: a chain fits its queue, and a byte has 8 bits.
abbrev pub IsFitAnswer : (call : DeviceCall) → DeviceAnswer call → Type 0
IsFitAnswer (Take queue) next = IfSome (chain_of next) (IsFitChain queue)
IsFitAnswer (Read chain place count) bytes = (i : ℕ) → slice_index bytes i < 256
IsFitAnswer _ a = Unit {0}

-- A write takes no more bytes than it is given.
abbrev pub TakesWithin : ℕ → StreamWrite → Type 0
TakesWithin n (write.Took k) = k ≤ n
TakesWithin n _ = Unit {0}

-- A stream gives no more bytes than there is room for, and takes no more than it is given.
abbrev pub Allows : (call : Call) → Answer call → Situation → Situation → Type 0
Allows (Ring call) a old new =
    DeviceAllows call a old.ring new.ring × (new.host ≡ old.host) × (new.faults ≡ old.faults) × IsFitAnswer call a
Allows Accept a old new = HostMoves (accept_failed a) (λ c. a ≡ accept_answer c) (after_accept a) old new
Allows (Dial path flow) a old new = HostMoves (dial_failed a) (IsDialed path a) (after_dial flow a) old new
Allows (Label stream flow) a old new = HostMoves false (λ c. Unit {0}) (after_label stream flow) old new
Allows (ReadStream stream n) a old new =
    HostMoves (read_failed a.0) (IsReadOf stream n a) (after_read stream a.0) old new × (length a.1 ≤ n)
Allows (WriteStream stream bytes) a old new =
    HostMoves (write_failed a) (IsWritten stream (length bytes) a) (after_write stream bytes a) old new × TakesWithin (length bytes) a
Allows (ShutWrite stream) a old new = HostMoves false (λ c. Unit {0}) (after_shut_write stream) old new
Allows (CloseStream stream) a old new = HostMoves false (λ c. Unit {0}) (after_close stream) old new
