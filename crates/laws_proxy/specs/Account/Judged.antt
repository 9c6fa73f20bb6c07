-- What one packet of the guest does: a packet that is invalid is answered by RST, or dropped and counted, or it is the ring's failure.
use Rattle.std.specs.{Prelude.{◌≡◌, ℕ, ◌-◌, ◌<◌, ◌≤◌, ◌++◌, true, false, if◌then◌else◌, List, [], ◌∷◌, length, Option, Some, None}, Option.option_map_or}
use Rattle.vs_conn.specs.{End.{is_reset, owes_of, verdict_of}, declared.end.{Owed.TheVariants.Rst, Verdict.Verdict, Why.Why}}
use Rattle.vs_flow.specs.{Flow.is_assigned, Table.{entry_of, has_place, with_value}}
use Rattle.vs_header.specs.{Packet.header_of, declared.{Header.Header, TheConstants.HEADER_LEN}}
use Rattle.vs_limits.specs.declared.TheConstants.{DEVICE_REPLIES}
use Rattle.vs_outside.specs.declared.host_net.Dialed.{Dialed}
use Rattle.vs_page.specs.{Log.{Device, flow_to_host}, Open.is_dropped}
use Rattle.vs_replies.specs.Owed.{reply_to}
use Rattle.vs_ring_port.specs.{Contents.{Read, Return, Take}, declared.{device_ring.Chain.Chain, failure.Failure.Failure, queue.Queue.TheVariants.Tx}}
use Rattle.vs_uds.specs.Path.{path_of}
use Rattle.vs_wrap.specs.Wrap.{counted}
use Rattle.vs_device_parts.specs.{Calls.{CloseStream, Dial, Ring}, Connections.{with_dialed, with_fault, with_reply}, State.{DeviceConnection, DeviceEntry, DeviceState}}
use Rattle.vs_device_parts.specs.{Taking.asks_for_stream, Transmitting.{failing, heard, unknown_why}, declared.answers.Taken.Taken}
use Rattle.laws_proxy.specs.Account.Made.{Account, Made, account_of, made}
use Rattle.vs_conn.specs.declared.end.Verdict.TheVariants as verdict
use Rattle.vs_conn.specs.declared.end.Why.TheVariants as why
use Rattle.vs_device_parts.specs.declared.answers.Taken.TheVariants as taken
use Rattle.vs_outside.specs.declared.host_net.Dialed.TheVariants as dialed
use Rattle.vs_ring_port.specs.declared.device_ring.Next.TheVariants as next
use Rattle.vs_ring_port.specs.declared.failure.Failure.TheVariants as failure

-- No stream was given or delivered anything, labelled or closed since.
abbrev pub AreUnmoved : List Made → List Made → Type 0
AreUnmoved calls later = (id : ℕ) → account_of later id ≡ account_of calls id

abbrev pub delivered_in : Option Account → List ℕ
delivered_in a = option_map_or (λ a. a.delivered) a []

-- RST is owed: as a reply, where the flow has no connection; else by its connection, which is over. No other connection changes.
abbrev pub OwesReset : Option DeviceEntry → Header → DeviceState → DeviceState → Type 0
OwesReset None h s t = (t.table ≡ s.table) × (t.replies ≡ s.replies ++ reply_to (flow_to_host h) h ∷ [])
OwesReset (Some e) h s t =
    (t.table ≡ with_value s.table e.slot (heard h e.value)) × (owes_of (heard h e.value).end ≡ Some Rst) × (t.replies ≡ s.replies)

-- What is done for a packet of a connection, by its verdict: its payload is read; of an RST the stream is closed, unless it is; or nothing.
abbrev pub IsDone : Verdict → Chain → Header → DeviceConnection → List Made → Type 0
IsDone verdict.Deliver chain h c done = (payload : List ℕ) × (done ≡ made (Ring (Read chain HEADER_LEN h.len)) payload ∷ [])
IsDone verdict.Peer chain h c done =
    done ≡ if is_reset h then (if c.closed then [] else made (CloseStream c.stream) tt ∷ []) else []
IsDone v chain h c done = done ≡ []

-- A packet of a flow without a connection is refused: an RST is owed for this reason, and that is all.
abbrev pub IsRefused : Why → Header → Verdict → DeviceState → DeviceState → Type 0
IsRefused w h v s t = (v ≡ verdict.Rst w) × (t ≡ with_reply (reply_to (flow_to_host h) h) s)

-- A REQUEST, by what the host answered to its dial. A dial that failed is counted.
abbrev pub IsDialedAs : Dialed → Header → Verdict → DeviceState → DeviceState → Type 0
IsDialedAs (dialed.Stream id) h v s t = (v ≡ verdict.Accept) × (t ≡ with_dialed (flow_to_host h) h id s)
IsDialedAs dialed.Refused h v s t = IsRefused why.NotLive h v s t
IsDialedAs dialed.Failed h v s t = IsRefused why.NotLive h v (with_fault s) t

-- A REQUEST is refused where the device assigns its host port, and where the table is full; else the host is dialed, once, at the path of
-- that port.
pub record IsTried (h : Header) (v : Verdict) (s t : DeviceState) (done : List Made) : Type 0 where
  pub assigned : is_assigned h.dst_port ≡ true → IsRefused why.NotLive h v s t × (done ≡ [])
  pub full : has_place s.table ≡ false → IsRefused why.NotLive h v s t × (done ≡ [])
  pub dialed : is_assigned h.dst_port ≡ false → has_place s.table ≡ true → (answer : Dialed)
      × (done ≡ made (Dial (path_of s.base h.dst_port) (flow_to_host h)) answer ∷ []) × IsDialedAs answer h v s t

-- A packet of a flow without a connection.
pub record IsUnknown (h : Header) (v : Verdict) (s t : DeviceState) (done : List Made) : Type 0 where
  -- An RST of any type is ignored.
  pub reset : is_reset h ≡ true → (v ≡ verdict.Ignore) × (t ≡ s) × (done ≡ [])
  pub request : asks_for_stream h ≡ true → IsTried h v s t done
  -- All else gets RST: for its type, for its operation, or since it is of no connection.
  pub other : is_reset h ≡ false → asks_for_stream h ≡ false → IsRefused (unknown_why h) h v s t × (done ≡ [])

-- The packet in a chain has this header, and got this verdict; that was done for it.
pub record IsAnswered (chain : Chain) (h : Header) (v : Verdict) (s t : DeviceState) (done calls later : List Made) : Type 0 where
  -- One from another CID or to another is counted, and that is all. No other one is counted so.
  pub dropped : is_dropped Device s.cid h ≡ true
      → (v ≡ verdict.Ignore) × (t ≡ record s { dropped = counted s.dropped }) × (done ≡ []) × AreUnmoved calls later
  pub kept : is_dropped Device s.cid h ≡ false → t.dropped ≡ s.dropped
  -- Of another one the verdict is that of its connection's end, where its flow has one.
  pub known : is_dropped Device s.cid h ≡ false → (e : DeviceEntry) → entry_of s.table (flow_to_host h) ≡ Some e
      → (v ≡ verdict_of e.value.end h) × IsDone v chain h e.value done
  pub unknown : is_dropped Device s.cid h ≡ false → entry_of s.table (flow_to_host h) ≡ None → IsUnknown h v s t done
  pub refused : (why : Why) → v ≡ verdict.Rst why → OwesReset (entry_of s.table (flow_to_host h)) h s t × AreUnmoved calls later
  -- Only a packet with the verdict Deliver is delivered to a stream.
  pub delivered : (v ≡ verdict.Deliver → ⊥) → (id : ℕ) → delivered_in (account_of later id) ≡ delivered_in (account_of calls id)

-- A chain of tx is taken, and its header is read: these are the calls, behind those before.
abbrev pub read_of : Chain → List ℕ → List Made → List Made
read_of chain head calls = made (Ring (Read chain 0 HEADER_LEN)) head ∷ made (Ring (Take Tx)) (next.Chain chain) ∷ calls

-- The payload that a chain holds behind its header.
abbrev pub held_in : Chain → ℕ
held_in chain = chain.readable - HEADER_LEN

-- A packet was taken: its chain was taken, its header read, once; what its verdict takes was done, and the chain returned.
pub record IsPacket (v : Verdict) (s t : DeviceState) (calls later : List Made) : Type 0 where
  pub chain : Chain
  pub head : List ℕ
  pub done : List Made
  pub steps : later ≡ made (Ring (Return chain 0)) tt ∷ (done ++ read_of chain head calls)
  pub whole : (header_of head).len ≤ held_in chain
  pub answered : IsAnswered chain (header_of head) v s t done calls later

-- The ring failed: before this, at taking a chain, or by a packet that tells more payload than its chain holds.
pub data Fails (f : Failure) (s : DeviceState) (calls later : List Made) : Type 0 where
  Before : s.failed ≡ Some f → later ≡ calls → Fails f s calls later
  AtTake : later ≡ made (Ring (Take Tx)) (next.Failed f) ∷ calls → Fails f s calls later
  AtLength : (chain : Chain) (head : List ℕ) → held_in chain < (header_of head).len
      → f ≡ failure.PayloadShort (header_of head).len (held_in chain) → later ≡ read_of chain head calls → Fails f s calls later

-- What a device did with the next packet, by what it answered.
abbrev pub IsJudged : Taken → DeviceState → DeviceState → List Made → List Made → Type 0
IsJudged (taken.Packet v) s t calls later = IsPacket v s t calls later
IsJudged taken.None s t calls later = (t ≡ s) × (later ≡ made (Ring (Take Tx)) next.None ∷ calls)
IsJudged (taken.RepliesFull n) s t calls later = (DEVICE_REPLIES ≤ length s.replies) × (t ≡ s) × (later ≡ calls)
IsJudged (taken.Failed f) s t calls later = (t ≡ failing f s) × Fails f s calls later
