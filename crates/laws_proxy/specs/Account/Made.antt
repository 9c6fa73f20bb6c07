-- The calls that a proxy made on its ring and on its host with the answers that it got, newest first; and what they say of each stream
-- of the host: the account of that stream.
use Rattle.std.specs.Prelude.{◌≡◌, ℕ, ◌≤◌, ◌==◌, ◌&&◌, not, Bool, true, false, if◌then◌else◌, List, [], ◌∷◌, ◌++◌, length, take, drop, bytes_eq, Option, Some, None}
use Rattle.std.specs.Option.{option_map, option_map_or}
use Rattle.byteorder.specs.Endian.{little_bytes}
use Rattle.vs_flow.specs.{Flow.same_flow, declared.flow.Flow.Flow}
use Rattle.vs_header.specs.{Op.op_number, Packet.header_of, declared.{Header.Header, TheConstants.HEADER_LEN, Op.TheVariants.Rw}}
use Rattle.vs_page.specs.Log.{flow_to_host}
use Rattle.vs_ring_port.specs.Contents.{Read, Write, PublishCid}
use Rattle.vs_device_parts.specs.Calls.{Call, Answer, Ring, Accept, Dial, Label, ReadStream, WriteStream, CloseStream}
use Rattle.vs_outside.specs.declared.host_net.Accepted.TheVariants as accepted
use Rattle.vs_outside.specs.declared.host_net.Dialed.TheVariants as dialed
use Rattle.vs_outside.specs.declared.host_net.StreamRead.TheVariants as read
use Rattle.vs_outside.specs.declared.host_net.StreamWrite.TheVariants as write

pub record Made : Type 0 where
  pub call : Call
  pub answer : Answer call

abbrev pub made : (call : Call) → Answer call → Made
made call answer = record { call = call; answer = answer }

-- Of one stream: the flow that it is labelled with, whether a client of the host made it, whether the proxy closed it or the transport
-- was reset; the bytes that it was given, and the payloads delivered on its connection; the bytes that were taken of it before it had a
-- label, which are its client's line, and since.
pub record Account : Type 0 where
  pub label : Option Flow
  pub by_client : Bool
  pub closed : Bool
  pub given : List ℕ
  pub delivered : List ℕ
  pub line : List ℕ
  pub taken : List ℕ

-- A stream that an accept gave, and one that a dial gave.
abbrev pub new_account : Option Flow → Bool → Account
new_account label by_client = record {
  label = label;
  by_client = by_client;
  closed = false;
  given = [];
  delivered = [];
  line = [];
  taken = [];
}

abbrev pub labelled : Flow → Account → Account
labelled flow a = record a { label = Some flow }

abbrev pub shut : Account → Account
shut a = record a { closed = true }

abbrev pub with_given : List ℕ → Account → Account
with_given bytes a = record a { given = a.given ++ bytes }

abbrev pub took : Option Flow → List ℕ → Account → Account
took None bytes a = record a { line = a.line ++ bytes }
took (Some flow) bytes a = record a { taken = a.taken ++ bytes }

abbrev pub with_taken : List ℕ → Account → Account
with_taken bytes a = took a.label bytes a

-- A connection of a flow is one of the stream that has it as its label, until that stream is closed or the transport reset.
abbrev pub is_on : Flow → Account → Bool
is_on flow a = not a.closed && option_map_or (same_flow flow) a.label false

abbrev pub with_delivery : Flow → List ℕ → Account → Account
with_delivery flow payload a = if is_on flow a then record a { delivered = a.delivered ++ payload } else a

-- The header of the last packet that was got of the guest: the bytes read at place 0 of its chain. Its payload stands behind these 44.
abbrev pub header_read : (call : Call) → Answer call → Option Header → Option Header
header_read (Ring (Read chain place n)) bytes before = if place == 0 then Some (header_of bytes) else before
header_read call answer before = before

abbrev pub header_in : List Made → Option Header
header_in [] = None
header_in (m ∷ calls) = header_read m.call m.answer (header_in calls)

-- The payload of a packet with this header is read: as many bytes as it says.
abbrev pub delivering : Option Header → ℕ → List ℕ → Account → Account
delivering None n payload a = a
delivering (Some h) n payload a = if n == h.len then with_delivery (flow_to_host h) payload a else a

-- What one more call says of the stream of an id, where the packet got last has this header. There is no account before an accept or a
-- dial gave the stream.
abbrev pub accounted : (call : Call) → Answer call → Option Header → ℕ → Option Account → Option Account
accounted Accept (accepted.Stream stream) h id a = if stream == id then Some (new_account None true) else a
accounted (Dial path flow) (dialed.Stream stream) h id a = if stream == id then Some (new_account (Some flow) false) else a
accounted (Label stream flow) answer h id a = if stream == id then option_map (labelled flow) a else a
accounted (ReadStream stream n) (read.Got k, bytes) h id a = if stream == id then option_map (with_taken bytes) a else a
accounted (WriteStream stream bytes) (write.Took n) h id a = if stream == id then option_map (with_given (take n bytes)) a else a
accounted (CloseStream stream) answer h id a = if stream == id then option_map shut a else a
accounted (Ring (PublishCid cid)) answer h id a = option_map shut a
accounted (Ring (Read chain place n)) payload h id a = if place == HEADER_LEN then option_map (delivering h n payload) a else a
accounted call answer h id a = a

abbrev pub account_of : List Made → ℕ → Option Account
account_of [] id = None
account_of (m ∷ calls) id = accounted m.call m.answer (header_in calls) id (account_of calls id)

-- The ports of a flow in a header's bytes, in a packet to the guest: that of the host and that of the guest, at place 16 of 44.
abbrev pub ports_of : Flow → List ℕ
ports_of flow = little_bytes 4 flow.host ++ little_bytes 4 flow.guest

-- These are the bytes of a header of RW on a flow. The operation stands at place 30.
abbrev pub is_for : Flow → List ℕ → Bool
is_for flow head =
    bytes_eq (little_bytes 2 (op_number Rw)) (take 2 (drop 30 head)) && bytes_eq (ports_of flow) (take 8 (drop 16 head))

-- The bytes of the header of the last packet that was put: those written at place 0 of its chain. Its payload is written behind these 44.
abbrev pub header_written : (call : Call) → List ℕ → List ℕ
header_written (Ring (Write chain place bytes)) before = if place == 0 then bytes else before
header_written call before = before

abbrev pub header_put : List Made → List ℕ
header_put [] = []
header_put (m ∷ calls) = header_written m.call (header_put calls)

-- The payload put on a flow so far, in packets of RW, where a payload is written behind this header.
abbrev pub putting : (call : Call) → List ℕ → Flow → List ℕ → List ℕ
putting (Ring (Write chain place bytes)) head flow before =
    if place == HEADER_LEN then (if is_for flow head then before ++ bytes else before) else before
putting call head flow before = before

abbrev pub payload_put : List Made → Flow → List ℕ
payload_put [] flow = []
payload_put (m ∷ calls) flow = putting m.call (header_put calls) flow (payload_put calls flow)

-- What was taken so far of the streams of a flow, where a stream has this account.
abbrev pub is_of : Flow → Option Account → Bool
is_of flow a = option_map_or (λ a. option_map_or (λ label. bytes_eq (ports_of flow) (ports_of label)) a.label false) a false

abbrev pub taking : (call : Call) → Answer call → (ℕ → Option Account) → Flow → List ℕ → List ℕ
taking (ReadStream stream n) (read.Got k, bytes) at flow before = if is_of flow (at stream) then before ++ bytes else before
taking call answer at flow before = before

abbrev pub payload_taken : List Made → Flow → List ℕ
payload_taken [] flow = []
payload_taken (m ∷ calls) flow = taking m.call m.answer (account_of calls) flow (payload_taken calls flow)

-- A ring may answer as it likes, and so may a host, but that no stream comes twice, and none gives more bytes than there is room
-- for, or takes more than it is given.
abbrev pub MayGet : (call : Call) → Answer call → List Made → Type 0
MayGet Accept (accepted.Stream stream) calls = account_of calls stream ≡ None
MayGet (Dial path flow) (dialed.Stream stream) calls = account_of calls stream ≡ None
MayGet (ReadStream stream n) (read.Got k, bytes) calls = length bytes ≤ n
MayGet (WriteStream stream bytes) (write.Took n) calls = n ≤ length bytes
MayGet call answer calls = Unit {0}

-- One call more was made.
abbrev pub Makes : (call : Call) → Answer call → List Made → List Made → Type 0
Makes call answer calls later = MayGet call answer calls × (later ≡ made call answer ∷ calls)
