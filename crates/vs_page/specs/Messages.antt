-- The messages of seqpacket sockets, by the packets of one connection in one direction, which run newest first.
use Rattle.std.specs.Prelude.{◌≡◌, ℕ, ◌+◌, ◌/◌, ◌%◌, ◌^◌, ◌==◌, Bool, true, false, ◌&&◌, not, if◌then◌else◌, List, [], ◌∷◌, ◌++◌, length}
use Rattle.byteorder.specs.Endian.{little_bytes}
use Rattle.vs_flow.specs.Connection.{Connection}
use Rattle.vs_header.specs.declared.{Kind.Kind, Kind.TheVariants.Seqpacket, Kind.TheVariants.Stream, TheConstants.END_OF_RECORD}
use Rattle.laws_history.specs.{Packets.bytes, Packets.ends_message, declared.packet.Packet.Packet}
use Rattle.vs_page.specs.{Fair.got_of, Fair.payload_of, Fair.put_of, Log.Log, Log.Role}

-- A packet that ends a message ends a record by another flag.
abbrev pub ends_record : Packet → Bool
ends_record p = ends_message p && (p.header.flags / END_OF_RECORD % 2 == 1)

abbrev pub is_nothing : List ℕ → Bool
is_nothing [] = true
is_nothing (byte ∷ more) = false

-- The bytes of the message that isn't whole yet. A stream has no messages.
abbrev pub unfinished : Kind → List Packet → List ℕ
unfinished Stream ps = []
unfinished Seqpacket [] = []
unfinished Seqpacket (p ∷ ps) = if ends_message p then [] else unfinished Seqpacket ps ++ p.payload

-- The end of a message stands behind so many bytes of the connection's payload, and ends a record or not.
pub record MessageEnd : Type 0 where
  pub at : ℕ
  pub is_record : Bool

-- The ends of the messages of these packets, oldest first. An end after no byte of a message ends none.
abbrev pub ends_of : List Packet → List MessageEnd
ends_of [] = []
ends_of (p ∷ ps) =
    if ends_message p && not (is_nothing (unfinished Seqpacket ps ++ p.payload)) then
    ends_of ps ++ record { at = bytes (p ∷ ps); is_record = ends_record p } ∷ []
    else ends_of ps

-- Those that an end put, and got, on a connection.
abbrev pub ends_put : Role → Connection → Log → List MessageEnd
ends_put role c log = ends_of (put_of role c log)

abbrev pub ends_got : Role → Connection → Log → List MessageEnd
ends_got role c log = ends_of (got_of role c log)

-- Ends that begin by these.
abbrev pub AreFirstOf : List MessageEnd → List MessageEnd → Type 0
AreFirstOf front whole = (more : List MessageEnd) × (whole ≡ front ++ more)

-- A message as the host's stream has it: a frame, whose head of four bytes tells the length, and in its highest bit the end of a record.
abbrev pub frame : Bool → List ℕ → List ℕ
frame is_record [] = []
frame is_record (byte ∷ more) =
    let len = length (byte ∷ more) in little_bytes 4 (if is_record then 2 ^ 31 + len else len) ++ byte ∷ more

-- What one more packet adds to the host's stream after these bytes of a message: its payload; or the frame of the message that it ends.
abbrev pub whole_by : Kind → List ℕ → Packet → List ℕ
whole_by Stream rest p = p.payload
whole_by Seqpacket rest p = if ends_message p then frame (ends_record p) (rest ++ p.payload) else []

-- What packets are as bytes of the host's stream.
abbrev pub form : Kind → List Packet → List ℕ
form Stream ps = payload_of ps
form Seqpacket [] = []
form Seqpacket (p ∷ ps) = form Seqpacket ps ++ whole_by Seqpacket (unfinished Seqpacket ps) p
