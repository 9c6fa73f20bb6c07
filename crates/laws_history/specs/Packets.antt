-- What the packets of one connection in one direction say. Lists of packets run newest first.
use Rattle.std.specs.Prelude.{◌≡◌, ℕ, ◌+◌, ◌<◌, ◌/◌, ◌%◌, ◌^◌, ◌==◌, Bool, true, false, ◌&&◌, ◌||◌, if◌then◌else◌, not, is_some, List, [], ◌∷◌, ◌++◌, length}
use Rattle.vs_header.specs.{Kind.{kind_named, kind_number}, Packet.header_bytes, Op.op_number, declared.Op.{Op, TheVariants.{Request, Response, Rst, Shutdown, Rw}}}
use Rattle.vs_header.specs.declared.{TheConstants.{CLEAN, END_OF_MESSAGE}, Kind.TheVariants.Seqpacket}
use Rattle.laws_history.specs.declared.packet.Packet.{Packet}
use Rattle.vs_wrap.specs.Wrap.{unwrap32}

-- The packet has this operation.
abbrev pub has_op : Op → Packet → Bool
has_op o p = p.header.op == op_number o

abbrev pub is_request : Packet → Bool
is_request p = has_op Request p

abbrev pub is_response : Packet → Bool
is_response p = has_op Response p

abbrev pub is_rst : Packet → Bool
is_rst p = has_op Rst p

abbrev pub is_rw : Packet → Bool
is_rw p = has_op Rw p

-- Bit 0 of SHUTDOWN's flags: its sender will receive no more. Bit 1: it will send no more (Virtio 1.2, section 5.10.6.5).
abbrev pub flags_receive : ℕ → Bool
flags_receive flags = flags % 2 == 1

abbrev pub flags_send : ℕ → Bool
flags_send flags = flags / 2 % 2 == 1

abbrev pub shuts_receive : Packet → Bool
shuts_receive p = has_op Shutdown p && flags_receive p.header.flags

abbrev pub shuts_send : Packet → Bool
shuts_send p = has_op Shutdown p && flags_send p.header.flags

-- An RST with both shutdown flags: the mark of a connection that ended cleanly, after which its pair of ports may be used again.
abbrev pub is_clean_rst : Packet → Bool
is_clean_rst p = is_rst p && (p.header.flags == CLEAN)

-- An RW of a seqpacket socket is a piece of a message. One flag ends the message.
abbrev pub is_piece : Packet → Bool
is_piece p = is_rw p && (p.header.kind == kind_number Seqpacket)

abbrev pub flags_end : ℕ → Bool
flags_end flags = flags / END_OF_MESSAGE % 2 == 1

abbrev pub ends_message : Packet → Bool
ends_message p = is_piece p && flags_end p.header.flags

-- A packet of this kind is among them.
abbrev pub has : (Packet → Bool) → List Packet → Bool
has test [] = false
has test (p ∷ ps) = test p || has test ps

-- Bytes of payload of a packet, and of all packets.
abbrev pub size : Packet → ℕ
size p = length p.payload

abbrev pub bytes : List Packet → ℕ
bytes [] = 0
bytes (p ∷ ps) = size p + bytes ps

-- Bytes of the message that isn't whole yet.
abbrev pub message_of : List Packet → ℕ
message_of [] = 0
message_of (p ∷ ps) = if is_piece p then (if flags_end p.header.flags then 0 else message_of ps + size p) else message_of ps

-- The plain number of bytes that the newest packet says its sender forwarded, RST aside: the least number, from the one before on, that
-- its fwd_cnt shows. It is 0 where there is none.
abbrev pub told_forwarded : List Packet → ℕ
told_forwarded [] = 0
told_forwarded (p ∷ ps) = if is_rst p then told_forwarded ps else unwrap32 (told_forwarded ps) p.header.fwd_cnt

-- What a packet says was forwarded, by the packets before it.
abbrev pub forwarded_by : List Packet → Packet → ℕ
forwarded_by before p = unwrap32 (told_forwarded before) p.header.fwd_cnt

-- The buffer space that the newest packet tells, RST aside; 0 where there is none.
abbrev pub told_alloc : List Packet → ℕ
told_alloc [] = 0
told_alloc (p ∷ ps) = if is_rst p then told_alloc ps else p.header.buf_alloc

-- The credit that the sender of these packets gives: bytes of payload that it has room for, counted from the connection's first.
abbrev pub allowance : List Packet → ℕ
allowance ps = told_forwarded ps + told_alloc ps

-- Both SHUTDOWN bits are told by these.
abbrev pub has_both : List Packet → Bool
has_both ps = has shuts_receive ps && has shuts_send ps

-- One of these tells credit: all but RST do.
abbrev pub tells : Packet → Bool
tells p = not (is_rst p)

-- The type of the oldest REQUEST; 0 where there is none.
abbrev pub asked_kind : List Packet → ℕ
asked_kind [] = 0
asked_kind (p ∷ ps) = if has is_request ps then asked_kind ps else if is_request p then p.header.kind else 0

-- A packet of a known type of socket: its len is that of its payload, and only an RW has any.
pub record IsFormed (p : Packet) : Type 0 where
  pub kind : is_some (kind_named p.header.kind) ≡ true
  pub len : p.header.len ≡ size p
  pub payload : is_rw p ≡ false → p.payload ≡ []
  pub fwd_cnt : p.header.fwd_cnt < 2 ^ 32

-- The bytes of a packet.
abbrev pub packet_bytes : Packet → List ℕ
packet_bytes p = header_bytes p.header ++ p.payload
