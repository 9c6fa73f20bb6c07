-- Packets of the socket device: the header's ten fields and 44 bytes, and the payload after them
-- (Virtio 1.2, section 5.10.6).
use Rattle.std.specs.Prelude.{ℕ, List, ◌++◌, drop}
use Rattle.byteorder.specs.Endian.{little_bytes, little_number}
use Rattle.vs_header.specs.declared.Header.{Header}

-- The 44 bytes of a header: each field little-endian, in the order of the standard.
abbrev pub header_bytes : Header → List ℕ
header_bytes h =
    little_bytes 8 h.src_cid ++ little_bytes 8 h.dst_cid ++ little_bytes 4 h.src_port ++ little_bytes 4 h.dst_port
    ++ little_bytes 4 h.len ++ little_bytes 2 h.kind ++ little_bytes 2 h.op ++ little_bytes 4 h.flags
    ++ little_bytes 4 h.buf_alloc ++ little_bytes 4 h.fwd_cnt

-- The number in the n bytes at a place.
abbrev pub field_at : ℕ → ℕ → List ℕ → ℕ
field_at place n bytes = little_number n (drop place bytes)

-- The header that 44 bytes hold.
abbrev pub header_of : List ℕ → Header
header_of bytes = record {
  src_cid = field_at 0 8 bytes;
  dst_cid = field_at 8 8 bytes;
  src_port = field_at 16 4 bytes;
  dst_port = field_at 20 4 bytes;
  len = field_at 24 4 bytes;
  kind = field_at 28 2 bytes;
  op = field_at 30 2 bytes;
  flags = field_at 32 4 bytes;
  buf_alloc = field_at 36 4 bytes;
  fwd_cnt = field_at 40 4 bytes;
}

-- A packet: its header, and the bytes after it.
pub record Packet : Type 0 where
  pub header : Header
  pub payload : List ℕ

abbrev pub packet_bytes : Packet → List ℕ
packet_bytes p = header_bytes p.header ++ p.payload
