-- Descriptors and used elements as bytes (Virtio 1.2, sections 2.7.5 and 2.7.8).
use Rattle.std.specs.Prelude.{ℕ, List, ◌++◌}
use Rattle.byteorder.specs.Endian.{little_bytes}
use Rattle.vs_header.specs.Packet.{field_at}
use Rattle.vs_layout.specs.declared.entry.{Desc.Desc, UsedElem.UsedElem}

-- addr 8 bytes, len 4, flags 2, next 2
abbrev pub desc_bytes : Desc → List ℕ
desc_bytes d = little_bytes 8 d.addr ++ little_bytes 4 d.len ++ little_bytes 2 d.flags ++ little_bytes 2 d.next

-- The descriptor that 16 bytes hold.
abbrev pub desc_of : List ℕ → Desc
desc_of bytes = record {
  addr = field_at 0 8 bytes;
  len = field_at 8 4 bytes;
  flags = field_at 12 2 bytes;
  next = field_at 14 2 bytes;
}

-- id 4 bytes, len 4
abbrev pub used_elem_bytes : UsedElem → List ℕ
used_elem_bytes e = little_bytes 4 e.id ++ little_bytes 4 e.len

-- The element that 8 bytes hold.
abbrev pub used_elem_of : List ℕ → UsedElem
used_elem_of bytes = record { id = field_at 0 4 bytes; len = field_at 4 4 bytes }
