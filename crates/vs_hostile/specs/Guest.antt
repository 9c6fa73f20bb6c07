-- What a hostile guest does to the memory of the device's rings (Virtio 1.2, section 2.7).
use Rattle.std.specs.Prelude.{ℕ, nat_lt, ◌&&◌, List, [], ◌++◌, length, if◌then◌else◌}
use Rattle.byteorder.specs.Endian.{little_bytes}
use Rattle.vs_guest_mem.specs.Memory.{after_write, bytes_at, is_inside}
use Rattle.vs_header.specs.Packet.{header_bytes}
use Rattle.vs_layout.specs.{Entry.desc_bytes, Layout.avail_entry, Layout.avail_idx, Layout.desc_entry}
use Rattle.vs_ring_plain.specs.Device.{DeviceState, areas_at, with_change, with_memory}
use Rattle.vs_script.specs.{Hostile.{Hostile, Write, WriteDesc, Give, Index, Packet, Before}, Data.bytes_of}

-- Bytes are written at an address. None is where one of them would lie outside the memory, which no script says.
abbrev pub poked : ℕ → List ℕ → DeviceState → DeviceState
poked addr bytes d = if is_inside d.memory addr (length bytes) then with_memory d (after_write d.memory addr bytes) else d

-- They are written before an access to come, 1 being the next. No script names access 0.
abbrev pub planned : ℕ → ℕ → List ℕ → DeviceState → DeviceState
planned nth addr bytes d =
    if nat_lt 0 nth && is_inside d.memory addr (length bytes) then with_memory d (with_change d.memory (record { nth = nth; addr = addr; bytes = bytes })) else d

-- They are written at a place of a queue, where there is one of that number.
abbrev pub poked_at : ℕ → ℕ → List ℕ → DeviceState → DeviceState
poked_at place addr bytes d = if nat_lt place d.size then poked addr bytes d else d

-- What a line of the guest's does: it writes bytes, a descriptor, an entry or the index of an available ring, or a packet. All other
-- lines leave the memory as it is.
abbrev pub guest_writes : Hostile → DeviceState → DeviceState
guest_writes (Write addr bytes) d = poked addr (bytes_of bytes) d
guest_writes (WriteDesc queue number desc) d = poked_at number (desc_entry (areas_at queue d.areas) number).at (desc_bytes desc) d
guest_writes (Give queue place head) d = poked_at place (avail_entry (areas_at queue d.areas) place).at (little_bytes 2 head) d
guest_writes (Index queue value) d = poked (avail_idx (areas_at queue d.areas)).at (little_bytes 2 value) d
guest_writes (Packet addr header bytes) d = poked addr (header_bytes header ++ bytes_of bytes) d
guest_writes (Before nth addr bytes) d = planned nth addr (bytes_of bytes) d
guest_writes _ d = d

-- The bytes of the memory that a line shows. Those that don't all lie in it no script shows.
abbrev pub looked : ℕ → ℕ → DeviceState → List ℕ
looked addr len d = if is_inside d.memory addr len then bytes_at d.memory addr len else []
