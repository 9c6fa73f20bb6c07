-- The event record of the socket device: one le32, the id of the event (Virtio 1.2, section 5.10.6.7).
use Rattle.std.specs.Prelude.{ℕ, List}
use Rattle.byteorder.specs.Endian.{little_bytes, little_number}
use Rattle.vs_event.specs.declared.TheConstants.{EVENT_LEN}

-- The record of an event.
abbrev pub event_record : ℕ → List ℕ
event_record id = little_bytes EVENT_LEN id

-- The id that a record tells.
abbrev pub event_id : List ℕ → ℕ
event_id bytes = little_number EVENT_LEN bytes
