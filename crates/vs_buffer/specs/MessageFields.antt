-- How a `MessageFifo` holds its bytes. No public clause cites this module.
use Rattle.std.specs.Prelude.{◌≡◌, if◌then◌else◌, length}
use Rattle.vs_buffer.specs.{Messages.Messages, declared.messages.MessageFifo.TheInside.Inside}

-- the queue that the fields hold
abbrev pub messages_of : Inside → Messages
messages_of f = record { bytes = f.bytes.bytes; marks = f.marks.items; marked = f.marked; capacity = f.bytes.capacity }

-- marks have as much room as bytes, and are as many, or none
pub record IsSound (f : Inside) : Type 0 where
  pub room : f.marks.capacity ≡ f.bytes.capacity
  pub each : length f.marks.items ≡ (if f.marked then length f.bytes.bytes else 0)
