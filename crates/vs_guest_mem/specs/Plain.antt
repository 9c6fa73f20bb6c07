-- What a `PlainMem` shows of its fields.
use Rattle.vs_guest_mem.specs.{Memory.Memory, Memory.IsSound, declared.mem.PlainMem.TheInside.Inside}

abbrev pub memory_of : Inside → Memory
memory_of m = record { base = m.base; bytes = m.bytes.items; accesses = m.accesses; changes = m.changes.items }

abbrev pub HoldsSound : Inside → Type 0
HoldsSound m = IsSound (memory_of m)
