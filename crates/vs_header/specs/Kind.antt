-- The types of sockets and their numbers (Virtio 1.2, section 5.10.6).
use Rattle.std.specs.Prelude.{ℕ, ◌==◌, Option, Some, None, if◌then◌else◌}
use Rattle.vs_header.specs.declared.Kind.{Kind, TheVariants.Stream, TheVariants.Seqpacket}

-- The type of a number.
abbrev pub kind_named : ℕ → Option Kind
kind_named number = if number == 1 then Some Stream else if number == 2 then Some Seqpacket else None

-- The number of a type.
abbrev pub kind_number : Kind → ℕ
kind_number Stream = 1
kind_number Seqpacket = 2
