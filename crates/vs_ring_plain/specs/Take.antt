-- What the code that takes a chain shows.
use Rattle.std.specs.Prelude.{ℕ, List, length, Option, None, Some, Result, Ok, Err}
use Rattle.vs_guest_mem.specs.Memory.{Memory}
use Rattle.vs_layout.specs.declared.span.Span.{Span}
use Rattle.vs_ring_plain.specs.{declared.{piece.Piece.Piece, take.PlainQueue.PlainQueue}, Accesses.{Accesses, over}, Chain.{Ring, Taken, NoChain, Chain, Failed}}
use Rattle.vs_ring_port.specs.declared.failure.Failure.{Failure}

-- A queue in a memory.
abbrev pub ring_in : PlainQueue → Memory → Ring
ring_in q m = record { queue = q.queue; n = q.n; areas = q.areas; base = m.base; size = length m.bytes; indirect = q.indirect }

-- The memory as one piece.
abbrev pub whole : Memory → Span
whole m = record { at = m.base; len = length m.bytes }

-- The answer, with the pieces that were found.
abbrev pub taken_of : Result (Option ℕ) Failure → List Piece → Taken
taken_of (Ok None) pieces = NoChain
taken_of (Ok (Some head)) pieces = Chain head pieces
taken_of (Err failure) pieces = Failed failure

-- What comes of reading descriptors to the end of a chain, where `ends` comes then.
abbrev pub comes_to : (List Piece → Accesses Taken) → Result (Unit {0}) Failure → List Piece → Memory → Taken × Memory
comes_to ends (Ok _) pieces m = over (ends pieces) m
comes_to ends (Err failure) pieces m = (Failed failure, m)
