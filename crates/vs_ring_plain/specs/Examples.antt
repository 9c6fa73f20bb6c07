-- Worked examples of taking a chain: a queue of 8 places in 65,536 bytes of memory from 4096 on, and the values read.
use Rattle.std.specs.Prelude.{ℕ, Bool, true, false, List, ◌∷◌, Option}
use Rattle.byteorder.specs.Endian.{little_bytes}
use Rattle.vs_layout.specs.{Entry.desc_bytes, Layout.areas_of}
use Rattle.vs_ring_plain.specs.{Accesses.with_values, Chain.Ring, Chain.Taken, Chain.taking}
use Rattle.vs_ring_port.specs.declared.queue.Queue.{Queue}

abbrev pub ring : Queue → Bool → Ring
ring queue indirect = record { queue = queue; n = 8; areas = areas_of 4096 8; base = 4096; size = 65536; indirect = indirect }

abbrev pub word : ℕ → List ℕ
word x = little_bytes 2 x

abbrev pub desc : ℕ → ℕ → ℕ → ℕ → List ℕ
desc addr len flags next = desc_bytes record { addr = addr; len = len; flags = flags; next = next }

-- What comes of one chain given in a queue from which none was taken, whose first descriptor is 0, where these descriptors are read.
abbrev pub first_chain : Queue → List (List ℕ) → Option Taken
first_chain queue descriptors = with_values (taking (ring queue false) 0) (word 1 ∷ word 0 ∷ descriptors)

-- The same where indirect descriptors were agreed on.
abbrev pub first_chain_indirect : Queue → List (List ℕ) → Option Taken
first_chain_indirect queue descriptors = with_values (taking (ring queue true) 0) (word 1 ∷ word 0 ∷ descriptors)
