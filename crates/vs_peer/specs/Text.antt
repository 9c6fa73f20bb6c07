-- The lines that a client writes, each with its LF.
use Rattle.std.specs.Prelude.{ℕ, List, ◌++◌, codes, decimal, Option, Result, Ok, Err}
use Rattle.vs_peer.specs.{Pieces.Emits, Pieces.EmitsSome, declared.stop.Stop.Stop}
use Rattle.vs_peer.specs.declared.stop.Stop.TheVariants as stop

-- the host's port of the connection
abbrev pub port_text : ℕ → List ℕ
port_text port = codes "port " ++ decimal port ++ codes "\n"

-- for how many steps in a row nothing moved
abbrev pub waited_text : ℕ → List ℕ
waited_text steps = codes "waited " ++ decimal steps ++ codes "\n"

abbrev pub too_long_text : List ℕ
too_long_text = codes "line 0 TooLong\n"

abbrev pub read_fault_text : List ℕ
read_fault_text = codes "read fault\n"

abbrev pub host_fault_text : List ℕ
host_fault_text = codes "host fault\n"

abbrev pub refused_text : List ℕ
refused_text = codes "peer refused\n"

abbrev pub no_memory_text : List ℕ
no_memory_text = codes "no memory\n"

-- The line that tells the host's port went to the sink; or a call of the sink failed, and less went.
abbrev pub GivesPort : Option (List ℕ) → Option (List ℕ) → ℕ → Result (Unit {0}) Stop → Type 0
GivesPort old new port (Ok u) = Emits old new (port_text port)
GivesPort old new port (Err stop.Sink) = EmitsSome old new (port_text port)
GivesPort old new port (Err e) = ⊥
