-- The path at which a port of the host is listened on (Firecracker's vsock documentation).
use Rattle.std.specs.Prelude.{ℕ, List, ◌++◌, codes, decimal}

-- The base path, `_`, and the port in decimal without leading zeros.
abbrev pub path_of : List ℕ → ℕ → List ℕ
path_of base port = base ++ codes "_" ++ decimal port
