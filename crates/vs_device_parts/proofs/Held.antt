-- A chain stays held.
use Rattle.std.proofs.Common.{◌≡◌, List, Contains, sym, subst}
use Rattle.vs_ring_port.specs.declared.device_ring.Chain.{Chain}

pub still_held : (held held' : List Chain) (chain : Chain) → held' ≡ held → Contains held chain → Contains held' chain
still_held held held' chain same has = let P : List Chain → Type 0 = λ cs. Contains cs chain in subst P (sym same) has
