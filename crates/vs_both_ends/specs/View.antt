-- How standard rings are seen that nobody else changes.
use Rattle.std.specs.Prelude.{◌≡◌, Option, None, Some}
use Rattle.vs_ring_list.specs.Ends.{Ends, empty_ends}
use Rattle.vs_both_ends.specs.declared.standard_rings.StandardRings.TheInside.{Inside}

-- The ends, where they are known.
abbrev pub known : Option Ends → Ends
known None = empty_ends 0
known (Some w) = w

abbrev pub ends_in : Inside → Ends
ends_in r = known r.rings.ends

abbrev pub AreKnown : Inside → Type 0
AreKnown r = r.rings.ends ≡ Some (ends_in r)
