-- How standard rings are seen, and what is true of them.
use Rattle.laws_plain_rings.specs.{Calls.ends_by, Exposed.BothEnds, Tie.IsTiedTo}
use Rattle.vs_plain_rings.specs.declared.plain_rings.PlainRings.TheInside.{Inside}

-- Both ends in their memory; and, while all calls so far are known, what these leave in flight and in both logs.
abbrev pub ends_in : Inside → BothEnds
ends_in r = record { parts = r.parts; ends = ends_by r.parts.device.size r.journal.calls }

abbrev pub IsTiedInside : Inside → Type 0
IsTiedInside r = IsTiedTo r.parts (ends_by r.parts.device.size r.journal.calls)
