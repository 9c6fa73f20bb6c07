-- The bounds of a play's numbers.
use Rattle.std.specs.Prelude.{◌≤◌, List, [], ◌∷◌}
use Rattle.vs_limits.specs.declared.TheConstants.{GUEST_CID_MIN, GUEST_CID_MAX}
use Rattle.vs_script.specs.Play.{Event}
use Rattle.vs_script.specs.Outside as outside
use Rattle.vs_script.specs.Play as script

-- A port has 32 bits, a receive asks for 1 to 65,536 bytes, the bits of a shutdown are 1 to 3, and a CID is one that a guest may have.
abbrev pub IsBounded : Event → Type 0
IsBounded (script.Connect port) = port ≤ 4294967295
IsBounded (script.Recv id len) = (1 ≤ len) × (len ≤ 65536)
IsBounded (script.Shutdown id bits) = (1 ≤ bits) × (bits ≤ 3)
IsBounded (script.Around (outside.Reset cid)) = (GUEST_CID_MIN ≤ cid) × (cid ≤ GUEST_CID_MAX)
IsBounded _ = Unit {0}

-- Each line's are.
abbrev pub AreBounded : List Event → Type 0
AreBounded [] = Unit {0}
AreBounded (e ∷ es) = IsBounded e × AreBounded es
