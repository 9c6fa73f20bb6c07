-- A REQUEST that is dropped, since the guest speaks under another CID than the device's; and a connection of the guest's that is answered,
-- is over cleanly, and whose flow is used again.
use Rattle.std.specs.Prelude.{List, [], ◌∷◌, ◌++◌, true}
use Rattle.vs_header.specs.declared.Kind.TheVariants.{Stream}
use Rattle.vs_limits.specs.declared.TheConstants.{ASSIGNED_FIRST}
use Rattle.vs_page.specs.Log.{Device, Driver}
use Rattle.laws_tables.specs.{Both.{Both, Happening, Opens, Takes, TakesReset, run, start}, Examples.{closing, guest_cid, guest_flow, new_cid, opening}, Steps.request_on}

abbrev pub losing : List Happening
losing =
    record { role = Driver; step = TakesReset new_cid }
    ∷ record { role = Driver; step = Opens guest_flow Stream }
    ∷ record { role = Device; step = Takes (request_on Driver new_cid guest_flow Stream) true }
    ∷ []

abbrev pub fresh : Both
fresh = start guest_cid 1024 ASSIGNED_FIRST

abbrev pub lost : Both
lost = run losing fresh

abbrev pub opened_twice : List Happening
opened_twice = opening ++ closing ++ opening

abbrev pub resting : Both
resting = run opened_twice fresh
