use Rattle.std.proofs.Common.{sym, subst}
use Rattle.laws_proxy.specs.Resets.{IsEmptied}
use Rattle.laws_world.specs.{Events.is_guest_cid, Events.reset_made, Events.run, World.World, World.opening}
use Rattle.laws_world.proofs.{GuestLines.possible_is, Opening.run_well, ResetTables.device_emptied, ResetTables.driver_emptied}
use Rattle.vs_core.proofs.resets.law_of_emptied_tables.Goals as goal

pub returns-clause-device : goal.returns-clause-device
returns-clause-device c = λ cid w right fine.
    subst (λ (v : World). IsEmptied v.proxy) (sym (possible_is (is_guest_cid cid) (reset_made cid) w right)) (device_emptied cid w fine)

pub returns-clause-driver : goal.returns-clause-driver
returns-clause-driver c = λ how host es page. driver_emptied (run es (opening how host)) (run_well how host es) page
