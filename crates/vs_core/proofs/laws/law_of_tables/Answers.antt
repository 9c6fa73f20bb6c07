use Rattle.std.proofs.Common.{subst}
use Rattle.laws_tables.{specs.Matches.Matches, proofs.Tables.all_open, proofs.Tables.driver_open, proofs.Tables.reset_empty, proofs.Quiet.quiet_on}
use Rattle.vs_page.specs.Log.{Device, Driver, Log}
use Rattle.laws_world.{specs.Events.run, specs.Sides.both_of, specs.World.first_cid, specs.World.opening, proofs.Opening.run_well, proofs.Waiting.at_device}
use Rattle.vs_core.proofs.laws.law_of_tables.Goals as goal

pub returns-clause-driver : goal.returns-clause-driver
returns-clause-driver c = λ how host es f. let b = both_of (run es (opening how host)) in
    driver_open first_cid b.driver.part b.driver.log f ((run_well how host es).sound.matches Driver).flows

pub returns-clause-device : goal.returns-clause-device
returns-clause-device c = λ how host es f. let b = both_of (run es (opening how host)) in
    all_open Device first_cid b.device.part b.device.log f ((run_well how host es).sound.matches Device).flows

pub returns-clause-streams : goal.returns-clause-streams
returns-clause-streams c = λ how host es f fresh. at_device (run es (opening how host)) (run_well how host es) fresh f

pub returns-clause-driver_reset : goal.returns-clause-driver_reset
returns-clause-driver_reset c = λ how host es cid older is. let b = both_of (run es (opening how host)) in
    reset_empty Driver first_cid cid b.driver.part older
    (subst (λ (l : Log). Matches Driver first_cid b.driver.part l) is ((run_well how host es).sound.matches Driver)).flows

pub returns-clause-device_reset : goal.returns-clause-device_reset
returns-clause-device_reset c = λ how host es cid older is. let b = both_of (run es (opening how host)) in
    reset_empty Device first_cid cid b.device.part older
    (subst (λ (l : Log). Matches Device first_cid b.device.part l) is ((run_well how host es).sound.matches Device)).flows

pub returns-clause-kept : goal.returns-clause-kept
returns-clause-kept c = λ how host es role f. quiet_on first_cid role f (both_of (run es (opening how host))) (run_well how host es).sound
