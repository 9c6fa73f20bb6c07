use Rattle.laws_world.{specs.{World.{Beginning, opening}, Events.{Event, run}}, proofs.Opening.run_well}
use Rattle.std.specs.Prelude.{List}
use Rattle.vs_outside.specs.Host.{HostContents}
use Rattle.vs_page.{specs.Log.{Device, Driver}, proofs.PayloadLogs.prefix}
use Rattle.vs_ring_list.{specs.Sound.IsTied, proofs.Ties.{device_got, driver_got}}
use Rattle.vs_core.proofs.laws.law_of_queues.Goals as goal

tied : (how : Beginning) (host : HostContents) (es : List Event) → let r = (run es (opening how host)).rings in
    IsTied r.lists r.driver.entries r.device.entries
tied how host es = (run_well how host es).tied

pub returns-clause-tied : goal.returns-clause-tied
returns-clause-tied c = tied

pub returns-clause-driver_got : goal.returns-clause-driver_got
returns-clause-driver_got c = λ how host es. driver_got _ _ _ (tied how host es)

pub returns-clause-device_got : goal.returns-clause-device_got
returns-clause-device_got c = λ how host es. device_got _ _ _ (tied how host es)

pub returns-clause-payload_to_guest : goal.returns-clause-payload_to_guest
returns-clause-payload_to_guest c = λ how host es k. prefix Driver _ _ k (driver_got _ _ _ (tied how host es))

pub returns-clause-payload_to_host : goal.returns-clause-payload_to_host
returns-clause-payload_to_host c = λ how host es k. prefix Device _ _ k (device_got _ _ _ (tied how host es))
