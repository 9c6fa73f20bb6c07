-- The sides of shared rings as others see them.
use Rattle.vs_ring_shared.specs.{Countings.{CountsDevice, CountsDriver}, DeviceStates.IsDevice, DriverStates.IsDriver, Holdings.all_held, Sights.{DeviceSight, Sight, sight_of}}
use Rattle.vs_ring_shared.specs.declared.device_side.DeviceSide as device
use Rattle.vs_ring_shared.specs.declared.driver_side.DriverSide as driver

abbrev pub driver_sight : driver.TheInside.Inside → Sight
driver_sight d = sight_of d.port.token.table_id d.port.size d.port.token.me.0

abbrev pub IsDriverSide : driver.TheInside.Inside → Type 0
IsDriverSide d =
    IsDriver d.port.size d.port.token.me d.rx d.tx d.event × CountsDriver d.port.token.me.0.log d.port.token.me.0.tx.staged d.counters

abbrev pub device_sight : device.TheInside.Inside → DeviceSight
device_sight d = record { sight = sight_of d.port.token.table_id d.port.size d.port.token.me.0; held = all_held d.held.pages }

abbrev pub IsDeviceSide : device.TheInside.Inside → Type 0
IsDeviceSide d = IsDevice d.port.size d.port.token.me d.rx d.tx d.event d.held × CountsDevice d.port.token.me.0.log d.counters
