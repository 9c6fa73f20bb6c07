use Rattle.vs_page.specs.Log.{Device, Driver}
use Rattle.laws_world.proofs.Opening.{run_well}
use Rattle.vs_core.proofs.laws.law_of_logs.Goals as goal

pub returns-clause-driver : goal.returns-clause-driver
returns-clause-driver c = λ how host es. (run_well how host es).sound.matches Driver

pub returns-clause-device : goal.returns-clause-device
returns-clause-device c = λ how host es. (run_well how host es).sound.matches Device

pub returns-clause-driver_fair : goal.returns-clause-driver_fair
returns-clause-driver_fair c = λ how host es. (run_well how host es).sound.fair Driver

pub returns-clause-device_fair : goal.returns-clause-device_fair
returns-clause-device_fair c = λ how host es. (run_well how host es).sound.fair Device
