use Rattle.laws_plain_rings.proofs.Played.{device_played, device_same, driver_played, driver_same}
use Rattle.laws_plain_rings.proofs.laws.law_of_conversations.Goals as goal

pub returns-clause-driver : goal.returns-clause-driver
returns-clause-driver g c = driver_played

pub returns-clause-device : goal.returns-clause-device
returns-clause-device g c = device_played

pub returns-clause-same_driver : goal.returns-clause-same_driver
returns-clause-same_driver g c = driver_same

pub returns-clause-same_device : goal.returns-clause-same_device
returns-clause-same_device g c = device_same
