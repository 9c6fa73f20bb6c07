use Rattle.std.proofs.Common.{refl}
use Rattle.laws_device.proofs.laws.worked_waiting.Goals as goal

pub returns-clause-waits : goal.returns-clause-waits
returns-clause-waits c = refl

pub returns-clause-asked : goal.returns-clause-asked
returns-clause-asked c = refl

pub returns-clause-closed : goal.returns-clause-closed
returns-clause-closed c = refl
