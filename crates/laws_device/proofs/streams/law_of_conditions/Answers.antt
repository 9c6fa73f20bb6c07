use Rattle.laws_device.proofs.Named.Conditions.{may_where}
use Rattle.laws_device.proofs.streams.law_of_conditions.Goals as goal

pub returns : goal.returns
returns g c = record { apart = may_where }
