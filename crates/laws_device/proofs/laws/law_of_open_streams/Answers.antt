use Rattle.laws_device.proofs.Waiting.{tabled_with}
use Rattle.laws_device.proofs.laws.law_of_open_streams.Goals as goal

pub returns : goal.returns
returns c = record { table = tabled_with }
