use Rattle.laws_settled.proofs.Resting.{settled}
use Rattle.laws_settled.proofs.laws.law_of_settled.Goals as goal

pub returns : goal.returns
returns c = settled
