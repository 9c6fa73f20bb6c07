use Rattle.laws_run.proofs.Endings.{all_right}
use Rattle.laws_run.proofs.laws.law_of_endings.Goals as goal

pub returns : goal.returns
returns c = all_right
