use Rattle.laws_apps.proofs.Parsing.{read_right}
use Rattle.laws_apps.proofs.laws.law_of_scripts.Goals as goal

pub returns : goal.returns
returns c = read_right
