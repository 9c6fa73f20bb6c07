use Rattle.vs_script.proofs.Bounded.{all_bounded}
use Rattle.laws_play.proofs.laws.law_of_bounds.Goals as goal

pub returns : goal.returns
returns c = λ text lines is. all_bounded text lines is
