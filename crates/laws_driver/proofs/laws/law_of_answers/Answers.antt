use Rattle.laws_driver.proofs.Shown.{any_ring, other_stays}
use Rattle.laws_driver.proofs.laws.law_of_answers.Goals as goal

pub returns-clause-answers : goal.returns-clause-answers
returns-clause-answers g c = any_ring

pub returns-clause-other : goal.returns-clause-other
returns-clause-other g c = other_stays
