use Rattle.laws_history.proofs.Fair.{fair_opens, sound}
use Rattle.laws_history.proofs.laws.laws_of_fairness.Goals as goal

pub returns-clause-opening : goal.returns-clause-opening
returns-clause-opening c = fair_opens

pub returns-clause-forwarded : goal.returns-clause-forwarded
returns-clause-forwarded c = λ side h fair. (sound side h fair).out.forwarded
