use Rattle.laws_history.proofs.Present.{is_present, fair_once}
use Rattle.laws_history.proofs.again.law_of_the_present.Goals as goal

pub returns-clause-fair : goal.returns-clause-fair
returns-clause-fair c = λ side h fair. fair_once side h fair

pub returns-clause-put : goal.returns-clause-put
returns-clause-put c = λ side h fair. (is_present side h fair).put

pub returns-clause-got : goal.returns-clause-got
returns-clause-got c = λ side h fair. (is_present side h fair).got
