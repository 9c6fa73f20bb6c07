use Rattle.laws_history.proofs.BesidePairs.{next_beside}
use Rattle.laws_history.proofs.beside.law_of_two_ends_beside.Goals as goal

pub returns : goal.returns
returns c = λ side mine other p fair fair_other next got. (next_beside side mine other p fair fair_other next got, fair)
