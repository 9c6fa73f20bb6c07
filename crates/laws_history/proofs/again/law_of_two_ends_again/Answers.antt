use Rattle.laws_history.proofs.TiedPairs.{next_allowed}
use Rattle.laws_history.proofs.again.law_of_two_ends_again.Goals as goal

pub returns : goal.returns
returns c = λ side mine other p fair fair_other next got. (next_allowed side mine other p fair fair_other next got, fair)
