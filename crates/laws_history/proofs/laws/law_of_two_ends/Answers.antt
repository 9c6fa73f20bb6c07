use Rattle.laws_history.proofs.Ties.{next_allowed}
use Rattle.laws_history.proofs.laws.law_of_two_ends.Goals as goal

pub returns : goal.returns
returns c = record { allowed = next_allowed }
