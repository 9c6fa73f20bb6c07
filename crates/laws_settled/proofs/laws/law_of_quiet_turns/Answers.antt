use Rattle.laws_settled.proofs.Quieting.{turn_owes_none}
use Rattle.laws_settled.proofs.laws.law_of_quiet_turns.Goals as goal

pub returns : goal.returns
returns c = turn_owes_none
