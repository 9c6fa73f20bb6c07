use Rattle.laws_settled.proofs.Steady.{new_steady, turn_steady}
use Rattle.laws_settled.proofs.laws.law_of_steady_turns.Goals as goal

pub returns-clause-new : goal.returns-clause-new
returns-clause-new c = new_steady

pub returns-clause-turn : goal.returns-clause-turn
returns-clause-turn c = turn_steady
