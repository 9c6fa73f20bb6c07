use Rattle.laws_settled.proofs.Beginning.{dropped_none, new_begun, turn_begun}
use Rattle.laws_settled.proofs.laws.law_of_begun.Goals as goal

pub returns-clause-new : goal.returns-clause-new
returns-clause-new c = new_begun

pub returns-clause-turn : goal.returns-clause-turn
returns-clause-turn c = turn_begun

pub returns-clause-rest : goal.returns-clause-rest
returns-clause-rest c = dropped_none
