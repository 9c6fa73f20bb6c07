use Rattle.laws_rest.proofs.Waiting.{credit_there, unread_there}
use Rattle.laws_rest.proofs.laws.law_of_waits.Goals as goal

pub returns-clause-empty : goal.returns-clause-empty
returns-clause-empty c = credit_there

pub returns-clause-no_credit : goal.returns-clause-no_credit
returns-clause-no_credit c = unread_there
