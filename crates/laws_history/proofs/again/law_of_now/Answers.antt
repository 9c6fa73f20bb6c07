use Rattle.laws_history.proofs.Now.{now, next}
use Rattle.laws_history.proofs.again.law_of_now.Goals as goal

pub returns-clause-now : goal.returns-clause-now
returns-clause-now c = now

pub returns-clause-next : goal.returns-clause-next
returns-clause-next c = next
