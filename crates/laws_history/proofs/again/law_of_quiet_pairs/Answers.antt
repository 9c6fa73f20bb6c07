use Rattle.laws_history.proofs.Quiet.{quiet}
use Rattle.laws_history.proofs.again.law_of_quiet_pairs.Goals as goal

pub returns-clause-came : goal.returns-clause-came
returns-clause-came c = λ mine other fair fair_other a b clean. (quiet mine other fair fair_other a b clean).came

pub returns-clause-went : goal.returns-clause-went
returns-clause-went c = λ mine other fair fair_other a b clean. (quiet mine other fair fair_other a b clean).went
