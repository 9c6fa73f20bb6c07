use Rattle.laws_tables.proofs.Keeps.{opens_fair, pays_fair, replies_fair, sends_fair}
use Rattle.laws_tables.proofs.laws.law_of_fairness.Goals as goal

pub returns-clause-opens : goal.returns-clause-opens
returns-clause-opens c = opens_fair

pub returns-clause-sends : goal.returns-clause-sends
returns-clause-sends c = sends_fair

pub returns-clause-pays : goal.returns-clause-pays
returns-clause-pays c = pays_fair

pub returns-clause-replies : goal.returns-clause-replies
returns-clause-replies c = replies_fair
