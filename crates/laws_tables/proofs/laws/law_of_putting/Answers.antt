use Rattle.laws_tables.proofs.Keeps.{pays, replies, sends}
use Rattle.laws_tables.proofs.laws.law_of_putting.Goals as goal

pub returns-clause-sends : goal.returns-clause-sends
returns-clause-sends c = sends

pub returns-clause-pays : goal.returns-clause-pays
returns-clause-pays c = pays

pub returns-clause-replies : goal.returns-clause-replies
returns-clause-replies c = replies
