use Rattle.laws_settled.proofs.Taking.{poll_takes_none}
use Rattle.laws_settled.proofs.laws.law_of_quiet_takes.Goals as goal

pub returns : goal.returns
returns c = poll_takes_none
