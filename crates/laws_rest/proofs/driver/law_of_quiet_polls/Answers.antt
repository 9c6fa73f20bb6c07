use Rattle.laws_rest.proofs.Polls.{poll_owes_none}
use Rattle.laws_rest.proofs.driver.law_of_quiet_polls.Goals as goal

pub returns : goal.returns
returns c = poll_owes_none
