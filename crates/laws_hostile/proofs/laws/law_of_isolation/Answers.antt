use Rattle.laws_hostile.proofs.Safe.{each_safe}
use Rattle.laws_hostile.proofs.laws.law_of_isolation.Goals as goal

pub returns : goal.returns
returns c = each_safe
