use Rattle.vs_ring_plain.proofs.Still.{none_still, taken_still}
use Rattle.vs_ring_plain.proofs.laws.law_of_one_descriptor.Goals as goal

pub returns-clause-taken : goal.returns-clause-taken
returns-clause-taken c = taken_still

pub returns-clause-none : goal.returns-clause-none
returns-clause-none c = none_still
