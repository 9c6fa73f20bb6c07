-- They are computed.
use Rattle.std.{proofs.Common.refl, specs.Fmt.digits}
use Rattle.laws_hostile.proofs.laws.worked_isolation.Goals as goal

pub returns-clause-changed : goal.returns-clause-changed
unfolding digits
returns-clause-changed c = refl

pub returns-clause-first : goal.returns-clause-first
unfolding digits
returns-clause-first c = refl

pub returns-clause-second : goal.returns-clause-second
unfolding digits
returns-clause-second c = refl

pub returns-clause-dropped : goal.returns-clause-dropped
unfolding digits
returns-clause-dropped c = refl
