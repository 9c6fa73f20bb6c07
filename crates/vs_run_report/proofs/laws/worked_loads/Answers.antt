-- All are computed.
use Rattle.std.{proofs.Common.refl, specs.Fmt.digits}
use Rattle.vs_run_report.proofs.laws.worked_loads.Goals as goal

pub returns-clause-sixteen : goal.returns-clause-sixteen
unfolding digits
returns-clause-sixteen c = refl

pub returns-clause-nothing : goal.returns-clause-nothing
unfolding digits
returns-clause-nothing c = refl

pub returns-clause-many : goal.returns-clause-many
unfolding digits
returns-clause-many c = refl
