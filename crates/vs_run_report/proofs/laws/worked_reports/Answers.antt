-- All are computed.
use Rattle.std.{proofs.Common.refl, specs.Fmt.digits}
use Rattle.hex.specs.Hex.{encode_with}
use Rattle.vs_run_report.proofs.Worked.{hello_right, never_swapped}
use Rattle.vs_run_report.proofs.laws.worked_reports.Goals as goal

pub returns-clause-done : goal.returns-clause-done
unfolding digits encode_with
returns-clause-done c = refl

pub returns-clause-waits : goal.returns-clause-waits
unfolding digits encode_with
returns-clause-waits c = refl

pub returns-clause-accepts : goal.returns-clause-accepts
unfolding digits encode_with
returns-clause-accepts c = refl

pub returns-clause-right : goal.returns-clause-right
returns-clause-right c = hello_right

pub returns-clause-swapped : goal.returns-clause-swapped
returns-clause-swapped c = never_swapped
