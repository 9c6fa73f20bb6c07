use Rattle.vs_run_report.proofs.Waiting.{waits_right}
use Rattle.vs_run_report.proofs.laws.law_of_waits.Goals as goal

pub returns : goal.returns
returns c = waits_right
