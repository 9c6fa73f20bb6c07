use Rattle.laws_run.proofs.Reporting.{right_report}
use Rattle.laws_run.proofs.laws.law_of_reports.Goals as goal

pub returns : goal.returns
returns c = right_report
