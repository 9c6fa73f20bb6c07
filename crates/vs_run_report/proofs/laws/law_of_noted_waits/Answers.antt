use Rattle.vs_run_report.proofs.Noted.{waits_on, waits_so}
use Rattle.vs_run_report.proofs.laws.law_of_noted_waits.Goals as goal

pub returns-clause-waits : goal.returns-clause-waits
returns-clause-waits c = waits_so

pub returns-clause-others : goal.returns-clause-others
returns-clause-others c = waits_on
