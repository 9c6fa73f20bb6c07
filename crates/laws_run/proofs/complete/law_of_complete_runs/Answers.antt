use Rattle.laws_run.proofs.{Clients.clients_dry, Holding.complete_report}
use Rattle.laws_run.proofs.complete.law_of_complete_runs.Goals as goal

pub returns : goal.returns
returns c = record { runs = complete_report; clients = clients_dry }
