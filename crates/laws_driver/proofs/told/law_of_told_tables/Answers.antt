use Rattle.laws_driver.proofs.{Ordering.{connect_stays, new_told, poll_stays, send_stays}, Shown.told_open}
use Rattle.laws_tables.proofs.Once.{once_ordered}
use Rattle.vs_page.specs.Log.{Driver, side_of, whole_of}
use Rattle.laws_driver.proofs.told.law_of_told_tables.Goals as goal

pub returns-clause-new : goal.returns-clause-new
returns-clause-new c = new_told

pub returns-clause-connect : goal.returns-clause-connect
returns-clause-connect c = λ first peer to s r d x peer_fits to_fits told plays. connect_stays first s r d peer to x peer_fits to_fits told plays

pub returns-clause-send : goal.returns-clause-send
returns-clause-send c = λ first id bytes s r d x told plays. send_stays first s r d id bytes x told plays

pub returns-clause-poll : goal.returns-clause-poll
returns-clause-poll c = λ first s r d x told plays. poll_stays first s r d x told plays

pub returns-clause-table : goal.returns-clause-table
returns-clause-table c = told_open

pub returns-clause-once : goal.returns-clause-once
returns-clause-once c = λ first s l told once.
    told_open first s l told (λ f. once_ordered (side_of Driver f) (whole_of Driver f l.entries) (once f).0 (once f).1)
