use Rattle.laws_rest.proofs.Routes.{connect_routed, new_routed, poll_routed, send_routed}
use Rattle.laws_rest.proofs.driver.law_of_routes.Goals as goal

pub returns-clause-new : goal.returns-clause-new
returns-clause-new c = new_routed

pub returns-clause-connect : goal.returns-clause-connect
returns-clause-connect c = λ first host s r d x port honest routed. connect_routed first s r d honest routed host x port

pub returns-clause-send : goal.returns-clause-send
returns-clause-send c = λ first id bytes s r d x honest routed. send_routed first s r d honest routed id bytes x

pub returns-clause-poll : goal.returns-clause-poll
returns-clause-poll c = λ first s r d x honest routed. poll_routed first s r d honest routed x
