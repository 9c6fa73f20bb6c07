use Rattle.laws_driver.proofs.Calls.{connect_honest, connect_may, new_honest, new_may, poll_honest, poll_may, send_honest, send_may}
use Rattle.laws_driver.proofs.laws.law_of_ring_calls.Goals as goal

pub returns-clause-new_may : goal.returns-clause-new_may
returns-clause-new_may c = new_may

pub returns-clause-new : goal.returns-clause-new
returns-clause-new c = new_honest

pub returns-clause-connect_may : goal.returns-clause-connect_may
returns-clause-connect_may c = λ hosts first peer to s r peer_fits to_fits honest. connect_may hosts first peer to s r peer_fits to_fits honest

pub returns-clause-connect : goal.returns-clause-connect
returns-clause-connect c = λ hosts first peer to s r d x peer_fits to_fits honest plays.
    connect_honest hosts first peer to s r peer_fits to_fits honest d x plays

pub returns-clause-send_may : goal.returns-clause-send_may
returns-clause-send_may c = send_may

pub returns-clause-send : goal.returns-clause-send
returns-clause-send c = send_honest

pub returns-clause-poll_may : goal.returns-clause-poll_may
returns-clause-poll_may c = poll_may

pub returns-clause-poll : goal.returns-clause-poll
returns-clause-poll c = poll_honest
