use Rattle.laws_driver.proofs.Stopping.{events_stop, packets_stop, pages_stop}
use Rattle.laws_driver.proofs.waiting.law_of_waiting.Goals as goal

pub returns-clause-events : goal.returns-clause-events
returns-clause-events c = events_stop

pub returns-clause-packets : goal.returns-clause-packets
returns-clause-packets c = packets_stop

pub returns-clause-pages : goal.returns-clause-pages
returns-clause-pages c = pages_stop
