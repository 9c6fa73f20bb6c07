use Rattle.laws_proxy.proofs.Ordered.{new_streamed, reset_streamed, turn_streamed}
use Rattle.laws_device.proofs.Waiting.{tabled_with}
use Rattle.laws_proxy.proofs.laws.law_of_streamed.Goals as goal

pub returns-clause-new : goal.returns-clause-new
returns-clause-new c = new_streamed

pub returns-clause-turn : goal.returns-clause-turn
returns-clause-turn c = λ fresh first size now s a b x holds streams runs. turn_streamed s a b size now x runs fresh first holds streams

pub returns-clause-reset : goal.returns-clause-reset
returns-clause-reset c = λ fresh first cid s a b x fits holds streams runs. reset_streamed s a b cid x fits runs fresh first holds streams

pub returns-clause-table : goal.returns-clause-table
returns-clause-table c = λ fresh first s a holds streams. tabled_with fresh first s.next_port s.handshakes s.device a holds.1 streams
