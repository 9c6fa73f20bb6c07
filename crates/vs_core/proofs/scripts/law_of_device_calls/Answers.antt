use Rattle.laws_world.proofs.DeviceCalls.{events_lead, fills_lead, pumps_lead, takes_lead, ticks_lead}
use Rattle.vs_core.proofs.scripts.law_of_device_calls.Goals as goal

pub returns-clause-tick : goal.returns-clause-tick
returns-clause-tick c = λ now w fine. ticks_lead now w fine

pub returns-clause-take_tx : goal.returns-clause-take_tx
returns-clause-take_tx c = λ w. takes_lead w

pub returns-clause-pay_event : goal.returns-clause-pay_event
returns-clause-pay_event c = λ w. events_lead w

pub returns-clause-pump_out : goal.returns-clause-pump_out
returns-clause-pump_out c = λ w fine. pumps_lead w fine

pub returns-clause-fill_rx : goal.returns-clause-fill_rx
returns-clause-fill_rx c = λ w. fills_lead w
