use Rattle.std.proofs.Common.{[]}
use Rattle.vs_device_parts.specs.{Receiving.{fill_rx_of, pay_event_of}, Streams.{pump_of, tick_of}, Transmitting.take_tx_of, Turns.reset_of}
use Rattle.laws_device.proofs.{Deciding.{call_past, going}, Filling.fill_keeps, Transmitting.take_keeps, Turning.{pay_keeps, pump_keeps, reset_keeps, tick_keeps}}
use Rattle.laws_device.proofs.laws.law_of_decisions.Goals as goal

pub returns-clause-take_tx : goal.returns-clause-take_tx
returns-clause-take_tx c = λ first port k s a b x holds.
    call_past first port k s a b holds (take_tx_of s) x (λ y. y.0) (λ v. take_keeps (going v) [] first port s a)

pub returns-clause-pay_event : goal.returns-clause-pay_event
returns-clause-pay_event c = λ first port k s a b x holds.
    call_past first port k s a b holds (pay_event_of s) x (λ y. y.0) (λ v. pay_keeps (going v) [] first port s a)

pub returns-clause-fill_rx : goal.returns-clause-fill_rx
returns-clause-fill_rx c = λ first port k s a b x holds.
    call_past first port k s a b holds (fill_rx_of s) x (λ y. y.0) (λ v. fill_keeps (going v) [] first port s a)

pub returns-clause-reset : goal.returns-clause-reset
returns-clause-reset c = λ first port cid k s a b x fits holds.
    call_past first port k s a b holds (reset_of cid s) x (λ y. y.0) (λ v. reset_keeps (going v) [] first port cid fits s a)

pub returns-clause-tick : goal.returns-clause-tick
returns-clause-tick c = λ first port now k s t a b holds.
    call_past first port k s a b holds (tick_of now s) t (λ y. y) (λ v. tick_keeps (going v) [] first port now s a)

pub returns-clause-pump_out : goal.returns-clause-pump_out
returns-clause-pump_out c = λ first port k s a b w holds.
    call_past first port k s a b holds (pump_of s) w (λ y. y.state) (λ v. pump_keeps (going v) [] first port s a)
