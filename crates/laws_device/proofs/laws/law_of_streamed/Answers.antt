use Rattle.vs_device_parts.specs.{Receiving.{fill_rx_of, pay_event_of}, Streams.{pump_of, tick_of}, Transmitting.take_tx_of, Turns.reset_of}
use Rattle.laws_device.proofs.{Turning.{pay_keeps, pump_keeps, reset_keeps, tick_keeps}, Carrying.{ring_and_host, streamed_end}, Filling.fill_keeps, Transmitting.take_keeps}
use Rattle.laws_device.proofs.laws.law_of_streamed.Goals as goal

pub returns-clause-take_tx : goal.returns-clause-take_tx
returns-clause-take_tx c = λ fresh first port lines s a b x holds streams runs.
    streamed_end fresh first port lines (λ x. x.0) s (take_tx_of s) a b x holds streams (take_keeps (ring_and_host fresh) lines first port s a) runs

pub returns-clause-pay_event : goal.returns-clause-pay_event
returns-clause-pay_event c = λ fresh first port lines s a b x holds streams runs.
    streamed_end fresh first port lines (λ x. x.0) s (pay_event_of s) a b x holds streams (pay_keeps (ring_and_host fresh) lines first port s a) runs

pub returns-clause-fill_rx : goal.returns-clause-fill_rx
returns-clause-fill_rx c = λ fresh first port lines s a b x holds streams runs.
    streamed_end fresh first port lines (λ x. x.0) s (fill_rx_of s) a b x holds streams (fill_keeps (ring_and_host fresh) lines first port s a) runs

pub returns-clause-reset : goal.returns-clause-reset
returns-clause-reset c = λ fresh first port cid lines s a b x fits holds streams runs.
    streamed_end fresh first port lines (λ x. x.0) s (reset_of cid s) a b x holds streams (reset_keeps (ring_and_host fresh) lines first port cid fits s a) runs

pub returns-clause-tick : goal.returns-clause-tick
returns-clause-tick c = λ fresh first port now lines s t a b holds streams runs.
    streamed_end fresh first port lines (λ x. x) s (tick_of now s) a b t holds streams (tick_keeps (ring_and_host fresh) lines first port now s a) runs

pub returns-clause-pump_out : goal.returns-clause-pump_out
returns-clause-pump_out c = λ fresh first port lines s a b w holds streams runs.
    streamed_end fresh first port lines (λ w. w.state) s (pump_of s) a b w holds streams (pump_keeps (ring_and_host fresh) lines first port s a) runs
