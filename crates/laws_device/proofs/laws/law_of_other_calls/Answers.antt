use Rattle.vs_device_parts.specs.{Streams.{pump_of, tick_of}, Turns.open_of}
use Rattle.laws_device.{proofs.{Carrying.{ring_only, with_ring, ring_end}, Keeping.keeps_end, Turning.{opens_plain, pump_keeps, tick_keeps}}, specs.Honest.port_after}
use Rattle.std.proofs.Common.{[], false}
use Rattle.laws_device.proofs.laws.law_of_other_calls.Goals as goal

pub returns-clause-tick : goal.returns-clause-tick
returns-clause-tick c = λ first port now s t a b holds runs. ring_end first port (λ x. x) s (tick_of now s) a b t holds (tick_keeps ring_only [] first port now s a) runs

pub returns-clause-pump_out : goal.returns-clause-pump_out
returns-clause-pump_out c = λ first port s a b w holds runs. ring_end first port (λ w. w.state) s (pump_of s) a b w holds (pump_keeps ring_only [] first port s a) runs

pub returns-clause-opened : goal.returns-clause-opened
returns-clause-opened c = λ first port stream flow s a b x next ports holds runs.
    with_ring false ⊥ [] first (port_after flow port x.1) x.0 b
    (keeps_end _ (open_of flow stream s) a b x (opens_plain first port flow stream s next ports a holds) runs)
