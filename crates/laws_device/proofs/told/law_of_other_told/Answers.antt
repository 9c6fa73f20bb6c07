use Rattle.vs_device_parts.specs.{Growing.after_grow, Playing.situation, Streams.{pump_of, tick_of}, Turns.open_of}
use Rattle.laws_device.proofs.{Growing.grow_keeps, Keeping.keeps_end, Ordering.{held_told, opens_told, told, told_end, told_held, unsure_runs, unsurely}, Turning.{pump_keeps, tick_keeps}}
use Rattle.laws_device.specs.Honest.{port_after}
use Rattle.std.proofs.Common.{[], None}
use Rattle.laws_device.proofs.told.law_of_other_told.Goals as goal

pub returns-clause-tick : goal.returns-clause-tick
returns-clause-tick c = λ first port now s t a b holds runs. told_end first port (λ y. y) s (tick_of now s) a b t holds (tick_keeps told [] first port now s (unsurely a)) runs

pub returns-clause-pump_out : goal.returns-clause-pump_out
returns-clause-pump_out c = λ first port s a b w holds runs. told_end first port (λ y. y.state) s (pump_of s) a b w holds (pump_keeps told [] first port s (unsurely a)) runs

pub returns-clause-opened : goal.returns-clause-opened
returns-clause-opened c = λ first port stream flow s a b x next ports holds runs.
    told_held [] first (port_after flow port x.1) x.0 b
    (keeps_end _ (open_of flow stream s) (unsurely a) (unsurely b) x (opens_told first port flow stream s next ports (unsurely a) (held_told [] first port s a holds))
    (unsure_runs (open_of flow stream s) a b x runs))

pub returns-clause-grow : goal.returns-clause-grow
returns-clause-grow c = λ first port slot alloc s r holds.
    let a = situation r None 0 in
    told_held [] first port (after_grow slot alloc s) a (grow_keeps slot alloc s told [] first port (unsurely a) (held_told [] first port s a holds))
