use Rattle.vs_driver_parts.specs.{Conversations.put_owed, Conversations.round_of, Steps.stages_owed}
use Rattle.laws_driver.proofs.{Keeping.keeps_end, Keeping.keeps_may, Stepping.owed_keeps}
use Rattle.vs_driver.proofs.Stepping.{may_step, stepped}
use Rattle.vs_driver.proofs.steps.stage_owed.Goals as goal

pub put_owed-requires-clause-may : goal.put_owed-requires-clause-may
put_owed-requires-clause-may g c =
    may_step (put_owed c.args.slot) c.args.driver.now c.none-tally.result c.none-tally.ensures _
    (keeps_may _ (stages_owed c.args.slot c.args.driver.now) _
    (owed_keeps c.requires.honest.0 c.requires.honest.1 c.args.slot c.args.driver.now _ c.requires.honest.2))

pub returns-clause-calls : goal.returns-clause-calls
returns-clause-calls g c =
    stepped (put_owed c.args.slot) c.args.driver.now c.none-tally.result c.none-tally.ensures _ _
    (round_of c.put_owed.new.self c.put_owed.new.tally) c.put_owed.result
    c.put_owed.ensures.calls

pub returns-clause-honest : goal.returns-clause-honest
returns-clause-honest g c = λ hosts first honest.
    keeps_end _ (stages_owed c.args.slot c.args.driver.now) _ _ c.put_owed.new.self
    (owed_keeps hosts first c.args.slot c.args.driver.now _ honest) (returns-clause-calls g c)
