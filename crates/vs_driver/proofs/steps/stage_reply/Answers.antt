use Rattle.vs_driver_parts.specs.{Conversations.put_reply, Conversations.round_of, Steps.stages_reply}
use Rattle.laws_driver.proofs.{Keeping.keeps_end, Keeping.keeps_may, Stepping.reply_keeps}
use Rattle.vs_driver.proofs.Stepping.{may_step, stepped}
use Rattle.vs_driver.proofs.steps.stage_reply.Goals as goal

pub put_reply-requires-clause-may : goal.put_reply-requires-clause-may
put_reply-requires-clause-may g c =
    may_step put_reply c.args.driver.now c.none-tally.result c.none-tally.ensures _
    (keeps_may _ (stages_reply c.args.driver.now) _ (reply_keeps c.requires.honest.0 c.requires.honest.1 c.args.driver.now _ c.requires.honest.2))

pub returns-clause-calls : goal.returns-clause-calls
returns-clause-calls g c =
    stepped put_reply c.args.driver.now c.none-tally.result c.none-tally.ensures _ _ (round_of c.put_reply.new.self c.put_reply.new.tally)
    c.put_reply.result c.put_reply.ensures.calls

pub returns-clause-honest : goal.returns-clause-honest
returns-clause-honest g c = λ hosts first honest.
    keeps_end _ (stages_reply c.args.driver.now) _ _ c.put_reply.new.self (reply_keeps hosts first c.args.driver.now _ honest)
    (returns-clause-calls g c)
