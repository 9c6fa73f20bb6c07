use Rattle.laws_apps.proofs.Stepping.{step_as}
use Rattle.vs_apps_parts.specs.Scripts.{script_of}
use Rattle.vs_apps.proofs.steps.step.Goals as goal

pub act-stepped-requires-clause-honest : goal.act-stepped-requires-clause-honest
act-stepped-requires-clause-honest g c = (c.requires.honest.0, c.requires.honest.1, c.poll-polled.ensures.honest c.requires.honest.0 c.requires.honest.1 c.requires.honest.2)

pub returns-clause-steps : goal.returns-clause-steps
returns-clause-steps g c = step_as (script_of c.args.script.now.items) c.args.k c.act-stepped.result c.poll-polled.result c.has_moved.result _ _ _ _
    c.args.apps.now.items _ _ _ _ _ c.has_moved.ensures c.reserve.ensures.entries c.reserve.ensures.bytes c.poll-polled.ensures.calls c.act-stepped.ensures.acts
