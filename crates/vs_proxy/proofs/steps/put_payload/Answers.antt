use Rattle.vs_proxy.proofs.steps.put_payload.Goals as goal

pub returns-clause-streams : goal.returns-clause-streams
returns-clause-streams g c = rw (← c.proxy.view_is) c.put_payload.ensures.streams
