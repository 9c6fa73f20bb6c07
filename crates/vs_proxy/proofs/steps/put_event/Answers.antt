use Rattle.vs_proxy.proofs.steps.put_event.Goals as goal

pub returns-clause-streams : goal.returns-clause-streams
returns-clause-streams g c = rw (← c.proxy.view_is) c.put_event.ensures.streams
