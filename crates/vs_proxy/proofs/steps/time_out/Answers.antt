use Rattle.vs_proxy.proofs.steps.time_out.Goals as goal

pub returns-clause-streams : goal.returns-clause-streams
returns-clause-streams g c = rw (← c.proxy.view_is) c.time_out.ensures.streams
