use Rattle.vs_proxy.proofs.steps.shut_write.Goals as goal

pub returns-clause-streams : goal.returns-clause-streams
returns-clause-streams g c = rw (← c.proxy.view_is) c.shut_write.ensures.streams
