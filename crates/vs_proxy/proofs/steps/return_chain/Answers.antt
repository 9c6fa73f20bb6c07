use Rattle.vs_proxy.proofs.steps.return_chain.Goals as goal

pub returns-clause-calls : goal.returns-clause-calls
returns-clause-calls g c = rw (← c.proxy.view_is) c.return_chain.ensures.calls
