use Rattle.vs_proxy.proofs.steps.take_packet.Goals as goal

pub returns-clause-streams : goal.returns-clause-streams
returns-clause-streams g c = rw (← c.proxy.view_is) c.take_packet.ensures.streams
