use Rattle.vs_ring_port.specs.declared.queue.Queue.TheVariants.{Rx, Tx, Event}
use Rattle.vs_hostile.proofs.guest.areas_of.Goals as goal

pub returns-in-Rx-clause-inside : goal.returns-in-Rx-clause-inside
returns-in-Rx-clause-inside c = rw c.areas-areas.ensures.value (c.areas-areas.ensures.inside Rx)

pub returns-in-Tx-clause-inside : goal.returns-in-Tx-clause-inside
returns-in-Tx-clause-inside c = rw c.areas-areas.ensures.value (c.areas-areas.ensures.inside Tx)

pub returns-in-Event-clause-inside : goal.returns-in-Event-clause-inside
returns-in-Event-clause-inside c = rw c.areas-areas.ensures.value (c.areas-areas.ensures.inside Event)
