use Rattle.std.proofs.Common.{◌≡◌, ◌+◌, length, subst}
use Rattle.vs_ring_port.specs.{Chains.held_of, declared.queue.Queue.Queue}
use Rattle.vs_ring_shared.{specs.Sights.DeviceSight, specs.Sights.sight_in, proofs.DeviceCalls.held_between}
use Rattle.vs_ring_shared.proofs.device_side.laws_of_device_side.Goals as goal

pub returns-clause-held : goal.returns-clause-held
returns-clause-held c =
    let e = c.side.inside in
    subst (λ (s : DeviceSight). (queue : Queue) → let q = sight_in queue s.sight in length q.put + held_of queue s.held ≡ length q.got) c.side.view_is
    (held_between e.port.token.table_id e.port.size e.port.token.me e.rx e.tx e.event e.held c.side.invariant.0)
