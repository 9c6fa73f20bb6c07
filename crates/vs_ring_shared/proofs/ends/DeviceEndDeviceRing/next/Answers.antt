use Rattle.std.proofs.Common.{subst, ◌∙◌}
use Rattle.vs_ring_port.specs.{Contents.Take, DeviceCalls.DeviceAllows}
use Rattle.vs_ring_shared.{specs.Sights.{DeviceSight, device_contents}, proofs.Exposed.{allows_none, allows_take, taken_table}}
use Rattle.vs_ring_port.specs.declared.device_ring.Next.TheVariants as next
use Rattle.vs_ring_shared.proofs.ends.DeviceEndDeviceRing.next.Goals as goal

pub returns-in_default-clause-contents : goal.returns-in_default-clause-contents
returns-in_default-clause-contents g c =
    subst (λ (s : DeviceSight). DeviceAllows (Take c.args.queue) next.None (device_contents s) (device_contents c.take_next.new.self))
    c.self.view_is (allows_none c.args.queue c.self.inside.side c.take_next.new.self c.in_default.ensures.none c.take_next.ensures.fair)

pub returns-clause-contents : goal.returns-clause-contents
returns-clause-contents g c =
    subst (λ (s : DeviceSight).
    DeviceAllows (Take c.args.queue) (next.Chain c.in-Some.chain) (device_contents s) (device_contents c.take_next.new.self)) c.self.view_is
    (allows_take c.args.queue c.in-Some.chain c.self.inside.side c.take_next.new.self c.in-Some.ensures.chain c.take_next.ensures.fair)

pub invariant_of-self-2 : goal.invariant_of-self-2
invariant_of-self-2 g c =
    taken_table c.args.queue c.in-Some.chain c.self.inside.side c.take_next.new.self c.in-Some.ensures.chain ∙ c.self.invariant
