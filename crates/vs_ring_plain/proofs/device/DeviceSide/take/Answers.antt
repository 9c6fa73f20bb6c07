use Rattle.std.proofs.Common.{◌%◌, ◌∙◌, All, Option, Result, refl, subst, sym, List}
use Rattle.vs_ring_port.specs.declared.{device_ring.Chain.Chain, failure.Failure.Failure}
use Rattle.vs_ring_plain.{specs.{Accesses.over, Chain.taking, Device.HeldChain, Side.IsSoundHold, Take.ring_in}, proofs.{DeviceOrder.order_with, HeldChains.sound_kept}}
use Rattle.vs_ring_plain.proofs.device.DeviceSide.take.Goals as goal

pub take-requires-clause-free : goal.take-requires-clause-free
take-requires-clause-free c = rw c.queue_in-ring.ensures (sym c.is_busy.ensures ∙ c.if-is_busy.false)

pub invariant_of-self-in-Ok-Some : goal.invariant_of-self-in-Ok-Some
invariant_of-self-in-Ok-Some c =
    let ring = c.queue_in-ring.result in
    let taken = c.at-taken.result.taken in
    let m = c.self.inside.mem in
    order_with c.self.inside c.take.new.mem c.take.new.self c.take-in-Ok-Some.new.self c.self.invariant c.take.ensures.base c.take.ensures.size
    c.take.ensures.room
    (subst (λ (r : Result (Option Chain) Failure × List HeldChain). All (IsSoundHold c.take.new.mem) r.1) c.take.ensures.exact
    (sound_kept ring taken (taken % ring.n) m c.take.new.mem (over (taking (ring_in ring m) taken) m).0 c.self.inside.held.chains refl
    c.take.ensures.base c.take.ensures.size c.self.invariant.held))
