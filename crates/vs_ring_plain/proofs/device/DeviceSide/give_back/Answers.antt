use Rattle.std.proofs.Common.{All, ap, subst, sym}
use Rattle.vs_ring_plain.{specs.{PieceTable.HeldState, Side.IsSoundHold}, proofs.{DeviceOrder.order_with, HeldChains.{sound_in, sound_left}}}
use Rattle.vs_ring_plain.proofs.device.DeviceSide.give_back.Goals as goal

pub invariant_of-self : goal.invariant_of-self
invariant_of-self c =
    order_with c.self.inside c.return_chain.new.mem c.release-head.new.self c.give_back.new.self c.self.invariant c.return_chain.ensures.base
    c.return_chain.ensures.size (ap (λ (h : HeldState). h.size) c.release-head.ensures.after)
    (subst (λ (h : HeldState). All (IsSoundHold c.return_chain.new.mem) h.chains) (sym c.release-head.ensures.after)
    (sound_left c.return_chain.new.mem c.args.chain c.self.inside.held.chains (sound_in c.self.inside.mem c.return_chain.new.mem
    c.self.inside.held.chains c.return_chain.ensures.base c.return_chain.ensures.size c.self.invariant.held)))
