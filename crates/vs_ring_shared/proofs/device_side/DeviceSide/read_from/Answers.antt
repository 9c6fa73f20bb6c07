use Rattle.std.proofs.Common.{sym, ap, arith, subst, length, Contains}
use Rattle.vs_ring_port.specs.Chains.{chains_of}
use Rattle.vs_ring_shared.{specs.Holdings.all_held, specs.Sights.DeviceSight, proofs.HeldSlots.readable_in}
use Rattle.vs_ring_shared.proofs.device_side.DeviceSide.read_from.Goals as goal

pub overflow_add-part : goal.overflow_add-part
overflow_add-part c =
    let has = subst (λ (w : DeviceSight). Contains (chains_of w.held) c.args.chain.now) (sym c.self.view_is) c.requires.is_held in
    let held = all_held c.self.inside.held.pages in
    omega (arith, c.requires.in_range, readable_in c.args.chain.now held c.self.invariant.0.in_pages has, ap length c.bytes-bytes.ensures)

pub slice_bounds-part-end : goal.slice_bounds-part-end
slice_bounds-part-end c =
    let has = subst (λ (w : DeviceSight). Contains (chains_of w.held) c.args.chain.now) (sym c.self.view_is) c.requires.is_held in
    let held = all_held c.self.inside.held.pages in
    omega (arith, c.requires.in_range, readable_in c.args.chain.now held c.self.invariant.0.in_pages has, ap length c.bytes-bytes.ensures)
