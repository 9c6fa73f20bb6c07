use Rattle.std.proofs.Common.{◌≤◌, sym, arith, subst, length, Contains}
use Rattle.vs_ring_port.specs.Chains.{bytes_in, chains_of}
use Rattle.vs_ring_shared.{specs.{Holdings.all_held, Sights.DeviceSight}, proofs.{DeviceCalls.writes, HeldSlots.{in_pages-written, writable_in}}}
use Rattle.vs_ring_shared.proofs.device_side.DeviceSide.write_into.Goals as goal

pub write-requires-clause-in_page : goal.write-requires-clause-in_page
write-requires-clause-in_page c =
    let has = subst (λ (w : DeviceSight). Contains (chains_of w.held) c.args.chain.now) (sym c.self.view_is) c.requires.is_held in
    let held = all_held c.self.inside.held.pages in
    omega (arith, c.requires.in_range, writable_in c.args.chain.now held c.self.invariant.0.in_pages has)

pub invariant_of-self : goal.invariant_of-self
invariant_of-self c =
    let d = c.self.inside in
    let held = all_held d.held.pages in
    let has = subst (λ (w : DeviceSight). Contains (chains_of w.held) c.args.chain.now) (sym c.self.view_is) c.requires.is_held in
    let no_gap = subst (λ (w : DeviceSight). c.args.at ≤ length (bytes_in c.args.chain.now w.held)) (sym c.self.view_is) c.requires.no_gap in
    let kept = writes d.port.size d.port.token.me d.rx d.tx d.event d.held c.write.new.self c.self.invariant.0 c.write.ensures.slots
    c.write.ensures.room (rw c.write.ensures.held (in_pages-written c.args.chain.now held c.self.invariant.0.in_pages has c.args.at
    c.args.bytes.now no_gap)) in
    (kept, c.self.invariant.1)
