use Rattle.std.proofs.Common.{◌≡◌, ◌≤◌, List, length, refl, sym, ap, ◌∙◌, subst, arith}
use Rattle.vs_guest_mem.specs.Memory.{Memory}
use Rattle.vs_ring_port.specs.Contents.{Write}
use Rattle.vs_ring_plain.specs.{declared.piece.Piece.Piece, Accesses.over, Chain.total_len, Device.{DeviceState, answer_to, with_memory}, Pieces.{writing, spans}, Side.state_in}
use Rattle.vs_ring_plain.proofs.{DeviceOrder.{held_of, order_with}, HeldChains.{held_inside, held_writable, sound_in}}
use Rattle.vs_ring_plain.proofs.device.DeviceSide.write_chain.Goals as goal

pub write_pieces-requires-clause-inside : goal.write_pieces-requires-clause-inside
write_pieces-requires-clause-inside c =
    rw c.pieces.ensures (held_inside c.self.inside.mem c.args.chain.now c.self.inside.held.chains (held_of c.self.inside c.args.self.now c.args.chain.now c.self.view_is c.requires.is_held) c.self.invariant.held)

pub write_pieces-requires-clause-in_range : goal.write_pieces-requires-clause-in_range
write_pieces-requires-clause-in_range c = omega (arith, few, c.requires.in_range)
  where
    few : c.args.chain.now.writable ≤ total_len c.pieces.result.now
    few = rw c.pieces.ensures (held_writable c.self.inside.mem c.args.chain.now c.self.inside.held.chains (held_of c.self.inside c.args.self.now c.args.chain.now c.self.view_is c.requires.is_held) c.self.invariant.held)

pub invariant_of-self : goal.invariant_of-self
invariant_of-self c =
    order_with c.self.inside c.write_pieces.new.mem c.self.inside.held c.self.inside.turns c.self.invariant c.write_pieces.ensures.base
    c.write_pieces.ensures.size refl (sound_in c.self.inside.mem c.write_pieces.new.mem c.self.inside.held.chains c.write_pieces.ensures.base
    c.write_pieces.ensures.size c.self.invariant.held)

pub returns-clause-exact : goal.returns-clause-exact
returns-clause-exact c =
    subst (λ (d : DeviceState). answer_to (Write c.args.chain.now c.args.at c.args.bytes.now) d
    ≡ (tt, with_memory (state_in c.self.inside) c.write_pieces.new.mem)) c.self.view_is
    (ap (λ (r : Unit {0} × Memory). (r.0, with_memory (state_in c.self.inside) r.1))
    (ap (λ (ps : List Piece). over (writing (spans ps c.args.at (length c.args.bytes.now)) c.args.bytes.now) c.self.inside.mem) (sym c.pieces.ensures)
    ∙ c.write_pieces.ensures.exact))
