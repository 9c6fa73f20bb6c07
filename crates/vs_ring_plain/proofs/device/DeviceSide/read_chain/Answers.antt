use Rattle.std.proofs.Common.{◌≡◌, ◌≤◌, ℕ, List, [], length, refl, sym, ap, ◌∙◌, subst, arith}
use Rattle.vs_guest_mem.specs.Memory.{Memory}
use Rattle.vs_ring_port.specs.Contents.{Read}
use Rattle.vs_ring_plain.specs.{declared.piece.Piece.Piece, Accesses.over, Chain.total_len, Device.{DeviceState, answer_to, with_memory}, Pieces.{reading, spans}, Side.state_in}
use Rattle.vs_ring_plain.proofs.{DeviceOrder.{held_of, order_with}, HeldChains.{held_inside, held_readable, sound_in}}
use Rattle.vs_ring_plain.proofs.device.DeviceSide.read_chain.Goals as goal

pub read_pieces-requires-clause-inside : goal.read_pieces-requires-clause-inside
read_pieces-requires-clause-inside c =
    rw c.pieces.ensures (held_inside c.self.inside.mem c.args.chain.now c.self.inside.held.chains (held_of c.self.inside c.args.self.now c.args.chain.now c.self.view_is c.requires.is_held) c.self.invariant.held)

pub read_pieces-requires-clause-in_range : goal.read_pieces-requires-clause-in_range
read_pieces-requires-clause-in_range c = omega (arith, few, c.requires.in_range)
  where
    few : c.args.chain.now.readable ≤ total_len c.pieces.result.now
    few = rw c.pieces.ensures (held_readable c.self.inside.mem c.args.chain.now c.self.inside.held.chains (held_of c.self.inside c.args.self.now c.args.chain.now c.self.view_is c.requires.is_held) c.self.invariant.held)

pub invariant_of-self : goal.invariant_of-self
invariant_of-self c =
    order_with c.self.inside c.read_pieces.new.mem c.self.inside.held c.self.inside.turns c.self.invariant c.read_pieces.ensures.base
    c.read_pieces.ensures.size refl (sound_in c.self.inside.mem c.read_pieces.new.mem c.self.inside.held.chains c.read_pieces.ensures.base
    c.read_pieces.ensures.size c.self.invariant.held)

pub returns-clause-exact : goal.returns-clause-exact
returns-clause-exact c =
    subst (λ (d : DeviceState). answer_to (Read c.args.chain.now c.args.at (length c.args.out.now)) d
    ≡ (c.read_pieces.new.out, with_memory (state_in c.self.inside) c.read_pieces.new.mem)) c.self.view_is
    (ap (λ (r : List ℕ × Memory). (r.0, with_memory (state_in c.self.inside) r.1))
    (ap (λ (ps : List Piece). over (reading (spans ps c.args.at (length c.args.out.now)) []) c.self.inside.mem) (sym c.pieces.ensures)
    ∙ c.read_pieces.ensures.exact))
