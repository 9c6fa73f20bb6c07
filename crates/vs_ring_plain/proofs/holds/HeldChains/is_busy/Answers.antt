use Rattle.std.proofs.Common.{◌∙◌, ap}
use Rattle.vs_ring_plain.{specs.Device.is_busy, specs.PieceTable.HeldState, proofs.HeldChains.busy_is}
use Rattle.vs_ring_plain.proofs.holds.HeldChains.is_busy.Goals as goal

pub returns : goal.returns
returns c = c.is_busy_with.ensures ∙ busy_is c.args.queue c.self.inside.size c.self.inside.lists c.self.inside.holds.items c.self.invariant.kept
    ∙ ap (λ (s : HeldState). is_busy c.args.queue s.size s.chains) c.self.view_is
