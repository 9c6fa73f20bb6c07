use Rattle.std.proofs.Common.{◌%◌, ap, ◌∙◌}
use Rattle.vs_ring_shared.proofs.Masks.{masked}
use Rattle.vs_ring_shared.proofs.port.ring_place.Goals as goal

pub returns : goal.returns
returns c = masked c.args.size c.from.result c.requires.0 c.requires.2 ∙ ap (λ k. k % c.args.size) c.from.ensures
