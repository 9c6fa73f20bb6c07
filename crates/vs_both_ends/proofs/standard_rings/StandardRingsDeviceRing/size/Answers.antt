use Rattle.std.proofs.Common.{◌∙◌}
use Rattle.vs_both_ends.proofs.Known.{counted_as}
use Rattle.vs_both_ends.proofs.standard_rings.StandardRingsDeviceRing.size.Goals as goal

pub returns-clause-value : goal.returns-clause-value
returns-clause-value c =
    c.size.ensures.value
    ∙ (counted_as c.self.inside.rings c.args.self.now c.self.view_is c.self.invariant c.laws_of_standard_rings.ensures.counted).size
