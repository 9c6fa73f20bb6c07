use Rattle.std.proofs.Common.{◌≤◌, subst}
use Rattle.vs_both_ends.proofs.Known.{counted_as}
use Rattle.vs_both_ends.proofs.standard_rings.StandardRingsDriverRing.in_flight.Goals as goal

pub returns-clause-within : goal.returns-clause-within
returns-clause-within c =
    subst (λ n. c.in_flight.result ≤ n)
    (counted_as c.self.inside.rings c.args.self.now c.self.view_is c.self.invariant c.laws_of_standard_rings.ensures.counted).size
    c.in_flight.ensures.within
