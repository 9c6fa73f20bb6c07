use Rattle.std.proofs.Common.{ap}
use Rattle.vs_both_ends.{specs.View.known, proofs.Known.are_known, proofs.Known.new_ends}
use Rattle.vs_both_ends.proofs.standard_rings.StandardRings.new.Goals as goal

pub invariant_of-result : goal.invariant_of-result
invariant_of-result c =
    are_known _ _ (new_ends c.args.n c.memory_size.result c.in_ok-mem.mem c.in_ok-rings.rings.ends c.requires c.memory_size.ensures.exact
    c.in_ok-mem.ensures c.in_ok-rings.ensures.ends)

pub returns : goal.returns
returns c =
    ap known (new_ends c.args.n c.memory_size.result c.in_ok-mem.mem c.in_ok-rings.rings.ends c.requires c.memory_size.ensures.exact
    c.in_ok-mem.ensures c.in_ok-rings.ensures.ends)
