use Rattle.vs_ring_plain.proofs.HeldChains.{found_if_held}
use Rattle.vs_ring_plain.proofs.holds.place_of.Goals as goal

pub unwrap-requires : goal.unwrap-requires
unwrap-requires c = rw c.find.ensures (found_if_held c.args.chain.now c.args.holds.now.items c.requires)
