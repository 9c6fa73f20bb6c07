use Rattle.vs_ring_list.proofs.Held.{found_if_held}
use Rattle.vs_ring_shared.specs.Holdings.{all_held}
use Rattle.vs_ring_shared.proofs.held.OlderPages.place_of.Goals as goal

pub unwrap-requires : goal.unwrap-requires
unwrap-requires c = rw c.search.ensures (found_if_held c.args.chain.now (all_held c.args.self.now.pages) c.requires)
