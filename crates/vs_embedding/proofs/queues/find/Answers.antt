use Rattle.std.proofs.{Common.{rules, tests}, lemmas.Iterator.{Search.position_from_yields_List, Consumers.YieldsList-from_deque}}
use Rattle.vs_ring_port.specs.Chains.{same_chain}
use Rattle.vs_embedding.proofs.queues.find.Goals as goal

pub returns : goal.returns
returns c =
    position_from_yields_List (same_chain c.args.chain.now) _ _ c.position.result c.position.ensures.ran
    (YieldsList-from_deque c.args.held.now.items c.iter.ensures.rest) (λ x b q k. search (rules, tests))
