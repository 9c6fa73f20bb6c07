use Rattle.std.proofs.Common.{take}
use Rattle.vs_peer.proofs.Receives.{received}
use Rattle.vs_peer.proofs.receive.receive.Goals as goal

pub returns-in-Got-clause-receives : goal.returns-in-Got-clause-receives
returns-in-Got-clause-receives g c =
    received c.args.id _ _ _ _ (take c.in-Got.n c.read.new.out) c.give.result c.in-Got.ensures.passes c.give.ensures.gives
