use Rattle.laws_proxy.proofs.Ordered.{reset_streams}
use Rattle.vs_proxy.proofs.steps.reset.Goals as goal

pub returns-clause-streams : goal.returns-clause-streams
returns-clause-streams g c = reset_streams c.args.proxy.now _ _ c.args.cid _ c.reset_all.ensures.calls
