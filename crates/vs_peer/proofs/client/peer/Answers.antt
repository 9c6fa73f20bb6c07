use Rattle.vs_peer.proofs.Statuses.{faultless, says}
use Rattle.vs_peer.proofs.client.peer.Goals as goal

pub returns-clause-says : goal.returns-clause-says
returns-clause-says g c = says c.args.base.now c.args.port c.args.idle _ _ c.run.result c.run.ensures.ends

pub returns-clause-faultless : goal.returns-clause-faultless
returns-clause-faultless g c = faultless c.args.base.now c.args.port c.args.idle _ _ c.run.result
    (says c.args.base.now c.args.port c.args.idle _ _ c.run.result c.run.ensures.ends)
