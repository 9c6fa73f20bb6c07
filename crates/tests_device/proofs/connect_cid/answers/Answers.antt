use Rattle.std.proofs.Common.{◌==◌, ◌&&◌}
use Rattle.vs_limits.specs.declared.TheConstants.{HOST_CID}
use Rattle.tests_device.proofs.connect_cid.answers.Goals as goal

pub returns-clause-honest : goal.returns-clause-honest
returns-clause-honest g c =
    let was = c.requires.honest in ((c.args.cid == HOST_CID) && was.0, was.1, c.connect_cid.ensures.honest was.0 was.1 was.2)
