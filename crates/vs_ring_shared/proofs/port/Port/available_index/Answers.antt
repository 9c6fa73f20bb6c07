use Rattle.std.proofs.Common.{◌*◌, refl, arith}
use Rattle.vs_ring_shared.proofs.Known.{driver_near}
use Rattle.vs_ring_shared.proofs.port.Port.available_index.Goals as goal

pub returns : goal.returns
returns c = let n = c.args.self.now.size in driver_near n c.args.queue (2 * n) _ _ c.driver_base.ensures refl (omega arith)
