use Rattle.std.proofs.Common.{refl, arith}
use Rattle.vs_ring_shared.proofs.Known.{device_near}
use Rattle.vs_ring_shared.proofs.port.Port.used_index.Goals as goal

pub returns : goal.returns
returns c = let n = c.args.self.now.size in device_near n c.args.queue n _ _ c.device_base.ensures refl (omega arith)
