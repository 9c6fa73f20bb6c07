use Rattle.vs_device.proofs.{Ordered.pump_honest, Ordered.pump_streams, Accounted.pump_accounted}
use Rattle.vs_device.proofs.device.Device.pump_out.Goals as goal

pub returns-clause-streams : goal.returns-clause-streams
returns-clause-streams g c = pump_streams c.args.self.now _ _ _ (c.pump.ensures.calls c.requires.may.0)

pub returns-clause-honest : goal.returns-clause-honest
returns-clause-honest g c = λ first port ring. pump_honest c.args.self.now _ _ _ (c.pump.ensures.calls ring) first port

pub returns-clause-bytes : goal.returns-clause-bytes
returns-clause-bytes g c = pump_accounted c.args.self.now _ _ _ (c.pump.ensures.calls c.requires.may.0)
