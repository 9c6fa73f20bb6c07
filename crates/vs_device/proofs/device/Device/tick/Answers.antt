use Rattle.vs_device.proofs.{Ordered.tick_honest, Ordered.tick_streams, Accounted.tick_accounted}
use Rattle.vs_device.proofs.device.Device.tick.Goals as goal

pub returns-clause-calls : goal.returns-clause-calls
returns-clause-calls g c = rw (← c.self.view_is) c.time_out.ensures.calls

pub returns-clause-streams : goal.returns-clause-streams
returns-clause-streams g c = tick_streams c.args.self.now _ _ c.args.now _ (returns-clause-calls g c c.requires.may.0)

pub returns-clause-honest : goal.returns-clause-honest
returns-clause-honest g c = λ first port ring. tick_honest c.args.self.now _ _ c.args.now _ (returns-clause-calls g c ring) first port

pub returns-clause-bytes : goal.returns-clause-bytes
returns-clause-bytes g c = tick_accounted c.args.self.now _ _ c.args.now _ (returns-clause-calls g c c.requires.may.0)
