use Rattle.vs_device_parts.specs.Filling.{filling_of}
use Rattle.vs_device.proofs.Reading.{served_at_rest}
use Rattle.vs_device.proofs.device.Device.serve_slot.Goals as goal

pub returns-in-Nothing-clause-calls : goal.returns-in-Nothing-clause-calls
returns-in-Nothing-clause-calls g c = served_at_rest c.args.slot (filling_of c.args.self.now c.args.fill.now) c.if-fill.false _ c.in-Nothing.ensures.sound c.in-Nothing.ensures.served
