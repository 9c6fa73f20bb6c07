use Rattle.vs_device_parts.specs.Filling.{filling_of}
use Rattle.vs_device.proofs.Reading.{may_serve, may_serve_then, served}
use Rattle.vs_device.proofs.device.Device.serve_owing.Goals as goal

pub read_slot-requires-clause-may : goal.read_slot-requires-clause-may
read_slot-requires-clause-may g c =
    may_serve c.args.slot (filling_of c.args.self.now c.args.fill.now) c.requires.going _ c.requires.may

pub put_all_owed-requires-clause-may : goal.put_all_owed-requires-clause-may
put_all_owed-requires-clause-may g c =
    may_serve_then c.args.slot (filling_of c.args.self.now c.args.fill.now) c.requires.going (filling_of c.read_slot.new.self c.read_slot.new.fill) _ _ c.if-not-fill.true c.requires.may
    c.read_slot.ensures.calls

pub returns-then-not-fill-clause-calls : goal.returns-then-not-fill-clause-calls
returns-then-not-fill-clause-calls g c =
    served c.args.slot (filling_of c.args.self.now c.args.fill.now) c.requires.going (filling_of c.read_slot.new.self c.read_slot.new.fill)
    (filling_of c.put_all_owed.new.self c.put_all_owed.new.fill) _ _ _ c.if-not-fill.true c.read_slot.ensures.calls c.put_all_owed.ensures.calls
