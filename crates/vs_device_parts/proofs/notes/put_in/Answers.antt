use Rattle.vs_device_parts.proofs.Noting.{none_put, put_there}
use Rattle.vs_device_parts.proofs.notes.put_in.Goals as goal

pub returns-in-Some : goal.returns-in-Some
returns-in-Some c = put_there c.args.note c.args.notes.now c.in-Some.place c.requires.rising c.in-Some.ensures

pub returns-in_default : goal.returns-in_default
returns-in_default c = none_put c.args.note c.args.notes.now c.in_default.ensures
