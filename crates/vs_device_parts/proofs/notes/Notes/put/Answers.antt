use Rattle.std.proofs.Common.{map, ap, ◌∙◌}
use Rattle.vs_device_parts.specs.Noted.{renoted}
use Rattle.vs_device_parts.proofs.Noting.{written_rise}
use Rattle.vs_device_parts.proofs.notes.Notes.put.Goals as goal

pub invariant_of-self : goal.invariant_of-self
invariant_of-self c = written_rise c.args.note c.self.inside.notes.items c.put_in.new.notes c.self.invariant
    (c.put_in.ensures ∙ ap (map (renoted c.args.note)) c.as_mut_slice.ensures.value)
