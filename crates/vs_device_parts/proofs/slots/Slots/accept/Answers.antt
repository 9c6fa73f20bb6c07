use Rattle.vs_device_parts.proofs.SlotChanges.{kept_with_value}
use Rattle.vs_device_parts.proofs.slots.Slots.accept.Goals as goal

pub invariant_of-self-2 : goal.invariant_of-self-2
invariant_of-self-2 c = kept_with_value c.self.inside c.args.slot c.accept.new.self c.note.new.watch c.note.new.notes c.self.invariant c.note.ensures.watched c.note.ensures.others c.note.ensures.noted
