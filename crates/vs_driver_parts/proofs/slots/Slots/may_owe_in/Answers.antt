use Rattle.std.proofs.Common.{sym, ◌∙◌}
use Rattle.vs_driver_parts.proofs.Noting.{owes_none_in}
use Rattle.vs_driver_parts.proofs.slots.Slots.may_owe_in.Goals as goal

pub returns : goal.returns
returns c = record {
  none = λ off. rw (← c.self.view_is) (owes_none_in c.self.inside.owes c.self.inside.table c.args.slot c.self.invariant.noted (sym c.may_owe_in.ensures ∙ off));
}
