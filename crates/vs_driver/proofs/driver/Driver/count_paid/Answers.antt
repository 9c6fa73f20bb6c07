use Rattle.std.proofs.Common.{◌≡◌, false, Some, sym, ap, ◌∙◌}
use Rattle.vs_driver_parts.{proofs.Ids.{value_of, has_slot}, specs.{State.DriverState, Held.HeldSlots, Conversations.is_rst}}
use Rattle.vs_driver.{specs.contracts.driver.Driver.the_view, proofs.Paying.paid_other}
use Rattle.vs_flow.specs.Table.{entry_under}
use Rattle.vs_driver.proofs.driver.Driver.count_paid.Goals as goal

pub returns-else-is_rst-clause-state : goal.returns-else-is_rst-clause-state
returns-else-is_rst-clause-state c = λ e is.
    let d = c.self.inside in
    let s : DriverState = the_view d in
    let found : entry_under d.slots.table c.args.slot ≡ Some e = rw (← c.self.view_is) at is in
    let slots = c.paid.ensures.left e.value (value_of d.slots.table c.args.slot e found) in
    let other : is_rst c.args.what ≡ false = sym c.is_rst.ensures ∙ c.if-is_rst.false in
    rw (← c.self.view_is) (ap (λ (h : HeldSlots). the_view (record d { slots = h })) slots
    ∙ paid_other c.args.what c.args.slot e s other (has_slot d.slots.table c.args.slot e found))
