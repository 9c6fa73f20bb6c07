use Rattle.std.proofs.Common.{◌≡◌, false, Some, length, ◌==◌, sym, ap, ◌∙◌, rules}
use Rattle.vs_flow.specs.Table.{entry_under}
use Rattle.vs_driver_parts.{proofs.Ids.{value_of, has_slot}, specs.{State.{DriverConnection, DriverState}, Held.HeldSlots}}
use Rattle.vs_driver.{specs.contracts.driver.Driver.the_view, proofs.Reading.entry_read_some}
use Rattle.vs_driver.proofs.driver.Driver.recv_in.Goals as goal

pub returns-clause-state : goal.returns-clause-state
returns-clause-state c = λ e found.
    let d = c.self.inside in
    let s : DriverState = the_view d in
    let there : entry_under d.slots.table c.args.slot ≡ Some e = rw (← c.self.view_is) at found in
    let value = value_of d.slots.table c.args.slot e there in
    let slots = c.read.ensures.left e.value value in
    let both : Some c.in-Some.connection.now ≡ Some e.value = c.in-Some.ensures ∙ value in
    let same : c.in-Some.connection.now ≡ e.value = cc in
    let some : (length e.value.unread == 0) ≡ false = ap (λ (x : DriverConnection). length x.unread == 0) (sym same) ∙ search rules in
    rw (← c.self.view_is) (ap (λ (h : HeldSlots). the_view (record d { slots = h })) slots
    ∙ entry_read_some (length c.args.out.now) c.args.slot e s some (has_slot d.slots.table c.args.slot e there))
