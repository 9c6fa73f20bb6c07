use Rattle.std.proofs.Common.{◌≡◌, Some, sym, ap, ◌∙◌, rules}
use Rattle.vs_flow.specs.Table.{entry_under}
use Rattle.vs_driver_parts.{proofs.Ids.{value_of, has_slot}, specs.{State.{DriverConnection, DriverState}, Held.HeldSlots}}
use Rattle.vs_driver.{specs.contracts.driver.Driver.the_view, proofs.Reading.shut_in_live}
use Rattle.vs_conn.specs.declared.end.State.TheVariants as state
use Rattle.vs_driver.proofs.driver.Driver.shutdown_in.Goals as goal

pub returns-in-Live-clause-state : goal.returns-in-Live-clause-state
returns-in-Live-clause-state c = λ e found.
    let d = c.self.inside in
    let s : DriverState = the_view d in
    let there : entry_under d.slots.table c.args.slot ≡ Some e = rw (← c.self.view_is) at found in
    let value = value_of d.slots.table c.args.slot e there in
    let slots = c.shutdown.ensures.left e.value value in
    let both : Some c.in-Some.connection.now ≡ Some e.value = c.in-Some.ensures ∙ value in
    let same : c.in-Some.connection.now ≡ e.value = cc in
    let live : state.Live ≡ e.value.end.state = sym (search rules) ∙ ap (λ (x : DriverConnection). x.end.state) same in
    rw (← c.self.view_is) (ap (λ (h : HeldSlots). the_view (record d { slots = h })) slots
    ∙ shut_in_live c.args.bits c.args.slot e s live (has_slot d.slots.table c.args.slot e there))
