use Rattle.std.{proofs.Common.{◌≡◌, ℕ, List, Some, ap, subst, ◌∙◌}, specs.Option.option_map}
use Rattle.vs_flow.specs.Table.{entry_under}
use Rattle.vs_driver_parts.{specs.{Connections.{with_connection, after_closing}, State.{DriverEntry, DriverState, Listener}, Held.{HeldSlots, KnowsNone}}, proofs.Ids.value_of}
use Rattle.vs_driver_parts.proofs.Ids.{has_slot}
use Rattle.vs_driver.{specs.contracts.driver.Driver.the_view, proofs.{Reading.closed_entry, Pipes.known_to_none}}
use Rattle.vs_driver.proofs.driver.Driver.close_in.Goals as goal

pub returns-clause-state : goal.returns-clause-state
returns-clause-state c = λ e found id.
    let d = c.self.inside in
    let s : DriverState = the_view d in
    let there : entry_under d.slots.table c.args.slot ≡ Some e = rw (← c.self.view_is) at found in
    let slots = c.close.ensures.left e.value (value_of d.slots.table c.args.slot e there) in
    let both : Some c.in-Some.flow ≡ Some e.flow = c.in-Some.ensures ∙ ap (option_map (λ (x : DriverEntry). x.flow)) there in
    let flow : c.in-Some.flow ≡ e.flow = cc in
    let slot = has_slot d.slots.table c.args.slot e there in
    rw (← c.self.view_is) (ap (λ (h : HeldSlots). the_view (record d { slots = h; listeners = c.leave.new.self })) slots
    ∙ (ap (λ (l : List Listener). let x : DriverState = the_view (record d { listeners = l }) in with_connection c.args.slot (after_closing e.value.end.state e.value) x) c.leave.ensures
    ∙ closed_entry c.args.slot c.args.id e c.in-Some.flow s slot flow id))

pub returns-clause-unknown : goal.returns-clause-unknown
returns-clause-unknown c = λ e found id.
    let d = c.self.inside in
    let there : entry_under d.slots.table c.args.slot ≡ Some e = rw (← c.self.view_is) at found in
    let none : KnowsNone e.value.id c.close.new.self = c.close.ensures.unknown e.value (value_of d.slots.table c.args.slot e there) in
    let t : DriverState = the_view (record d { slots = c.close.new.self; listeners = c.leave.new.self }) in
    known_to_none c.args.id t (subst (λ (k : ℕ). KnowsNone k c.close.new.self) id none)
