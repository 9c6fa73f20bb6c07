use Rattle.std.proofs.Common.{◌≡◌, ℕ, Some, sym, ap, subst, ◌∙◌, rules}
use Rattle.vs_flow.specs.Table.{value_under, with_value}
use Rattle.vs_driver_parts.specs.{State.DriverConnection, Held.HeldSlots, Held.KnowsNone, contracts.slots.Slots.the_view}
use Rattle.vs_driver_parts.proofs.{SameIds.closing_id, SameIds.closing_closed, SlotChanges.{kept_with_connection, knows_none}}
use Rattle.vs_driver_parts.proofs.slots.Slots.close.Goals as goal

pub returns-clause-unknown : goal.returns-clause-unknown
returns-clause-unknown c = λ x found.
    let old = c.in-Some.connection.now in
    let is : value_under c.self.inside.table c.args.slot ≡ Some old = search rules in
    let there : value_under c.self.inside.table c.args.slot ≡ Some x = rw (← c.self.view_is) at found in
    let both : Some old ≡ Some x = sym is ∙ there in
    let same : old.id ≡ x.id = ap (λ (y : DriverConnection). y.id) (let e : old ≡ x = cc in e) in
    let none = knows_none c.self.inside c.args.slot old c.close.new.self c.self.invariant is
    (ap (λ (y : DriverConnection). y.id) c.close.ensures ∙ closing_id old.end.state old)
    (ap (λ (y : DriverConnection). y.closed) c.close.ensures ∙ closing_closed old.end.state old) in
    let slots : HeldSlots = the_view c.self.inside in
    let closed : HeldSlots = record slots { table = with_value slots.table c.args.slot c.close.new.self } in
    subst (λ (id : ℕ). KnowsNone id closed) same none

pub invariant_of-self-2 : goal.invariant_of-self-2
invariant_of-self-2 c = kept_with_connection _ _ _ _ c.self.invariant (search (rules, closing_id)) c.noted-self-inside.ensures
