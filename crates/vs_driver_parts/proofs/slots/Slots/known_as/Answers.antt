use Rattle.std.{proofs.Common.{◌≡◌, ◌+◌, ◌<◌, Some, None, refl, sym, ap, ◌∙◌, true, false, rules}, specs.Option.option_map}
use Rattle.vs_flow.specs.Table.{value_under}
use Rattle.vs_driver_parts.{specs.State.DriverEntry, proofs.Ids.{known_slot, known_below}}
use Rattle.vs_driver_parts.proofs.slots.Slots.known_as.Goals as goal

pub returns-in_err-slot-clause-slot : goal.returns-in_err-slot-clause-slot
returns-in_err-slot-clause-slot c =
    let below : c.args.id < c.self.inside.first_id = search rules in
    let none : c.from_residual.result ≡ None = search rules in
    rw (← c.self.view_is, none) (sym (ap (option_map (λ (e : DriverEntry). e.slot)) (known_below c.self.inside.first_id c.args.id c.self.inside.table.entries c.self.invariant.numbers.slots below)))

pub returns-in_err-connection-clause-slot : goal.returns-in_err-connection-clause-slot
returns-in_err-connection-clause-slot c =
    let is : c.args.id ≡ c.self.inside.first_id + c.in_ok-slot.slot = search rules in
    let at : value_under c.self.inside.table c.in_ok-slot.slot ≡ None = search rules in
    let none : c.from_residual-in_err-connection.result ≡ None = search rules in
    rw (← c.self.view_is, none) (sym (known_slot c.self.inside.first_id c.args.id c.in_ok-slot.slot c.self.inside.table None c.self.invariant.table c.self.invariant.numbers.slots is at))

pub returns-then-is_closed-clause-slot : goal.returns-then-is_closed-clause-slot
returns-then-is_closed-clause-slot c =
    let is : c.args.id ≡ c.self.inside.first_id + c.in_ok-slot.slot = search rules in
    let at : value_under c.self.inside.table c.in_ok-slot.slot ≡ Some c.in_ok-connection.connection.now = search rules in
    let closed : c.in_ok-connection.connection.now.closed ≡ true = search rules in
    rw (← c.self.view_is) (sym (known_slot c.self.inside.first_id c.args.id c.in_ok-slot.slot c.self.inside.table (Some c.in_ok-connection.connection.now) c.self.invariant.table c.self.invariant.numbers.slots is at ∙ rw closed refl))

pub returns-clause-slot : goal.returns-clause-slot
returns-clause-slot c =
    let is : c.args.id ≡ c.self.inside.first_id + c.in_ok-slot.slot = search rules in
    let at : value_under c.self.inside.table c.in_ok-slot.slot ≡ Some c.in_ok-connection.connection.now = search rules in
    let live : c.in_ok-connection.connection.now.closed ≡ false = search rules in
    rw (← c.self.view_is) (sym (known_slot c.self.inside.first_id c.args.id c.in_ok-slot.slot c.self.inside.table (Some c.in_ok-connection.connection.now) c.self.invariant.table c.self.invariant.numbers.slots is at ∙ rw live refl))
