use Rattle.std.{proofs.Common.{◌≡◌, ℕ, Some, sym, ap, ◌∙◌}, specs.{Option.option_map, List.find}}
use Rattle.vs_flow.specs.Table.{entry_under, value_under}
use Rattle.vs_driver_parts.{specs.State.{DriverEntry, is_known_as}, proofs.{Ids.found_under, Known.mapped}}
use Rattle.vs_driver_parts.proofs.slots.Slots.known.Goals as goal

pub returns : goal.returns
returns c =
    let t = c.self.inside.table in
    let is : Some c.in_ok-slot.slot ≡ option_map (λ (e : DriverEntry). e.slot) (find (is_known_as c.args.id) t.entries) = rw (← c.self.view_is) at c.in_ok-slot.ensures.slot in
    let m = mapped (λ (e : DriverEntry). e.slot) (find (is_known_as c.args.id) t.entries) c.in_ok-slot.slot is in
    let under : entry_under t m.from.slot ≡ Some m.from = found_under (is_known_as c.args.id) t m.from c.self.invariant.table m.some in
    let at : value_under t c.in_ok-slot.slot ≡ Some m.from.value = ap (λ (n : ℕ). value_under t n) (sym m.gives) ∙ ap (option_map (λ (e : DriverEntry). e.value)) under in
    rw (← c.self.view_is, m.some) (c.get.ensures.value ∙ at)
