use Rattle.std.{proofs.Common.{◌≡◌, List, ◌∷◌, ◌+◌, map, drop, Some, sym, ap, ◌∙◌, rules}, specs.List.slice_get}
use Rattle.vs_conn.specs.declared.end.State.{State}
use Rattle.vs_flow.specs.declared.flow.Flow.{Flow}
use Rattle.vs_driver_parts.{specs.State.DriverEntry, proofs.Lists.drop_next}
use Rattle.vs_driver.proofs.table.EntriesIterator.next.Goals as goal

pub returns-clause-steps : goal.returns-clause-steps
returns-clause-steps c =
    let entries : List DriverEntry = c.self.inside.slots.now.table.entries in
    let i = c.self.inside.place in
    let shown : DriverEntry → Flow × State = λ x. (x.flow, x.value.end.state) in
    let at : slice_get entries i ≡ Some c.in_ok-entry.entry.now = search rules in
    let state : c.in_ok-entry.entry.now.value.end.state ≡ c.state.result = search rules in
    sym c.self.view_is ∙ (ap (map shown) (drop_next entries i c.in_ok-entry.entry.now at)
    ∙ ap (λ (x : State). let first : Flow × State = (c.in_ok-entry.entry.now.flow, x) in first ∷ map shown (drop (i + 1) entries)) state)
