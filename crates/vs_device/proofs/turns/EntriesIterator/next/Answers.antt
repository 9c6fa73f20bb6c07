use Rattle.std.proofs.Common.{◌≡◌, ℕ, suc, List, ◌∷◌, ◌+◌, map, drop, Some, drop-cons, add-one, sym, ap, ◌∙◌, rules}
use Rattle.std.{specs.List.slice_get, proofs.lemmas.Option.slice_get_within, proofs.lemmas.Option.get_or_from_slice_get}
use Rattle.vs_conn.specs.declared.end.State.{State}
use Rattle.vs_flow.specs.declared.flow.Flow.{Flow}
use Rattle.vs_device_parts.specs.State.{DeviceEntry}
use Rattle.vs_device.proofs.turns.EntriesIterator.next.Goals as goal

drop_next : (xs : List DeviceEntry) (i : ℕ) (x : DeviceEntry) → slice_get xs i ≡ Some x → drop i xs ≡ x ∷ drop (i + 1) xs
drop_next xs i x at =
    drop-cons xs i x (slice_get_within xs i x at)
    ∙ (ap (λ (y : DeviceEntry). y ∷ drop (suc i) xs) (get_or_from_slice_get xs i x x at) ∙ ap (λ (n : ℕ). x ∷ drop n xs) (sym (add-one i)))

pub returns-clause-steps : goal.returns-clause-steps
returns-clause-steps c =
    let entries : List DeviceEntry = c.self.inside.slots.now.entries in
    let i = c.self.inside.place in
    let shown : DeviceEntry → Flow × State = λ x. (x.flow, x.value.end.state) in
    let at : slice_get entries i ≡ Some c.in_ok-entry.entry.now = search rules in
    let state : c.in_ok-entry.entry.now.value.end.state ≡ c.state.result = search rules in
    sym c.self.view_is ∙ (ap (map shown) (drop_next entries i c.in_ok-entry.entry.now at)
    ∙ ap (λ (x : State). let first : Flow × State = (c.in_ok-entry.entry.now.flow, x) in first ∷ map shown (drop (i + 1) entries)) state)
