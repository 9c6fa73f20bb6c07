-- What raising the buffer space of the connection in a slot leaves.
use Rattle.std.proofs.Common.{◌≡◌, ℕ, Some, sym, ap, ◌∙◌}
use Rattle.vs_conn.specs.End.{grown}
use Rattle.vs_flow.specs.Table.{value_under}
use Rattle.vs_device_parts.specs.{Connections.with_connection, Growing.{after_grow, entry_grow_answer, grow_answer, grown_by}}
use Rattle.vs_device_parts.{proofs.Under.under, specs.State.DeviceConnection, specs.State.DeviceState, specs.declared.answers.Grown.Grown}
use Rattle.vs_device_parts.specs.declared.answers.Grown.TheVariants as rise

pub grown_there : (slot alloc : ℕ) (s : DeviceState) (c : DeviceConnection) → value_under s.table slot ≡ Some c
    → grow_answer c.end.state alloc c.end ≡ rise.Done → with_connection slot (record c { end = grown c.end alloc }) s ≡ after_grow slot alloc s
grown_there slot alloc s c is done =
    let u = under s.table slot c is in
    let its : entry_grow_answer alloc u.entry ≡ rise.Done = ap (λ (x : DeviceConnection). grow_answer x.end.state alloc x.end) u.value ∙ done in
    rw (u.found, after_grow) (ap (λ (n : ℕ). with_connection n (record c { end = grown c.end alloc }) s) (sym u.slot_is)
    ∙ (ap (λ (x : DeviceConnection). with_connection u.entry.slot (record x { end = grown x.end alloc }) s) (sym u.value)
    ∙ ap (λ (a : Grown). grown_by a alloc u.entry s) (sym its)))
