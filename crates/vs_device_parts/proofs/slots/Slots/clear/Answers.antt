use Rattle.std.proofs.Common.{◌≡◌, length, ap, ◌∙◌, arith, rules}
use Rattle.vs_flow.specs.Table.{Table, without, emptied}
use Rattle.vs_device_parts.{specs.State.{DeviceConnection, DeviceEntry}, proofs.{SlotChanges.one_fewer, Under.{first_under, none_left, value_of}}}
use Rattle.vs_device_parts.proofs.slots.Slots.clear.Goals as goal

pub loop-slot-smaller : goal.loop-slot-smaller
loop-slot-smaller c =
    let t : Table DeviceConnection = c.loop-slot.self in
    let first = first_under t c.in-Some.slot c.in-Some.ensures.sound c.in-Some.ensures.first in
    let e : DeviceEntry = first.0 in
    let left : c.leave.new.self ≡ without t c.in-Some.slot = c.leave.ensures in
    let fewer = one_fewer t c.in-Some.slot e.value c.in-Some.ensures.sound (value_of t c.in-Some.slot e first.1) in
    omega (arith, fewer, ap (λ (u : Table DeviceConnection). length u.entries) left)

pub loop-slot-preserved : goal.loop-slot-preserved
loop-slot-preserved c = record { same = ap (λ (u : Table DeviceConnection). emptied u) c.leave.ensures ∙ c.loop-slot.invariant.same }

pub returns : goal.returns
returns c = none_left c.loop-slot.self (search rules) ∙ c.loop-slot.invariant.same
