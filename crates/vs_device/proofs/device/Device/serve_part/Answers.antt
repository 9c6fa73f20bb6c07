use Rattle.std.proofs.Common.{◌≤◌, ◌<◌, length, rules, arith}
use Rattle.vs_device_parts.{proofs.Each.{each_more, may_each_step, may_each_more, each_end}, specs.{Filling.filling_of, Receiving.{Filling, serve_slot}}}
use Rattle.vs_device.proofs.device.Device.serve_part.Goals as goal

pub serve_slot-requires-clause-may : goal.serve_slot-requires-clause-may
serve_slot-requires-clause-may g c =
    let xs = c.args.slots.now in
    let within : c.loop-slot.slot-index < length xs = search rules in
    may_each_step serve_slot xs c.loop-slot.slot-index 0 (filling_of c.loop-slot.self c.loop-slot.fill) within _ c.loop-slot.invariant.may

pub loop-slot-preserved : goal.loop-slot-preserved
loop-slot-preserved g c =
    let xs = c.args.slots.now in
    let i = c.loop-slot.slot-index in
    let within : i < length xs = search rules in
    let r : Filling = filling_of c.loop-slot.self c.loop-slot.fill in
    record {
      goes_on = λ x t rest. c.loop-slot.invariant.goes_on x t (each_more serve_slot xs i 0 r within _ _ _ _ _ c.serve_slot.ensures.calls rest);
      may = may_each_more serve_slot xs i 0 r within _ _ _ c.loop-slot.invariant.may c.serve_slot.ensures.calls;
      ring = c.serve_slot.ensures.ring;
      small = omega (arith, c.loop-slot.invariant.small, c.serve_slot.ensures.count);
      read = omega (arith, c.loop-slot.invariant.read, c.serve_slot.ensures.read);
    }

pub returns-clause-calls : goal.returns-clause-calls
returns-clause-calls g c =
    let xs = c.args.slots.now in
    let ends : length xs ≤ c.loop-slot.slot-index = search rules in
    c.loop-slot.invariant.goes_on _ _ (each_end serve_slot xs c.loop-slot.slot-index (filling_of c.loop-slot.self c.loop-slot.fill) _ ends)
