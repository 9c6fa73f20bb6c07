use Rattle.std.proofs.Common.{◌<◌, length, ◌∙◌, rules}
use Rattle.vs_device_parts.{specs.Turns.close_slot, proofs.Each.each_more, proofs.Each.may_each_step, proofs.Each.may_each_more}
use Rattle.vs_device.proofs.device.Device.close_all.Goals as goal

pub close_slot-requires : goal.close_slot-requires
close_slot-requires g c =
    let xs = c.as_slice-slot-items.result.now in
    let within : c.loop-slot.slot-index < length xs = search rules in
    record { may = (c.loop-slot.invariant.may.0, may_each_step close_slot xs c.loop-slot.slot-index 0 c.loop-slot.self within _ c.loop-slot.invariant.may.1) }

pub loop-slot-preserved : goal.loop-slot-preserved
loop-slot-preserved g c =
    let xs = c.as_slice-slot-items.result.now in
    let i = c.loop-slot.slot-index in
    let within : i < length xs = search rules in
    let may = c.loop-slot.invariant.may in
    record {
      goes_on = λ new h n rest. c.loop-slot.invariant.goes_on new h n (λ ring.
          each_more close_slot xs i 0 c.loop-slot.self within _ _ _ _ _ (c.close_slot.ensures.calls ring) (rest ring));
      may = (may.0, may_each_more close_slot xs i 0 c.loop-slot.self within _ _ _ may.1 (c.close_slot.ensures.calls may.0));
      chain = c.close_slot.ensures.chain ∙ c.loop-slot.invariant.chain;
    }
