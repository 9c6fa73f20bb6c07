use Rattle.std.proofs.Common.{◌≤◌, ◌<◌, length, refl, ◌∙◌, rules, arith}
use Rattle.vs_contents.proofs.Leads.{leads_of}
use Rattle.vs_device_parts.{specs.{Streams.{Writing, pump_slot}, Written.writing}, proofs.Each.{each_more, may_each_step, may_each_more, each_end}}
use Rattle.vs_device.proofs.Skipped.{none_writes}
use Rattle.vs_device.proofs.device.Device.pump.Goals as goal

pub pump_slot-requires-clause-may : goal.pump_slot-requires-clause-may
pump_slot-requires-clause-may g c =
    let xs = c.as_slice-slot-items.result.now in
    let i = c.loop-slot.slot-index in
    let within : i < length xs = search rules in
    let may = c.loop-slot.invariant.may in
    (may.0, may_each_step pump_slot xs i 0 (writing c.loop-slot.self c.loop-slot.wrote) within _ may.1)

pub loop-slot-preserved : goal.loop-slot-preserved
loop-slot-preserved g c =
    let xs = c.as_slice-slot-items.result.now in
    let i = c.loop-slot.slot-index in
    let within : i < length xs = search rules in
    let may = c.loop-slot.invariant.may in
    let w : Writing = writing c.loop-slot.self c.loop-slot.wrote in
    record {
      goes_on = λ new h n rest. c.loop-slot.invariant.goes_on new h n (λ ring.
          each_more pump_slot xs i 0 w within _ _ _ _ _ (c.pump_slot.ensures.calls ring) (rest ring));
      may = (may.0, may_each_more pump_slot xs i 0 w within _ _ _ may.1 (c.pump_slot.ensures.calls may.0));
      chain = c.pump_slot.ensures.chain ∙ c.loop-slot.invariant.chain;
      small = omega (arith, c.loop-slot.invariant.small, c.pump_slot.ensures.count);
      few = c.loop-slot.invariant.few;
    }

pub returns-then-not-may_write-clause-calls : goal.returns-then-not-may_write-clause-calls
returns-then-not-may_write-clause-calls g c = λ ring. leads_of _ _ _ _ _ _ (none_writes (writing c.args.self.now 0) (c.if-not-may_write.ensures refl)) (refl, refl)

pub returns-clause-calls : goal.returns-clause-calls
returns-clause-calls g c =
    let xs = c.as_slice-slot-items.result.now in
    let ends : length xs ≤ c.loop-slot.slot-index = search rules in
    let w : Writing = writing c.loop-slot.self c.loop-slot.wrote in
    rw c.watch_after_writing.ensures (c.loop-slot.invariant.goes_on w _ _ (λ ring. each_end pump_slot xs c.loop-slot.slot-index w _ ends))
