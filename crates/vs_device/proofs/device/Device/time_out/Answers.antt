use Rattle.std.proofs.Common.{◌≤◌, ◌<◌, length, refl, ◌∙◌, rules}
use Rattle.vs_contents.proofs.Leads.{leads_of}
use Rattle.vs_device_parts.{specs.Streams.tick_slot, proofs.Each.{each_more, may_each_step, may_each_more, each_end}}
use Rattle.vs_device.proofs.Skipped.{none_times_out}
use Rattle.vs_device.proofs.device.Device.time_out.Goals as goal

pub tick_slot-requires : goal.tick_slot-requires
tick_slot-requires g c =
    let xs = c.as_slice-slot-items.result.now in
    let within : c.loop-slot.slot-index < length xs = search rules in
    record { may = (c.loop-slot.invariant.may.0, may_each_step tick_slot xs c.loop-slot.slot-index 0 c.loop-slot.self within _ c.loop-slot.invariant.may.1) }

pub loop-slot-preserved : goal.loop-slot-preserved
loop-slot-preserved g c =
    let xs = c.as_slice-slot-items.result.now in
    let i = c.loop-slot.slot-index in
    let within : i < length xs = search rules in
    let may = c.loop-slot.invariant.may in
    record {
      goes_on = λ new h n rest. c.loop-slot.invariant.goes_on new h n (λ ring.
          each_more tick_slot xs i 0 c.loop-slot.self within _ _ _ _ _ (c.tick_slot.ensures.calls ring) (rest ring));
      may = (may.0, may_each_more tick_slot xs i 0 c.loop-slot.self within _ _ _ may.1 (c.tick_slot.ensures.calls may.0));
      chain = c.tick_slot.ensures.chain ∙ c.loop-slot.invariant.chain;
    }

pub returns-then-not-may_time_out-clause-calls : goal.returns-then-not-may_time_out-clause-calls
returns-then-not-may_time_out-clause-calls g c = λ ring. leads_of _ _ _ _ _ _ (none_times_out c.args.self.now (c.if-not-may_time_out.ensures refl)) (refl, refl)

pub returns-clause-calls : goal.returns-clause-calls
returns-clause-calls g c =
    let xs = c.as_slice-slot-items.result.now in
    let ends : length xs ≤ c.loop-slot.slot-index = search rules in
    rw c.watch_anew.ensures (c.loop-slot.invariant.goes_on _ _ _ (λ ring. each_end tick_slot xs c.loop-slot.slot-index c.loop-slot.self _ ends))
