use Rattle.std.{proofs.{Common.{ap, arith, length, refl, sym, ◌∙◌}, lemmas.Option.{slice_get_past, slice_get_read}}, specs.Option.{option_and_then, option_copied}}
use Rattle.slab.specs.Slab.{get}
use Rattle.vs_flow.{specs.TableFields.table_of, proofs.Keys.{led_at, led_long}}
use Rattle.vs_flow.proofs.table.FlowTable.at.Goals as goal

pub returns-in_err-_slot-clause-entry : goal.returns-in_err-_slot-clause-entry
returns-in_err-_slot-clause-entry g c =
    let t = c.self.inside in
    let es = (table_of t).entries in
    let long = led_long (get t.entries) t.keys.items es c.self.invariant.led in
    rw (← c.self.view_is) (ap option_copied c.from_residual.ensures
    ∙ sym (slice_get_past es c.args.place (omega (arith, c.in_err-_slot.ensures.lookup.3, ap length c.deref.ensures.value, long))))

pub returns-clause-entry : goal.returns-clause-entry
returns-clause-entry g c =
    let t = c.self.inside in
    let there = rw c.deref.ensures.value at
    (slice_get_read c.deref.result.now _ c.args.place _ refl c.in_ok-_slot.ensures.lookup.3.0 c.in_ok-_slot.ensures.lookup.1) in
    rw (← c.self.view_is) (c.get-2.ensures ∙ ap (option_and_then (λ k. get t.entries k.1)) (sym there)
    ∙ led_at (get t.entries) c.args.place t.keys.items (table_of t).entries c.self.invariant.led)
