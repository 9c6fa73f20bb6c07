use Rattle.std.proofs.Common.{subst, sym, ◌∙◌}
use Rattle.slab.specs.Slab.{get}
use Rattle.vs_flow.{specs.{Entries.AreLedTo, TableFields.table_of}, proofs.Keys.{led_position, slots_rise}}
use Rattle.vs_flow.proofs.table.FlowTable.place_of.Goals as goal

pub place_in-requires : goal.place_in-requires
place_in-requires g c =
    let t = c.self.inside in
    let es = (table_of t).entries in
    let led = subst (λ ks. AreLedTo (get t.entries) ks es) (sym c.deref.ensures.value) c.self.invariant.led in
    record { rising = slots_rise (get t.entries) c.deref.result.now es led c.self.invariant.table.rising }

pub returns-clause-place : goal.returns-clause-place
returns-clause-place g c =
    let t = c.self.inside in
    let es = (table_of t).entries in
    let led = subst (λ ks. AreLedTo (get t.entries) ks es) (sym c.deref.ensures.value) c.self.invariant.led in
    rw (← c.self.view_is) (c.place_in.ensures ∙ led_position (get t.entries) c.args.slot c.deref.result.now es led)
