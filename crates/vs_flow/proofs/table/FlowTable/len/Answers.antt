use Rattle.std.proofs.Common.{◌∙◌}
use Rattle.slab.specs.Slab.{get}
use Rattle.vs_flow.{specs.TableFields.table_of, proofs.Keys.led_long}
use Rattle.vs_flow.proofs.table.FlowTable.len.Goals as goal

pub returns-clause-len : goal.returns-clause-len
returns-clause-len g c =
    let t = c.self.inside in
    let long = led_long (get t.entries) t.keys.items (table_of t).entries c.self.invariant.led in
    rw (← c.self.view_is) (c.len.ensures ∙ t.keys.ok.0 ∙ long)
