use Rattle.std.proofs.Common.{◌≡◌, true, false, Some, refl, sym, ap, ◌∙◌}
use Rattle.vs_flow.specs.Table.{Table, entry_under}
use Rattle.vs_device_parts.{specs.{Filling.is_rst, State.{DeviceConnection, DeviceState}}, proofs.Under.{has_slot, value_of}}
use Rattle.vs_device.{specs.contracts.device.Device.the_view, proofs.Paying.{after_other, paid_leaves, paid_stays}}
use Rattle.vs_device.proofs.device.Device.count_paid.Goals as goal

pub returns-then-is_rst-clause-calls : goal.returns-then-is_rst-clause-calls
returns-then-is_rst-clause-calls g c = λ e is ring.
    let d = c.self.inside in
    let s : DeviceState = c.args.self.now in
    let m : DeviceState = the_view (record d { last_put = Some c.args.slot }) in
    let found : entry_under d.slots c.args.slot ≡ Some e = rw (← c.self.view_is) at is in
    let rst : is_rst c.args.what ≡ true = sym c.is_rst.ensures ∙ c.if-is_rst.true in
    let state : m ≡ record s { last_put = Some c.args.slot } = ap (λ (x : DeviceState). record x { last_put = Some c.args.slot }) c.self.view_is in
    paid_leaves c.args.what e c.args.slot s m _ _ _ rst (has_slot d.slots c.args.slot e found) state (c.leave.ensures.calls e found e.value refl refl ring)

pub returns-else-is_rst-clause-calls : goal.returns-else-is_rst-clause-calls
returns-else-is_rst-clause-calls g c = λ e is ring.
    let d = c.self.inside in
    let s : DeviceState = c.args.self.now in
    let found : entry_under d.slots c.args.slot ≡ Some e = rw (← c.self.view_is) at is in
    let other : is_rst c.args.what ≡ false = sym c.is_rst.ensures ∙ c.if-is_rst.false in
    let slots = c.paid.ensures.left e.value (value_of d.slots c.args.slot e found) in
    let state : the_view (record d { slots = c.paid.new.self; last_put = Some c.args.slot }) ≡ after_other c.args.what c.args.slot e s =
    ap (λ (t : Table DeviceConnection). the_view (record d { slots = t; last_put = Some c.args.slot })) slots
    ∙ ap (λ (x : DeviceState). after_other c.args.what c.args.slot e x) c.self.view_is in
    paid_stays c.args.what e c.args.slot s _ _ other (has_slot d.slots c.args.slot e found) state
