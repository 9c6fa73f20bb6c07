use Rattle.std.{proofs.{Common.{◌≡◌, true, false, Some, Bool, sym, ap, ◌∙◌, arith}, lemmas.Bool.Decides.nat_tests}, specs.Prelude.◌==◌}
use Rattle.vs_conn.specs.End.{wanting_credit}
use Rattle.vs_credit.specs.Credit.{free_of}
use Rattle.vs_flow.specs.Table.{entry_under, with_value}
use Rattle.vs_device_parts.{specs.{State.{DeviceConnection, DeviceEntry, DeviceState}, Receiving.may_read}, proofs.Under.under}
use Rattle.vs_device.{specs.contracts.device.Device.the_view, proofs.{Leaving.changed, Reading.wants_is}}
use Rattle.vs_device.proofs.device.Device.is_to_read.Goals as goal

pub returns-then-free-eq0-clause-read : goal.returns-then-free-eq0-clause-read
returns-then-free-eq0-clause-read c =
    let d = c.self.inside in
    let s : DeviceState = c.args.self.now in
    let slot = c.args.slot in
    let u = under d.slots slot c.in-Some.connection.now (sym c.in-Some.ensures) in
    let e : DeviceEntry = u.entry in
    let found : entry_under s.table slot ≡ Some e = ap (λ (x : DeviceState). entry_under x.table slot) (sym c.self.view_is) ∙ u.found in
    let reads : may_read e.value.end e.value.end.state ≡ true = ap (λ (x : DeviceConnection). may_read x.end x.end.state) u.value ∙ sym c.if-not-may_read.ensures in
    let zero : free_of e.value.end.credit ≡ 0 = ap (λ (x : DeviceConnection). free_of x.end.credit) u.value ∙ (sym c.free.ensures ∙ c.if-free-eq0.true) in
    let none : (free_of e.value.end.credit == 0) ≡ true = grind (arith, nat_tests, zero) in
    let v : DeviceConnection = record e.value { end = wanting_credit e.value.end } in
    let slots : c.want_credit.new.self ≡ with_value d.slots slot v =
    c.want_credit.ensures.left c.in-Some.connection.now (sym c.in-Some.ensures) ∙ ap (λ (x : DeviceConnection). with_value d.slots slot (record x { end = wanting_credit x.end })) (sym u.value) in
    let state = changed (the_view d) s slot e v c.want_credit.new.self c.self.view_is slots u.slot_is in
    ap (λ (x : DeviceState). let r : DeviceState × Bool = (x, false) in r) state ∙ sym (wants_is slot s e found reads none)
