use Rattle.std.proofs.Common.{◌≡◌, true, false, Some, sym, ap, subst, ◌∙◌}
use Rattle.vs_header.specs.declared.Header.{Header}
use Rattle.vs_conn.specs.{End.owes_of, Headers.owed_header}
use Rattle.vs_flow.specs.Table.{entry_under}
use Rattle.vs_device_parts.specs.{Playing.{MayRun, RunsOnRing, situation}, Connections.route_to_guest, Filling.{filling_of, put_header}, State.{DeviceEntry, DeviceState}}
use Rattle.vs_device.proofs.{Putting.{owed_put, owed_waits, may_owed, may_pay}, Paying.{HoldsOf, some_and}, Reading.same_entry, device.Device.put_owed.Goals.In-Some}
use Rattle.vs_device.proofs.device.Device.put_owed.Goals as goal

-- the connection, and what it owes
module _ (g : _) (c : In-Some g) where
  owing : HoldsOf (entry_under c.self.inside.slots c.args.slot) (λ (e : DeviceEntry). (owes_of e.value.end ≡ Some c.in-Some.what)
      × (c.in-Some.header ≡ owed_header e.value.end (route_to_guest c.self.inside.cid e.flow) c.in-Some.what))
  owing = some_and _ _ c.in-Some.ensures.some

  found : entry_under c.args.self.now.table c.args.slot ≡ Some owing.one
  found = ap (λ (x : DeviceState). entry_under x.table c.args.slot) (sym c.self.view_is) ∙ owing.is

  head : c.in-Some.header ≡ owed_header owing.one.value.end (route_to_guest c.args.self.now.cid owing.one.flow) c.in-Some.what
  head = owing.holds.1 ∙ ap (λ (x : DeviceState). owed_header owing.one.value.end (route_to_guest x.cid owing.one.flow) c.in-Some.what) c.self.view_is

pub put_header-requires-clause-may : goal.put_header-requires-clause-may
put_header-requires-clause-may g c =
    let k = (goal.at.put_header-requires-clause-may g c).In-Some in
    let r = filling_of c.args.self.now c.args.fill.now in
    let from = situation (g.R.DeviceRing.contents c.args.ring.now) (g.H.HostNet.contents c.args.host.now) (g.H.HostNet.faults c.args.host.now) in
    let P : Header → Type 0 = λ x. MayRun (put_header x r) from in
    (g.H.HostNet.contents c.args.host.now, g.H.HostNet.faults c.args.host.now, subst P (sym (head g k)) (may_owed r c.args.slot (owing g k).one c.in-Some.what (found g k) (owing g k).holds.0 from c.requires.may))

pub returns-then-not-put_header-clause-calls : goal.returns-then-not-put_header-clause-calls
returns-then-not-put_header-clause-calls g c =
    let k = (goal.at.returns-then-not-put_header-clause-calls g c).In-Some in
    let r = filling_of c.args.self.now c.args.fill.now in
    let P : Header → Type 0 = λ x. RunsOnRing (put_header x r) (g.R.DeviceRing.contents c.args.ring.now)
    (filling_of c.put_header.new.self c.put_header.new.fill, false) (g.R.DeviceRing.contents c.put_header.new.ring) in
    let put = subst P (head g k) c.if-not-put_header.ensures.calls (g.H.HostNet.contents c.args.host.now) (g.H.HostNet.faults c.args.host.now) in
    owed_waits r c.args.slot (owing g k).one c.in-Some.what (found g k) (owing g k).holds.0 _ _ _ put c.if-not-put_header.ensures.over

pub count_paid-requires-clause-may : goal.count_paid-requires-clause-may
count_paid-requires-clause-may g c = λ e is.
    let k = (goal.at.count_paid-requires-clause-may g c).In-Some in
    let r = filling_of c.args.self.now c.args.fill.now in
    let P : Header → Type 0 = λ x. RunsOnRing (put_header x r) (g.R.DeviceRing.contents c.args.ring.now)
    (filling_of c.put_header.new.self c.put_header.new.fill, true) (g.R.DeviceRing.contents c.put_header.new.ring) in
    let put = subst P (head g k) c.if-not-put_header.ensures.calls (g.H.HostNet.contents c.args.host.now) (g.H.HostNet.faults c.args.host.now) in
    let there : entry_under c.args.self.now.table c.args.slot ≡ Some e = sym (ap (λ (x : DeviceState). entry_under x.table c.args.slot) c.put_header.ensures.others) ∙ is in (
      g.R.DeviceRing.contents c.put_header.new.ring,
      rw (sym (same_entry _ (owing g k).one e (found g k) there)) (may_pay r c.args.slot (owing g k).one c.in-Some.what (found g k)
          (owing g k).holds.0 _ _ _ c.requires.may put),
    )

pub returns-clause-calls : goal.returns-clause-calls
returns-clause-calls g c =
    let k = (goal.at.returns-clause-calls g c).In-Some in
    let r = filling_of c.args.self.now c.args.fill.now in
    let P : Header → Type 0 = λ x. RunsOnRing (put_header x r) (g.R.DeviceRing.contents c.args.ring.now)
    (filling_of c.put_header.new.self c.put_header.new.fill, true) (g.R.DeviceRing.contents c.put_header.new.ring) in
    let put = subst P (head g k) c.if-not-put_header.ensures.calls (g.H.HostNet.contents c.args.host.now) (g.H.HostNet.faults c.args.host.now) in
    let there = ap (λ (x : DeviceState). entry_under x.table c.args.slot) c.put_header.ensures.others ∙ found g k in
    owed_put r c.args.slot (owing g k).one c.in-Some.what (found g k) (owing g k).holds.0 _ _ _ _ _
    put c.if-not-put_header.ensures.over (c.count_paid.ensures.calls (owing g k).one there _)
