use Rattle.std.proofs.Common.{◌≡◌, Some, ap, refl, subst, ◌∙◌}
use Rattle.vs_flow.specs.Table.{entry_under}
use Rattle.vs_device_parts.specs.{Filling.filling_of, Playing.{IsRingOf, MayRun, situation}, Receiving.{Filling, read_with_chain}, Served.Reads, State.{DeviceEntry, DeviceState}}
use Rattle.vs_device_parts.proofs.Under.{value_of}
use Rattle.vs_device.proofs.{Reading.{Owing, known_was_read, may_read_known, may_serve_then, owing, same_entry, served, served_none_owed, served_over, some_and}, Among.among}
use Rattle.vs_device.proofs.{Among.ring_of, device.Device.serve_reading.Goals.After-hold}
use Rattle.vs_device.proofs.device.Device.serve_reading.Goals as goal

-- the connection, with the chain that is held then
module _ (g : _) (c : After-hold g) where
  one : Owing c.args.slot c.args.self.now.table c.args.stream c.args.credit
  one = owing c.args.slot c.args.self.now.table c.args.stream c.args.credit c.requires.known

  still : entry_under c.hold.new.self.table c.args.slot ≡ Some one.entry
  still = ap (λ (x : DeviceState). entry_under x.table c.args.slot) c.hold.ensures.others ∙ one.found

  held : IsRingOf (g.R.DeviceRing.held c.hold.new.ring) c.hold.new.self
  held = ring_of _ _ c.args.self.now c.hold.new.self c.requires.ring c.hold.ensures.beside c.hold.ensures.ring

pub hold-requires-clause-ring : goal.hold-requires-clause-ring
hold-requires-clause-ring g c = among _ c.args.self.now c.requires.ring

pub read_stream-requires-clause-known : goal.read_stream-requires-clause-known
read_stream-requires-clause-known g c =
    let k = (goal.at.read_stream-requires-clause-known g c).After-hold in
    some_and _ (one g k).entry.value (Reads c.args.stream c.args.credit) (value_of c.hold.new.self.table c.args.slot _ (still g k)) (one g k).only.reads

pub read_stream-requires-clause-may : goal.read_stream-requires-clause-may
read_stream-requires-clause-may g c = λ e is.
    let k = (goal.at.read_stream-requires-clause-may g c).After-hold in
    let o = one g k in
    let q : Filling = filling_of c.hold.new.self c.hold.new.fill in
    let host = g.H.HostNet.contents c.args.host.now in
    let faults = g.H.HostNet.faults c.args.host.now in
    let to = situation (g.R.DeviceRing.contents c.hold.new.ring) host faults in
    subst (λ (x : DeviceEntry). MayRun (read_with_chain x q) to) (same_entry _ o.entry e (still g k) is)
    (may_read_known c.args.slot (filling_of c.args.self.now c.args.fill.now) c.requires.going o.entry o.found o.only.reads.reads o.free q _ to c.requires.may
    (c.hold.ensures.calls host faults))

pub returns-then-not-read_stream-clause-ring : goal.returns-then-not-read_stream-clause-ring
returns-then-not-read_stream-clause-ring g c =
    let k = (goal.at.returns-then-not-read_stream-clause-ring g c).After-hold in
    ring_of _ _ c.hold.new.self c.read_stream.new.self (held g k) c.if-not-read_stream.ensures.beside c.if-not-read_stream.ensures.ring

pub returns-then-not-read_stream-clause-calls : goal.returns-then-not-read_stream-clause-calls
returns-then-not-read_stream-clause-calls g c =
    let k = (goal.at.returns-then-not-read_stream-clause-calls g c).After-hold in
    let o = one g k in
    let r : Filling = filling_of c.args.self.now c.args.fill.now in
    let q : Filling = filling_of c.read_stream.new.self c.read_stream.new.fill in
    let first = known_was_read c.args.slot r c.requires.going o.entry o.found o.only.reads.reads o.free _ q _ _ _
    (c.hold.ensures.calls (g.H.HostNet.contents c.args.host.now) (g.H.HostNet.faults c.args.host.now)) (c.if-not-read_stream.ensures.calls o.entry (still g k)) in
    let found : entry_under c.read_stream.new.self.table c.args.slot ≡ Some o.entry =
    ap (λ (x : DeviceState). entry_under x.table c.args.slot) (c.if-not-read_stream.ensures.still refl) ∙ still g k in
    served_none_owed c.args.slot r c.requires.going q o.entry _ _ found o.only.owes first

pub put_all_owed-requires-clause-ring : goal.put_all_owed-requires-clause-ring
put_all_owed-requires-clause-ring g c =
    let k = (goal.at.put_all_owed-requires-clause-ring g c).After-hold in
    ring_of _ _ c.hold.new.self c.read_stream.new.self (held g k) c.if-not-read_stream.ensures.beside c.if-not-read_stream.ensures.ring

pub put_all_owed-requires-clause-may : goal.put_all_owed-requires-clause-may
put_all_owed-requires-clause-may g c =
    let k = (goal.at.put_all_owed-requires-clause-may g c).After-hold in
    let o = one g k in
    let r : Filling = filling_of c.args.self.now c.args.fill.now in
    let q : Filling = filling_of c.read_stream.new.self c.read_stream.new.fill in
    let first = known_was_read c.args.slot r c.requires.going o.entry o.found o.only.reads.reads o.free _ q _ _ _
    (c.hold.ensures.calls (g.H.HostNet.contents c.args.host.now) (g.H.HostNet.faults c.args.host.now)) (c.if-not-read_stream.ensures.calls o.entry (still g k)) in
    may_serve_then c.args.slot r c.requires.going q _ _ c.if-not-fill.true c.requires.may first

pub returns-then-not-fill-clause-calls : goal.returns-then-not-fill-clause-calls
returns-then-not-fill-clause-calls g c =
    let k = (goal.at.returns-then-not-fill-clause-calls g c).After-hold in
    let o = one g k in
    let r : Filling = filling_of c.args.self.now c.args.fill.now in
    let q : Filling = filling_of c.read_stream.new.self c.read_stream.new.fill in
    let first = known_was_read c.args.slot r c.requires.going o.entry o.found o.only.reads.reads o.free _ q _ _ _
    (c.hold.ensures.calls (g.H.HostNet.contents c.args.host.now) (g.H.HostNet.faults c.args.host.now)) (c.if-not-read_stream.ensures.calls o.entry (still g k)) in
    served c.args.slot r c.requires.going q (filling_of c.put_all_owed.new.self c.put_all_owed.new.fill) _ _ _ c.if-not-fill.true first c.put_all_owed.ensures.calls

pub returns-else-not-fill-clause-ring : goal.returns-else-not-fill-clause-ring
returns-else-not-fill-clause-ring g c =
    let k = (goal.at.returns-else-not-fill-clause-ring g c).After-hold in
    ring_of _ _ c.hold.new.self c.read_stream.new.self (held g k) c.if-not-read_stream.ensures.beside c.if-not-read_stream.ensures.ring

pub returns-else-not-fill-clause-calls : goal.returns-else-not-fill-clause-calls
returns-else-not-fill-clause-calls g c =
    let k = (goal.at.returns-else-not-fill-clause-calls g c).After-hold in
    let o = one g k in
    let r : Filling = filling_of c.args.self.now c.args.fill.now in
    let q : Filling = filling_of c.read_stream.new.self c.read_stream.new.fill in
    let first = known_was_read c.args.slot r c.requires.going o.entry o.found o.only.reads.reads o.free _ q _ _ _
    (c.hold.ensures.calls (g.H.HostNet.contents c.args.host.now) (g.H.HostNet.faults c.args.host.now)) (c.if-not-read_stream.ensures.calls o.entry (still g k)) in
    served_over c.args.slot r c.requires.going q _ _ c.if-not-fill.false first
