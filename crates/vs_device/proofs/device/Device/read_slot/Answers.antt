use Rattle.std.proofs.{Common.{◌≡◌, ◌<◌, true, Some, ap, subst, refl, ◌∙◌, arith}, lemmas.Bool.Decides.nat_tests}
use Rattle.vs_contents.proofs.Leads.{leads_of}
use Rattle.vs_credit.specs.Credit.{free_of}
use Rattle.vs_flow.specs.Table.{entry_under}
use Rattle.vs_device_parts.specs.{Receiving.{Filling, hold, may_read, read_with_chain}, Filling.filling_of, Playing.{MayRun, RunsOnRing, situation}, State.DeviceConnection}
use Rattle.vs_device_parts.{specs.State.{DeviceEntry, DeviceState}, proofs.Under.value_of}
use Rattle.vs_device.proofs.{Reading.{IsToRead, if_some, may_read_then, not_read, read_then, reads_stream, same_entry}, Among.{among, ring_of, same_ring}}
use Rattle.vs_device.proofs.device.Device.read_slot.Goals.{After-hold}
use Rattle.vs_device.proofs.device.Device.read_slot.Goals as goal

-- the connection whose stream is to be read, with the chain that is held then
module _ (g : _) (c : After-hold g) where
  one : IsToRead c.args.slot c.args.self.now c.is_to_read.new.self
  one = reads_stream c.args.slot _ _ c.if-is_to_read.ensures.read

  found : entry_under c.hold.new.self.table c.args.slot ≡ Some one.entry
  found =
      ap (λ (x : DeviceState). entry_under x.table c.args.slot) c.hold.ensures.others
      ∙ (ap (λ (x : DeviceState). entry_under x.table c.args.slot) one.same ∙ one.found)

  holds : RunsOnRing (hold (filling_of c.args.self.now c.args.fill.now)) (g.R.DeviceRing.contents c.args.ring.now)
      (filling_of c.hold.new.self c.hold.new.fill) (g.R.DeviceRing.contents c.hold.new.ring)
  holds =
      subst (λ (u : DeviceState). RunsOnRing (hold (filling_of u c.args.fill.now)) (g.R.DeviceRing.contents c.args.ring.now)
      (filling_of c.hold.new.self c.hold.new.fill) (g.R.DeviceRing.contents c.hold.new.ring)) one.same c.hold.ensures.calls

pub hold-requires-clause-ring : goal.hold-requires-clause-ring
hold-requires-clause-ring g c = among _ c.is_to_read.new.self (same_ring _ _ c.args.self.now c.is_to_read.new.self refl c.if-is_to_read.ensures.chain c.requires.ring)

pub read_with_chain-requires-clause-reads : goal.read_with_chain-requires-clause-reads
read_with_chain-requires-clause-reads g c =
    let k = (goal.at.read_with_chain-requires-clause-reads g c).After-hold in
    if_some _ _ (λ (x : DeviceConnection). may_read x.end x.end.state ≡ true) (value_of c.hold.new.self.table c.args.slot _ (found g k)) (one g k).reads

pub read_with_chain-requires-clause-credit : goal.read_with_chain-requires-clause-credit
read_with_chain-requires-clause-credit g c =
    let k = (goal.at.read_with_chain-requires-clause-credit g c).After-hold in
    let some = (one g k).some in
    let free : 0 < free_of (one g k).entry.value.end.credit = grind (arith, nat_tests, some) in
    if_some _ _ (λ (x : DeviceConnection). 0 < free_of x.end.credit) (value_of c.hold.new.self.table c.args.slot _ (found g k)) free

pub read_with_chain-requires-clause-may : goal.read_with_chain-requires-clause-may
read_with_chain-requires-clause-may g c = λ e is.
    let k = (goal.at.read_with_chain-requires-clause-may g c).After-hold in
    let q : Filling = filling_of c.hold.new.self c.hold.new.fill in
    let host = g.H.HostNet.contents c.args.host.now in
    let faults = g.H.HostNet.faults c.args.host.now in
    let to = situation (g.R.DeviceRing.contents c.hold.new.ring) host faults in
    subst (λ (x : DeviceEntry). MayRun (read_with_chain x q) to) (same_entry _ (one g k).entry e (found g k) is)
    (may_read_then c.args.slot (filling_of c.args.self.now c.args.fill.now) _ (one g k) q _ to c.requires.may (holds g k host faults))

pub returns-then-is_to_read-clause-calls : goal.returns-then-is_to_read-clause-calls
returns-then-is_to_read-clause-calls g c =
    let k = (goal.at.returns-then-is_to_read-clause-calls g c).After-hold in
    read_then c.args.slot (filling_of c.args.self.now c.args.fill.now) _ (one g k) _ _ _ _ _ (holds g k (g.H.HostNet.contents c.args.host.now) (g.H.HostNet.faults c.args.host.now))
    (c.read_with_chain.ensures.calls (one g k).entry (found g k))

pub returns-then-is_to_read-clause-ring : goal.returns-then-is_to_read-clause-ring
returns-then-is_to_read-clause-ring g c =
    let before = same_ring _ _ c.args.self.now c.is_to_read.new.self refl c.if-is_to_read.ensures.chain c.requires.ring in
    let held = ring_of _ _ c.is_to_read.new.self c.hold.new.self before c.hold.ensures.beside c.hold.ensures.ring in
    ring_of _ _ c.hold.new.self c.read_with_chain.new.self held c.read_with_chain.ensures.beside c.read_with_chain.ensures.ring

pub returns-else-is_to_read-clause-ring : goal.returns-else-is_to_read-clause-ring
returns-else-is_to_read-clause-ring g c = same_ring _ _ c.args.self.now c.is_to_read.new.self refl c.if-is_to_read.ensures.chain c.requires.ring

pub returns-else-is_to_read-clause-calls : goal.returns-else-is_to_read-clause-calls
returns-else-is_to_read-clause-calls g c =
    leads_of _ _ _ _ _ _ (not_read c.args.slot c.is_to_read.new.self (filling_of c.args.self.now c.args.fill.now) c.if-is_to_read.ensures.read) (refl, refl)
