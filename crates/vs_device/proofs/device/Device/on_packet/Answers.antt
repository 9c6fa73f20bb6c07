use Rattle.std.proofs.Common.{rules, ◌≡◌, ℕ, Some, None, sym, ap, subst, ◌∙◌}
use Rattle.vs_flow.{specs.{Table.{entry_of, entry_under}, declared.flow.Flow.Flow}, proofs.Lookups.entry_of_found}
use Rattle.vs_page.specs.Log.{flow_to_host}
use Rattle.vs_device_parts.{proofs.Under.{IsMapped, mapped}, specs.{Playing.{MayRun, situation}, State.{DeviceEntry, DeviceState}, Taking.known_packet}}
use Rattle.vs_device.proofs.{Takings.{may_be_known, was_known, was_unknown}, Reading.same_entry, device.Device.on_packet.Goals.In-Some}
use Rattle.vs_device.proofs.device.Device.on_packet.Goals as goal

-- the connection that was found, by its slot and by its flow
module _ (g : _) (c : In-Some g) where
  one : IsMapped (λ (x : DeviceEntry). x.slot) (entry_of c.self.inside.slots c.flow_to_host-flow.result) c.in-Some.slot
  one = mapped _ _ _ c.in-Some.ensures.slot

  found : entry_under c.args.self.now.table c.in-Some.slot ≡ Some one.from
  found =
      ap (λ (t : DeviceState). entry_under t.table c.in-Some.slot) (sym c.self.view_is) ∙ (ap (λ (n : ℕ). entry_under c.self.inside.slots n) (sym one.gives)
      ∙ (entry_of_found c.self.inside.slots c.flow_to_host-flow.result one.from c.in-Some.ensures.sound one.some).under)

  there : entry_of c.args.self.now.table (flow_to_host c.args.header.now) ≡ Some one.from
  there =
      ap (λ (t : DeviceState). entry_of t.table (flow_to_host c.args.header.now)) (sym c.self.view_is)
      ∙ (ap (λ (f : Flow). entry_of c.self.inside.slots f) (sym c.flow_to_host-flow.ensures) ∙ one.some)

pub on_known-requires-clause-there : goal.on_known-requires-clause-there
on_known-requires-clause-there g c = let k = (goal.at.on_known-requires-clause-there g c).In-Some in ((one g k).from, found g k)

pub on_known-requires-clause-may : goal.on_known-requires-clause-may
on_known-requires-clause-may g c = λ f is.
    let k = (goal.at.on_known-requires-clause-may g c).In-Some in
    let x = situation (g.R.DeviceRing.contents c.args.ring.now) (g.H.HostNet.contents c.args.host.now) (g.H.HostNet.faults c.args.host.now) in
    subst (λ (e : DeviceEntry). MayRun (known_packet c.args.chain.now c.args.header.now e c.args.self.now) x) (same_entry _ (one g k).from f (found g k) is)
    (may_be_known c.args.chain.now c.args.header.now c.args.self.now (sym c.if-is_dropped.ensures) (one g k).from x (there g k) c.requires.may)

pub returns-in-Some-clause-calls : goal.returns-in-Some-clause-calls
returns-in-Some-clause-calls g c =
    let k = (goal.at.returns-in-Some-clause-calls g c).In-Some in
    was_known c.args.chain.now c.args.header.now c.args.self.now (sym c.if-is_dropped.ensures) (one g k).from _ _ _ (there g k)
    (c.on_known.ensures.calls (one g k).from (found g k))

pub returns-in-None-clause-calls : goal.returns-in-None-clause-calls
returns-in-None-clause-calls g c =
    let none : entry_of c.args.self.now.table (flow_to_host c.args.header.now) ≡ None = search rules in
    was_unknown c.args.chain.now c.args.header.now c.args.self.now (sym c.if-is_dropped.ensures) _ _ _ none
    (c.on_unknown.ensures.calls (g.R.DeviceRing.contents c.args.ring.now))
