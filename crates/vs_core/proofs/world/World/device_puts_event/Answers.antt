use Rattle.std.proofs.{Common.{◌≡◌, ◌&&◌, nat_le, true, List, Some, refl, sym, subst, arith}, lemmas.{Bool.{Decides.nat_tests, and_parts}, Result.on_ok_weaker}}
use Rattle.vs_ring_port.specs.{Chains.{Held, same_queue}, declared.{device_ring.Chain.Chain, queue.Queue.TheVariants.Event}}
use Rattle.vs_device_parts.specs.Steps.{puts_event}
use Rattle.laws_device.specs.Honest.{is_held}
use Rattle.laws_world.{specs.Events.DevicePutsEvent, proofs.OverBoth.IsPlayed}
use Rattle.vs_core.{proofs.{DeviceHappening.{chain_did, held_of_queue, of_queue, same_held}, MayNow.event_now, Returning.event_some, Stepped.run_played}, specs.Ready.IsReady}
use Rattle.vs_core.proofs.world.World.device_puts_event.Goals as goal

-- The chain is held on the event queue, and has room.
module _ (x chain : Chain) (held : List Held) (same : x ≡ chain)
    (is : ((same_queue Event chain.queue && is_held chain held) && nat_le 4 chain.writable) ≡ true) where
  on_event : (same_queue Event x.queue && is_held x held) ≡ true
  on_event = same_held Event x chain held same (and_parts _ (nat_le 4 chain.writable) is).0

  has_room : nat_le 4 x.writable ≡ true
  has_room = subst (λ y. nat_le 4 y.writable ≡ true) (sym same) (and_parts (same_queue Event chain.queue && is_held chain held) _ is).1

pub put_event-requires-clause-ring : goal.put_event-requires-clause-ring
put_event-requires-clause-ring c = (subst IsReady (sym c.self.view_is) c.requires.ready).served.chain

pub put_event-requires-clause-is_held : goal.put_event-requires-clause-is_held
put_event-requires-clause-is_held c =
    let held = c.self.inside.rings.device.held in
    held_of_queue Event c.twin.result held (on_event _ c.args.chain.now held c.twin.ensures (sym c.if-not-holds_event.ensures))

pub put_event-requires-clause-queue : goal.put_event-requires-clause-queue
put_event-requires-clause-queue c =
    let held = c.self.inside.rings.device.held in
    of_queue Event c.twin.result held (on_event _ c.args.chain.now held c.twin.ensures (sym c.if-not-holds_event.ensures))

pub put_event-requires-clause-long_enough : goal.put_event-requires-clause-long_enough
put_event-requires-clause-long_enough c =
    let room = has_room c.twin.result c.args.chain.now c.self.inside.rings.device.held c.twin.ensures (sym c.if-not-holds_event.ensures) in
    grind (arith, nat_tests, room)

pub put_event-requires-clause-may : goal.put_event-requires-clause-may
put_event-requires-clause-may c =
    let host = c.self.inside.host in
    let held = c.self.inside.rings.device.held in
    let chain = c.args.chain.now in
    let tested = sym c.if-not-holds_event.ensures in (
      Some host.contents,
      host.faults,
      event_now _ _ (subst IsReady (sym c.self.view_is) c.requires.ready) c.twin.result (on_event _ chain held c.twin.ensures tested)
          (has_room _ chain held c.twin.ensures tested),
    )

pub returns : goal.returns
returns c =
    let ready = subst IsReady (sym c.self.view_is) c.requires.ready in
    let old = c.self.inside in
    let chain = c.args.chain.now in
    let d = c.put_event in
    let host = old.host.contents in
    let held = old.rings.device.held in
    let tested = sym c.if-not-holds_event.ensures in
    let played = run_played old.rings d.new.ring host host _ _ (puts_event c.twin.result old.proxy.device) d.new.proxy.device
    (event_some c.twin.result old.proxy.device)
    (event_now _ _ ready c.twin.result (on_event _ chain held c.twin.ensures tested) (has_room _ chain held c.twin.ensures tested))
    (d.ensures.calls (Some host) old.host.faults) in
    let same = subst (λ x. IsPlayed (puts_event x old.proxy.device) old.rings host d.new.proxy.device d.new.ring host) c.twin.ensures played in
    rw (← c.self.view_is) (on_ok_weaker c.fed.result (λ fed. chain_did (DevicePutsEvent chain) _ ready d.new.proxy d.new.ring host
    (puts_event chain) d.ensures.others same d.ensures.ring (λ others has x is. d.ensures.streams others x (has x is)) fed _ tested refl)
    c.fed.ensures)
