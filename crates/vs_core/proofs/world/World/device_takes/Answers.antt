use Rattle.std.proofs.{Common.{Some, refl, sym, subst}, lemmas.Result.on_ok_weaker}
use Rattle.vs_ring_port.specs.declared.queue.Queue.TheVariants.{Rx, Tx, Event}
use Rattle.vs_device_parts.specs.Steps.{takes_chain}
use Rattle.laws_world.{specs.Events.DeviceTakes, proofs.OverBoth.IsPlayed}
use Rattle.vs_core.{specs.Ready.IsReady, proofs.{DeviceHappening.device_did, MayNow.take_now, Returning.takes_some, Stepped.run_played}}
use Rattle.vs_core.proofs.world.World.device_takes.Goals as goal

pub hold_chain-requires : goal.hold_chain-requires
hold_chain-requires c = record { ring = (subst IsReady (sym c.self.view_is) c.requires.ready).served.chain }

pub returns-in-Rx : goal.returns-in-Rx
returns-in-Rx c =
    let ready = subst IsReady (sym c.self.view_is) c.requires.ready in
    let old = c.self.inside in
    let d = c.hold_chain in
    let played = run_played old.rings d.new.ring old.host.contents old.host.contents _ _ (takes_chain Rx old.proxy.device) d.new.proxy.device
    (takes_some Rx old.proxy.device) (take_now _ _ ready Rx) (d.ensures.calls (Some old.host.contents) old.host.faults) in
    let same = subst (λ q. IsPlayed (takes_chain q old.proxy.device) old.rings old.host.contents d.new.proxy.device d.new.ring old.host.contents)
    (sym c.in-Rx.is) played in
    rw (← c.self.view_is) (on_ok_weaker c.fed.result (λ fed. device_did (DeviceTakes c.args.queue) _ ready d.new.proxy d.new.ring old.host.contents
    (takes_chain c.args.queue) d.ensures.others same d.ensures.ring (λ others has x is. d.ensures.streams others x (has x is)) fed refl (sym c.if-has_failed.ensures)) c.fed.ensures)

pub take_packet-requires-clause-ring : goal.take_packet-requires-clause-ring
take_packet-requires-clause-ring c = (subst IsReady (sym c.self.view_is) c.requires.ready).served.chain

pub take_packet-requires-clause-may : goal.take_packet-requires-clause-may
take_packet-requires-clause-may c = take_now _ _ (subst IsReady (sym c.self.view_is) c.requires.ready) Tx

pub returns-in-Tx : goal.returns-in-Tx
returns-in-Tx c =
    let ready = subst IsReady (sym c.self.view_is) c.requires.ready in
    let old = c.self.inside in
    let d = c.take_packet in
    let played = run_played old.rings d.new.ring old.host.contents d.new.host.contents _ _ (takes_chain Tx old.proxy.device) d.new.proxy.device
    (takes_some Tx old.proxy.device) (take_now _ _ ready Tx) d.ensures.calls in
    let same = subst (λ q. IsPlayed (takes_chain q old.proxy.device) old.rings old.host.contents d.new.proxy.device d.new.ring d.new.host.contents)
    (sym c.in-Tx.is) played in
    rw (← c.self.view_is) (on_ok_weaker c.fed-in-Tx.result (λ fed. device_did (DeviceTakes c.args.queue) _ ready d.new.proxy d.new.ring d.new.host.contents
    (takes_chain c.args.queue) d.ensures.others same d.ensures.ring d.ensures.streams fed refl (sym c.if-has_failed.ensures)) c.fed-in-Tx.ensures)

pub take_event-requires : goal.take_event-requires
take_event-requires c = record { ring = (subst IsReady (sym c.self.view_is) c.requires.ready).served.chain }

pub returns-in-Event : goal.returns-in-Event
returns-in-Event c =
    let ready = subst IsReady (sym c.self.view_is) c.requires.ready in
    let old = c.self.inside in
    let d = c.take_event in
    let played = run_played old.rings d.new.ring old.host.contents old.host.contents _ _ (takes_chain Event old.proxy.device) old.proxy.device
    (takes_some Event old.proxy.device) (take_now _ _ ready Event) (d.ensures.calls (Some old.host.contents) old.host.faults) in
    let same = subst (λ q. IsPlayed (takes_chain q old.proxy.device) old.rings old.host.contents old.proxy.device d.new.ring old.host.contents)
    (sym c.in-Event.is) played in
    rw (← c.self.view_is) (on_ok_weaker c.fed-in-Event.result (λ fed. device_did (DeviceTakes c.args.queue) _ ready old.proxy d.new.ring old.host.contents
    (takes_chain c.args.queue) refl same d.ensures.ring (λ others has. has) fed refl (sym c.if-has_failed.ensures)) c.fed-in-Event.ensures)
