use Rattle.std.proofs.{Common.{Some, refl, sym, subst}, lemmas.Result.on_ok_weaker}
use Rattle.vs_ring_port.specs.declared.queue.Queue.TheVariants.{Tx}
use Rattle.laws_world.{specs.Events.DeviceReturns, proofs.OverBoth.IsPlayed}
use Rattle.vs_core.{proofs.{DeviceHappening.{chain_did, held_of_queue, of_queue, same_held}, Stepped.returned_played}, specs.Ready.IsReady}
use Rattle.vs_device_parts.specs.Steps as steps
use Rattle.vs_core.proofs.world.World.device_returns.Goals as goal

pub return_chain-requires-clause-ring : goal.return_chain-requires-clause-ring
return_chain-requires-clause-ring c = (subst IsReady (sym c.self.view_is) c.requires.ready).served.chain

pub return_chain-requires-clause-is_held : goal.return_chain-requires-clause-is_held
return_chain-requires-clause-is_held c =
    let held = c.self.inside.rings.device.held in
    held_of_queue Tx c.twin.result held (same_held Tx _ _ held c.twin.ensures (sym c.if-not-holds_packet.ensures))

pub return_chain-requires-clause-queue : goal.return_chain-requires-clause-queue
return_chain-requires-clause-queue c =
    let held = c.self.inside.rings.device.held in
    of_queue Tx c.twin.result held (same_held Tx _ _ held c.twin.ensures (sym c.if-not-holds_packet.ensures))

pub returns : goal.returns
returns c =
    let ready = subst IsReady (sym c.self.view_is) c.requires.ready in
    let old = c.self.inside in
    let chain = c.args.chain.now in
    let d = c.return_chain in
    let host = old.host.contents in
    let held = held_of_queue Tx c.twin.result old.rings.device.held
    (same_held Tx _ chain old.rings.device.held c.twin.ensures (sym c.if-not-holds_packet.ensures)) in
    let played = returned_played c.twin.result old.proxy.device old.proxy.device old.rings d.new.ring host host _ _ held
    (d.ensures.calls (Some host) old.host.faults) in
    let same = subst (λ x. IsPlayed (steps.returns x old.proxy.device) old.rings host old.proxy.device d.new.ring host) c.twin.ensures played in
    rw (← c.self.view_is) (on_ok_weaker c.fed.result (λ fed. chain_did (DeviceReturns chain) _ ready old.proxy d.new.ring host
    (steps.returns chain) refl same d.ensures.ring (λ others has. has) fed _ (sym c.if-not-holds_packet.ensures) refl) c.fed.ensures)
