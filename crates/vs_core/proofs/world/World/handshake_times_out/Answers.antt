use Rattle.std.proofs.{Common.{refl, sym, subst}, lemmas.Result.on_ok_weaker}
use Rattle.vs_ring_list.specs.Ends.{device_contents}
use Rattle.vs_proxy_parts.specs.{Handshakes.tick_handshake, State.start}
use Rattle.laws_world.specs.Events.{HandshakeTimesOut}
use Rattle.vs_core.{specs.Ready.IsReady, proofs.{DeviceHappening.turn_did, MayNow.late_now, Returning.late_some, Stepped.{run_played, still_among}}}
use Rattle.vs_core.proofs.world.World.handshake_times_out.Goals as goal

pub time_out_handshake-requires : goal.time_out_handshake-requires
time_out_handshake-requires c = record { may = (device_contents c.self.inside.rings, late_now _ _ (subst IsReady (sym c.self.view_is) c.requires.ready) c.args.stream) }

pub returns : goal.returns
returns c =
    let ready = subst IsReady (sym c.self.view_is) c.requires.ready in
    let old = c.self.inside in
    let d = c.time_out_handshake in
    let host = d.new.host.contents in
    let r = d.ensures.calls in
    let played = run_played old.rings old.rings old.host.contents host _ _ (tick_handshake c.args.stream (start old.proxy)) r.0
    (late_some c.args.stream (start old.proxy)) (late_now _ _ ready c.args.stream) (r.2 (device_contents old.rings)) in
    let chain = still_among _ old.proxy.device d.new.proxy.device d.ensures.chain ready.served.chain in
    rw (← c.self.view_is) (on_ok_weaker c.fed.result (λ fed. turn_did (HandshakeTimesOut c.args.stream) _ ready d.new.proxy old.rings host chain d.ensures.streams fed
    (tick_handshake c.args.stream) r.0 refl (sym c.if-has_failed.ensures) r.1 played) c.fed.ensures)
