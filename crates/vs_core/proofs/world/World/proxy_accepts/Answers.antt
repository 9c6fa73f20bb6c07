use Rattle.std.proofs.{Common.{refl, sym, subst}, lemmas.Result.on_ok_weaker}
use Rattle.vs_ring_list.specs.Ends.{device_contents}
use Rattle.vs_proxy_parts.specs.{Handshakes.accept_one, State.start}
use Rattle.laws_world.specs.Events.{ProxyAccepts}
use Rattle.vs_core.{specs.Ready.IsReady, proofs.{DeviceHappening.turn_did, Returning.accept_some, Stepped.{may_accept, run_played, still_among}}}
use Rattle.vs_core.proofs.world.World.proxy_accepts.Goals as goal

pub returns : goal.returns
returns c =
    let ready = subst IsReady (sym c.self.view_is) c.requires.ready in
    let old = c.self.inside in
    let d = c.accept in
    let host = d.new.host.contents in
    let r = d.ensures.calls in
    let played = run_played old.rings old.rings old.host.contents host _ _ (accept_one (start old.proxy)) r.0
    (accept_some (start old.proxy)) (may_accept (start old.proxy) _) (r.2 (device_contents old.rings)) in
    let chain = still_among _ old.proxy.device d.new.proxy.device d.ensures.chain ready.served.chain in
    rw (← c.self.view_is) (on_ok_weaker c.fed.result (λ fed. turn_did ProxyAccepts _ ready d.new.proxy old.rings host chain d.ensures.streams fed
    accept_one r.0 refl (sym c.if-has_failed.ensures) r.1 played) c.fed.ensures)
