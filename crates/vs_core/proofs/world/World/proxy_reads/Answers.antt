use Rattle.std.proofs.{Common.{refl, sym, subst}, lemmas.Result.on_ok_weaker}
use Rattle.vs_ring_list.specs.Ends.{device_contents}
use Rattle.vs_proxy_parts.specs.{Handshakes.read_byte, State.start}
use Rattle.laws_world.specs.Events.{ProxyReads}
use Rattle.vs_core.{specs.Ready.IsReady, proofs.{DeviceHappening.line_did, MayNow.line_now, Returning.line_some, Stepped.{run_played, still_among}}}
use Rattle.vs_core.proofs.world.World.proxy_reads.Goals as goal

pub read_line-requires : goal.read_line-requires
read_line-requires c = record { may = (device_contents c.self.inside.rings, line_now _ _ (subst IsReady (sym c.self.view_is) c.requires.ready) c.args.stream) }

pub returns : goal.returns
returns c =
    let ready = subst IsReady (sym c.self.view_is) c.requires.ready in
    let old = c.self.inside in
    let d = c.read_line in
    let host = d.new.host.contents in
    let r = d.ensures.calls in
    let played = run_played old.rings old.rings old.host.contents host _ _ (read_byte c.args.stream (start old.proxy)) r.0
    (line_some c.args.stream (start old.proxy)) (line_now _ _ ready c.args.stream) (r.2 (device_contents old.rings)) in
    let chain = still_among _ old.proxy.device d.new.proxy.device d.ensures.chain ready.served.chain in
    rw (← c.self.view_is) (on_ok_weaker c.fed.result (λ fed. line_did (ProxyReads c.args.stream) _ ready d.new.proxy old.rings host chain d.ensures.streams fed
    c.args.stream r.0 refl (sym c.if-has_failed.ensures) r.1 played) c.fed.ensures)
