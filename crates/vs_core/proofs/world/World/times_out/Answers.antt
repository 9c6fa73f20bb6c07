use Rattle.std.proofs.{Common.{refl, sym, subst}, lemmas.Result.on_ok_weaker}
use Rattle.vs_ring_list.specs.Ends.{device_contents}
use Rattle.vs_device_parts.specs.Streams.{tick_slot}
use Rattle.laws_world.specs.Events.{TimesOut}
use Rattle.vs_core.{specs.Ready.IsReady, proofs.{DeviceHappening.device_did, MayNow.tick_now, Returning.tick_some, Stepped.{run_played, still_among}}}
use Rattle.vs_core.proofs.world.World.times_out.Goals as goal

pub time_out-requires : goal.time_out-requires
time_out-requires c = record { may = (device_contents c.self.inside.rings, tick_now _ _ (subst IsReady (sym c.self.view_is) c.requires.ready) c.args.slot) }

pub returns : goal.returns
returns c =
    let ready = subst IsReady (sym c.self.view_is) c.requires.ready in
    let old = c.self.inside in
    let d = c.time_out in
    let played = run_played old.rings old.rings old.host.contents d.new.host.contents _ _ (tick_slot c.args.slot old.proxy.device) d.new.proxy.device (tick_some c.args.slot old.proxy.device) (tick_now _ _ ready c.args.slot) (d.ensures.calls (device_contents old.rings)) in
    rw (← c.self.view_is) (on_ok_weaker c.fed.result (λ fed. device_did (TimesOut c.args.slot) _ ready d.new.proxy old.rings d.new.host.contents (tick_slot c.args.slot)
    d.ensures.others played (still_among _ old.proxy.device d.new.proxy.device d.ensures.chain ready.served.chain) d.ensures.streams fed refl (sym c.if-has_failed.ensures)) c.fed.ensures)
