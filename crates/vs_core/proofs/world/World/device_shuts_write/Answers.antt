use Rattle.std.proofs.{Common.{refl, sym, subst}, lemmas.Result.on_ok_weaker}
use Rattle.vs_ring_list.specs.Ends.{device_contents}
use Rattle.vs_device_parts.specs.Steps.{shuts_write}
use Rattle.laws_world.specs.Events.{DeviceShutsWrite}
use Rattle.vs_core.{specs.Ready.IsReady, proofs.{DeviceHappening.device_did, MayNow.shut_now, Returning.shuts_some, Stepped.{run_played, still_among}}}
use Rattle.vs_core.proofs.world.World.device_shuts_write.Goals as goal

pub shut_write-requires : goal.shut_write-requires
shut_write-requires c = record { may = (device_contents c.self.inside.rings, shut_now _ _ (subst IsReady (sym c.self.view_is) c.requires.ready) c.args.slot) }

pub returns : goal.returns
returns c =
    let ready = subst IsReady (sym c.self.view_is) c.requires.ready in
    let old = c.self.inside in
    let d = c.shut_write in
    let played = run_played old.rings old.rings old.host.contents d.new.host.contents _ _ (shuts_write c.args.slot old.proxy.device) d.new.proxy.device (shuts_some c.args.slot old.proxy.device) (shut_now _ _ ready c.args.slot) (d.ensures.calls (device_contents old.rings)) in
    rw (← c.self.view_is) (on_ok_weaker c.fed.result (λ fed. device_did (DeviceShutsWrite c.args.slot) _ ready d.new.proxy old.rings d.new.host.contents (shuts_write c.args.slot)
    d.ensures.others played (still_among _ old.proxy.device d.new.proxy.device d.ensures.chain ready.served.chain) d.ensures.streams fed refl (sym c.if-has_failed.ensures)) c.fed.ensures)
