use Rattle.std.proofs.{Common.{refl, sym, subst}, lemmas.Result.on_ok_weaker}
use Rattle.vs_ring_list.specs.Ends.{device_contents}
use Rattle.vs_device_parts.specs.Steps.{writes}
use Rattle.laws_world.specs.Events.{DeviceWrites}
use Rattle.vs_core.{specs.Ready.IsReady, proofs.{DeviceHappening.device_did, MayNow.write_now, Returning.writes_some, Stepped.{run_played, still_among}}}
use Rattle.vs_core.proofs.world.World.device_writes.Goals as goal

pub write-requires : goal.write-requires
write-requires c = record { may = (device_contents c.self.inside.rings, write_now _ _ (subst IsReady (sym c.self.view_is) c.requires.ready) c.args.slot) }

pub returns : goal.returns
returns c =
    let ready = subst IsReady (sym c.self.view_is) c.requires.ready in
    let old = c.self.inside in
    let d = c.write in
    let played = run_played old.rings old.rings old.host.contents d.new.host.contents _ _ (writes c.args.slot old.proxy.device) d.new.proxy.device (writes_some c.args.slot old.proxy.device) (write_now _ _ ready c.args.slot) (d.ensures.calls (device_contents old.rings)) in
    rw (← c.self.view_is) (on_ok_weaker c.fed.result (λ fed. device_did (DeviceWrites c.args.slot) _ ready d.new.proxy old.rings d.new.host.contents (writes c.args.slot)
    d.ensures.others played (still_among _ old.proxy.device d.new.proxy.device d.ensures.chain ready.served.chain) d.ensures.streams fed refl (sym c.if-has_failed.ensures)) c.fed.ensures)
