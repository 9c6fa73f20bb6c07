use Rattle.std.proofs.{Common.{refl, sym, subst}, lemmas.Result.on_ok_weaker}
use Rattle.vs_device_parts.specs.Steps.{puts_payload}
use Rattle.laws_world.specs.Events.{DeviceReads}
use Rattle.vs_core.{specs.Ready.IsReady, proofs.{DeviceHappening.device_did, MayNow.read_now, Returning.payload_some, Stepped.run_played}}
use Rattle.vs_core.proofs.world.World.device_reads.Goals as goal

pub put_payload-requires-clause-ring : goal.put_payload-requires-clause-ring
put_payload-requires-clause-ring c = (subst IsReady (sym c.self.view_is) c.requires.ready).served.chain

pub put_payload-requires-clause-may : goal.put_payload-requires-clause-may
put_payload-requires-clause-may c = read_now _ _ (subst IsReady (sym c.self.view_is) c.requires.ready) c.args.slot (sym c.if-has_failed.ensures)

pub returns : goal.returns
returns c =
    let ready = subst IsReady (sym c.self.view_is) c.requires.ready in
    let old = c.self.inside in
    let d = c.put_payload in
    let played = run_played old.rings d.new.ring old.host.contents d.new.host.contents _ _ (puts_payload c.args.slot old.proxy.device) d.new.proxy.device (payload_some c.args.slot old.proxy.device) (read_now _ _ ready c.args.slot (sym c.if-has_failed.ensures)) d.ensures.calls in
    rw (← c.self.view_is) (on_ok_weaker c.fed.result (λ fed. device_did (DeviceReads c.args.slot) _ ready d.new.proxy d.new.ring d.new.host.contents (puts_payload c.args.slot)
    d.ensures.others played d.ensures.ring d.ensures.streams fed refl (sym c.if-has_failed.ensures)) c.fed.ensures)
