use Rattle.std.proofs.{Common.{Some, refl, sym, subst}, lemmas.Result.on_ok_weaker}
use Rattle.vs_device_parts.specs.Steps.{puts_reply}
use Rattle.laws_world.specs.Events.{DeviceReplies}
use Rattle.vs_core.{specs.Ready.IsReady, proofs.{DeviceHappening.device_did, MayNow.reply_now, Returning.reply_some, Stepped.run_played}}
use Rattle.vs_core.proofs.world.World.device_replies.Goals as goal

pub put_reply-requires-clause-ring : goal.put_reply-requires-clause-ring
put_reply-requires-clause-ring c = (subst IsReady (sym c.self.view_is) c.requires.ready).served.chain

pub put_reply-requires-clause-may : goal.put_reply-requires-clause-may
put_reply-requires-clause-may c = let host = c.self.inside.host in (Some host.contents, host.faults, reply_now _ _ (subst IsReady (sym c.self.view_is) c.requires.ready) (sym c.if-has_failed.ensures))

pub returns : goal.returns
returns c =
    let ready = subst IsReady (sym c.self.view_is) c.requires.ready in
    let old = c.self.inside in
    let d = c.put_reply in
    let played = run_played old.rings d.new.ring old.host.contents old.host.contents _ _ (puts_reply old.proxy.device) d.new.proxy.device (reply_some old.proxy.device) (reply_now _ _ ready (sym c.if-has_failed.ensures)) (d.ensures.calls (Some old.host.contents) old.host.faults) in
    rw (← c.self.view_is) (on_ok_weaker c.fed.result (λ fed. device_did DeviceReplies _ ready d.new.proxy d.new.ring old.host.contents puts_reply
    d.ensures.others played d.ensures.ring (λ others has x is. d.ensures.streams others x (has x is)) fed refl (sym c.if-has_failed.ensures)) c.fed.ensures)
