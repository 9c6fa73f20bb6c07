use Rattle.std.proofs.{Common.{refl, sym, subst}, lemmas.Result.on_ok_weaker}
use Rattle.vs_proxy_parts.specs.Turns.{proxy_reset_of}
use Rattle.laws_world.specs.Events.{Reset}
use Rattle.vs_core.{specs.Ready.IsReady, proofs.{DeviceHappening.reset_did, MayNow.reset_now, Returning.reset_some, Stepped.run_played}}
use Rattle.vs_core.proofs.world.World.reset.Goals as goal

pub reset-answer-requires-clause-ring : goal.reset-answer-requires-clause-ring
reset-answer-requires-clause-ring c = (subst IsReady (sym c.self.view_is) c.requires.ready).served.chain

pub reset-answer-requires-clause-may : goal.reset-answer-requires-clause-may
reset-answer-requires-clause-may c = reset_now _ _ (subst IsReady (sym c.self.view_is) c.requires.ready) c.args.cid

pub returns : goal.returns
returns c =
    let ready = subst IsReady (sym c.self.view_is) c.requires.ready in
    let old = c.self.inside in
    let d = c.reset-answer in
    let host = d.new.host.contents in
    let cid = c.args.cid in
    let played = run_played old.rings d.new.ring old.host.contents host _ _ (proxy_reset_of cid old.proxy) (d.new.proxy, d.result)
    (reset_some cid old.proxy) (reset_now _ _ ready cid) d.ensures.calls in
    rw (← c.self.view_is) (on_ok_weaker c.fed.result (λ fed. reset_did (Reset cid) _ ready d.new.proxy d.new.ring host d.ensures.ring
    d.ensures.streams fed cid d.result refl (sym c.if-not-is_guest_cid.ensures) played) c.fed.ensures)
