use Rattle.std.proofs.Common.{◌≡◌, true, refl, sym, subst}
use Rattle.laws_world.specs.Events.{is_at_rest}
use Rattle.laws_driver.proofs.Carried.SamePages.{unlistening_stays}
use Rattle.vs_core.{specs.Ready.IsReady, specs.Ready.WorldState, proofs.Happening.calls_in, proofs.Happening.unlisten_made}
use Rattle.laws_driver.specs.Carried.Calls as call
use Rattle.vs_core.proofs.world.World.unlisten.Goals as goal

pub returns : goal.returns
returns c =
    let ready = subst IsReady (sym c.self.view_is) c.requires.ready in
    let rest = subst (λ (w : WorldState). is_at_rest w.rings.driver.staged ≡ true) (sym c.self.view_is) c.requires.rest in
    let old = c.self.inside in
    let d = c.unlisten in
    let port = c.args.port in
    rw (← c.self.view_is) (calls_in (call.Unlisten port) _ ready d.new.self c.is_ok.result _ rest refl
    (unlisten_made port old.driver d.new.self d.result c.is_ok.result c.is_ok.ensures.value d.ensures.answer d.ensures.state d.ensures.unchanged)
    (unlistening_stays port old.driver d.new.self d.result d.ensures.state d.ensures.unchanged) d.ensures.honest refl)
