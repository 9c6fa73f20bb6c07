use Rattle.std.proofs.Common.{◌≡◌, true, refl, sym, subst}
use Rattle.laws_world.specs.Events.{is_at_rest}
use Rattle.laws_driver.proofs.Carried.SamePages.{listen_stays}
use Rattle.vs_core.{specs.Ready.IsReady, specs.Ready.WorldState, proofs.Happening.calls_in, proofs.Happening.listen_made}
use Rattle.laws_driver.specs.Carried.Calls as call
use Rattle.vs_core.proofs.world.World.listen.Goals as goal

pub returns : goal.returns
returns c =
    let ready = subst IsReady (sym c.self.view_is) c.requires.ready in
    let rest = subst (λ (w : WorldState). is_at_rest w.rings.driver.staged ≡ true) (sym c.self.view_is) c.requires.rest in
    let old = c.self.inside in
    let d = c.listen in
    let port = c.args.port in
    rw (← c.self.view_is) (calls_in (call.Listen port) _ ready d.new.self d.result _ rest refl
    (listen_made port old.driver d.new.self d.result d.ensures.answer d.ensures.listens d.ensures.unchanged)
    (listen_stays port old.driver d.new.self d.result d.ensures.listens d.ensures.unchanged) d.ensures.honest refl)
