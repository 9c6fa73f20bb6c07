use Rattle.std.proofs.Common.{◌≡◌, true, refl, sym, ap₂, subst}
use Rattle.vs_contents.specs.CallTree.{Done}
use Rattle.vs_driver_parts.specs.Playing.{SamePages}
use Rattle.laws_world.specs.Events.{is_at_rest}
use Rattle.laws_driver.proofs.Carried.SamePages.{close_stays}
use Rattle.vs_core.{specs.Ready.IsReady, specs.Ready.WorldState, proofs.Happening.calls_in}
use Rattle.laws_driver.specs.Carried.Calls as call
use Rattle.vs_core.proofs.world.World.close.Goals as goal

pub returns : goal.returns
returns c =
    let ready = subst IsReady (sym c.self.view_is) c.requires.ready in
    let rest = subst (λ (w : WorldState). is_at_rest w.rings.driver.staged ≡ true) (sym c.self.view_is) c.requires.rest in
    let old = c.self.inside in
    let d = c.close in
    rw (← c.self.view_is) (calls_in (call.Close c.args.id) _ ready d.new.self d.result _ rest refl
    (sym (ap₂ (λ s r. Done (s, r)) d.ensures.state d.ensures.answer))
    (subst (λ s. SamePages old.driver s) (sym d.ensures.state) (close_stays c.args.id old.driver)) d.ensures.honest refl)
