use Rattle.std.proofs.{Common.{◌≡◌, true, length, arith, sym, subst}, lemmas.Grind.common_steps}
use Rattle.vs_apps_parts.specs.Scripts.{AreRight, RunScript}
use Rattle.laws_apps.specs.Runs.{Steps}
use Rattle.vs_limits.specs.declared.TheConstants.{FIRST_CID}
use Rattle.vs_apps.{specs.Guests.{guests_with, run_in}, proofs.Guarding.{guests_step, script_long}}
use Rattle.vs_apps.proofs.guests.Guests.step.Goals as goal

pub step-requires-clause-right : goal.step-requires-clause-right
step-requires-clause-right g c = subst AreRight (sym c.self.invariant.0) c.self.invariant.1.right

pub step-requires-clause-apps : goal.step-requires-clause-apps
step-requires-clause-apps g c =
    let many : length c.self.inside.apps.items ≡ length c.self.inside.script.items =
    script_long g.N.RunName.script c.self.inside.apps.items c.self.inside.script.items c.self.invariant.0 c.self.invariant.1.run.apps in
    first_of (omega arith, grind (arith, common_steps, many))

pub step-requires-clause-honest : goal.step-requires-clause-honest
step-requires-clause-honest g c = (true, FIRST_CID, c.self.invariant.1.run.kept.honest)

pub invariant_of-self : goal.invariant_of-self
invariant_of-self g c =
    let inside = c.self.inside in
    let now = c.step.new in
    let old = guests_with inside.driver inside.end inside.apps.items inside.journal in
    let new = guests_with now.driver now.ring now.apps.items now.journal in (
      c.self.invariant.0,
      guests_step g.N.RunName.first g.N.RunName.script old c.self.invariant.1 c.args.k c.step.result.0 c.step.result.1 new c.requires c.step.ensures.ring
          (subst (λ (s : RunScript). Steps s c.args.k c.step.result.0 c.step.result.1 (run_in old) (run_in new)) c.self.invariant.0 c.step.ensures.steps),
    )
