use Rattle.std.proofs.{Common.{◌≡◌, ◌<◌, ◌≤◌, ℕ, List, length, get_or, None, arith, refl, subst, sym}, lemmas.{Bool.Decides.nat_tests, Option.get_or_from_slice_get}}
use Rattle.std.{proofs.lemmas.Option.slice_get_read, specs.Prelude.slice_get}
use Rattle.vs_script.specs.App.{instruction_view}
use Rattle.vs_apps_parts.specs.{Scripts.{acts_of, script_of}, declared.progress.AppState.AppState}
use Rattle.laws_apps.{specs.Runs.no_app, proofs.Stepping.{act_at, no_act_at, right_at}}
use Rattle.vs_apps.proofs.steps.act.Goals as goal

state_at : (apps : List AppState) (k : ℕ) (state : AppState) → k < length apps → state ≡ get_or apps k state → state ≡ get_or apps k no_app
state_at apps k state less is = sym (get_or_from_slice_get apps k state no_app (slice_get_read apps (length apps) k state refl less is))

pub returns-in-None-clause-acts : goal.returns-in-None-clause-acts
returns-in-None-clause-acts g c =
    let at = c.index-state.result.now.progress.at in
    let past : length c.deref.result.now ≤ at = grind (arith, nat_tests, c.in-None.ensures.lookup.0) in (
      subst (λ (s : AppState). slice_get (acts_of c.args.k (script_of c.args.script.now.items)) s.progress.at ≡ None)
          (state_at c.args.apps.now.items c.args.k c.index-state.result.now (omega arith) c.index-state.ensures)
          (no_act_at c.args.script.now.items c.args.k at c.index.result.now c.deref.result.now c.index.ensures (omega arith) c.deref.ensures.value past),
      refl,
    )

pub carry_out-requires-clause-right : goal.carry_out-requires-clause-right
carry_out-requires-clause-right g c =
    let at = c.index-state.result.now.progress.at in
    right_at (script_of c.args.script.now.items) c.requires.right c.args.k at (instruction_view c.in-Some.instruction.now)
    (act_at c.args.script.now.items c.args.k at c.index.result.now c.deref.result.now c.index.ensures (omega arith) c.deref.ensures.value
    c.in-Some.instruction.now c.in-Some.ensures.lookup.3.0 c.in-Some.ensures.lookup.1)

pub carry_out-requires-clause-state : goal.carry_out-requires-clause-state
carry_out-requires-clause-state g c =
    state_at c.args.apps.now.items c.args.k c.index-state.result.now (omega arith) c.index-state.ensures

pub returns-in-Some-clause-acts : goal.returns-in-Some-clause-acts
returns-in-Some-clause-acts g c =
    let at = c.index-state.result.now.progress.at in
    c.carry_out.ensures.acts (script_of c.args.script.now.items)
    (act_at c.args.script.now.items c.args.k at c.index.result.now c.deref.result.now c.index.ensures (omega arith) c.deref.ensures.value
    c.in-Some.instruction.now c.in-Some.ensures.lookup.3.0 c.in-Some.ensures.lookup.1)
