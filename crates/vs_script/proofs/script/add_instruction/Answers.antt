use Rattle.std.{proofs.Common.{◌≡◌, ◌-◌, suc, length, map, Err, IfErr, arith, subst, sym}, specs.Vec.vec_len}
use Rattle.vs_script.{specs.{App.{app_view, instruction_view}, Field.IsFault, Script.add_act}, proofs.Adding.{add_act-ok, add_act-fault}}
use Rattle.vs_script.proofs.script.add_instruction.Goals as goal

pub returns-in_err-add-clause-fault : goal.returns-in_err-add-clause-fault
returns-in_err-add-clause-fault c =
    let count : length c.args.apps.now.items ≡ suc (vec_len c.args.apps.now - 1) = grind (arith, c.in-Some.ensures.variant) in
    let passed : c.from_residual.result ≡ Err c.in_err-add.field-0.0 = grind (arith, c.from_residual.ensures) in
    subst (λ r. IfErr r (IsFault (add_act (map app_view c.args.apps.now.items) (instruction_view c.args.instruction)))) (sym passed)
    (add_act-fault (instruction_view c.args.instruction) c.in-Some.app.now _ c.in_err-add.ensures.fault c.args.apps.now.items _ count c.in-Some.ensures.value)

pub returns-clause-ok : goal.returns-clause-ok
returns-clause-ok c =
    let count : length c.args.apps.now.items ≡ suc (vec_len c.args.apps.now - 1) = grind (arith, c.in-Some.ensures.variant) in
    add_act-ok (instruction_view c.args.instruction) c.in-Some.app.now c.add.new.self c.in_ok-add.ensures.ok c.args.apps.now.items _ count c.in-Some.ensures.value
