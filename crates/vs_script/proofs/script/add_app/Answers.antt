use Rattle.std.proofs.Common.{◌≡◌, Ok, IfOk, IfErr, [], map, rules, subst}
use Rattle.vs_script.{specs.{App.{app_view, instruction_view}, Field.IsFault, Script.pushed, declared.script.TheConstants.MAX_APPS}, proofs.Adding.{pushed-ok, pushed-fault}}
use Rattle.vs_script.proofs.script.add_app.Goals as goal

pub returns-clause-ok : goal.returns-clause-ok
returns-clause-ok c =
    let none : c.new-instructions.result.items ≡ [] = search rules in
    subst (λ xs. IfOk c.push.result (λ _. pushed MAX_APPS (map app_view c.args.apps.now.items) (map instruction_view xs)
    ≡ Ok (map app_view c.push.new.xs.items)))
    none (pushed-ok app_view MAX_APPS c.args.apps.now.items _ c.push.new.xs.items c.push.result c.push.ensures.ok)

pub returns-clause-fault : goal.returns-clause-fault
returns-clause-fault c =
    let none : c.new-instructions.result.items ≡ [] = search rules in
    subst (λ xs. IfErr c.push.result (IsFault (pushed MAX_APPS (map app_view c.args.apps.now.items) (map instruction_view xs))))
    none (pushed-fault app_view MAX_APPS c.args.apps.now.items _ c.push.result c.push.ensures.fault)
