-- Scripts of right apps.
use Rattle.std.{proofs.{Common.{List, [], ◌∷◌, ◌++◌, map, sym, subst}, lemmas.List.{map-append, Elements.All-push}}, specs.List.All}
use Rattle.vs_script.specs.{App.app_view, declared.app.App.App}
use Rattle.vs_apps_parts.specs.Scripts.{AreRight, IsRight, RunScript, script_of}
use Rattle.tests_apps.specs.Apps.{IsRightApp}

-- one app more
pub one_more : (apps : List App) (app : App) → AreRight (script_of apps) → IsRightApp app → AreRight (script_of (apps ++ app ∷ []))
one_more apps app all right =
    subst (λ (script : RunScript). AreRight script) (sym (map-append app_view apps (app ∷ [])))
    (All-push (λ acts. All IsRight acts) (map app_view apps) (app_view app) all right)
