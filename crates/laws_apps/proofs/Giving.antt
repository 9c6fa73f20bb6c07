-- An app's calls name the connection that it is at.
use Rattle.std.proofs.Common.{arith}
use Rattle.std.proofs.lemmas.Grind.{common_steps}
use Rattle.std.proofs.Common.{ℕ, List, [], ◌∷◌}
use Rattle.vs_script.specs.{App.{Act}}
use Rattle.laws_driver.specs.Carried.Calls.{GuestCall}
use Rattle.vs_apps_parts.specs.{Scripts.{calls_next, id_of}, declared.progress.Progress.Progress}
use Rattle.laws_apps.proofs.Tracing.{IsApps}

-- Calls of an app that is at this id.
abbrev pub AreApps : ℕ → List GuestCall → Type 0
AreApps n [] = Unit {0}
AreApps n (c ∷ cs) = IsApps n c × AreApps n cs

pub next_apps : (act : Act) (p : Progress) → AreApps (id_of p) (calls_next act p)
next_apps act p = grind (arith, common_steps)
