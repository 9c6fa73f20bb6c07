-- Steps of all apps, one after another, that moved nothing.
use Rattle.std.specs.Prelude.{◌≡◌, ℕ, zero, suc, false}
use Rattle.vs_apps_parts.specs.{Scripts.RunScript, declared.progress.Stepped.Stepped}
use Rattle.vs_apps_parts.specs.declared.progress.Stepped.TheVariants as stepped
use Rattle.laws_apps.specs.Runs.{Run, Steps}

-- A step that moved nothing: the app waits, or is done.
abbrev pub Stands : Stepped → Type 0
Stands (stepped.Waiting why) = Unit {0}
Stands stepped.Done = Unit {0}
Stands _ = ⊥

-- An app made such a step, of which the poll moved nothing too; and each of the first apps, so many, did, one after another.
abbrev pub StandsOnce : RunScript → ℕ → Run → Run → Type 0
StandsOnce script k old new = (s : Stepped) × Stands s × Steps script k s false old new

abbrev pub AllStand : RunScript → ℕ → Run → Run → Type 0
AllStand script zero old new = new ≡ old
AllStand script (suc k) old new = (mid : Run) × AllStand script k old mid × StandsOnce script k mid new
