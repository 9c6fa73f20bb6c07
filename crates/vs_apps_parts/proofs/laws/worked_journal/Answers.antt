use Rattle.std.{proofs.Common.{[], ◌∷◌, refl}, specs.Prelude.{Some, codes, true}}
use Rattle.vs_script.specs.Data.{Given}
use Rattle.vs_apps_parts.specs.{Examples.{asked, at_next, closed_it, opened, sent_he, sent_llo}, Scripts.begun}
use Rattle.vs_script.specs.App as act
use Rattle.vs_apps_parts.proofs.laws.worked_journal.Goals as goal

pub returns-clause-done : goal.returns-clause-done
returns-clause-done c = (
  closed_it ∷ sent_llo ∷ sent_he ∷ opened ∷ asked ∷ [],
  (
    at_next 2,
    act.Close,
    (
      record (at_next 1) { sent = 2 },
      act.Send (Given (codes "hello")),
      (
        at_next 1,
        act.Send (Given (codes "hello")),
        (
          record begun { asked = true; conn = Some 1 },
          act.Connect 52,
          (begun, act.Connect 52, refl, refl, (refl, refl)),
          refl,
          (refl, refl),
        ),
        refl,
        (refl, refl),
      ),
      refl,
      (refl, refl),
    ),
    refl,
    (refl, refl),
  ),
  refl,
)
