use Rattle.std.proofs.Common.{◌≡◌, ℕ, List, IfOk, string_bytes, subst}
use Rattle.vs_report.specs.Gives.{joined}
use Rattle.vs_run_apps.proofs.Told.{same_texts}
use Rattle.vs_run_apps.proofs.reporting.report_of.Goals as goal

pub returns : goal.returns
returns g c =
    subst (λ (lines : List (List ℕ)). IfOk c.report_text.result (λ text. string_bytes text ≡ joined lines))
    (same_texts c.args.idle _ g.N.RunName.script c.args.guests.now c.args.proxy.now _ _ _ _ c.script.ensures c.apps.ensures
    c.journal-journal.ensures.entries c.journal-journal.ensures.bytes
    c.counted-totals.ensures) c.report_text.ensures
