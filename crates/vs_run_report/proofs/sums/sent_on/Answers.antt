use Rattle.std.proofs.{Common.{ap, ◌∙◌}, lemmas.List.take_more}
use Rattle.vs_apps_parts.specs.Scripts.{script_of}
use Rattle.vs_run_report.{specs.Sums.amount_on, proofs.Summing.sent_next}
use Rattle.vs_run_report.proofs.sums.sent_on.Goals as goal

pub loop-entry-preserved : goal.loop-entry-preserved
loop-entry-preserved c = λ bytes.
    let i = c.loop-entry.entry-index in
    sent_next c.args.id (script_of c.args.script.now) bytes c.args.entries.now i _ (take_more c.args.entries.now i _ c.loop-entry-test.true)
    c.loop-entry.sent c.amount_on.result c.saturating_add-sent.result (c.loop-entry.invariant bytes) (c.amount_on.ensures ∙ ap (amount_on c.args.id) c.sent_by.ensures) c.saturating_add-sent.ensures
