use Rattle.std.proofs.{Common.{List, ap, arith, length, ◌∙◌}, lemmas.List.{take_all, take_more}}
use Rattle.vs_apps_parts.specs.{Journals.{calls_of, sent_as}, Scripts.script_of, declared.journal.Entry.Entry}
use Rattle.vs_run_report.{specs.Connections.capped, proofs.Summing.each_next}
use Rattle.vs_run_report.proofs.sent.sent_on_each.Goals as goal

pub loop-entry-preserved : goal.loop-entry-preserved
loop-entry-preserved c = λ bytes id.
    let i = c.loop-entry.entry-index in
    each_next id (script_of c.args.script.now) bytes c.args.entries.now i _ (take_more c.args.entries.now i _ c.loop-entry-test.true) _ _
    (c.loop-entry.invariant bytes id) (c.in_ok-add_entry.ensures id)

pub returns : goal.returns
returns c = λ bytes id.
    c.loop-entry.invariant bytes id
    ∙ ap (λ (es : List Entry). capped (length (sent_as id (calls_of (script_of c.args.script.now) bytes es))))
    (take_all c.loop-entry.entry-index c.args.entries.now (omega (arith, c.loop-entry-test.false)))
