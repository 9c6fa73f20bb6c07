use Rattle.std.{proofs.Common.{◌≡◌, ◌∙◌, if◌then◌else◌, Bool, true, [], Option, ap, arith, length, nat_eq, sym}, specs.{List.fold, Prelude.nat_lt}}
use Rattle.std.proofs.lemmas.{Bool.Decides.nat_tests, List.length-map}
use Rattle.indexmap.specs.IndexMap.{get}
use Rattle.vs_script.specs.App.{app_view}
use Rattle.vs_apps_parts.specs.{Journals.calls_of, Scripts.script_of}
use Rattle.vs_run_report.specs.{Connections.{listed, opened_by}, declared.connection.Opened.Opened}
use Rattle.vs_load_parts.specs.Line.{counts}
use Rattle.vs_load_parts.proofs.tally.add_entry.Goals as goal

pub returns-then-entry-script : goal.returns-then-entry-script
returns-then-entry-script c =
    let script = script_of c.args.script.now in
    let e = c.args.entry in
    let added = fold (counts (get nat_eq c.args.sent.now) (calls_of script c.args.journal.now.bytes c.args.journal.now.entries)) c.args.tally in
    let many = length-map c.args.script.now app_view in
    let within : nat_lt e.app (length script) ≡ true = grind (arith, nat_tests, many, c.if-entry-script.true) in
    c.add_opened.ensures script ∙ ap (λ (o : Option Opened). added (listed o)) c.opened_by.ensures
    ∙ ap (λ (is : Bool). added (if is then listed (opened_by e.app e) else [])) (sym within)
