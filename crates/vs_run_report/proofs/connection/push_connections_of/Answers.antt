use Rattle.std.proofs.Common.{◌≡◌, ◌++◌, List, OnOk, map, string_bytes, subst}
use Rattle.vs_apps_parts.specs.{Journals.calls_of, Scripts.script_of, declared.journal.Entry.Entry}
use Rattle.vs_report.specs.Gives.{joined}
use Rattle.vs_run_report.specs.Connections.{opened_of, opened_text}
use Rattle.vs_run_report.proofs.connection.push_connections_of.Goals as goal

pub returns : goal.returns
returns c =
    let journal = c.args.journal.now in
    subst (λ (es : List Entry). OnOk c.push_all_opened.result (string_bytes c.push_all_opened.new.out ≡ string_bytes c.args.out.now
    ++ joined (map (opened_text (calls_of (script_of c.args.script.now) journal.bytes journal.entries)) (opened_of c.args.app es)))) c.entries.ensures
    c.push_all_opened.ensures
