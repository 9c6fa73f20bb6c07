use Rattle.std.proofs.Common.{◌≡◌, ◌++◌, List, ℕ, OnOk, string_bytes, subst}
use Rattle.vs_apps_parts.specs.Scripts.{script_of}
use Rattle.vs_run_report.proofs.Printed.{opened_is}
use Rattle.vs_run_report.proofs.connection.push_opened.Goals as goal

pub returns : goal.returns
returns c =
    let journal = c.args.journal.now in
    subst (λ (line : List ℕ). OnOk c.push_connection.result (string_bytes c.push_connection.new.out ≡ string_bytes c.args.out.now ++ line))
    (opened_is (script_of c.args.script.now) journal.bytes journal.entries _ c.args.opened c.sent_on-sent.result c.excerpt-received.result c.entries.ensures
    (c.sent_on-sent.ensures journal.bytes) (c.excerpt-received.ensures (script_of c.args.script.now))) c.push_connection.ensures
