use Rattle.std.{proofs.Common.{◌+◌, string_bytes}, specs.List.range_with_len}
use Rattle.vs_apps_parts.specs.{Journals.calls_of, Scripts.script_of}
use Rattle.vs_run_report.{specs.Connections.{opened_of, opened_text}, proofs.Lines.{lines_next, range_more}}
use Rattle.vs_run_report.proofs.report.push_connections.Goals as goal

pub loop-k-preserved : goal.loop-k-preserved
loop-k-preserved c =
    lines_next (string_bytes c.args.out.now) (string_bytes c.loop-k.out) (string_bytes c.push_connections_of.new.out)
    (opened_text (calls_of (script_of c.args.script.now) c.args.journal.now.bytes c.args.journal.now.entries)) (λ k. opened_of k c.args.journal.now.entries)
    (range_with_len 0 c.loop-k.k) (range_with_len 0 (c.loop-k.k + 1)) c.loop-k.k (range_more c.loop-k.k) c.loop-k.invariant
    c.in_ok-push_connections_of.ensures
