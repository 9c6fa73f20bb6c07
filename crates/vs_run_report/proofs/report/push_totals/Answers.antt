use Rattle.std.proofs.Common.{Some, string_bytes}
use Rattle.vs_report.specs.Report.{counts_text, device_open_text, guest_open_text}
use Rattle.vs_run_report.proofs.Lines.{ok_lines}
use Rattle.vs_run_report.proofs.report.push_totals.Goals as goal

pub returns : goal.returns
returns c =
    ok_lines c.push_counts.result (string_bytes c.args.out.now) (string_bytes c.push_guest_open.new.out) (string_bytes c.push_device_open.new.out)
    (string_bytes c.push_counts.new.out) (guest_open_text c.args.totals.now.guest_open) (device_open_text c.args.totals.now.device_open)
    (counts_text c.args.totals.now.counters (Some c.args.totals.now.broken)) c.in_ok-push_guest_open.ensures c.in_ok-push_device_open.ensures
    c.push_counts.ensures
