use Rattle.std.proofs.Common.{[], arith}
use Rattle.vs_report.{specs.Report.device_open_text, proofs.LinesGiven.nothing_given}
use Rattle.vs_report.proofs.giving.give_device_open.Goals as goal

pub returns-in_err-push_device_open : goal.returns-in_err-push_device_open
returns-in_err-push_device_open g c =
    nothing_given (g.K.Sink.contents c.args.out.now) (g.K.Sink.faults c.args.out.now) (device_open_text c.args.entries) []
    c.from_residual.result (grind (arith, c.from_residual.ensures))
