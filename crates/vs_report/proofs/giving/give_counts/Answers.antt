use Rattle.std.proofs.Common.{[], arith}
use Rattle.vs_report.{specs.Report.counts_text, proofs.LinesGiven.nothing_given}
use Rattle.vs_report.proofs.giving.give_counts.Goals as goal

pub returns-in_err-push_counts : goal.returns-in_err-push_counts
returns-in_err-push_counts g c =
    nothing_given (g.K.Sink.contents c.args.out.now) (g.K.Sink.faults c.args.out.now) (counts_text c.args.counters c.args.broken) []
    c.from_residual.result (grind (arith, c.from_residual.ensures))
