use Rattle.std.proofs.Common.{[], arith}
use Rattle.vs_report.{specs.Report.stream_text, proofs.LinesGiven.nothing_given}
use Rattle.vs_report.proofs.giving.give_stream.Goals as goal

pub returns-in_err-push_stream : goal.returns-in_err-push_stream
returns-in_err-push_stream g c =
    nothing_given (g.K.Sink.contents c.args.out.now) (g.K.Sink.faults c.args.out.now) (stream_text c.args.number c.args.stream.now) []
    c.from_residual.result (grind (arith, c.from_residual.ensures))
