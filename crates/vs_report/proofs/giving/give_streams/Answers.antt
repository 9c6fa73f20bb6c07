use Rattle.std.proofs.Common.{Err, Ok, ◌+◌, [], ◌∷◌, ap, arith, subst}
use Rattle.vs_report.{specs.Report.stream_text, specs.Gives.GivesLines, proofs.Reports.stream_given, proofs.Reports.streams_until}
use Rattle.vs_report.proofs.giving.give_streams.Goals as goal

pub returns-in_err-give_stream : goal.returns-in_err-give_stream
returns-in_err-give_stream g c =
    streams_until c.args.streams.now c.loop-stream.stream-index c.stream-item.result (g.K.Sink.contents c.args.out.now) (g.K.Sink.contents c.loop-stream.out) (g.K.Sink.contents c.give_stream.new.out) (g.K.Sink.faults c.args.out.now) (g.K.Sink.faults c.loop-stream.out) (g.K.Sink.faults c.give_stream.new.out)
    c.in_err-give_stream.field-0.0 c.from_residual.result (grind (arith, c.from_residual.ensures)) c.loop-stream-test.true c.stream-item.is c.loop-stream.invariant.given
    (subst (λ k. GivesLines (g.K.Sink.contents c.loop-stream.out) (g.K.Sink.contents c.give_stream.new.out) (g.K.Sink.faults c.loop-stream.out) (g.K.Sink.faults c.give_stream.new.out) (stream_text (k + 1) c.stream-item.result ∷ []) (Err c.in_err-give_stream.field-0.0)) c.loop-stream.invariant.count c.in_err-give_stream.ensures)

pub loop-stream-preserved : goal.loop-stream-preserved
loop-stream-preserved g c = record {
  count = ap (λ n. n + 1) c.loop-stream.invariant.count;
  given =
      stream_given c.args.streams.now c.loop-stream.stream-index c.stream-item.result (g.K.Sink.contents c.args.out.now) (g.K.Sink.contents c.loop-stream.out) (g.K.Sink.contents c.give_stream.new.out) (g.K.Sink.faults c.args.out.now) (g.K.Sink.faults c.loop-stream.out) (g.K.Sink.faults c.give_stream.new.out)
      c.loop-stream-test.true c.stream-item.is c.loop-stream.invariant.given
      (subst (λ k. GivesLines (g.K.Sink.contents c.loop-stream.out) (g.K.Sink.contents c.give_stream.new.out) (g.K.Sink.faults c.loop-stream.out) (g.K.Sink.faults c.give_stream.new.out) (stream_text (k + 1) c.stream-item.result ∷ []) (Ok tt)) c.loop-stream.invariant.count c.in_ok-give_stream.ensures);
}
