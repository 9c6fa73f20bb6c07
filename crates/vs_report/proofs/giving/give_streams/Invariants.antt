use Rattle.std.proofs.Common.{◌≡◌, Ok, take}
use Rattle.vs_report.specs.{Report.stream_texts, Gives.GivesLines}
use Rattle.vs_report.proofs.giving.give_streams.Given as goal

-- as many streams were given as are numbered
abbrev pub invariant-loop-stream : goal.invariant-loop-stream
invariant-loop-stream g l = record {
  count : l.number ≡ l.stream-index;
  given : GivesLines (g.K.Sink.contents l.fn.out) (g.K.Sink.contents l.out) (g.K.Sink.faults l.fn.out) (g.K.Sink.faults l.out) (stream_texts 1 (take l.stream-index l.streams)) (Ok tt);
}
