use Rattle.vs_play.{specs.Ready.IsReady, proofs.LinesPlayed.Played, proofs.LinesPlayed.events_of}
use Rattle.vs_play.proofs.run.play_lines.Given as goal

-- The next line may be played, and what the lines before it print was given.
abbrev pub invariant-loop-line : goal.invariant-loop-line
invariant-loop-line g l = record {
  ready : IsReady l.play;
  played : Played (events_of l.lines) l.line-index l.fn.play l.play
      (g.K.Sink.contents l.fn.out) (g.K.Sink.contents l.out) (g.K.Sink.faults l.fn.out) (g.K.Sink.faults l.out);
}
