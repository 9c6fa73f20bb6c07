use Rattle.vs_hostile.{specs.Ready.IsReady, proofs.Attacks.Ran, proofs.Attacks.held_lines}
use Rattle.vs_hostile.proofs.run.give_lines.Given as goal

-- The next line may be run, and what the lines before it print was given.
abbrev pub invariant-loop-line : goal.invariant-loop-line
invariant-loop-line g l = record {
  ready : IsReady l.world;
  ran : Ran (held_lines l.lines) l.line-index l.fn.world l.world (g.K.Sink.contents l.fn.out) (g.K.Sink.contents l.out) (g.K.Sink.faults l.fn.out) (g.K.Sink.faults l.out);
}
