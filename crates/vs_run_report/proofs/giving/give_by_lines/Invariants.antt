use Rattle.std.proofs.Common.{◌≡◌, ◌≤◌, ◌-◌, length, take}
use Rattle.vs_peer.specs.Pieces.{Emits}
use Rattle.vs_run_report.proofs.giving.give_by_lines.Given as goal

-- what was given so far is in the sink
abbrev pub invariant-loop-at : goal.invariant-loop-at
invariant-loop-at g l = record {
  within : l.at ≤ length l.text;
  given : Emits (g.K.Sink.contents l.fn.out) (g.K.Sink.contents l.out) (take l.at l.text);
  faults : g.K.Sink.faults l.out ≡ g.K.Sink.faults l.fn.out;
}

abbrev pub decreases-loop-at : goal.decreases-loop-at
decreases-loop-at g l = length l.text - l.at
