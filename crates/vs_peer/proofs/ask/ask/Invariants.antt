use Rattle.std.{proofs.Common.{◌≡◌, ◌≤◌, [], false, length, take}, specs.Option.ForSome}
use Rattle.vs_contents.specs.Contents.{Relates}
use Rattle.vs_outside.specs.Host.{IsOpen}
use Rattle.vs_peer.specs.{Passing.Moves, Waiting.Paused}
use Rattle.vs_peer.proofs.ask.ask.Given as goal

-- what was given so far
abbrev pub invariant-loop : goal.invariant-loop
invariant-loop g l = record {
  within : l.at ≤ length l.line;
  was : ForSome (g.H.HostNet.contents l.host) (IsOpen l.id);
  passes : Relates (g.H.HostNet.contents l.fn.host) (g.H.HostNet.contents l.host) (Moves l.id (take l.at l.line) [] false);
  faults : g.H.HostNet.faults l.host ≡ g.H.HostNet.faults l.fn.host;
  pauses : Paused l.waited (g.G.Gate.pauses l.fn.gate) (g.G.Gate.pauses l.gate);
}
