use Rattle.std.{proofs.Common.{◌≡◌, [], false, length}, specs.Option.ForSome}
use Rattle.vs_contents.specs.Contents.{Relates}
use Rattle.vs_outside.specs.Host.{IsOpen}
use Rattle.vs_uds.specs.{OkLine.ok_step, Reading.is_decided, declared.{ok.TheConstants.OK_MAX, scan.Step.TheVariants.More}}
use Rattle.vs_peer.specs.{Passing.Moves, Waiting.Paused}
use Rattle.vs_peer.proofs.ask.answer.Given as goal

-- what was taken so far
abbrev pub invariant-loop : goal.invariant-loop
invariant-loop g l = record {
  one : length l.byte ≡ 1;
  more : ok_step l.line ≡ More;
  undecided : is_decided OK_MAX l.line ≡ false;
  was : ForSome (g.H.HostNet.contents l.host) (IsOpen l.id);
  passes : Relates (g.H.HostNet.contents l.fn.host) (g.H.HostNet.contents l.host) (Moves l.id [] l.line false);
  faults : g.H.HostNet.faults l.host ≡ g.H.HostNet.faults l.fn.host;
  pauses : Paused l.waited (g.G.Gate.pauses l.fn.gate) (g.G.Gate.pauses l.gate);
}
