use Rattle.std.{proofs.Common.◌≡◌, specs.Option.ForSome}
use Rattle.vs_outside.specs.Host.{IsOpen}
use Rattle.vs_peer.specs.{Exchanging.Exchanged, Waiting.Paused}
use Rattle.vs_peer.proofs.exchange.exchange.Given as goal

-- what passed so far
abbrev pub invariant-loop : goal.invariant-loop
invariant-loop g l = record {
  was : ForSome (g.H.HostNet.contents l.host) (IsOpen l.id);
  exchanged : Exchanged l.id l.bytes l.sending (g.H.HostNet.contents l.fn.host) (g.H.HostNet.contents l.host)
      (g.K.Sink.contents l.fn.out) (g.K.Sink.contents l.out);
  host_faults : g.H.HostNet.faults l.host ≡ g.H.HostNet.faults l.fn.host;
  sink_faults : g.K.Sink.faults l.out ≡ g.K.Sink.faults l.fn.out;
  pauses : Paused l.waited (g.G.Gate.pauses l.fn.gate) (g.G.Gate.pauses l.gate);
}
