use Rattle.std.proofs.Common.{subst, sym, ◌∙◌}
use Rattle.vs_limits.specs.declared.TheConstants.{FIRST_CID}
use Rattle.vs_ring_shared.specs.Sights.{device_contents}
use Rattle.vs_device_parts.specs.Playing.{Runs, situation}
use Rattle.vs_proxy_parts.specs.{Turns.turn_of, declared.answers.Turn.Turn}
use Rattle.laws_settled.proofs.{Beginning.turn_begun, Steady.turn_steady}
use Rattle.vs_settle.proofs.Rounding.{turn_stands}
use Rattle.vs_settle.proofs.rounds.turn.Goals as goal

pub turn-turned-requires-clause-order : goal.turn-turned-requires-clause-order
turn-turned-requires-clause-order g c = (FIRST_CID, c.requires.steady.order)

pub returns-clause-steady : goal.returns-clause-steady
returns-clause-steady g c =
    turn_steady c.args.ring.now.sight.size c.args.now c.args.proxy.now
    (situation (device_contents c.args.ring.now) (g.H.HostNet.contents c.args.host.now) (g.H.HostNet.faults c.args.host.now))
    (situation (device_contents c.turn-turned.new.ring) (g.H.HostNet.contents c.turn-turned.new.host) (g.H.HostNet.faults c.turn-turned.new.host))
    (c.turn-turned.new.self, c.turn-turned.result) c.requires.steady c.turn-turned.ensures.calls

pub returns-clause-begun : goal.returns-clause-begun
returns-clause-begun g c =
    turn_begun c.args.ring.now.sight.size c.args.now c.args.proxy.now
    (situation (device_contents c.args.ring.now) (g.H.HostNet.contents c.args.host.now) (g.H.HostNet.faults c.args.host.now))
    (situation (device_contents c.turn-turned.new.ring) (g.H.HostNet.contents c.turn-turned.new.host) (g.H.HostNet.faults c.turn-turned.new.host))
    (c.turn-turned.new.self, c.turn-turned.result) c.requires.steady c.turn-turned.ensures.calls

pub returns-clause-runs : goal.returns-clause-runs
returns-clause-runs g c = λ is.
    subst (λ (x : Turn). Runs (turn_of c.args.ring.now.sight.size c.args.now c.args.proxy.now)
    (situation (device_contents c.args.ring.now) (g.H.HostNet.contents c.args.host.now) (g.H.HostNet.faults c.args.host.now)) (c.turn-turned.new.self, x)
    (situation (device_contents c.turn-turned.new.ring) (g.H.HostNet.contents c.turn-turned.new.host) (g.H.HostNet.faults c.turn-turned.new.host)))
    (turn_stands c.turn-turned.result (sym c.has_turned.ensures ∙ is)) c.turn-turned.ensures.calls
