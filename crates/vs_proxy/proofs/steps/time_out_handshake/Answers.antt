use Rattle.std.proofs.Common.{refl, subst}
use Rattle.vs_device_parts.specs.Playing.{RunsOnHost}
use Rattle.vs_proxy_parts.specs.{Handshakes.tick_handshake, State.Turning, Turning.turning_of, declared.tally.Tally.Tally}
use Rattle.vs_proxy.proofs.Stepping.{late_streams}
use Rattle.vs_proxy.proofs.steps.time_out_handshake.Goals as goal

pub returns-clause-calls : goal.returns-clause-calls
returns-clause-calls g c =
    let t : Turning = turning_of c.tick_handshake.new.self c.tick_handshake.new.tally in
    let P : Tally → Type 0 = λ y. RunsOnHost (tick_handshake c.args.stream (turning_of c.args.proxy.now y)) (g.H.HostNet.contents c.args.host.now) (g.H.HostNet.faults c.args.host.now)
    t (g.H.HostNet.contents c.tick_handshake.new.host) (g.H.HostNet.faults c.tick_handshake.new.host) in
    (t, refl, subst P c.new-tally.ensures c.tick_handshake.ensures.calls)

pub returns-clause-streams : goal.returns-clause-streams
returns-clause-streams g c =
    let r = returns-clause-calls g c in
    late_streams c.args.proxy.now c.tick_handshake.new.self (g.H.HostNet.contents c.args.host.now) (g.H.HostNet.contents c.tick_handshake.new.host)
    (g.H.HostNet.faults c.args.host.now) (g.H.HostNet.faults c.tick_handshake.new.host) c.args.stream r.0 r.1 r.2
