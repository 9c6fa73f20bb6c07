use Rattle.std.proofs.Common.{refl, subst}
use Rattle.vs_device_parts.specs.Playing.{RunsOnHost}
use Rattle.vs_proxy_parts.specs.{Handshakes.read_byte, State.Turning, Turning.turning_of, declared.tally.Tally.Tally}
use Rattle.vs_proxy.proofs.Stepping.{line_streams}
use Rattle.vs_proxy.proofs.steps.read_line.Goals as goal

pub returns-clause-calls : goal.returns-clause-calls
returns-clause-calls g c =
    let t : Turning = turning_of c.read_byte.new.self c.read_byte.new.tally in
    let P : Tally → Type 0 = λ y. RunsOnHost (read_byte c.args.stream (turning_of c.args.proxy.now y)) (g.H.HostNet.contents c.args.host.now) (g.H.HostNet.faults c.args.host.now)
    (t, c.read_byte.result) (g.H.HostNet.contents c.read_byte.new.host) (g.H.HostNet.faults c.read_byte.new.host) in
    ((t, c.read_byte.result), refl, subst P c.new-tally.ensures c.read_byte.ensures.calls)

pub returns-clause-streams : goal.returns-clause-streams
returns-clause-streams g c =
    let r = returns-clause-calls g c in
    line_streams c.args.proxy.now c.read_byte.new.self (g.H.HostNet.contents c.args.host.now) (g.H.HostNet.contents c.read_byte.new.host)
    (g.H.HostNet.faults c.args.host.now) (g.H.HostNet.faults c.read_byte.new.host) c.args.stream r.0 r.1 r.2
