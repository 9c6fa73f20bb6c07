use Rattle.std.proofs.Common.{refl, subst}
use Rattle.vs_device_parts.specs.Playing.{RunsOnHost}
use Rattle.vs_proxy_parts.specs.{Handshakes.accept_one, State.Turning, Turning.turning_of, declared.tally.Tally.Tally}
use Rattle.vs_proxy.proofs.Stepping.{accept_streams}
use Rattle.vs_proxy.proofs.steps.accept.Goals as goal

pub returns-clause-calls : goal.returns-clause-calls
returns-clause-calls g c =
    let t : Turning = turning_of c.accept_one.new.self c.accept_one.new.tally in
    let P : Tally → Type 0 = λ y. RunsOnHost (accept_one (turning_of c.args.proxy.now y)) (g.H.HostNet.contents c.args.host.now) (g.H.HostNet.faults c.args.host.now)
    t (g.H.HostNet.contents c.accept_one.new.host) (g.H.HostNet.faults c.accept_one.new.host) in
    (t, refl, subst P c.new-tally.ensures c.accept_one.ensures.calls)

pub returns-clause-streams : goal.returns-clause-streams
returns-clause-streams g c =
    let r = returns-clause-calls g c in
    accept_streams c.args.proxy.now c.accept_one.new.self (g.H.HostNet.contents c.args.host.now) (g.H.HostNet.contents c.accept_one.new.host)
    (g.H.HostNet.faults c.args.host.now) (g.H.HostNet.faults c.accept_one.new.host) r.0 r.1 r.2
