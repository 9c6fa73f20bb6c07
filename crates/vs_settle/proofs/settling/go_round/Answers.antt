use Rattle.std.proofs.Common.{List, arith, refl, subst, sym}
use Rattle.vs_ring_port.specs.declared.device_ring.Chain.{Chain}
use Rattle.vs_ring_shared.specs.Sights.{device_contents}
use Rattle.vs_device_parts.specs.Playing.{IsItsRing}
use Rattle.vs_settle.proofs.Rounding.{counts_last, given_log, stays_log, steady_log}
use Rattle.vs_settle.proofs.settling.go_round.Goals as goal

pub returns-clause-ring : goal.returns-clause-ring
returns-clause-ring g c =
    subst (λ (held : List Chain). IsItsRing held c.round.new.proxy.device) (sym c.given-given.ensures.held) c.in_ok-moved.ensures.ring

pub returns-clause-steady : goal.returns-clause-steady
returns-clause-steady g c =
    steady_log c.round.new.proxy (device_contents c.round.new.ring) (device_contents c.given-given.new.self) (g.H.HostNet.contents c.round.new.host)
    (g.H.HostNet.faults c.round.new.host)
    (given_log c.round.new.ring c.given-given.new.self c.given-given.result c.given-given.ensures.same_size c.given-given.ensures.contents) refl c.in_ok-moved.ensures.steady

pub returns-clause-begun : goal.returns-clause-begun
returns-clause-begun g c = λ start was.
    stays_log c.round.new.proxy (device_contents c.round.new.ring) (device_contents c.given-given.new.self) (g.H.HostNet.contents c.round.new.host)
    (g.H.HostNet.faults c.round.new.host)
    (given_log c.round.new.ring c.given-given.new.self c.given-given.result c.given-given.ensures.same_size c.given-given.ensures.contents) refl start
    (c.in_ok-moved.ensures.begun start was)

pub returns-clause-last : goal.returns-clause-last
returns-clause-last g c = λ is.
    let all = c.is_last.ensures is in
    counts_last g.N.RunName.script c.round.new.guests c.round.new.proxy c.round.new.ring c.given-given.new.self (g.H.HostNet.contents c.round.new.host)
    (g.H.HostNet.faults c.round.new.host) c.given-given.result c.in_flight-in_flight.result c.given-given.ensures.same_size c.given-given.ensures.contents
    (c.in_ok-moved.ensures.last all.0) c.in_flight-in_flight.ensures all.1
    (let least = all.2 in let value = c.size-size.ensures.value in let same = c.given-given.ensures.same_size in omega (arith, least, value, same))
