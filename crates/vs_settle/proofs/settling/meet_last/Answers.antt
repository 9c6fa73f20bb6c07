use Rattle.std.proofs.Common.{ap}
use Rattle.vs_ring_shared.specs.{Meetings.what_it_did, Sights.DeviceSight}
use Rattle.vs_settle.proofs.Rounding.{its_ring, rests_told, stays_hears, steady_hears}
use Rattle.vs_settle.proofs.settling.meet_last.Goals as goal

pub returns-clause-ring : goal.returns-clause-ring
returns-clause-ring g c =
    its_ring c.args.proxy.now.device c.args.ring.now c.meet-met.new.device (ap (λ (e : DeviceSight). e.held) c.meet-met.ensures.device) c.requires.ring

pub returns-clause-steady : goal.returns-clause-steady
returns-clause-steady g c =
    steady_hears c.args.proxy.now c.args.ring.now c.meet-met.new.device (what_it_did c.args.guests.now.end) (g.H.HostNet.contents c.args.host.now)
    (g.H.HostNet.faults c.args.host.now) c.meet-met.ensures.device c.requires.steady

pub returns-clause-begun : goal.returns-clause-begun
returns-clause-begun g c =
    stays_hears c.args.proxy.now c.args.ring.now c.meet-met.new.device (what_it_did c.args.guests.now.end) (g.H.HostNet.contents c.args.host.now)
    (g.H.HostNet.faults c.args.host.now) c.meet-met.ensures.device

pub returns-clause-rest : goal.returns-clause-rest
returns-clause-rest g c =
    (rests_told g.N.RunName.script c.args.guests.now c.args.proxy.now c.args.ring.now (g.H.HostNet.contents c.args.host.now)
    (g.H.HostNet.faults c.args.host.now) (what_it_did c.args.ring.now.sight) (what_it_did c.args.guests.now.end) c.requires.last c.requires.counted
    c.meet-met.ensures.fits c.requires.steady c.requires.ring c.meet-met.new.self c.meet-met.new.device c.meet-met.ensures.driver c.meet-met.ensures.device
    c.laws_of_guests.ensures.run c.laws_of_guests.ensures.ring c.laws_of_guests.ensures.size c.laws_of_guests.ensures.taken
    c.laws_of_device_end.ensures.held).0

pub returns-clause-last : goal.returns-clause-last
returns-clause-last g c =
    (rests_told g.N.RunName.script c.args.guests.now c.args.proxy.now c.args.ring.now (g.H.HostNet.contents c.args.host.now)
    (g.H.HostNet.faults c.args.host.now) (what_it_did c.args.ring.now.sight) (what_it_did c.args.guests.now.end) c.requires.last c.requires.counted
    c.meet-met.ensures.fits c.requires.steady c.requires.ring c.meet-met.new.self c.meet-met.new.device c.meet-met.ensures.driver c.meet-met.ensures.device
    c.laws_of_guests.ensures.run c.laws_of_guests.ensures.ring c.laws_of_guests.ensures.size c.laws_of_guests.ensures.taken
    c.laws_of_device_end.ensures.held).1
