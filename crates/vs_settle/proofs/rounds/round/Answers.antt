use Rattle.std.proofs.Common.{◌||◌, nat_lt, false, ap, sym, ◌∙◌}
use Rattle.vs_ring_port.specs.declared.queue.Queue.TheVariants.{Rx}
use Rattle.vs_ring_shared.specs.{Meetings.what_it_did, Sights.DeviceSight}
use Rattle.vs_settle.proofs.Rounding.{has_room, its_ring, makes_last, neither, rx_flown, stays_hears, steady_hears}
use Rattle.vs_settle.proofs.rounds.round.Goals as goal

pub turn-turned-requires-clause-ring : goal.turn-turned-requires-clause-ring
turn-turned-requires-clause-ring g c =
    its_ring c.args.proxy.now.device c.args.ring.now c.note-2.new.device
    (ap (λ (e : DeviceSight). e.held) c.note-2.ensures.device ∙ ap (λ (e : DeviceSight). e.held) c.note.ensures.device) c.requires.ring

pub turn-turned-requires-clause-steady : goal.turn-turned-requires-clause-steady
turn-turned-requires-clause-steady g c =
    let host = g.H.HostNet.contents c.args.host.now in
    let faults = g.H.HostNet.faults c.args.host.now in
    steady_hears c.args.proxy.now c.note.new.device c.note-2.new.device (what_it_did c.step_all.new.guests.end) host faults c.note-2.ensures.device
    (steady_hears c.args.proxy.now c.args.ring.now c.note.new.device (what_it_did c.args.guests.now.end) host faults c.note.ensures.device c.requires.steady)

pub returns-clause-ring : goal.returns-clause-ring
returns-clause-ring g c =
    its_ring c.turn-turned.new.proxy.device c.turn-turned.new.ring c.note-3.new.device (ap (λ (e : DeviceSight). e.held) c.note-3.ensures.device) c.turn-turned.ensures.ring

pub returns-clause-steady : goal.returns-clause-steady
returns-clause-steady g c =
    steady_hears c.turn-turned.new.proxy c.turn-turned.new.ring c.note-3.new.device (what_it_did c.note-2.new.self.end) (g.H.HostNet.contents c.turn-turned.new.host)
    (g.H.HostNet.faults c.turn-turned.new.host) c.note-3.ensures.device c.turn-turned.ensures.steady

pub returns-clause-begun : goal.returns-clause-begun
returns-clause-begun g c = λ start was.
    let host = g.H.HostNet.contents c.args.host.now in
    let faults = g.H.HostNet.faults c.args.host.now in
    stays_hears c.turn-turned.new.proxy c.turn-turned.new.ring c.note-3.new.device (what_it_did c.note-2.new.self.end)
    (g.H.HostNet.contents c.turn-turned.new.host) (g.H.HostNet.faults c.turn-turned.new.host) c.note-3.ensures.device start
    (c.turn-turned.ensures.begun start
    (stays_hears c.args.proxy.now c.note.new.device c.note-2.new.device (what_it_did c.step_all.new.guests.end) host faults c.note-2.ensures.device start
    (stays_hears c.args.proxy.now c.args.ring.now c.note.new.device (what_it_did c.args.guests.now.end) host faults c.note.ensures.device start was)))

pub returns-clause-last : goal.returns-clause-last
returns-clause-last g c = λ is.
    let flew = neither (nat_lt 0 c.in_flight-in_flight.result) (c.any-moved.result || false) (sym c.any.ensures ∙ is) in
    let moved = (neither c.any-moved.result false flew.1).0 in
    let first = neither c.in_ok-stepped.stepped (c.turn-turned.result || c.has_polled.result) (sym c.any-moved.ensures ∙ moved) in
    let rest = neither c.turn-turned.result c.has_polled.result first.1 in
    let guests = c.step_all.new.guests in
    makes_last g.N.RunName.script c.note.new.self guests c.note-2.new.self c.note-3.new.self c.poll-polled.new.self c.note.new.device c.note-2.new.device
    c.turn-turned.new.ring c.note-3.new.device c.args.proxy.now c.turn-turned.new.proxy c.args.now (g.H.HostNet.contents c.args.host.now)
    (g.H.HostNet.contents c.turn-turned.new.host) (g.H.HostNet.faults c.args.host.now) (g.H.HostNet.faults c.turn-turned.new.host)
    (what_it_did c.note.new.device.sight) (what_it_did c.note-2.new.self.end) c.poll-polled.result (c.in_ok-stepped.ensures first.0)
    (has_room c.note.new.self.driver c.note.new.self.end c.in_flight-in_flight.result c.laws_of_guests.ensures.ring c.laws_of_guests.ensures.size
    c.in_flight-in_flight.ensures flew.0)
    (rx_flown guests.driver guests.end c.laws_of_guests-2.ensures.ring (c.laws_of_guests-2.ensures.taken Rx)) c.note-2.ensures.driver
    c.note-2.ensures.device (c.turn-turned.ensures.runs rest.0) c.note-3.ensures.fits c.note-3.ensures.driver c.note-3.ensures.device c.poll-polled.ensures
    (sym c.has_polled.ensures ∙ rest.1)
