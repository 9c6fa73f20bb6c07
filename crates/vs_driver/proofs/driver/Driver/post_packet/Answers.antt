use Rattle.std.proofs.Common.{◌≡◌, ℕ, List, ◌++◌, ap, subst}
use Rattle.vs_header.specs.Packet.{header_bytes}
use Rattle.vs_ring_port.specs.{declared.queue.Queue.TheVariants.Tx, DriverCalls.Stage}
use Rattle.vs_driver_parts.specs.{PageCounts.PageCounts, Playing.RingAllows, Conversations.one_more_in_flight}
use Rattle.vs_driver.{specs.contracts.driver.Driver.the_view, proofs.RingPages.posted}
use Rattle.vs_driver.proofs.driver.Driver.post_packet.Goals as goal

pub publish-requires : goal.publish-requires
publish-requires g c =
    let bytes : List ℕ = header_bytes c.args.header.now ++ c.args.payload.now in
    let P : List ℕ → Type 0 = λ b. RingAllows (Stage Tx b) tt (g.R.DriverRing.contents c.args.ring.now) (g.R.DriverRing.contents c.stage.new.self) in
    let staged : P bytes = subst P c.put_packet.ensures.bytes c.in-Ok.ensures.contents in
    record { fair = (c.requires.may.1 tt (g.R.DriverRing.contents c.stage.new.self) staged).0 }

pub returns-clause-calls : goal.returns-clause-calls
returns-clause-calls g c =
    let d = c.self.inside in
    let state : the_view (record d { pages = c.take-page.new.self }) ≡ one_more_in_flight c.args.self.now =
    rw (← c.self.view_is) (ap (λ (p : PageCounts). the_view (record d { pages = p })) c.take-page.ensures) in
    posted (header_bytes c.args.header.now ++ c.args.payload.now) c.put_packet.new.page c.args.self.now (the_view (record d { pages = c.take-page.new.self }))
    (g.R.DriverRing.contents c.args.ring.now) (g.R.DriverRing.contents c.stage.new.self) (g.R.DriverRing.contents c.publish.new.self)
    c.put_packet.ensures.bytes state c.in-Ok.ensures.contents c.publish.ensures.contents
