use Rattle.std.proofs.{Common.◌≡◌, Common.ap, Common.◌∙◌, lemmas.List.append-nil}
use Rattle.vs_header.specs.Packet.{header_bytes}
use Rattle.vs_driver_parts.specs.{PageCounts.PageCounts, Conversations.one_more_in_flight}
use Rattle.vs_driver.{specs.contracts.driver.Driver.the_view, proofs.RingPages.may_stage, proofs.RingPages.packet_staged}
use Rattle.vs_driver.proofs.driver.Driver.stage_packet.Goals as goal

pub stage_page-requires-clause-may : goal.stage_page-requires-clause-may
stage_page-requires-clause-may g c =
    let d = c.self.inside in
    let c0 = g.R.DriverRing.contents c.args.ring.now in
    let state : the_view (record d { pages = c.take-page.new.self }) ≡ one_more_in_flight c.args.self.now =
    rw (← c.self.view_is) (ap (λ (p : PageCounts). the_view (record d { pages = p })) c.take-page.ensures) in
    let bytes : c.put_packet.new.page ≡ header_bytes c.args.header.now = c.put_packet.ensures.bytes ∙ append-nil (header_bytes c.args.header.now) in
    may_stage (header_bytes c.args.header.now) c.put_packet.new.page c.args.self.now (the_view (record d { pages = c.take-page.new.self })) c0 bytes state c.requires.may

pub returns-clause-calls : goal.returns-clause-calls
returns-clause-calls g c =
    let d = c.self.inside in
    let state : the_view (record d { pages = c.take-page.new.self }) ≡ one_more_in_flight c.args.self.now =
    rw (← c.self.view_is) (ap (λ (p : PageCounts). the_view (record d { pages = p })) c.take-page.ensures) in
    let bytes : c.put_packet.new.page ≡ header_bytes c.args.header.now = c.put_packet.ensures.bytes ∙ append-nil (header_bytes c.args.header.now) in
    packet_staged (header_bytes c.args.header.now) c.put_packet.new.page c.args.self.now (the_view (record d { pages = c.take-page.new.self })) c.stage_page.new.self
    (g.R.DriverRing.contents c.args.ring.now) (g.R.DriverRing.contents c.stage_page.new.ring) bytes state c.stage_page.ensures.calls
