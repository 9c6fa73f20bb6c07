use Rattle.std.proofs.Common.{◌≡◌, true, Ok, refl, sym, subst, rules}
use Rattle.vs_header.specs.{Packet.header_bytes, declared.Header.Header}
use Rattle.vs_driver_parts.specs.{Conversations.{has_page, post_packet, request_bytes}, Playing.{MayPublishAll, Plays}}
use Rattle.vs_driver.proofs.{Connecting.after_post, Connecting.finds_page, Rest.may_next, Rest.then}
use Rattle.vs_driver.proofs.driver.Driver.connect_with_page.Goals as goal

pub post_header-requires-clause-may : goal.post_header-requires-clause-may
post_header-requires-clause-may g c =
    let s = c.args.self.now in
    let free : has_page c.args.self.now ≡ true = search rules in
    let P : Header → Type 0 = λ h. MayPublishAll (post_packet (header_bytes h) c.args.self.now) (g.R.DriverRing.contents c.args.ring.now) in
    subst P (sym c.request_header-header.ensures)
    (may_next (post_packet (request_bytes c.args.peer c.args.port s) s) (after_post c.args.peer c.args.port) (finds_page c.args.peer c.args.port s _ free)
    c.requires.may)

pub returns-clause-calls : goal.returns-clause-calls
returns-clause-calls g c =
    let s = c.args.self.now in
    let free : has_page c.args.self.now ≡ true = search rules in
    let P : Header → Type 0 = λ h. Plays (post_packet (header_bytes h) c.args.self.now) (g.R.DriverRing.contents c.args.ring.now) c.post_header.new.self (g.R.DriverRing.contents c.post_header.new.ring) in
    (then (post_packet (request_bytes c.args.peer c.args.port s) s) (after_post c.args.peer c.args.port) (finds_page c.args.peer c.args.port s _ free)
    c.post_header.new.self _
    (subst P c.request_header-header.ensures c.post_header.ensures.calls)).goes_on (c.open.new.self, Ok c.open.result) _
    (rw (c.open.ensures.opened, c.open.ensures.id) refl, refl)
