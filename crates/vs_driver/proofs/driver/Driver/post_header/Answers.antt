use Rattle.std.proofs.{Common.ℕ, Common.List, Common.sym, Common.subst, lemmas.List.append-nil}
use Rattle.vs_header.specs.Packet.{header_bytes}
use Rattle.vs_driver_parts.specs.{Playing.MayPublishAll, Playing.Plays, Conversations.post_packet}
use Rattle.vs_driver.proofs.driver.Driver.post_header.Goals as goal

pub post_packet-requires-clause-may : goal.post_packet-requires-clause-may
post_packet-requires-clause-may g c =
    let P : List ℕ → Type 0 = λ b. MayPublishAll (post_packet b c.args.self.now) (g.R.DriverRing.contents c.args.ring.now) in
    subst P (sym (append-nil (header_bytes c.args.header.now))) c.requires.may

pub returns-clause-calls : goal.returns-clause-calls
returns-clause-calls g c =
    let P : List ℕ → Type 0 = λ b. Plays (post_packet b c.args.self.now) (g.R.DriverRing.contents c.args.ring.now) c.post_packet.new.self (g.R.DriverRing.contents c.post_packet.new.ring) in
    subst P (append-nil (header_bytes c.args.header.now)) c.post_packet.ensures.calls
