use Rattle.std.proofs.Common.{rules}
use Rattle.vs_header.specs.Packet.{header_bytes}
use Rattle.vs_driver_parts.specs.Conversations.{put_owed, round_of}
use Rattle.vs_driver.{specs.contracts.driver.Driver.the_view, proofs.Paying.may_put, proofs.Paying.owed_tree, proofs.Paying.put}
use Rattle.vs_driver.proofs.driver.Driver.put_owed.Goals as goal

pub stage_packet-requires-clause-may : goal.stage_packet-requires-clause-may
stage_packet-requires-clause-may g c =
    let r = round_of c.args.self.now c.args.tally.now in
    may_put (put_owed c.args.slot r) r (header_bytes c.in-Some.header) c.count_paid.new.self
    (owed_tree c.args.tally.now c.args.slot c.in-Some.what c.in-Some.header c.count_paid.new.self c.args.self.now (the_view c.self.inside)
    c.self.view_is c.in-Some.ensures.some (search rules) c.count_paid.ensures.state)
    _ c.requires.may

pub returns-clause-calls : goal.returns-clause-calls
returns-clause-calls g c =
    let r = round_of c.args.self.now c.args.tally.now in
    put (put_owed c.args.slot r) r (header_bytes c.in-Some.header) c.count_paid.new.self
    (owed_tree c.args.tally.now c.args.slot c.in-Some.what c.in-Some.header c.count_paid.new.self c.args.self.now (the_view c.self.inside)
    c.self.view_is c.in-Some.ensures.some (search rules) c.count_paid.ensures.state)
    c.stage_packet.new.self _ _ c.stage_packet.ensures.calls
