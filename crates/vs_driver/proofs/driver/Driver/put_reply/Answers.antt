use Rattle.std.proofs.Common.{ap, rules}
use Rattle.vs_header.specs.Packet.{header_bytes}
use Rattle.vs_replies.specs.Owed.{OwedReplies}
use Rattle.vs_driver_parts.specs.{State.DriverState, Conversations.put_reply, Conversations.round_of}
use Rattle.vs_driver.{specs.contracts.driver.Driver.the_view, proofs.Paying.may_put, proofs.Paying.put, proofs.Paying.reply_tree}
use Rattle.vs_driver.proofs.driver.Driver.put_reply.Goals as goal

pub stage_packet-requires-clause-may : goal.stage_packet-requires-clause-may
stage_packet-requires-clause-may g c =
    let d = c.self.inside in
    let r = round_of c.args.self.now c.args.tally.now in
    let paid : DriverState = the_view (record d { replies = c.paid.new.self }) in
    may_put (put_reply r) r (header_bytes c.reply_header-header.result) paid
    (reply_tree c.args.tally.now c.in-Some.reply c.reply_header-header.result paid c.args.self.now (the_view d) c.self.view_is
    (c.in-Some.ensures, c.reply_header-header.ensures, ap (λ (o : OwedReplies). the_view (record d { replies = o })) c.paid.ensures)
    (search rules))
    _ c.requires.may

pub returns-clause-calls : goal.returns-clause-calls
returns-clause-calls g c =
    let d = c.self.inside in
    let r = round_of c.args.self.now c.args.tally.now in
    let paid : DriverState = the_view (record d { replies = c.paid.new.self }) in
    put (put_reply r) r (header_bytes c.reply_header-header.result) paid
    (reply_tree c.args.tally.now c.in-Some.reply c.reply_header-header.result paid c.args.self.now (the_view d) c.self.view_is
    (c.in-Some.ensures, c.reply_header-header.ensures, ap (λ (o : OwedReplies). the_view (record d { replies = o })) c.paid.ensures)
    (search rules))
    c.stage_packet.new.self _ _ c.stage_packet.ensures.calls
