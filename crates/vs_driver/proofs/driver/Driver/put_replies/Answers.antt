use Rattle.std.proofs.Common.{arith}
use Rattle.vs_contents.proofs.Loops.{while_more, while_stop, may_step, may_more}
use Rattle.vs_driver_parts.specs.{Playing.CanMake, Playing.RingAllows, Conversations.Round, Conversations.round_of, Conversations.put_reply}
use Rattle.vs_driver.proofs.driver.Driver.put_replies.Goals as goal

pub put_reply-requires-clause-may : goal.put_reply-requires-clause-may
put_reply-requires-clause-may g c = may_step RingAllows put_reply CanMake c.len-most.result c.loop.counter (round_of c.loop.self c.loop.tally) _ c.loop-test.true c.loop.invariant.may

pub returns-then-not-put_reply-clause-calls : goal.returns-then-not-put_reply-clause-calls
returns-then-not-put_reply-clause-calls g c =
    c.loop.invariant.goes_on _ _ (while_stop RingAllows put_reply c.len-most.result c.loop.counter (round_of c.loop.self c.loop.tally) (round_of c.put_reply.new.self c.put_reply.new.tally) _ _ c.loop-test.true c.if-not-put_reply.ensures.calls)

pub loop-preserved : goal.loop-preserved
loop-preserved g c =
    let before : Round = round_of c.loop.self c.loop.tally in
    let after : Round = round_of c.put_reply.new.self c.put_reply.new.tally in
    let from = g.R.DriverRing.contents c.loop.ring in
    let to = g.R.DriverRing.contents c.put_reply.new.ring in
    record {
      goes_on = λ x t rest. c.loop.invariant.goes_on x t (while_more RingAllows put_reply c.len-most.result c.loop.counter before after x from to t c.loop-test.true c.if-not-put_reply.ensures.calls rest);
      may = may_more RingAllows put_reply CanMake c.len-most.result c.loop.counter before after from to c.loop-test.true c.loop.invariant.may c.if-not-put_reply.ensures.calls;
      ring = c.if-not-put_reply.ensures.ring;
      small = omega (arith, c.loop.invariant.small, c.if-not-put_reply.ensures.count);
      most = c.loop.invariant.most;
    }
