use Rattle.std.proofs.Common.{arith}
use Rattle.vs_contents.proofs.Loops.{while_more, while_stop, may_step, may_more}
use Rattle.vs_driver_parts.specs.{Playing.{CanMake, RingAllows}, Conversations.{Round, round_of, take_packet}}
use Rattle.vs_driver.proofs.driver.Driver.stage_packets.Goals as goal

pub take_packet-requires-clause-may : goal.take_packet-requires-clause-may
take_packet-requires-clause-may g c = may_step RingAllows take_packet CanMake c.size-most.result c.loop.counter (round_of c.loop.self c.loop.tally) _ c.loop-test.true c.loop.invariant.may

pub returns-then-not-take_packet-clause-calls : goal.returns-then-not-take_packet-clause-calls
returns-then-not-take_packet-clause-calls g c =
    c.loop.invariant.goes_on _ _ (while_stop RingAllows take_packet c.size-most.result c.loop.counter (round_of c.loop.self c.loop.tally) (round_of c.take_packet.new.self c.take_packet.new.tally) _ _ c.loop-test.true c.if-not-take_packet.ensures.calls)

pub loop-preserved : goal.loop-preserved
loop-preserved g c =
    let before : Round = round_of c.loop.self c.loop.tally in
    let after : Round = round_of c.take_packet.new.self c.take_packet.new.tally in
    let from = g.R.DriverRing.contents c.loop.ring in
    let to = g.R.DriverRing.contents c.take_packet.new.ring in
    record {
      goes_on = λ x t rest. c.loop.invariant.goes_on x t (while_more RingAllows take_packet c.size-most.result c.loop.counter before after x from to t c.loop-test.true c.if-not-take_packet.ensures.calls rest);
      may = may_more RingAllows take_packet CanMake c.size-most.result c.loop.counter before after from to c.loop-test.true c.loop.invariant.may c.if-not-take_packet.ensures.calls;
      ring = c.if-not-take_packet.ensures.ring;
      small = omega (arith, c.loop.invariant.small, c.if-not-take_packet.ensures.count);
    }
