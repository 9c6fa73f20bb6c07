use Rattle.std.proofs.Common.{arith}
use Rattle.vs_contents.proofs.Loops.{while_more, while_stop, while_end, may_step, may_more}
use Rattle.vs_driver_parts.specs.{Playing.CanMake, Playing.RingAllows, Conversations.Round, Conversations.round_of, Conversations.put_owed}
use Rattle.vs_driver.proofs.driver.Driver.pay_slot.Goals as goal

pub put_owed-requires-clause-may : goal.put_owed-requires-clause-may
put_owed-requires-clause-may g c = may_step RingAllows (put_owed c.args.slot) CanMake 4 c.loop.counter (round_of c.loop.self c.loop.tally) _ c.loop-test.true c.loop.invariant.may

pub returns-then-not-put_owed-clause-calls : goal.returns-then-not-put_owed-clause-calls
returns-then-not-put_owed-clause-calls g c =
    c.loop.invariant.goes_on _ _ (while_stop RingAllows (put_owed c.args.slot) 4 c.loop.counter (round_of c.loop.self c.loop.tally) (round_of c.put_owed.new.self c.put_owed.new.tally) _ _ c.loop-test.true c.if-not-put_owed.ensures.calls)

pub loop-preserved : goal.loop-preserved
loop-preserved g c =
    let before : Round = round_of c.loop.self c.loop.tally in
    let after : Round = round_of c.put_owed.new.self c.put_owed.new.tally in
    let from = g.R.DriverRing.contents c.loop.ring in
    let to = g.R.DriverRing.contents c.put_owed.new.ring in
    record {
      goes_on = λ x t rest. c.loop.invariant.goes_on x t (while_more RingAllows (put_owed c.args.slot) 4 c.loop.counter before after x from to t c.loop-test.true c.if-not-put_owed.ensures.calls rest);
      may = may_more RingAllows (put_owed c.args.slot) CanMake 4 c.loop.counter before after from to c.loop-test.true c.loop.invariant.may c.if-not-put_owed.ensures.calls;
      ring = c.if-not-put_owed.ensures.ring;
      small = omega (arith, c.loop.invariant.small, c.if-not-put_owed.ensures.count);
    }

pub returns-clause-calls : goal.returns-clause-calls
returns-clause-calls g c =
    let r : Round = round_of c.loop.self c.loop.tally in
    c.loop.invariant.goes_on r (g.R.DriverRing.contents c.loop.ring) (while_end RingAllows (put_owed c.args.slot) 4 c.loop.counter r (g.R.DriverRing.contents c.loop.ring) c.loop-test.false)
