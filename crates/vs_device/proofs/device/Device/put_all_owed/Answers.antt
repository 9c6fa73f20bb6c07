use Rattle.std.proofs.Common.{refl, ◌∙◌, arith}
use Rattle.vs_contents.proofs.Loops.{while_more, while_stop, while_end, may_step, may_more}
use Rattle.vs_device_parts.specs.{Filling.filling_of, Receiving.Filling, Receiving.put_owed}
use Rattle.vs_device.proofs.Among.{among, ring_of}
use Rattle.vs_device.proofs.device.Device.put_all_owed.Goals as goal

pub put_owed-requires-clause-may : goal.put_owed-requires-clause-may
put_owed-requires-clause-may g c = may_step _ (put_owed c.args.slot) _ 4 c.loop.counter (filling_of c.loop.self c.loop.fill) _ c.loop-test.true c.loop.invariant.may

pub returns-then-not-put_owed-clause-calls : goal.returns-then-not-put_owed-clause-calls
returns-then-not-put_owed-clause-calls g c =
    c.loop.invariant.goes_on _ _ (while_stop _ (put_owed c.args.slot) 4 c.loop.counter (filling_of c.loop.self c.loop.fill) _ _ _ c.loop-test.true c.if-not-put_owed.ensures.calls)

pub loop-preserved : goal.loop-preserved
loop-preserved g c =
    let before : Filling = filling_of c.loop.self c.loop.fill in
    record {
      goes_on = λ x t rest. c.loop.invariant.goes_on x t (while_more _ (put_owed c.args.slot) 4 c.loop.counter before _ _ _ _ _ c.loop-test.true c.if-not-put_owed.ensures.calls rest);
      may = may_more _ (put_owed c.args.slot) _ 4 c.loop.counter before _ _ _ c.loop-test.true c.loop.invariant.may c.if-not-put_owed.ensures.calls;
      ring = ring_of _ _ _ _ c.loop.invariant.ring c.if-not-put_owed.ensures.beside c.if-not-put_owed.ensures.ring;
      going = c.if-not-put_owed.ensures.over refl;
      small = omega (arith, c.loop.invariant.small, c.if-not-put_owed.ensures.count);
      read = c.if-not-put_owed.ensures.read ∙ c.loop.invariant.read;
    }

pub returns-clause-calls : goal.returns-clause-calls
returns-clause-calls g c =
    c.loop.invariant.goes_on _ _ (while_end _ (put_owed c.args.slot) 4 c.loop.counter (filling_of c.loop.self c.loop.fill) _ c.loop-test.false)

pub put_owed-requires-clause-ring : goal.put_owed-requires-clause-ring
put_owed-requires-clause-ring g c = among _ _ c.loop.invariant.ring

pub returns-then-not-put_owed-clause-ring : goal.returns-then-not-put_owed-clause-ring
returns-then-not-put_owed-clause-ring g c = ring_of _ _ _ _ c.loop.invariant.ring c.if-not-put_owed.ensures.beside c.if-not-put_owed.ensures.ring
