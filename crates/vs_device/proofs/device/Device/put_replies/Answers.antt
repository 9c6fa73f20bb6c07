use Rattle.std.proofs.Common.{refl, ◌∙◌, arith}
use Rattle.vs_contents.proofs.Loops.{while_more, while_stop, while_end, may_step, may_more}
use Rattle.vs_device_parts.specs.{Filling.filling_of, Receiving.Filling, Receiving.put_reply}
use Rattle.vs_device.proofs.Among.{among, ring_of}
use Rattle.vs_device.proofs.device.Device.put_replies.Goals as goal

pub put_reply-requires-clause-may : goal.put_reply-requires-clause-may
put_reply-requires-clause-may g c =
    let may = c.loop.invariant.may in
    (may.0, may.1, may_step _ put_reply _ c.len-most.result c.loop.counter (filling_of c.loop.self c.loop.fill) _ c.loop-test.true may.2)

pub returns-then-not-put_reply-clause-calls : goal.returns-then-not-put_reply-clause-calls
returns-then-not-put_reply-clause-calls g c = λ host faults.
    c.loop.invariant.goes_on host faults _ _ (while_stop _ put_reply c.len-most.result c.loop.counter
    (filling_of c.loop.self c.loop.fill) _ _ _ c.loop-test.true (c.if-not-put_reply.ensures.calls host faults))

pub loop-preserved : goal.loop-preserved
loop-preserved g c =
    let before : Filling = filling_of c.loop.self c.loop.fill in
    let may = c.loop.invariant.may in
    record {
      goes_on = λ host faults x t rest. c.loop.invariant.goes_on host faults x t (while_more _ put_reply c.len-most.result c.loop.counter before _ _ _ _ _
          c.loop-test.true (c.if-not-put_reply.ensures.calls host faults) rest);
      may = (
        may.0,
        may.1,
        may_more _ put_reply _ c.len-most.result c.loop.counter before _ _ _ c.loop-test.true may.2 (c.if-not-put_reply.ensures.calls may.0 may.1),
      );
      ring = ring_of _ _ _ _ c.loop.invariant.ring c.if-not-put_reply.ensures.beside c.if-not-put_reply.ensures.ring;
      going = c.if-not-put_reply.ensures.over refl;
      small = omega (arith, c.loop.invariant.small, c.if-not-put_reply.ensures.count);
      read = c.if-not-put_reply.ensures.read ∙ c.loop.invariant.read;
      most = c.loop.invariant.most;
    }

pub returns-clause-calls : goal.returns-clause-calls
returns-clause-calls g c = λ host faults.
    c.loop.invariant.goes_on host faults _ _
    (while_end _ put_reply c.len-most.result c.loop.counter (filling_of c.loop.self c.loop.fill) _ c.loop-test.false)

pub put_reply-requires-clause-ring : goal.put_reply-requires-clause-ring
put_reply-requires-clause-ring g c = among _ _ c.loop.invariant.ring

pub returns-then-not-put_reply-clause-ring : goal.returns-then-not-put_reply-clause-ring
returns-then-not-put_reply-clause-ring g c = ring_of _ _ _ _ c.loop.invariant.ring c.if-not-put_reply.ensures.beside c.if-not-put_reply.ensures.ring
