use Rattle.std.proofs.Common.{ap, ◌∙◌, arith}
use Rattle.vs_contents.proofs.Loops.{while_more, while_stop, while_end, may_step, may_more}
use Rattle.vs_proxy_parts.specs.{State.Turning, Turning.turning_of, Turns.take_one, declared.tally.Tally.Tally}
use Rattle.vs_proxy.proofs.Counting.{few_more, few_then}
use Rattle.vs_proxy.proofs.proxy.Proxy.take_packets.Goals as goal

pub take_one-requires-clause-may : goal.take_one-requires-clause-may
take_one-requires-clause-may g c = may_step _ take_one _ c.args.size c.loop.counter (turning_of c.loop.self c.loop.tally) _ c.loop-test.true c.loop.invariant.may

pub returns-then-not-take_one-clause-calls : goal.returns-then-not-take_one-clause-calls
returns-then-not-take_one-clause-calls g c =
    c.loop.invariant.goes_on _ _ (while_stop _ take_one c.args.size c.loop.counter (turning_of c.loop.self c.loop.tally) _ _ _
    c.loop-test.true c.if-not-take_one.ensures.calls)

pub returns-then-not-take_one-clause-opened : goal.returns-then-not-take_one-clause-opened
returns-then-not-take_one-clause-opened g c =
    few_more _ _ _ _ _ _ (omega (arith, c.loop-test.true)) (omega (arith, c.loop-test.true)) (few_then _ _ _ _ _ _ _ c.loop.invariant.opened c.if-not-take_one.ensures.opened)

pub returns-then-not-take_one-clause-others : goal.returns-then-not-take_one-clause-others
returns-then-not-take_one-clause-others g c =
    c.if-not-take_one.ensures.others ∙ ap (λ (x : Tally). record x { took = c.take_one.new.tally.took }) c.loop.invariant.others

pub loop-preserved : goal.loop-preserved
loop-preserved g c =
    let before : Turning = turning_of c.loop.self c.loop.tally in
    record {
      goes_on = λ x t rest. c.loop.invariant.goes_on x t (while_more _ take_one c.args.size c.loop.counter before _ _ _ _ _ c.loop-test.true c.if-not-take_one.ensures.calls rest);
      may = may_more _ take_one _ c.args.size c.loop.counter before _ _ _ c.loop-test.true c.loop.invariant.may c.if-not-take_one.ensures.calls;
      ring = c.if-not-take_one.ensures.ring;
      within = omega (arith, c.loop-test.true);
      small = omega (arith, c.loop.invariant.small, c.if-not-take_one.ensures.count);
      others = c.if-not-take_one.ensures.others ∙ ap (λ (x : Tally). record x { took = c.take_one.new.tally.took }) c.loop.invariant.others;
      opened = few_more _ _ _ _ _ _ (omega arith) (omega arith) (few_then _ _ _ _ _ _ _ c.loop.invariant.opened c.if-not-take_one.ensures.opened);
    }

pub returns-clause-calls : goal.returns-clause-calls
returns-clause-calls g c =
    c.loop.invariant.goes_on _ _ (while_end _ take_one c.args.size c.loop.counter (turning_of c.loop.self c.loop.tally) _ c.loop-test.false)

pub returns-clause-opened : goal.returns-clause-opened
returns-clause-opened g c = few_more _ _ _ _ _ _ (omega (arith, c.loop.invariant.within)) (omega (arith, c.loop.invariant.within)) c.loop.invariant.opened
