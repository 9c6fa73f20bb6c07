use Rattle.std.proofs.Common.{ap, ◌∙◌, arith}
use Rattle.vs_contents.proofs.Loops.{while_more, while_stop, while_end, may_step, may_more}
use Rattle.vs_proxy_parts.specs.{Handshakes.read_byte, State.Turning, Turning.turning_of, declared.tally.Tally.Tally}
use Rattle.vs_proxy.proofs.Counting.{few_more, few_then}
use Rattle.vs_proxy.proofs.proxy.Proxy.read_line.Goals as goal

pub read_byte-requires-clause-may : goal.read_byte-requires-clause-may
read_byte-requires-clause-may g c =
    let may = c.loop.invariant.may in
    (may.0, may_step _ (read_byte c.args.stream) _ 32 c.loop.counter (turning_of c.loop.self c.loop.tally) _ c.loop-test.true may.1)

pub returns-then-not-read_byte-clause-calls : goal.returns-then-not-read_byte-clause-calls
returns-then-not-read_byte-clause-calls g c = λ ring.
    c.loop.invariant.goes_on ring _ _ (while_stop _ (read_byte c.args.stream) 32 c.loop.counter (turning_of c.loop.self c.loop.tally) _ _ _
    c.loop-test.true (c.if-not-read_byte.ensures.calls ring))

pub returns-then-not-read_byte-clause-opened : goal.returns-then-not-read_byte-clause-opened
returns-then-not-read_byte-clause-opened g c =
    few_more _ 0 _ 0 _ _ (omega (arith, c.loop-test.true)) (omega arith) (few_then _ 0 _ 0 _ _ _ c.loop.invariant.opened c.if-not-read_byte.ensures.opened)

pub returns-then-not-read_byte-clause-others : goal.returns-then-not-read_byte-clause-others
returns-then-not-read_byte-clause-others g c =
    c.if-not-read_byte.ensures.others
    ∙ ap (λ (x : Tally). record x { read = c.read_byte.new.tally.read; hands = c.read_byte.new.tally.hands }) c.loop.invariant.others

pub loop-preserved : goal.loop-preserved
loop-preserved g c =
    let before : Turning = turning_of c.loop.self c.loop.tally in
    let may = c.loop.invariant.may in
    record {
      goes_on = λ ring x t rest. c.loop.invariant.goes_on ring x t (while_more _ (read_byte c.args.stream) 32 c.loop.counter before _ _ _ _ _
          c.loop-test.true (c.if-not-read_byte.ensures.calls ring) rest);
      may = (may.0, may_more _ (read_byte c.args.stream) _ 32 c.loop.counter before _ _ _ c.loop-test.true may.1 (c.if-not-read_byte.ensures.calls may.0));
      within = omega (arith, c.loop-test.true);
      small = omega (arith, c.loop.invariant.small, c.if-not-read_byte.ensures.count);
      read = omega (arith, c.loop.invariant.read, c.if-not-read_byte.ensures.read);
      others = c.if-not-read_byte.ensures.others
          ∙ ap (λ (x : Tally). record x { read = c.read_byte.new.tally.read; hands = c.read_byte.new.tally.hands }) c.loop.invariant.others;
      opened = few_more _ 0 _ 0 _ _ (omega arith) (omega arith) (few_then _ 0 _ 0 _ _ _ c.loop.invariant.opened c.if-not-read_byte.ensures.opened);
      chain = c.if-not-read_byte.ensures.chain ∙ c.loop.invariant.chain;
    }

pub returns-clause-calls : goal.returns-clause-calls
returns-clause-calls g c = λ ring.
    c.loop.invariant.goes_on ring _ _ (while_end _ (read_byte c.args.stream) 32 c.loop.counter (turning_of c.loop.self c.loop.tally) _ c.loop-test.false)

pub returns-clause-opened : goal.returns-clause-opened
returns-clause-opened g c = few_more _ 0 _ 0 _ _ (omega (arith, c.loop.invariant.within)) (omega arith) c.loop.invariant.opened
