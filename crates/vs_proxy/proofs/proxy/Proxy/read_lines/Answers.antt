use Rattle.std.proofs.Common.{◌≡◌, ◌<◌, ◌≤◌, length, refl, ap, ◌∙◌, rules, arith}
use Rattle.vs_device_parts.proofs.Each.{each_more, may_each_step, may_each_more, each_end}
use Rattle.vs_proxy_parts.specs.{Handshakes.{read_line, streams_of}, State.{ProxyState, Turning}, Turning.turning_of, declared.tally.Tally.Tally}
use Rattle.vs_proxy.proofs.Counting.{few_more, few_then, none_came}
use Rattle.vs_proxy.proofs.proxy.Proxy.read_lines.Goals as goal

pub loop-stream-init : goal.loop-stream-init
loop-stream-init g c =
    let s : ProxyState = c.args.self.now in
    let is : c.as_slice-stream-items.result.now ≡ streams_of s = c.as_slice-stream-items.ensures.value ∙ (c.streams-streams.ensures ∙ ap streams_of c.self.view_is) in
    record {
      goes_on = λ ring x m rest. rw is at rest;
      may = (c.requires.may.0, rw is c.requires.may.1);
      small = omega (arith, c.requires.few);
      read = omega (arith, c.requires.none);
      few = c.as_slice-stream-items.ensures.fits;
      others = refl;
      opened = none_came s.device s.device refl refl;
      chain = refl;
    }

pub read_line-requires-clause-may : goal.read_line-requires-clause-may
read_line-requires-clause-may g c =
    let xs = c.as_slice-stream-items.result.now in
    let i = c.loop-stream.stream-index in
    let within : i < length xs = search rules in
    let may = c.loop-stream.invariant.may in
    (may.0, may_each_step read_line xs i 0 (turning_of c.loop-stream.self c.loop-stream.tally) within _ may.1)

pub loop-stream-preserved : goal.loop-stream-preserved
loop-stream-preserved g c =
    let xs = c.as_slice-stream-items.result.now in
    let i = c.loop-stream.stream-index in
    let within : i < length xs = search rules in
    let t : Turning = turning_of c.loop-stream.self c.loop-stream.tally in
    let may = c.loop-stream.invariant.may in
    record {
      goes_on = λ ring x m rest. c.loop-stream.invariant.goes_on ring x m
          (each_more read_line xs i 0 t within _ _ _ _ _ (c.read_line.ensures.calls ring) rest);
      may = (may.0, may_each_more read_line xs i 0 t within _ _ _ may.1 (c.read_line.ensures.calls may.0));
      small = omega (arith, c.loop-stream.invariant.small, c.read_line.ensures.count);
      read = omega (arith, c.loop-stream.invariant.read, c.read_line.ensures.read);
      few = c.loop-stream.invariant.few;
      others = c.read_line.ensures.others
          ∙ ap (λ (x : Tally). record x { read = c.read_line.new.tally.read; hands = c.read_line.new.tally.hands }) c.loop-stream.invariant.others;
      opened = few_more _ 0 _ 0 _ _ (omega arith) (omega arith) (few_then _ 0 _ 0 _ _ _ c.loop-stream.invariant.opened c.read_line.ensures.opened);
      chain = c.read_line.ensures.chain ∙ c.loop-stream.invariant.chain;
    }

pub returns-clause-calls : goal.returns-clause-calls
returns-clause-calls g c = λ ring.
    let xs = c.as_slice-stream-items.result.now in
    let t : Turning = turning_of c.loop-stream.self c.loop-stream.tally in
    let ends : length xs ≤ c.loop-stream.stream-index = search rules in
    c.loop-stream.invariant.goes_on ring t _ (each_end read_line xs c.loop-stream.stream-index t _ ends)

pub returns-clause-opened : goal.returns-clause-opened
returns-clause-opened g c =
    let within : c.loop-stream.stream-index ≤ length c.as_slice-stream-items.result.now = search rules in
    few_more _ 0 _ 0 _ _ (omega (arith, c.loop-stream.invariant.few, within)) (omega arith) c.loop-stream.invariant.opened
