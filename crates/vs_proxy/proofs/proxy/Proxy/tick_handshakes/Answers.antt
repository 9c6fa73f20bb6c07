use Rattle.std.proofs.Common.{◌≡◌, ◌<◌, ◌≤◌, length, refl, ap, ◌∙◌, rules, arith}
use Rattle.vs_device_parts.proofs.Each.{each_more, may_each_step, may_each_more, each_end}
use Rattle.vs_proxy_parts.specs.{Handshakes.{streams_of, tick_handshake}, State.{ProxyState, Turning}, Turning.turning_of, declared.tally.Tally.Tally}
use Rattle.vs_proxy.proofs.Counting.{few_then, none_came}
use Rattle.vs_proxy.proofs.proxy.Proxy.tick_handshakes.Goals as goal

pub loop-stream-init : goal.loop-stream-init
loop-stream-init g c =
    let s : ProxyState = c.args.self.now in
    let is : c.as_slice-stream-items.result.now ≡ streams_of s = c.as_slice-stream-items.ensures.value ∙ (c.streams-streams.ensures ∙ ap streams_of c.self.view_is) in
    record {
      goes_on = λ ring x m rest. rw is at rest;
      may = (c.requires.may.0, rw is c.requires.may.1);
      small = omega (arith, c.requires.few);
      few = c.as_slice-stream-items.ensures.fits;
      others = refl;
      same = none_came s.device s.device refl refl;
      chain = refl;
    }

pub tick_handshake-requires-clause-may : goal.tick_handshake-requires-clause-may
tick_handshake-requires-clause-may g c =
    let xs = c.as_slice-stream-items.result.now in
    let i = c.loop-stream.stream-index in
    let within : i < length xs = search rules in
    let may = c.loop-stream.invariant.may in
    (may.0, may_each_step tick_handshake xs i 0 (turning_of c.loop-stream.self c.loop-stream.tally) within _ may.1)

pub loop-stream-preserved : goal.loop-stream-preserved
loop-stream-preserved g c =
    let xs = c.as_slice-stream-items.result.now in
    let i = c.loop-stream.stream-index in
    let within : i < length xs = search rules in
    let t : Turning = turning_of c.loop-stream.self c.loop-stream.tally in
    let may = c.loop-stream.invariant.may in
    record {
      goes_on = λ ring x m rest. c.loop-stream.invariant.goes_on ring x m
          (each_more tick_handshake xs i 0 t within _ _ _ _ _ (c.tick_handshake.ensures.calls ring) rest);
      may = (may.0, may_each_more tick_handshake xs i 0 t within _ _ _ may.1 (c.tick_handshake.ensures.calls may.0));
      small = omega (arith, c.loop-stream.invariant.small, c.tick_handshake.ensures.count);
      few = c.loop-stream.invariant.few;
      others = c.tick_handshake.ensures.others ∙ ap (λ (x : Tally). record x { hands = c.tick_handshake.new.tally.hands }) c.loop-stream.invariant.others;
      same = few_then 0 0 0 0 _ _ _ c.loop-stream.invariant.same c.tick_handshake.ensures.same;
      chain = c.tick_handshake.ensures.chain ∙ c.loop-stream.invariant.chain;
    }

pub returns-clause-calls : goal.returns-clause-calls
returns-clause-calls g c = λ ring.
    let xs = c.as_slice-stream-items.result.now in
    let t : Turning = turning_of c.loop-stream.self c.loop-stream.tally in
    let ends : length xs ≤ c.loop-stream.stream-index = search rules in
    c.loop-stream.invariant.goes_on ring t _ (each_end tick_handshake xs c.loop-stream.stream-index t _ ends)
