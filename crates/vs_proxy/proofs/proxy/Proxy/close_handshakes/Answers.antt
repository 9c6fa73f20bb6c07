use Rattle.std.proofs.Common.{◌≡◌, ◌<◌, ◌≤◌, length, refl, ap, ◌∙◌, rules}
use Rattle.vs_ring_port.specs.Contents.{RingContents}
use Rattle.vs_device_parts.{specs.Playing.situation, proofs.Each.{each_more, may_each_step, may_each_more, each_end}}
use Rattle.vs_proxy_parts.specs.{Handshakes.streams_of, Turns.close_handshake}
use Rattle.vs_proxy.proofs.proxy.Proxy.close_handshakes.Goals as goal

pub loop-stream-init : goal.loop-stream-init
loop-stream-init g c =
    let is : c.as_slice-stream-items.result.now ≡ streams_of c.args.self.now = c.as_slice-stream-items.ensures.value ∙ (c.streams-streams.ensures ∙ ap streams_of c.self.view_is) in
    let may = c.requires.may in
    record {
      goes_on = λ y ring x m rest. rw is at rest;
      may = (may.0, (may.1.0, rw is may.1.1));
    }

pub close-requires : goal.close-requires
close-requires g c =
    let xs = c.as_slice-stream-items.result.now in
    let within : c.loop-stream.stream-index < length xs = search rules in
    let may = c.loop-stream.invariant.may in
    record { «open» = (may_each_step close_handshake xs c.loop-stream.stream-index 0 may.0 within _ may.1.1).0 }

pub loop-stream-preserved : goal.loop-stream-preserved
loop-stream-preserved g c =
    let xs = c.as_slice-stream-items.result.now in
    let i = c.loop-stream.stream-index in
    let within : i < length xs = search rules in
    let may = c.loop-stream.invariant.may in
    let closed = λ (ring : RingContents). situation ring (g.H.HostNet.contents c.close.new.host) (g.H.HostNet.faults c.close.new.host) in
    record {
      goes_on = λ y ring x m rest. c.loop-stream.invariant.goes_on y ring x m
          (each_more close_handshake xs i 0 y within y _ _ (closed ring) _ (tt, closed ring, c.close.ensures ring, (refl, refl)) rest);
      may = (
        may.0,
        (
          may.1.0,
          may_each_more close_handshake xs i 0 may.0 within may.0 _ (closed may.1.0) may.1.1
              (tt, closed may.1.0, c.close.ensures may.1.0, (refl, refl)),
        ),
      );
    }

pub returns : goal.returns
returns g c =
    let xs = c.as_slice-stream-items.result.now in
    let ends : length xs ≤ c.loop-stream.stream-index = search rules in
    record { calls = λ y ring. c.loop-stream.invariant.goes_on y ring y _ (each_end close_handshake xs c.loop-stream.stream-index y _ ends) }
