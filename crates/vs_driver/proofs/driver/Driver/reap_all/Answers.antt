use Rattle.std.proofs.Common.{ap, rules}
use Rattle.vs_contents.proofs.Loops.{while_more, while_stop}
use Rattle.vs_ring_port.specs.Counts.{Counts}
use Rattle.vs_driver_parts.specs.{Playing.RingAllows, Conversations.reap_one}
use Rattle.vs_driver.proofs.RingPages.{ring_after_reap}
use Rattle.vs_driver.proofs.driver.Driver.reap_all.Goals as goal

pub returns-then-not-reap-clause-calls : goal.returns-then-not-reap-clause-calls
returns-then-not-reap-clause-calls g c =
    c.loop.invariant.goes_on _ _ (while_stop RingAllows reap_one c.in_flight-most.result c.loop.counter _ _ _ _ c.loop-test.true c.if-not-reap.ensures.calls)

pub loop-preserved : goal.loop-preserved
loop-preserved g c = record {
  goes_on = λ new t rest. c.loop.invariant.goes_on new t (while_more RingAllows reap_one c.in_flight-most.result c.loop.counter _ _ new _ _ t c.loop-test.true c.if-not-reap.ensures.calls rest);
  ring = ring_after_reap _ _ _ _ _ _ _ _ c.if-not-reap.ensures.same_size c.if-not-reap.ensures.flight c.if-not-reap.ensures.same_staged c.if-not-reap.ensures.others c.loop.invariant.ring;
  others = search rules;
}

pub reap-requires : goal.reap-requires
reap-requires g c = record { flight = ap (λ (f : Counts). f.tx) c.loop.invariant.ring.flight }

pub returns-then-not-reap-clause-ring : goal.returns-then-not-reap-clause-ring
returns-then-not-reap-clause-ring g c =
    ring_after_reap _ _ _ _ _ _ _ _ c.if-not-reap.ensures.same_size c.if-not-reap.ensures.flight c.if-not-reap.ensures.same_staged c.if-not-reap.ensures.others c.loop.invariant.ring
