use Rattle.std.proofs.Common.{rules}
use Rattle.laws_world.specs.World.{from_lowest, opened_host, opening}
use Rattle.vs_core.proofs.Running.{led_last, led_next}
use Rattle.vs_core.proofs.step.run.Goals as goal

pub loop-event-preserved : goal.loop-event-preserved
loop-event-preserved c = record {
  ready = c.in_ok-step.ensures.happened.ready;
  led =
      led_next c.args.events.now c.loop-event.event-index c.event-item.result c.loop-event.world c.step.new.self
      (opening (from_lowest c.args.n) (opened_host c.args.base.now)) c.loop-event-test.true c.event-item.is c.loop-event.invariant.led
      c.in_ok-step.ensures.happened.world;
}

pub returns-clause-world : goal.returns-clause-world
returns-clause-world c = led_last c.args.events.now c.loop-event.event-index c.loop-event.world _ (search rules) c.loop-event.invariant.led
