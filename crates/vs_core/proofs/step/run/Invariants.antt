use Rattle.laws_world.specs.World.{from_lowest, opened_host, opening}
use Rattle.vs_core.{specs.Ready.IsReady, proofs.Running.IsLed}
use Rattle.vs_core.proofs.step.run.Given as goal

-- The next event may happen, and those that are left lead to where all lead.
abbrev pub invariant-loop-event : goal.invariant-loop-event
invariant-loop-event l = record {
  ready : IsReady l.world;
  led : IsLed l.fn.events l.event-index l.world (opening (from_lowest l.fn.n) (opened_host l.fn.base));
}
