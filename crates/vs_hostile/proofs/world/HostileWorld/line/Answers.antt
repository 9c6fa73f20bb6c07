use Rattle.std.proofs.Common.{ap}
use Rattle.vs_script.specs.Hostile.{hostile_view}
use Rattle.vs_hostile.{specs.World.guest_view, proofs.Stepping.on_ok, proofs.Stepping.steps_second_at}
use Rattle.vs_hostile.proofs.world.HostileWorld.line.Goals as goal

pub returns-in_ok-self-inside-in-Memory : goal.returns-in_ok-self-inside-in-Memory
returns-in_ok-self-inside-in-Memory c =
    on_ok c.push_ok-in-Memory.result
    (λ prints. steps_second_at (hostile_view c.args.line.now) c.in-Memory.memory (guest_view c.self.inside.guest)
    (guest_view c.in_ok-self-inside-in-Memory.field-0) c.self.inside.proxy c.self.inside.host.contents c.self.inside.clock c.args.self.now
    _ _ c.self.view_is (ap guest_view c.in-Memory.is) c.in_ok-self-inside-in-Memory.ensures prints c.requires)
    c.push_ok-in-Memory.ensures
