use Rattle.vs_driver_parts.specs.Conversations.{publish_of}
use Rattle.laws_driver.{specs.Honest.IsHonestWith, proofs.Keeping.keeps_end, proofs.Keeping.keeps_may, proofs.Stepping.publish_keeps}
use Rattle.vs_driver.proofs.steps.publish.Goals as goal

pub publish-requires-clause-may : goal.publish-requires-clause-may
publish-requires-clause-may g c =
    keeps_may (λ s d. IsHonestWith c.requires.honest.0 c.requires.honest.1 s d) (publish_of c.args.queue c.args.driver.now) (g.R.DriverRing.contents c.args.ring.now)
    (publish_keeps c.requires.honest.0 c.requires.honest.1 c.args.queue c.args.driver.now (g.R.DriverRing.contents c.args.ring.now) c.requires.honest.2)

pub returns-clause-honest : goal.returns-clause-honest
returns-clause-honest g c = λ hosts first honest.
    keeps_end (λ s d. IsHonestWith hosts first s d) (publish_of c.args.queue c.args.driver.now) (g.R.DriverRing.contents c.args.ring.now)
    (g.R.DriverRing.contents c.publish.new.ring) c.publish.new.self
    (publish_keeps hosts first c.args.queue c.args.driver.now (g.R.DriverRing.contents c.args.ring.now) honest) c.publish.ensures.calls
