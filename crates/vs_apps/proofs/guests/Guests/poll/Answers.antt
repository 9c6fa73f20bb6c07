use Rattle.std.proofs.Common.{true, refl}
use Rattle.vs_limits.specs.declared.TheConstants.{FIRST_CID}
use Rattle.vs_apps.{specs.Guests.guests_with, proofs.Guarding.guests_poll}
use Rattle.vs_apps.proofs.guests.Guests.poll.Goals as goal

pub poll-requires-clause-honest : goal.poll-requires-clause-honest
poll-requires-clause-honest g c = (true, FIRST_CID, c.self.invariant.1.run.kept.honest)

pub invariant_of-self : goal.invariant_of-self
invariant_of-self g c =
    let inside = c.self.inside in
    let now = c.poll.new in (
      c.self.invariant.0,
      guests_poll g.N.RunName.first g.N.RunName.script (guests_with inside.driver inside.end inside.apps.items inside.journal) c.self.invariant.1 c.poll.result
          (guests_with now.self now.ring inside.apps.items inside.journal) c.poll.ensures.ring (record { polls = c.poll.ensures.calls; rest = refl }),
    )
