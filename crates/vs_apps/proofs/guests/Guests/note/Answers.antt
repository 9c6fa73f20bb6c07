use Rattle.std.proofs.Common.{subst, sym}
use Rattle.vs_ring_shared.specs.{Meetings.what_it_did, Sights.Sight}
use Rattle.vs_apps.{specs.Guests.{AreGuests, guests_with}, proofs.Guarding.guests_hear}
use Rattle.vs_apps.proofs.guests.Guests.note.Goals as goal

pub invariant_of-self : goal.invariant_of-self
invariant_of-self g c =
    let inside = c.self.inside in (
      c.self.invariant.0,
      subst (λ (end : Sight). AreGuests g.N.RunName.first g.N.RunName.script (guests_with inside.driver end inside.apps.items inside.journal)) (sym c.note.ensures.driver)
          (guests_hear g.N.RunName.first g.N.RunName.script (guests_with inside.driver inside.end inside.apps.items inside.journal) c.self.invariant.1
          (what_it_did c.args.device.now.sight)),
    )
