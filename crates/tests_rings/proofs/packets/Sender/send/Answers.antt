use Rattle.std.proofs.Common.{◌∷◌, subst, sym}
use Rattle.vs_header.specs.declared.Header.{Header}
use Rattle.vs_page.specs.{Fair.IsFairLog, Log.Driver, declared.log.LogEntry.TheVariants.PutPacket}
use Rattle.tests_rings.{specs.Senders.bare, proofs.Senders.fair_reset}
use Rattle.tests_rings.proofs.packets.Sender.send.Goals as goal

pub put-requires-clause-fair : goal.put-requires-clause-fair
put-requires-clause-fair g c = subst (λ (h : Header). IsFairLog Driver (PutPacket (bare h) ∷ c.self.inside.end.log)) (sym c.numbered.ensures)
    (fair_reset c.self.inside.end.log c.args.number c.laws_of_driver_end.ensures.fair c.self.invariant.asked)
