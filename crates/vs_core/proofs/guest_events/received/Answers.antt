use Rattle.std.proofs.Common.{length, sym, subst}
use Rattle.vs_driver_parts.specs.Playing.{SamePages}
use Rattle.vs_core.proofs.Driven.{driven_stays}
use Rattle.laws_driver.proofs.Carried.SamePages.{recv_stays}
use Rattle.vs_core.proofs.guest_events.received.Goals as goal

pub returns-clause-driven : goal.returns-clause-driven
returns-clause-driven c = driven_stays c.args.driver.now c.recv-answer.new.self
    (subst (λ s. SamePages c.args.driver.now s) (sym c.recv-answer.ensures.state) (recv_stays c.args.id (length c.deref_mut.result.now) c.args.driver.now))
    c.recv-answer.ensures.honest
