use Rattle.std.proofs.Common.{length, sym, subst}
use Rattle.vs_driver_parts.specs.Playing.{SamePages}
use Rattle.vs_play.proofs.Driven.{driven_stays}
use Rattle.laws_driver.proofs.Carried.SamePages.{recv_stays}
use Rattle.vs_play.proofs.guest.received.Goals as goal

pub returns-clause-driven : goal.returns-clause-driven
returns-clause-driven c = λ e. driven_stays c.args.driver.now c.recv-answer.new.self e
    (subst (λ s. SamePages c.args.driver.now s) (sym c.recv-answer.ensures.state) (recv_stays c.args.id (length c.args.buffer.now) c.args.driver.now))
    c.recv-answer.ensures.honest
