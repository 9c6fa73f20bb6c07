use Rattle.vs_play.proofs.Driven.{driven_stays}
use Rattle.laws_driver.proofs.Carried.SamePages.{unlistening_stays}
use Rattle.vs_play.proofs.guest.unlistened.Goals as goal

pub returns-clause-driven : goal.returns-clause-driven
returns-clause-driven c = λ e. driven_stays c.args.driver.now c.unlisten.new.self e
    (unlistening_stays c.args.port c.args.driver.now c.unlisten.new.self c.unlisten.result c.unlisten.ensures.state c.unlisten.ensures.unchanged)
    c.unlisten.ensures.honest
