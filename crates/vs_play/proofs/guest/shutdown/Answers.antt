use Rattle.std.proofs.{Common.refl, lemmas.Result.on_ok_weaker}
use Rattle.laws_driver.proofs.Carried.SamePages.{shutdown_stays}
use Rattle.vs_play.proofs.Driven.{replies_as}
use Rattle.laws_driver.specs.Carried.Calls as call
use Rattle.vs_play.proofs.guest.shutdown.Goals as goal

pub returns : goal.returns
returns c = λ e driven. on_ok_weaker c.push_shutdown.result (λ printed. replies_as (call.Shutdown c.args.id c.args.bits) _ _ _ _ _ e _ _ refl
    c.shutdown-answer.ensures.state c.shutdown-answer.ensures.answer (shutdown_stays c.args.id c.args.bits c.args.driver.now)
    c.shutdown-answer.ensures.honest driven printed) c.push_shutdown.ensures
