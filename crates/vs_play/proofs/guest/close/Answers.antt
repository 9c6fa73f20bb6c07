use Rattle.std.proofs.{Common.refl, lemmas.Result.on_ok_weaker}
use Rattle.laws_driver.proofs.Carried.SamePages.{close_stays}
use Rattle.vs_play.proofs.Driven.{replies_as}
use Rattle.laws_driver.specs.Carried.Calls as call
use Rattle.vs_play.proofs.guest.close.Goals as goal

pub returns : goal.returns
returns c = λ e driven. on_ok_weaker c.push_close.result (λ printed. replies_as (call.Close c.args.id) _ _ _ _ _ e _ _ refl
    c.close-answer.ensures.state c.close-answer.ensures.answer (close_stays c.args.id c.args.driver.now) c.close-answer.ensures.honest driven printed) c.push_close.ensures
