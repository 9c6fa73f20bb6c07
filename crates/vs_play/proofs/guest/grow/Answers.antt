use Rattle.std.proofs.{Common.refl, lemmas.Result.on_ok_weaker}
use Rattle.laws_driver.proofs.Carried.SamePages.{grow_stays}
use Rattle.vs_play.proofs.Driven.{replies_as}
use Rattle.laws_driver.specs.Carried.Calls as call
use Rattle.vs_play.proofs.guest.grow.Goals as goal

pub returns : goal.returns
returns c = λ e driven. on_ok_weaker c.push_grow.result (λ printed. replies_as (call.Grow c.args.id c.args.alloc) _ _ _ _ _ e _ _ refl
    c.grow-answer.ensures.state c.grow-answer.ensures.answer (grow_stays c.args.id c.args.alloc c.args.driver.now)
    c.grow-answer.ensures.honest driven printed) c.push_grow.ensures
