use Rattle.std.proofs.{Common.◌++◌, Common.ap, Common.refl, Common.string_bytes, Common.◌∙◌, lemmas.Result.on_ok_weaker}
use Rattle.vs_report.specs.GuestLines.{accept_text}
use Rattle.laws_driver.proofs.Carried.SamePages.{accept_stays}
use Rattle.vs_play.proofs.Driven.{replies_as}
use Rattle.laws_driver.specs.Carried.Calls as call
use Rattle.vs_play.proofs.guest.accept.Goals as goal

pub returns : goal.returns
returns c = λ e driven. on_ok_weaker c.push_accept.result (λ printed. replies_as (call.Accept c.args.port) _ _ _ _ _ e _ _ refl
    c.accept-answer.ensures.accepted c.accept-answer.ensures.answer (accept_stays c.args.port c.args.driver.now) c.accept-answer.ensures.honest driven
    (printed ∙ ap (λ f. string_bytes c.args.text.now ++ accept_text c.accept-answer.result f) c.flow_accepted-flow.ensures)) c.push_accept.ensures
