use Rattle.std.proofs.{Common.◌++◌, Common.ap, Common.refl, Common.string_bytes, Common.◌∙◌, lemmas.Result.on_ok_weaker}
use Rattle.vs_report.specs.GuestLines.{state_text}
use Rattle.vs_play.proofs.Driven.{replies}
use Rattle.laws_driver.specs.Carried.Calls as call
use Rattle.vs_play.proofs.guest.state.Goals as goal

pub returns : goal.returns
returns c = λ e driven. on_ok_weaker c.push_state.result (λ printed. replies (call.LookAt c.args.id) _ _ _ e _ _ refl driven
    (printed ∙ ap (λ s. string_bytes c.args.text.now ++ state_text s) c.state.ensures)) c.push_state.ensures
