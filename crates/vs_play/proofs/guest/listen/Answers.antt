use Rattle.std.proofs.lemmas.Result.{on_ok_weaker}
use Rattle.laws_driver.proofs.Carried.SamePages.{listen_stays}
use Rattle.vs_play.proofs.Driven.{driven_stays, listen_made, replies}
use Rattle.laws_driver.specs.Carried.Calls as call
use Rattle.vs_play.proofs.guest.listen.Goals as goal

pub returns : goal.returns
returns c = λ e driven. on_ok_weaker c.push_listen.result (λ printed. replies (call.Listen c.args.port) c.args.driver.now c.listen-answer.new.self c.listen-answer.result e _ _
    (listen_made c.args.port _ _ _ c.listen-answer.ensures.answer c.listen-answer.ensures.listens c.listen-answer.ensures.unchanged)
    (driven_stays c.args.driver.now c.listen-answer.new.self e
    (listen_stays c.args.port _ _ c.listen-answer.result c.listen-answer.ensures.listens c.listen-answer.ensures.unchanged) c.listen-answer.ensures.honest driven)
    printed) c.push_listen.ensures
