use Rattle.std.proofs.lemmas.Result.{on_ok_weaker}
use Rattle.vs_play.proofs.Driven.{replies}
use Rattle.laws_driver.specs.Carried.Calls as call
use Rattle.vs_play.proofs.guest.unlisten.Goals as goal

pub returns : goal.returns
returns c = λ e driven. on_ok_weaker c.push_unlisten.result (λ printed. replies (call.Unlisten c.args.port) c.args.driver.now c.unlistened-found.new.driver c.unlistened-found.result e _ _
    c.unlistened-found.ensures.made (c.unlistened-found.ensures.driven e driven) printed) c.push_unlisten.ensures
