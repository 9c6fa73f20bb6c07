use Rattle.std.proofs.{Common.length, Common.take, lemmas.Result.on_ok_weaker}
use Rattle.vs_play.proofs.Driven.{replies}
use Rattle.laws_driver.specs.Carried.Calls as call
use Rattle.vs_play.proofs.guest.recv_into.Goals as goal

pub returns : goal.returns
returns c = λ e driven. on_ok_weaker c.push_recv.result (λ printed. replies (call.Recv c.args.id (length c.args.buffer.now)) c.args.driver.now c.received-answer.new.driver
    (c.received-answer.result.0, take c.received-answer.result.1 c.received-answer.new.buffer) e _ _
    c.received-answer.ensures.made (c.received-answer.ensures.driven e driven) printed) c.push_recv.ensures
