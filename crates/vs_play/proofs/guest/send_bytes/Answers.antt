use Rattle.std.proofs.lemmas.Result.{on_ok_weaker}
use Rattle.vs_play.proofs.OverRings.{answered, honest_of, ring_of}
use Rattle.vs_play.proofs.guest.send_bytes.Goals as goal

pub send-answer-requires-clause-ring : goal.send-answer-requires-clause-ring
send-answer-requires-clause-ring g c = ring_of _ _ _ _ _ (g.met.R.BothEnds.driver c.args.rings.now) _ c.requires.driven

pub send-answer-requires-clause-honest : goal.send-answer-requires-clause-honest
send-answer-requires-clause-honest g c = honest_of _ _ _ _ _ (g.met.R.BothEnds.driver c.args.rings.now) _ c.requires.driven

pub returns : goal.returns
returns g c = on_ok_weaker c.push_send.result (λ printed. answered _ _ _ _ _ _ _ _ _ _ _ _ _ _ c.send-answer.result _ _
    (g.met.R.BothEnds.driver c.args.rings.now) (g.met.R.BothEnds.driver c.send-answer.new.ring) c.requires.driven c.send-answer.ensures.calls
    c.send-answer.ensures.ring c.send-answer.ensures.honest printed) c.push_send.ensures
