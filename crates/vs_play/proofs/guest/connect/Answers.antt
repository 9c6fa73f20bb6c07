use Rattle.std.proofs.{Common.◌++◌, Common.ap, Common.string_bytes, Common.◌∙◌, lemmas.Result.on_ok_weaker}
use Rattle.vs_report.specs.GuestLines.{connect_text}
use Rattle.vs_play.proofs.OverRings.{answered, honest_of, ring_of}
use Rattle.vs_play.proofs.guest.connect.Goals as goal

pub connect-answer-requires-clause-ring : goal.connect-answer-requires-clause-ring
connect-answer-requires-clause-ring g c = ring_of _ _ _ _ _ (g.met.R.BothEnds.driver c.args.rings.now) _ c.requires.driven

pub connect-answer-requires-clause-honest : goal.connect-answer-requires-clause-honest
connect-answer-requires-clause-honest g c = honest_of _ _ _ _ _ (g.met.R.BothEnds.driver c.args.rings.now) _ c.requires.driven

pub returns : goal.returns
returns g c = on_ok_weaker c.push_connect.result (λ printed. answered _ _ _ _ _ _ _ _ _ _ _ _ _ _ c.connect-answer.result _ _
    (g.met.R.BothEnds.driver c.args.rings.now) (g.met.R.BothEnds.driver c.connect-answer.new.ring) c.requires.driven c.connect-answer.ensures.calls
    c.connect-answer.ensures.ring c.connect-answer.ensures.honest (printed ∙ ap (λ f. string_bytes c.args.text.now ++ connect_text c.connect-answer.result f) c.flow_opened-flow.ensures)) c.push_connect.ensures
