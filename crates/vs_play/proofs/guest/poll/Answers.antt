use Rattle.std.proofs.lemmas.Result.{on_ok_weaker}
use Rattle.vs_play.proofs.OverRings.{answered, honest_of, ring_of}
use Rattle.vs_play.proofs.guest.poll.Goals as goal

pub poll-polled-requires-clause-ring : goal.poll-polled-requires-clause-ring
poll-polled-requires-clause-ring g c = ring_of _ _ _ _ _ (g.met.R.BothEnds.driver c.args.rings.now) _ c.requires.driven

pub poll-polled-requires-clause-honest : goal.poll-polled-requires-clause-honest
poll-polled-requires-clause-honest g c = honest_of _ _ _ _ _ (g.met.R.BothEnds.driver c.args.rings.now) _ c.requires.driven

pub returns : goal.returns
returns g c = on_ok_weaker c.push_poll.result (λ printed. answered _ _ _ _ _ _ _ _ _ _ _ _ _ _ c.poll-polled.result _ _
    (g.met.R.BothEnds.driver c.args.rings.now) (g.met.R.BothEnds.driver c.poll-polled.new.ring) c.requires.driven c.poll-polled.ensures.calls
    c.poll-polled.ensures.ring c.poll-polled.ensures.honest printed) c.push_poll.ensures
