use Rattle.std.proofs.lemmas.Result.{on_ok_weaker}
use Rattle.vs_proxy_parts.specs.Turns.{turn_of}
use Rattle.laws_world.specs.World.{first_cid}
use Rattle.vs_play.proofs.{Devices.turn_served, OverRings.its_ring, OverRings.order_as, OverRings.ring_is, OverRings.runs_as}
use Rattle.vs_play.proofs.device.turn.Goals as goal

pub turn-answer-requires-clause-ring : goal.turn-answer-requires-clause-ring
turn-answer-requires-clause-ring g c = its_ring _ _ _ _ _ (g.met.R.BothEnds.device c.args.rings.now) c.requires.served.chains

pub turn-answer-requires-clause-order : goal.turn-answer-requires-clause-order
turn-answer-requires-clause-order g c =
    (first_cid, order_as first_cid _ _ _ _ _ _ _ (g.met.R.BothEnds.device c.args.rings.now) c.requires.served.order)

pub returns : goal.returns
returns g c =
    let new = g.met.R.BothEnds.device c.turn-answer.new.ring in
    let runs = runs_as _ _ _ _ _ _ _ _ (λ n. turn_of n c.args.now c.args.proxy.now) _ _ _ _ _ (g.met.R.BothEnds.device c.args.rings.now) new c.turn-answer.ensures.calls in
    on_ok_weaker c.push_turn.result (λ printed. turn_served _ _ _ _ _ _ _ c.requires.served _ c.args.now _ c.turn-answer.result _ _ runs
    (ring_is _ _ _ _ _ new c.turn-answer.ensures.ring) c.in_ok-fed.ensures printed) c.push_turn.ensures
