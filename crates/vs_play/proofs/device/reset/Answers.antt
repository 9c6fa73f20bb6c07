use Rattle.std.proofs.lemmas.Result.{on_ok_weaker}
use Rattle.vs_proxy_parts.specs.Turns.{proxy_reset_of}
use Rattle.laws_world.specs.World.{first_cid}
use Rattle.vs_play.proofs.{Devices.reset_served, OverRings.its_ring, OverRings.order_as, OverRings.ring_is, OverRings.runs_as}
use Rattle.vs_play.proofs.device.reset.Goals as goal

pub reset-answer-requires-clause-ring : goal.reset-answer-requires-clause-ring
reset-answer-requires-clause-ring g c = its_ring _ _ _ _ _ (g.met.R.BothEnds.device c.args.rings.now) c.requires.served.chains

pub reset-answer-requires-clause-order : goal.reset-answer-requires-clause-order
reset-answer-requires-clause-order g c =
    (first_cid, order_as first_cid _ _ _ _ _ _ _ (g.met.R.BothEnds.device c.args.rings.now) c.requires.served.order)

pub returns : goal.returns
returns g c =
    let new = g.met.R.BothEnds.device c.reset-answer.new.ring in
    let runs = runs_as _ _ _ _ _ _ _ _ (λ n. proxy_reset_of c.args.cid c.args.proxy.now) _ _ _ _ _ (g.met.R.BothEnds.device c.args.rings.now) new c.reset-answer.ensures.calls in
    on_ok_weaker c.push_reset.result (λ printed. reset_served _ _ _ _ _ _ _ c.requires.served c.args.cid _ c.reset-answer.result _ _ c.requires.cid.1 runs
    (ring_is _ _ _ _ _ new c.reset-answer.ensures.ring) c.in_ok-fed.ensures printed) c.push_reset.ensures
