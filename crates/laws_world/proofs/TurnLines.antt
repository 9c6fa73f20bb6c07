-- A turn of the proxy's, whole, is a list of events.
use Rattle.std.proofs.{Common.{◌≡◌, ℕ, None, refl, arith}, lemmas.Grind.common_steps}
use Rattle.vs_contents.specs.CallTree.{Done, bind}
use Rattle.vs_device_parts.specs.Calls.{DeviceTree}
use Rattle.vs_proxy_parts.specs.{Turns.{event_stage, fill_stage, pump_stage, take_stage, tick_stage, turned, unless_failed}, Handshakes.shake_hands, State.{ProxyState, Turning}}
use Rattle.vs_proxy_parts.specs.{State.start, declared.answers.Turn.Turn}
use Rattle.laws_world.proofs.{DeviceLeads.{leads_bind, plays, with_proxy}, FillStage.fill_stage_does, GuestLines.leads_none, PumpStage.pump_stage_does, TakeStage.event_stage_does}
use Rattle.laws_world.{proofs.{TakeStage.take_stage_leads, TickStage.{shake_does, tick_stage_does, turning_at}}, specs.{Plays.turn_line, Steps.Leads, World.World}}

-- A stage, which is left out after a failure.
abbrev StageLeads : (Turning → DeviceTree Turning) → World → Turning → Type 0
StageLeads stage w t = let r = plays (stage (turning_at w t)) w in Leads w (with_proxy r.0.state r.1 w)

unless : (stage : Turning → DeviceTree Turning) (w : World) (t : Turning) → (w.proxy.device.failed ≡ None → StageLeads stage w t)
    → StageLeads (unless_failed stage) w t
unless stage w t leads = grind (arith, common_steps)

-- One stage, and then what follows.
abbrev Rest : (Turning → DeviceTree (ProxyState × Turn)) → Type 0
Rest rest = (w : World) (t : Turning) → let r = plays (rest (turning_at w t)) w in Leads w (with_proxy r.0.0 r.1 w)

stage_then : (stage : Turning → DeviceTree Turning) (rest : Turning → DeviceTree (ProxyState × Turn))
    → ((w : World) (t : Turning) → w.proxy.device.failed ≡ None → StageLeads stage w t) → Rest rest → Rest (λ t. bind (unless_failed stage t) rest)
stage_then stage rest one leads w t =
    let r = plays (unless_failed stage (turning_at w t)) w in
    leads_bind w (unless_failed stage (turning_at w t)) rest (λ x. x.0) (λ u. u.state) (unless stage w t (one w t)) (leads (with_proxy r.0.state r.1 w) r.0)

pub turn_leads : (now : ℕ) (w : World) → Leads w (turn_line now w).0
turn_leads now w =
    stage_then (tick_stage now) _ (λ v t fine. (tick_stage_does now v t fine).leads)
    (stage_then event_stage _ (λ v t fine. (event_stage_does v t fine).leads)
    (stage_then (take_stage w.rings.lists.size) _ (λ v t fine. take_stage_leads w.rings.lists.size v t fine)
    (stage_then shake_hands _ (λ v t fine. (shake_does v t fine).leads)
    (stage_then pump_stage _ (λ v t fine. (pump_stage_does v t fine).leads)
    (stage_then fill_stage (λ f. Done (f.state, turned w.proxy f)) (λ v t fine. (fill_stage_does v t fine).leads) (λ v t. leads_none v v refl))))))
    w (start w.proxy)
