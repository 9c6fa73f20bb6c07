-- A turn is its six stages.
use Rattle.std.proofs.Common.{◌≡◌, ℕ, ◌-◌, ◌&&◌, not, Option, Some, None, ap, ◌∙◌}
use Rattle.vs_contents.{specs.CallTree.{Done, bind}, proofs.{Leads.leads_bind, Conditions.{may_first, may_rest}}}
use Rattle.vs_ring_port.specs.declared.failure.Failure.{Failure}
use Rattle.vs_device_parts.specs.{Calls.{DeviceTree, Situation, Allows}, Playing.{CanMake, MayRun, Runs}}
use Rattle.vs_proxy_parts.specs.{Turns.{event_stage, fill_stage, pump_stage, take_stage, tick_stage, turn_of, turned, unless_failed}, Handshakes.shake_hands, State.ProxyState}
use Rattle.vs_proxy_parts.specs.{State.{Turning, start}, declared.answers.Turn.Turn}
use Rattle.vs_proxy_parts.specs.declared.answers.Turn.TheVariants as turn

module _ (size now : ℕ) (s : ProxyState) where
  abbrev pub ticks : DeviceTree Turning
  ticks = unless_failed (tick_stage now) (start s)

  abbrev pub from_end : Turning → DeviceTree (ProxyState × Turn)
  from_end f = Done (f.state, turned s f)

  abbrev pub from_fill : Turning → DeviceTree (ProxyState × Turn)
  from_fill e = bind (unless_failed fill_stage e) from_end

  abbrev pub from_pump : Turning → DeviceTree (ProxyState × Turn)
  from_pump d = bind (unless_failed pump_stage d) from_fill

  abbrev pub from_hands : Turning → DeviceTree (ProxyState × Turn)
  from_hands c = bind (unless_failed shake_hands c) from_pump

  abbrev pub from_take : Turning → DeviceTree (ProxyState × Turn)
  from_take b = bind (unless_failed (take_stage size) b) from_hands

  abbrev pub from_event : Turning → DeviceTree (ProxyState × Turn)
  from_event a = bind (unless_failed event_stage a) from_take

  -- each stage may run where those before it ran
  pub may_tick : (x : Situation) → MayRun (turn_of size now s) x → MayRun ticks x
  may_tick x may = may_first CanMake Allows ticks from_event x may

  pub may_event : (a : Turning) (x y : Situation) → MayRun (turn_of size now s) x → Runs ticks x a y → MayRun (from_event a) y
  may_event a x y may runs = may_rest CanMake Allows ticks from_event x y a may runs

  module _ (stage : Turning → DeviceTree Turning) (rest : Turning → DeviceTree (ProxyState × Turn)) (a : Turning) (x : Situation) (may : MayRun (bind (unless_failed stage a) rest) x) where
    pub may_now : MayRun (unless_failed stage a) x
    may_now = may_first CanMake Allows (unless_failed stage a) rest x may

    pub may_then : (b : Turning) (y : Situation) → Runs (unless_failed stage a) x b y → MayRun (rest b) y
    may_then b y runs = may_rest CanMake Allows (unless_failed stage a) rest x y b may runs

  -- and all of them make the turn
  pub stage_then : (stage : Turning → DeviceTree Turning) (rest : Turning → DeviceTree (ProxyState × Turn)) (a b : Turning) (end : ProxyState × Turn) (x y z : Situation)
      → Runs (unless_failed stage a) x b y → Runs (rest b) y end z → Runs (bind (unless_failed stage a) rest) x end z
  stage_then stage rest a b end x y z one others = leads_bind Allows (unless_failed stage a) rest x y z b end one others

  -- once the ring failed, nothing is done
  module _ (f : Failure) (failed : s.device.failed ≡ Some f) where
    abbrev left_out : Option Failure → (Turning → DeviceTree Turning) → DeviceTree Turning
    left_out o stage = elim o [ Some e ↦ Done (start s) | None ↦ stage (start s) ]

    skip : (stage : Turning → DeviceTree Turning) (rest : Turning → DeviceTree (ProxyState × Turn)) → bind (unless_failed stage (start s)) rest ≡ rest (start s)
    skip stage rest = ap (λ (o : Option Failure). bind (left_out o stage) rest) failed

    abbrev answer_of : Option Failure → Turn
    answer_of o = elim o [
      | Some e ↦ turn.Failed e
      | None ↦ turn.Turned (record { took = 0; put = 0; read = 0; wrote = 0; opened = s.device.opened - s.device.opened; closed = s.device.closed - s.device.closed; hands = 0; event = s.device.event_owed && not s.device.event_owed })
    ]

    end : from_end (start s) ≡ Done (s, turn.Failed f)
    end = ap (λ (o : Option Failure). let r : DeviceTree (ProxyState × Turn) = Done (s, answer_of o) in r) failed

    pub nothing : turn_of size now s ≡ Done (s, turn.Failed f)
    nothing = skip (tick_stage now) from_event ∙ (skip event_stage from_take ∙ (skip (take_stage size) from_hands ∙ (skip shake_hands from_pump ∙ (skip pump_stage from_fill ∙ (skip fill_stage from_end ∙ end)))))
