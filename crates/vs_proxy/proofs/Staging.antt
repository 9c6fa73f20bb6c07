-- Stages that are left out once the ring failed.
use Rattle.std.{specs.Prelude.Result, proofs.Common.{◌≡◌, ℕ, ◌+◌, Bool, true, false, Option, Some, None, is_some, refl, sym, ap}}
use Rattle.vs_contents.{specs.CallTree.Done, proofs.{Leads.{leads_bind, leads_of}, Conditions.{may_first, may_of, may_rest}}}
use Rattle.vs_ring_port.specs.declared.failure.Failure.{Failure}
use Rattle.vs_device_parts.specs.{Calls.{DeviceTree, Situation, Allows}, Playing.{CanMake, MayRun, Runs}, Receiving.{fill_rx_of, pay_event_of}, State.DeviceState, Streams.Writing}
use Rattle.vs_device_parts.specs.{Streams.{pump_of, tick_of}, Transmitting.take_tx_of, declared.answers.{Filled.Filled, Taken.Taken}}
use Rattle.vs_proxy_parts.specs.{Handshakes.tick_handshakes, State.Turning, Turns.{device_after, event_stage, fill_stage, filled, pump_stage, take_one, tick_stage, took_packet}}
use Rattle.vs_proxy_parts.specs.Turns.{unless_failed}

no_failure : (o : Option Failure) → is_some o ≡ false → o ≡ None
no_failure None is = refl
no_failure (Some f) is = absurd cc

module _ (stage : Turning → DeviceTree Turning) (t : Turning) where
  abbrev staged : Option Failure → DeviceTree Turning
  staged o = elim o [ Some f ↦ Done t | None ↦ stage t ]

  goes_as : is_some t.state.device.failed ≡ false → unless_failed stage t ≡ stage t
  goes_as is = ap staged (no_failure t.state.device.failed is)

  pub ran : (u : Turning) (c m : Situation) → is_some t.state.device.failed ≡ false → Runs (stage t) c u m → Runs (unless_failed stage t) c u m
  ran u c m is runs = leads_of Allows _ _ c m u (goes_as is) runs

  pub may_stage : (c : Situation) → is_some t.state.device.failed ≡ false → MayRun (unless_failed stage t) c → MayRun (stage t) c
  may_stage c is may = may_of CanMake Allows _ _ c (goes_as is) may

-- The stages, each a call of the device.
module _ (t : Turning) (x : Situation) (sound : is_some t.state.device.failed ≡ false) where
  -- timeouts
  abbrev then_tick : DeviceState → DeviceTree Turning
  then_tick d = tick_handshakes (device_after d t)

  pub may_tick : (now : ℕ) → MayRun (unless_failed (tick_stage now) t) x → MayRun (tick_of now t.state.device) x
  may_tick now may = may_first CanMake Allows (tick_of now t.state.device) then_tick x (may_stage (tick_stage now) t x sound may)

  pub may_tick_hands : (now : ℕ) (d : DeviceState) (y : Situation) → MayRun (unless_failed (tick_stage now) t) x → Runs (tick_of now t.state.device) x d y → MayRun (tick_handshakes (device_after d t)) y
  may_tick_hands now d y may runs = may_rest CanMake Allows (tick_of now t.state.device) then_tick x y d (may_stage (tick_stage now) t x sound may) runs

  pub ticked : (now : ℕ) (d : DeviceState) (u : Turning) (y z : Situation) → Runs (tick_of now t.state.device) x d y → Runs (tick_handshakes (device_after d t)) y u z → Runs (unless_failed (tick_stage now) t) x u z
  ticked now d u y z first rest = ran (tick_stage now) t u x z sound (leads_bind Allows (tick_of now t.state.device) then_tick x y z d u first rest)

  -- the owed event
  abbrev then_event : DeviceState × Result Bool Failure → DeviceTree Turning
  then_event r = Done (device_after r.0 t)

  pub may_event : MayRun (unless_failed event_stage t) x → MayRun (pay_event_of t.state.device) x
  may_event may = may_first CanMake Allows (pay_event_of t.state.device) then_event x (may_stage event_stage t x sound may)

  pub paid : (r : DeviceState × Result Bool Failure) (u : Turning) (y : Situation) → Runs (pay_event_of t.state.device) x r y → u ≡ device_after r.0 t → Runs (unless_failed event_stage t) x u y
  paid r u y runs end = ran event_stage t u x y sound (leads_bind Allows (pay_event_of t.state.device) then_event x y y r u runs (sym end, refl))

  -- writes
  abbrev then_pump : Writing → DeviceTree Turning
  then_pump w = Done (record (device_after w.state t) { wrote = t.wrote + w.wrote })

  pub may_pump : MayRun (unless_failed pump_stage t) x → MayRun (pump_of t.state.device) x
  may_pump may = may_first CanMake Allows (pump_of t.state.device) then_pump x (may_stage pump_stage t x sound may)

  pub pumped : (w : Writing) (u : Turning) (y : Situation) → Runs (pump_of t.state.device) x w y → u ≡ record (device_after w.state t) { wrote = t.wrote + w.wrote } → Runs (unless_failed pump_stage t) x u y
  pumped w u y runs end = ran pump_stage t u x y sound (leads_bind Allows (pump_of t.state.device) then_pump x y y w u runs (sym end, refl))

  -- packets to the guest
  abbrev then_fill : DeviceState × Result Filled Failure → DeviceTree Turning
  then_fill r = Done (filled r.1 (device_after r.0 t))

  pub may_fill : MayRun (unless_failed fill_stage t) x → MayRun (fill_rx_of t.state.device) x
  may_fill may = may_first CanMake Allows (fill_rx_of t.state.device) then_fill x (may_stage fill_stage t x sound may)

  pub filled_up : (r : DeviceState × Result Filled Failure) (u : Turning) (y : Situation) → Runs (fill_rx_of t.state.device) x r y → u ≡ filled r.1 (device_after r.0 t) → Runs (unless_failed fill_stage t) x u y
  filled_up r u y runs end = ran fill_stage t u x y sound (leads_bind Allows (fill_rx_of t.state.device) then_fill x y y r u runs (sym end, refl))

-- one packet from the guest
module _ (t : Turning) (x : Situation) where
  abbrev counted_as : DeviceState × Taken → Bool → Turning × Bool
  counted_as r true = (record (device_after r.0 t) { took = t.took + 1 }, true)
  counted_as r false = (device_after r.0 t, false)

  abbrev after_test : DeviceState × Taken → Bool → DeviceTree (Turning × Bool)
  after_test r b = elim b [ true ↦ Done (record (device_after r.0 t) { took = t.took + 1 }, true) | false ↦ Done (device_after r.0 t, false) ]

  abbrev then_take : DeviceState × Taken → DeviceTree (Turning × Bool)
  then_take r = after_test r (took_packet r.1)

  pub may_take_one : MayRun (take_one t) x → MayRun (take_tx_of t.state.device) x
  may_take_one may = may_first CanMake Allows (take_tx_of t.state.device) then_take x may

  pub took : (r : DeviceState × Taken) (b : Bool) (end : Turning × Bool) (y : Situation) → Runs (take_tx_of t.state.device) x r y → took_packet r.1 ≡ b → end ≡ counted_as r b → Runs (take_one t) x end y
  took r b end y runs is ends = leads_bind Allows (take_tx_of t.state.device) then_take x y y r end runs (by b is ends)
    where
      by : (b : Bool) → took_packet r.1 ≡ b → end ≡ counted_as r b → Runs (then_take r) y end y
      by true is ends = leads_of Allows _ _ y y end (ap (after_test r) is) (sym ends, refl)
      by false is ends = leads_of Allows _ _ y y end (ap (after_test r) is) (sym ends, refl)
