use Rattle.std.proofs.Common.{◌≡◌, ℕ, refl, sym, ap, subst, ◌∙◌}
use Rattle.vs_device_parts.specs.{Calls.DeviceTree, Playing.{MayRun, Runs, situation}, State.counters_of}
use Rattle.vs_proxy_parts.specs.{Handshakes.shake_hands, State.{ProxyState, Turning, start}, Turning.turning_of, Turns.{event_stage, fill_stage, pump_stage, take_stage}}
use Rattle.vs_proxy_parts.specs.{Turns.{tick_stage, turn_of, turned, unless_failed}, declared.{answers.Turn.Turn, tally.Tally.Tally}}
use Rattle.laws_proxy.proofs.{Ordered.{turn_honest, turn_may, turn_streamed, turn_streams}, Account.{Events.turn_tells_event, Packets.{turn_counts, turn_faults, turn_is_judged}}}
use Rattle.laws_proxy.proofs.Account.Turning.{turn_accounted}
use Rattle.vs_proxy.proofs.WholeTurn.{from_end, from_event, from_fill, from_hands, from_pump, from_take, may_event, may_now, may_then, may_tick, nothing, stage_then, ticks}
use Rattle.vs_proxy.proofs.proxy.Proxy.turn.Goals as goal

-- the turn starts with nothing done
begun : (s : ProxyState) (tally : Tally) → tally ≡ record { took = 0; put = 0; read = 0; wrote = 0; hands = 0 } → start s ≡ turning_of s tally
begun s tally none = ap (turning_of s) (sym none)

pub tick_stage-requires-clause-may : goal.tick_stage-requires-clause-may
tick_stage-requires-clause-may g c =
    let s : ProxyState = c.args.self.now in
    let size = g.R.DeviceRing.size c.args.ring.now in
    let ring = g.R.DeviceRing.contents c.args.ring.now in
    let x = situation ring (g.H.HostNet.contents c.args.host.now) (g.H.HostNet.faults c.args.host.now) in
    let P : Turning → Type 0 = λ t. MayRun (unless_failed (tick_stage c.args.now) t) x in
    (ring, subst P (begun s c.new-tally.result c.new-tally.ensures) (may_tick size c.args.now s x (turn_may c.requires.order.0 size c.args.now s x c.requires.order.1)))

pub event_stage-requires-clause-ring : goal.event_stage-requires-clause-ring
event_stage-requires-clause-ring g c = c.tick_stage.ensures.ring (g.R.DeviceRing.held c.args.ring.now) c.requires.ring

pub fill_stage-requires-clause-ring : goal.fill_stage-requires-clause-ring
fill_stage-requires-clause-ring g c =
    let held = g.R.DeviceRing.held c.take_stage.new.ring in
    c.pump_stage.ensures.ring held (c.hands_stage.ensures.ring held c.take_stage.ensures.ring)

pub event_stage-requires-clause-may : goal.event_stage-requires-clause-may
event_stage-requires-clause-may g c =
    let s : ProxyState = c.args.self.now in
    let size = c.size-size.result in
    let x0 = situation (g.R.DeviceRing.contents c.args.ring.now) (g.H.HostNet.contents c.args.host.now) (g.H.HostNet.faults c.args.host.now) in
    let x1 = situation (g.R.DeviceRing.contents c.args.ring.now) (g.H.HostNet.contents c.tick_stage.new.host) (g.H.HostNet.faults c.tick_stage.new.host) in
    let t1 : Turning = turning_of c.tick_stage.new.self c.tick_stage.new.tally in
    let P : Turning → Type 0 = λ t. Runs (unless_failed (tick_stage c.args.now) t) x0 t1 x1 in
    let r1 : Runs (ticks size c.args.now s) x0 t1 x1 = subst P (sym (begun s c.new-tally.result c.new-tally.ensures)) (c.tick_stage.ensures.calls (g.R.DeviceRing.contents c.args.ring.now)) in
    let M : ℕ → Type 0 = λ n. MayRun (turn_of n c.args.now s) x0 in
    let may1 = may_event size c.args.now s t1 x0 x1 (subst M (sym c.size-size.ensures.value) (turn_may c.requires.order.0 (g.R.DeviceRing.size c.args.ring.now) c.args.now s x0 c.requires.order.1)) r1 in
    (c.tick_stage.new.tally, (g.H.HostNet.contents c.tick_stage.new.host, g.H.HostNet.faults c.tick_stage.new.host, may_now size c.args.now s (event_stage) (from_take size c.args.now s) t1 x1 may1))

pub take_stage-requires-clause-may : goal.take_stage-requires-clause-may
take_stage-requires-clause-may g c =
    let s : ProxyState = c.args.self.now in
    let size = c.size-size.result in
    let x0 = situation (g.R.DeviceRing.contents c.args.ring.now) (g.H.HostNet.contents c.args.host.now) (g.H.HostNet.faults c.args.host.now) in
    let x1 = situation (g.R.DeviceRing.contents c.args.ring.now) (g.H.HostNet.contents c.tick_stage.new.host) (g.H.HostNet.faults c.tick_stage.new.host) in
    let t1 : Turning = turning_of c.tick_stage.new.self c.tick_stage.new.tally in
    let x2 = situation (g.R.DeviceRing.contents c.event_stage.new.ring) (g.H.HostNet.contents c.tick_stage.new.host) (g.H.HostNet.faults c.tick_stage.new.host) in
    let t2 : Turning = turning_of c.event_stage.new.self c.tick_stage.new.tally in
    let P : Turning → Type 0 = λ t. Runs (unless_failed (tick_stage c.args.now) t) x0 t1 x1 in
    let r1 : Runs (ticks size c.args.now s) x0 t1 x1 = subst P (sym (begun s c.new-tally.result c.new-tally.ensures)) (c.tick_stage.ensures.calls (g.R.DeviceRing.contents c.args.ring.now)) in
    let M : ℕ → Type 0 = λ n. MayRun (turn_of n c.args.now s) x0 in
    let may1 = may_event size c.args.now s t1 x0 x1 (subst M (sym c.size-size.ensures.value) (turn_may c.requires.order.0 (g.R.DeviceRing.size c.args.ring.now) c.args.now s x0 c.requires.order.1)) r1 in
    let may2 = may_then size c.args.now s (event_stage) (from_take size c.args.now s) t1 x1 may1 t2 x2 (c.event_stage.ensures.calls c.tick_stage.new.tally (g.H.HostNet.contents c.tick_stage.new.host) (g.H.HostNet.faults c.tick_stage.new.host)) in
    may_now size c.args.now s (take_stage size) (from_hands size c.args.now s) t2 x2 may2

pub hands_stage-requires-clause-may : goal.hands_stage-requires-clause-may
hands_stage-requires-clause-may g c =
    let s : ProxyState = c.args.self.now in
    let size = c.size-size.result in
    let x0 = situation (g.R.DeviceRing.contents c.args.ring.now) (g.H.HostNet.contents c.args.host.now) (g.H.HostNet.faults c.args.host.now) in
    let x1 = situation (g.R.DeviceRing.contents c.args.ring.now) (g.H.HostNet.contents c.tick_stage.new.host) (g.H.HostNet.faults c.tick_stage.new.host) in
    let t1 : Turning = turning_of c.tick_stage.new.self c.tick_stage.new.tally in
    let x2 = situation (g.R.DeviceRing.contents c.event_stage.new.ring) (g.H.HostNet.contents c.tick_stage.new.host) (g.H.HostNet.faults c.tick_stage.new.host) in
    let t2 : Turning = turning_of c.event_stage.new.self c.tick_stage.new.tally in
    let x3 = situation (g.R.DeviceRing.contents c.take_stage.new.ring) (g.H.HostNet.contents c.take_stage.new.host) (g.H.HostNet.faults c.take_stage.new.host) in
    let t3 : Turning = turning_of c.take_stage.new.self c.take_stage.new.tally in
    let P : Turning → Type 0 = λ t. Runs (unless_failed (tick_stage c.args.now) t) x0 t1 x1 in
    let r1 : Runs (ticks size c.args.now s) x0 t1 x1 = subst P (sym (begun s c.new-tally.result c.new-tally.ensures)) (c.tick_stage.ensures.calls (g.R.DeviceRing.contents c.args.ring.now)) in
    let M : ℕ → Type 0 = λ n. MayRun (turn_of n c.args.now s) x0 in
    let may1 = may_event size c.args.now s t1 x0 x1 (subst M (sym c.size-size.ensures.value) (turn_may c.requires.order.0 (g.R.DeviceRing.size c.args.ring.now) c.args.now s x0 c.requires.order.1)) r1 in
    let may2 = may_then size c.args.now s (event_stage) (from_take size c.args.now s) t1 x1 may1 t2 x2 (c.event_stage.ensures.calls c.tick_stage.new.tally (g.H.HostNet.contents c.tick_stage.new.host) (g.H.HostNet.faults c.tick_stage.new.host)) in
    let may3 = may_then size c.args.now s (take_stage size) (from_hands size c.args.now s) t2 x2 may2 t3 x3 (c.take_stage.ensures.calls) in
    (g.R.DeviceRing.contents c.take_stage.new.ring, may_now size c.args.now s (shake_hands) (from_pump size c.args.now s) t3 x3 may3)

pub pump_stage-requires-clause-may : goal.pump_stage-requires-clause-may
pump_stage-requires-clause-may g c =
    let s : ProxyState = c.args.self.now in
    let size = c.size-size.result in
    let x0 = situation (g.R.DeviceRing.contents c.args.ring.now) (g.H.HostNet.contents c.args.host.now) (g.H.HostNet.faults c.args.host.now) in
    let x1 = situation (g.R.DeviceRing.contents c.args.ring.now) (g.H.HostNet.contents c.tick_stage.new.host) (g.H.HostNet.faults c.tick_stage.new.host) in
    let t1 : Turning = turning_of c.tick_stage.new.self c.tick_stage.new.tally in
    let x2 = situation (g.R.DeviceRing.contents c.event_stage.new.ring) (g.H.HostNet.contents c.tick_stage.new.host) (g.H.HostNet.faults c.tick_stage.new.host) in
    let t2 : Turning = turning_of c.event_stage.new.self c.tick_stage.new.tally in
    let x3 = situation (g.R.DeviceRing.contents c.take_stage.new.ring) (g.H.HostNet.contents c.take_stage.new.host) (g.H.HostNet.faults c.take_stage.new.host) in
    let t3 : Turning = turning_of c.take_stage.new.self c.take_stage.new.tally in
    let x4 = situation (g.R.DeviceRing.contents c.take_stage.new.ring) (g.H.HostNet.contents c.hands_stage.new.host) (g.H.HostNet.faults c.hands_stage.new.host) in
    let t4 : Turning = turning_of c.hands_stage.new.self c.hands_stage.new.tally in
    let P : Turning → Type 0 = λ t. Runs (unless_failed (tick_stage c.args.now) t) x0 t1 x1 in
    let r1 : Runs (ticks size c.args.now s) x0 t1 x1 = subst P (sym (begun s c.new-tally.result c.new-tally.ensures)) (c.tick_stage.ensures.calls (g.R.DeviceRing.contents c.args.ring.now)) in
    let M : ℕ → Type 0 = λ n. MayRun (turn_of n c.args.now s) x0 in
    let may1 = may_event size c.args.now s t1 x0 x1 (subst M (sym c.size-size.ensures.value) (turn_may c.requires.order.0 (g.R.DeviceRing.size c.args.ring.now) c.args.now s x0 c.requires.order.1)) r1 in
    let may2 = may_then size c.args.now s (event_stage) (from_take size c.args.now s) t1 x1 may1 t2 x2 (c.event_stage.ensures.calls c.tick_stage.new.tally (g.H.HostNet.contents c.tick_stage.new.host) (g.H.HostNet.faults c.tick_stage.new.host)) in
    let may3 = may_then size c.args.now s (take_stage size) (from_hands size c.args.now s) t2 x2 may2 t3 x3 (c.take_stage.ensures.calls) in
    let may4 = may_then size c.args.now s (shake_hands) (from_pump size c.args.now s) t3 x3 may3 t4 x4 (c.hands_stage.ensures.calls (g.R.DeviceRing.contents c.take_stage.new.ring)) in
    (g.R.DeviceRing.contents c.take_stage.new.ring, may_now size c.args.now s (pump_stage) (from_fill size c.args.now s) t4 x4 may4)

pub fill_stage-requires-clause-may : goal.fill_stage-requires-clause-may
fill_stage-requires-clause-may g c =
    let s : ProxyState = c.args.self.now in
    let size = c.size-size.result in
    let x0 = situation (g.R.DeviceRing.contents c.args.ring.now) (g.H.HostNet.contents c.args.host.now) (g.H.HostNet.faults c.args.host.now) in
    let x1 = situation (g.R.DeviceRing.contents c.args.ring.now) (g.H.HostNet.contents c.tick_stage.new.host) (g.H.HostNet.faults c.tick_stage.new.host) in
    let t1 : Turning = turning_of c.tick_stage.new.self c.tick_stage.new.tally in
    let x2 = situation (g.R.DeviceRing.contents c.event_stage.new.ring) (g.H.HostNet.contents c.tick_stage.new.host) (g.H.HostNet.faults c.tick_stage.new.host) in
    let t2 : Turning = turning_of c.event_stage.new.self c.tick_stage.new.tally in
    let x3 = situation (g.R.DeviceRing.contents c.take_stage.new.ring) (g.H.HostNet.contents c.take_stage.new.host) (g.H.HostNet.faults c.take_stage.new.host) in
    let t3 : Turning = turning_of c.take_stage.new.self c.take_stage.new.tally in
    let x4 = situation (g.R.DeviceRing.contents c.take_stage.new.ring) (g.H.HostNet.contents c.hands_stage.new.host) (g.H.HostNet.faults c.hands_stage.new.host) in
    let t4 : Turning = turning_of c.hands_stage.new.self c.hands_stage.new.tally in
    let x5 = situation (g.R.DeviceRing.contents c.take_stage.new.ring) (g.H.HostNet.contents c.pump_stage.new.host) (g.H.HostNet.faults c.pump_stage.new.host) in
    let t5 : Turning = turning_of c.pump_stage.new.self c.pump_stage.new.tally in
    let P : Turning → Type 0 = λ t. Runs (unless_failed (tick_stage c.args.now) t) x0 t1 x1 in
    let r1 : Runs (ticks size c.args.now s) x0 t1 x1 = subst P (sym (begun s c.new-tally.result c.new-tally.ensures)) (c.tick_stage.ensures.calls (g.R.DeviceRing.contents c.args.ring.now)) in
    let M : ℕ → Type 0 = λ n. MayRun (turn_of n c.args.now s) x0 in
    let may1 = may_event size c.args.now s t1 x0 x1 (subst M (sym c.size-size.ensures.value) (turn_may c.requires.order.0 (g.R.DeviceRing.size c.args.ring.now) c.args.now s x0 c.requires.order.1)) r1 in
    let may2 = may_then size c.args.now s (event_stage) (from_take size c.args.now s) t1 x1 may1 t2 x2 (c.event_stage.ensures.calls c.tick_stage.new.tally (g.H.HostNet.contents c.tick_stage.new.host) (g.H.HostNet.faults c.tick_stage.new.host)) in
    let may3 = may_then size c.args.now s (take_stage size) (from_hands size c.args.now s) t2 x2 may2 t3 x3 (c.take_stage.ensures.calls) in
    let may4 = may_then size c.args.now s (shake_hands) (from_pump size c.args.now s) t3 x3 may3 t4 x4 (c.hands_stage.ensures.calls (g.R.DeviceRing.contents c.take_stage.new.ring)) in
    let may5 = may_then size c.args.now s (pump_stage) (from_fill size c.args.now s) t4 x4 may4 t5 x5 (c.pump_stage.ensures.calls (g.R.DeviceRing.contents c.take_stage.new.ring)) in
    may_now size c.args.now s (fill_stage) (from_end size c.args.now s) t5 x5 may5

pub returns : goal.returns
returns g c =
    let s : ProxyState = c.args.self.now in
    let size = c.size-size.result in
    let x0 = situation (g.R.DeviceRing.contents c.args.ring.now) (g.H.HostNet.contents c.args.host.now) (g.H.HostNet.faults c.args.host.now) in
    let x1 = situation (g.R.DeviceRing.contents c.args.ring.now) (g.H.HostNet.contents c.tick_stage.new.host) (g.H.HostNet.faults c.tick_stage.new.host) in
    let t1 : Turning = turning_of c.tick_stage.new.self c.tick_stage.new.tally in
    let x2 = situation (g.R.DeviceRing.contents c.event_stage.new.ring) (g.H.HostNet.contents c.tick_stage.new.host) (g.H.HostNet.faults c.tick_stage.new.host) in
    let t2 : Turning = turning_of c.event_stage.new.self c.tick_stage.new.tally in
    let x3 = situation (g.R.DeviceRing.contents c.take_stage.new.ring) (g.H.HostNet.contents c.take_stage.new.host) (g.H.HostNet.faults c.take_stage.new.host) in
    let t3 : Turning = turning_of c.take_stage.new.self c.take_stage.new.tally in
    let x4 = situation (g.R.DeviceRing.contents c.take_stage.new.ring) (g.H.HostNet.contents c.hands_stage.new.host) (g.H.HostNet.faults c.hands_stage.new.host) in
    let t4 : Turning = turning_of c.hands_stage.new.self c.hands_stage.new.tally in
    let x5 = situation (g.R.DeviceRing.contents c.take_stage.new.ring) (g.H.HostNet.contents c.pump_stage.new.host) (g.H.HostNet.faults c.pump_stage.new.host) in
    let t5 : Turning = turning_of c.pump_stage.new.self c.pump_stage.new.tally in
    let x6 = situation (g.R.DeviceRing.contents c.fill_stage.new.ring) (g.H.HostNet.contents c.fill_stage.new.host) (g.H.HostNet.faults c.fill_stage.new.host) in
    let t6 : Turning = turning_of c.fill_stage.new.self c.fill_stage.new.tally in
    let P : Turning → Type 0 = λ t. Runs (unless_failed (tick_stage c.args.now) t) x0 t1 x1 in
    let r1 : Runs (ticks size c.args.now s) x0 t1 x1 = subst P (sym (begun s c.new-tally.result c.new-tally.ensures)) (c.tick_stage.ensures.calls (g.R.DeviceRing.contents c.args.ring.now)) in
    let end : ProxyState × Turn = (c.fill_stage.new.self, c.turned.result) in
    let before : c.counters-before.result ≡ counters_of s.device = c.counters-before.ensures.counters ∙ ap (λ (y : ProxyState). counters_of y.device) c.self.view_is in
    let owed : c.owes_event-owed.result ≡ s.device.event_owed = c.owes_event-owed.ensures ∙ ap (λ (y : ProxyState). y.device.event_owed) c.self.view_is in
    let answer : c.turned.result ≡ turned s t6 = c.turned.ensures.turned s before owed in
    let l6 : Runs (from_end size c.args.now s t6) x6 end x6 = (ap (λ (y : Turn). let p : ProxyState × Turn = (c.fill_stage.new.self, y) in p) (sym answer), refl) in
    let l5 = stage_then size c.args.now s (fill_stage) (from_end size c.args.now s) t5 t6 end x5 x6 x6 (c.fill_stage.ensures.calls) l6 in
    let l4 = stage_then size c.args.now s (pump_stage) (from_fill size c.args.now s) t4 t5 end x4 x5 x6 (c.pump_stage.ensures.calls (g.R.DeviceRing.contents c.take_stage.new.ring)) l5 in
    let l3 = stage_then size c.args.now s (shake_hands) (from_pump size c.args.now s) t3 t4 end x3 x4 x6 (c.hands_stage.ensures.calls (g.R.DeviceRing.contents c.take_stage.new.ring)) l4 in
    let l2 = stage_then size c.args.now s (take_stage size) (from_hands size c.args.now s) t2 t3 end x2 x3 x6 (c.take_stage.ensures.calls) l3 in
    let l1 = stage_then size c.args.now s (event_stage) (from_take size c.args.now s) t1 t2 end x1 x2 x6 (c.event_stage.ensures.calls c.tick_stage.new.tally (g.H.HostNet.contents c.tick_stage.new.host) (g.H.HostNet.faults c.tick_stage.new.host)) l2 in
    let runs = stage_then size c.args.now s (tick_stage c.args.now) (from_event size c.args.now s) (start s) t1 end x0 x1 x6 r1 l1 in
    let R : ℕ → Type 0 = λ n. Runs (turn_of n c.args.now s) x0 end x6 in
    let whole = g.R.DeviceRing.size c.args.ring.now in
    let ran : Runs (turn_of whole c.args.now s) x0 end x6 = subst R c.size-size.ensures.value runs in
    record {
      ring = c.fill_stage.ensures.ring;
      calls = ran;
      streams = turn_streams s x0 x6 whole c.args.now end ran;
      honest = turn_honest s x0 x6 whole c.args.now end ran;
      streamed = turn_streamed s x0 x6 whole c.args.now end ran;
      bytes = turn_accounted whole c.args.now s x0 x6 end ran;
      judged = λ calls later leads. turn_is_judged whole c.args.now s calls later end leads;
      event = λ calls later leads. turn_tells_event whole c.args.now s calls later end leads;
      counts = λ calls later leads first. turn_counts whole c.args.now s calls later end first leads;
      faults = turn_faults whole c.args.now s x0 x6 end ran;
      kept = λ f failed.
          let Q : DeviceTree (ProxyState × Turn) → Type 0 = λ tree. Runs tree x0 end x6 in
          let done = subst Q (nothing size c.args.now s f failed) runs in
          (ap (λ (p : ProxyState × Turn). p.0) (sym done.0), ap (λ (p : ProxyState × Turn). p.1) (sym done.0));
      failed = c.turned.ensures.failed;
    }
