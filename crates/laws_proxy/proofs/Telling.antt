-- The proxy over any ring that tells its log.
use Rattle.std.proofs.Common.{◌≡◌, ℕ, ◌<◌, ◌≤◌, ◌^◌, List, None, Result}
use Rattle.std.specs.Option.{ForSome}
use Rattle.vs_flow.specs.declared.flow.Flow.{Flow}
use Rattle.vs_limits.specs.declared.TheConstants.{ASSIGNED_FIRST}
use Rattle.vs_page.specs.Log.{Device}
use Rattle.vs_ring_port.specs.{Contents.RingContents, declared.failure.Failure.Failure}
use Rattle.vs_device_parts.specs.{Calls.Situation, Playing.{Runs, situation}, Turns.table_shown}
use Rattle.laws_tables.specs.Heard.{IsOrderedLog}
use Rattle.laws_device.{specs.Honest.{IsFresh, IsLeftOpen}, proofs.{Keeping.keeps_end, Ordering.{held_told, new_told, told, told_held, unsure_runs, unsurely}, Shown.as_left_open}}
use Rattle.vs_proxy_parts.specs.{Growing.after_flow_grow, State.ProxyState, Turns.{new_proxy_at, proxy_reset_of, turn_of}, declared.answers.Turn.Turn}
use Rattle.laws_proxy.{specs.Told.IsProxyTold, proofs.{Growing.flow_grow_proxied, Turning.{Proxied, proxy_reset_keeps, turn_keeps}}}

pub new_proxy_told : (cid : ℕ) (base : List ℕ) (port : ℕ) (c : RingContents) → cid < 2 ^ 64 → ASSIGNED_FIRST ≤ port → IsFresh c
    → IsProxyTold cid (new_proxy_at cid base port) c
new_proxy_told cid base port c fits above fresh = (above, new_told port cid base c fits fresh)

module _ (first : ℕ) (s : ProxyState) (a : Situation) where
  proxied : IsProxyTold first s a.ring → Proxied told first s (unsurely a)
  proxied holds = (holds.0, held_told s.handshakes first s.next_port s.device a holds.1)

  unproxied : Proxied told first s (unsurely a) → IsProxyTold first s a.ring
  unproxied holds = (holds.0, told_held s.handshakes first s.next_port s.device a holds.1)

module _ (first : ℕ) (s : ProxyState) (a b : Situation) (holds : IsProxyTold first s a.ring) where
  pub turn_told : (size now : ℕ) (x : ProxyState × Turn) → Runs (turn_of size now s) a x b → IsProxyTold first x.0 b.ring
  turn_told size now x runs = unproxied first x.0 b
      (keeps_end _ (turn_of size now s) (unsurely a) (unsurely b) x (turn_keeps told first size now s (unsurely a) (proxied first s a holds))
      (unsure_runs (turn_of size now s) a b x runs))

  pub reset_told : (cid : ℕ) (x : ProxyState × Result (Unit {0}) Failure) → cid < 2 ^ 64 → Runs (proxy_reset_of cid s) a x b
      → IsProxyTold first x.0 b.ring
  reset_told cid x fits runs = unproxied first x.0 b
      (keeps_end _ (proxy_reset_of cid s) (unsurely a) (unsurely b) x (proxy_reset_keeps told first cid s (unsurely a) fits (proxied first s a holds))
      (unsure_runs (proxy_reset_of cid s) a b x runs))

pub flow_grow_told : (flow : Flow) (alloc : ℕ) (s : ProxyState) (first : ℕ) (c : RingContents) → IsProxyTold first s c
    → IsProxyTold first (after_flow_grow flow alloc s) c
flow_grow_told flow alloc s first c holds =
    let a : Situation = situation c None 0 in
    unproxied first (after_flow_grow flow alloc s) a (flow_grow_proxied flow alloc s told first (unsurely a) (proxied first s a holds))

pub table_told : (first : ℕ) (s : ProxyState) (c : RingContents) → IsProxyTold first s c → s.device.failed ≡ None
    → ForSome c.log (λ l. IsOrderedLog Device l.entries → IsLeftOpen first s.device (table_shown s.device) l)
table_told first s c holds still l is ordered = as_left_open first s.next_port s.device l ((holds.1.1 l is).left still ordered).matches
