-- Each step of the device and of the proxy may be made in a world that is ready.
use Rattle.std.proofs.Common.{◌≡◌, ℕ, ◌&&◌, nat_le, false, true, None, Some, is_some}
use Rattle.vs_ring_port.specs.{Chains.same_queue, declared.{device_ring.Chain.Chain, queue.Queue.{Queue, TheVariants.Event}}}
use Rattle.vs_ring_list.specs.Ends.{device_contents}
use Rattle.vs_device_parts.specs.{Steps.{puts_event, puts_owed, puts_payload, puts_reply, shuts_write, takes_chain, writes}, Calls.DeviceTree, Playing.{MayRun, situation}}
use Rattle.vs_device_parts.specs.{Streams.tick_slot, State.DeviceState}
use Rattle.vs_proxy_parts.specs.{Handshakes.{read_byte, tick_handshake}, State.{ProxyState, start}, Turns.proxy_reset_of}
use Rattle.laws_device.specs.Honest.{is_held}
use Rattle.laws_world.{specs.World.World, proofs.Sound.{IsWell, none_failed}}
use Rattle.vs_core.proofs.May.{here, may_event, may_line, may_pay, may_read, may_reply, may_reset, may_shut, may_take, may_tick, may_tick_line, may_write}
use Rattle.vs_core.{proofs.DeviceHappening.of_reached, specs.Ready.{IsReady, IsServedAtWork, WorldState}}

abbrev pub MayNow : {A : Type 0} → (ProxyState → DeviceTree A) → WorldState → ℕ → Type 0
MayNow tree s n = MayRun (tree s.proxy) (situation (device_contents s.rings) (Some s.host) n)

now_may : {A : Type 0} (tree : ProxyState → DeviceTree A) (s : WorldState) (n : ℕ) → IsReady s
    → ((fresh : Type 0) (w : World) → IsWell fresh w → IsServedAtWork w.proxy w.rings w.host → MayRun (tree w.proxy) (here w n)) → MayNow tree s n
now_may tree s n ready all =
    of_reached (λ (x : WorldState). IsServedAtWork x.proxy x.rings x.host → MayNow tree x n) s ready.reached all ready.served

module _ (s : WorldState) (n : ℕ) (ready : IsReady s) where
  pub take_now : (queue : Queue) → MayNow (λ p. takes_chain queue p.device) s n
  take_now queue = now_may (λ p. takes_chain queue p.device) s n ready (λ fresh w well served. may_take w n served.streams queue)

  pub write_now : (slot : ℕ) → MayNow (λ p. writes slot p.device) s n
  write_now slot = now_may (λ p. writes slot p.device) s n ready (λ fresh w well served. may_write w n served.streams slot)

  pub shut_now : (slot : ℕ) → MayNow (λ p. shuts_write slot p.device) s n
  shut_now slot = now_may (λ p. shuts_write slot p.device) s n ready (λ fresh w well served. may_shut w n served.streams slot)

  pub tick_now : (slot : ℕ) → MayNow (λ p. tick_slot slot p.device) s n
  tick_now slot = now_may (λ p. tick_slot slot p.device) s n ready (λ fresh w well served. may_tick w n served.streams slot)

  pub line_now : (stream : ℕ) → MayNow (λ p. read_byte stream (start p)) s n
  line_now stream = now_may (λ p. read_byte stream (start p)) s n ready (λ fresh w well served. may_line w n served.streams stream)

  pub late_now : (stream : ℕ) → MayNow (λ p. tick_handshake stream (start p)) s n
  late_now stream = now_may (λ p. tick_handshake stream (start p)) s n ready
      (λ fresh w well served. may_tick_line w n served.streams stream)

  pub reset_now : (cid : ℕ) → MayNow (λ p. proxy_reset_of cid p) s n
  reset_now cid = now_may (λ p. proxy_reset_of cid p) s n ready (λ fresh w well served. may_reset w n served.streams cid)

  pub event_now : (chain : Chain) → (same_queue Event chain.queue && is_held chain s.rings.device.held) ≡ true
      → nat_le 4 chain.writable ≡ true
      → MayNow (λ p. puts_event chain p.device) s n
  event_now chain held room =
      of_reached (λ (x : WorldState). IsServedAtWork x.proxy x.rings x.host
      → (same_queue Event chain.queue && is_held chain x.rings.device.held) ≡ true
      → MayNow (λ p. puts_event chain p.device) x n) s ready.reached
      (λ fresh w well served is. may_event w n served.streams fresh well chain is room) ready.served held

  -- What the device puts, where it hasn't failed.
  puts_now : (tree : DeviceState → DeviceTree DeviceState)
      → ((fresh : Type 0) (w : World) → IsWell fresh w → IsServedAtWork w.proxy w.rings w.host → w.proxy.device.failed ≡ None
      → MayRun (tree w.proxy.device) (here w n)) → is_some s.proxy.device.failed ≡ false → MayNow (λ p. tree p.device) s n
  puts_now tree all going =
      of_reached (λ (x : WorldState). IsServedAtWork x.proxy x.rings x.host → is_some x.proxy.device.failed ≡ false → MayNow (λ p. tree p.device) x n) s ready.reached
      (λ fresh w well served still. all fresh w well served (none_failed w.proxy.device.failed still)) ready.served going

  pub reply_now : is_some s.proxy.device.failed ≡ false → MayNow (λ p. puts_reply p.device) s n
  reply_now = puts_now puts_reply (λ fresh w well served going. may_reply w n served.streams fresh well going)

  pub read_now : (slot : ℕ) → is_some s.proxy.device.failed ≡ false → MayNow (λ p. puts_payload slot p.device) s n
  read_now slot = puts_now (puts_payload slot) (λ fresh w well served going. may_read w n served.streams fresh well going slot)

  pub pay_now : (slot : ℕ) → is_some s.proxy.device.failed ≡ false → MayNow (λ p. puts_owed slot p.device) s n
  pay_now slot = puts_now (puts_owed slot) (λ fresh w well served going. may_pay w n served.streams fresh well going slot)
