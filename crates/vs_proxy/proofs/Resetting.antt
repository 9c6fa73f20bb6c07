-- A transport reset of the proxy.
use Rattle.std.{specs.Prelude.{Result, Ok}, proofs.Common.{◌≡◌, ℕ, [], refl, sym, ap}}
use Rattle.vs_contents.{specs.CallTree.{Done, for_each}, proofs.{Leads.leads_bind, Conditions.{may_first, may_rest}}}
use Rattle.vs_ring_port.specs.declared.failure.Failure.{Failure}
use Rattle.vs_device_parts.specs.{Calls.{DeviceTree, Situation, Allows}, Playing.{CanMake, MayRun, Runs}, State.DeviceState, Turns.reset_of}
use Rattle.vs_proxy_parts.specs.{Handshakes.streams_of, State.{ProxyState, with_device}, Turns.{close_handshake, proxy_reset_of, reset_with}}

module _ (cid : ℕ) (s : ProxyState) where
  abbrev then_close : DeviceState × Result (Unit {0}) Failure → DeviceTree (ProxyState × Result (Unit {0}) Failure)
  then_close r = reset_with r s

  pub may_reset : (x : Situation) → MayRun (proxy_reset_of cid s) x → MayRun (reset_of cid s.device) x
  may_reset x may = may_first CanMake Allows (reset_of cid s.device) then_close x may

  abbrev emptied_with : DeviceState → ProxyState → DeviceTree (ProxyState × Result (Unit {0}) Failure)
  emptied_with d t = Done (record (with_device d t) { handshakes = [] }, Ok tt)

  pub may_close_all : (d : DeviceState) (x y : Situation) → MayRun (proxy_reset_of cid s) x → Runs (reset_of cid s.device) x (d, Ok tt) y → MayRun (for_each close_handshake (streams_of s) s) y
  may_close_all d x y may runs =
      may_first CanMake Allows (for_each close_handshake (streams_of s) s) (emptied_with d) y (may_rest CanMake Allows (reset_of cid s.device) then_close x y (d, Ok tt) may runs)

  pub was_reset : (d : DeviceState) (u : ProxyState) (x y z : Situation) → Runs (reset_of cid s.device) x (d, Ok tt) y → Runs (for_each close_handshake (streams_of s) s) y s z
      → u ≡ record (with_device d s) { handshakes = [] } → Runs (proxy_reset_of cid s) x (u, Ok tt) z
  was_reset d u x y z first closes end =
      let last = ap (λ (v : ProxyState). let r : ProxyState × Result (Unit {0}) Failure = (v, Ok tt) in r) (sym end) in
      let rest = leads_bind Allows (for_each close_handshake (streams_of s) s) (emptied_with d) y z z s (u, Ok tt) closes (last, refl) in
      leads_bind Allows (reset_of cid s.device) then_close x y z (d, Ok tt) (u, Ok tt) first rest
