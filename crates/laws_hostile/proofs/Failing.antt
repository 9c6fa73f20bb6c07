-- After the ring's failure a turn and a reset make no call.
use Rattle.std.proofs.lemmas.Grind.{common_steps}
use Rattle.std.proofs.{Common.{◌≡◌, ℕ, ◌≤◌, Some, Result, Err, arith}}
use Rattle.vs_limits.specs.declared.TheConstants.{GUEST_CID_MIN, GUEST_CID_MAX}
use Rattle.vs_contents.specs.CallTree.{Done}
use Rattle.vs_ring_port.specs.declared.failure.Failure.{Failure}
use Rattle.vs_device_parts.specs.Calls.{DeviceTree}
use Rattle.vs_hostile.specs.Run.{HasRings, HasTurned, HostileState, WasReset, hostile_does}
use Rattle.vs_proxy_parts.specs.{State.ProxyState, Turns.{proxy_reset_of, turn_of}, declared.answers.Turn.Turn}
use Rattle.vs_script.specs.{Outside.{Reset, Turn as TakeTurn}, Hostile.Around as OfOutside}
use Rattle.vs_ring_plain.specs.Device.{DeviceState as RingState}
use Rattle.vs_proxy_parts.specs.declared.answers.Turn.TheVariants as turn

pub turn_fails : (size now : ℕ) (s : ProxyState) (f : Failure) → s.device.failed ≡ Some f
    → ◌≡◌ {A = DeviceTree (ProxyState × Turn)} (turn_of size now s) (Done (s, turn.Failed f))
turn_fails size now s f is = grind (arith, common_steps)

pub reset_fails : (cid : ℕ) (s : ProxyState) (f : Failure) → s.device.failed ≡ Some f
    → ◌≡◌ {A = DeviceTree (ProxyState × Result (Unit {0}) Failure)} (proxy_reset_of cid s) (Done (s, Err f))
reset_fails cid s f is = grind (arith, common_steps)

pub turn_stays : (ring : RingState) (s : HostileState) (f : Failure) → s.guest ≡ HasRings ring → s.proxy.device.failed ≡ Some f
    → hostile_does (OfOutside TakeTurn) s ≡ (s, HasTurned (turn.Failed f))
turn_stays ring s f rings is = grind (arith, common_steps)

pub reset_stays : (ring : RingState) (s : HostileState) (cid : ℕ) (f : Failure) → s.guest ≡ HasRings ring → s.proxy.device.failed ≡ Some f
    → GUEST_CID_MIN ≤ cid → cid ≤ GUEST_CID_MAX → hostile_does (OfOutside (Reset cid)) s ≡ (s, WasReset (Err f))
reset_stays ring s cid f rings is low high = grind (arith, common_steps)
