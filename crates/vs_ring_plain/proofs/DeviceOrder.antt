-- The device's end stays in order.
use Rattle.std.proofs.lemmas.Grind.{common_steps}
use Rattle.std.proofs.Common.{arith, ◌≡◌, length, map, All, Contains, subst, sym}
use Rattle.vs_guest_mem.specs.Memory.{Memory}
use Rattle.vs_ring_port.specs.declared.device_ring.Chain.{Chain}
use Rattle.vs_ring_plain.specs.{declared.device.DeviceSide.TheInside.Inside, declared.turns.QueueTurns.QueueTurns, PieceTable.HeldState}
use Rattle.vs_ring_plain.specs.{Device.DeviceState, Device.HeldChain, Device.chains_held, Side.IsInOrder, Side.IsSoundHold, Side.state_in}

-- a chain that is held
pub held_of : (d : Inside) (now : DeviceState) (c : Chain) → state_in d ≡ now → Contains (chains_held now) c
    → Contains (map (λ (h : HeldChain). h.chain) d.held.chains) c
held_of d now c seen has = subst (λ (s : DeviceState). Contains (chains_held s) c) (sym seen) has

-- with another memory that begins and ends where the old one does, other chains held, which are sound, and other turns
pub order_with : (d : Inside) (mem : Memory) (held : HeldState) (turns : QueueTurns) → IsInOrder d → mem.base ≡ d.mem.base
    → length mem.bytes ≡ length d.mem.bytes → held.size ≡ d.held.size → All (IsSoundHold mem) held.chains
    → IsInOrder (record d { mem = mem; held = held; turns = turns })
order_with d mem held turns order base size room sound = grind (arith, common_steps)
