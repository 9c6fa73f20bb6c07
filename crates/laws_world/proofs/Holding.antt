-- Each chain that a conversation returns is held.
use Rattle.std.proofs.lemmas.Grind.{common_steps}
use Rattle.std.proofs.Common.{◌≡◌, suc, ◌<◌, Bool, true, false, cond, List, [], ◌∷◌, length, Option, Some, None, Contains, refl, sym, arith}
use Rattle.vs_contents.specs.CallTree.{Done, Ask, bind, MayPlay}
use Rattle.vs_ring_port.specs.{Contents.{RingContents, DeviceCall, Return}, Chains.{Held, bytes_in, chains_of, same_chain}}
use Rattle.vs_ring_port.specs.declared.device_ring.Chain.{Chain}
use Rattle.vs_ring_list.proofs.Held.{same_chain_is}
use Rattle.vs_device_parts.specs.{Calls.{Call, Answer, Ring, Situation, DeviceTree, Allows}, Playing.{CanMake, MayRun}}
use Rattle.laws_device.proofs.Keeping.{Can, HoldsChain, Keeps, lets}

abbrev pub IsHeldFor : Call → RingContents → Type 0
IsHeldFor (Ring (Return chain len)) c = HoldsChain chain c
IsHeldFor _ c = Unit {0}

abbrev pub CanHold : Call → Situation → Type 0
CanHold call s = IsHeldFor call s.ring

abbrev pub MayHold : {A : Type 0} → DeviceTree A → Situation → Type 0
MayHold tree s = MayPlay CanHold Allows tree s

-- Of a call that keeps the log of its ring.
ring_held : (call : DeviceCall) (c : RingContents) → Can (Ring call) c → IsHeldFor (Ring call) c
ring_held (Return chain len) c can = can.1
ring_held x c can = tt

can_held : (call : Call) (c : RingContents) → Can call c → IsHeldFor call c
can_held (Ring call) c can = ring_held call c can
can_held x c can = tt

pub kept_held : {A : Type 0} (Q : A → Situation → Type 0) (tree : DeviceTree A) (s : Situation) → Keeps Q tree s → MayHold tree s
kept_held Q (Done x) s keeps = tt
kept_held Q (Ask call next) s keeps = (can_held call s.ring keeps.0, λ a t allowed. kept_held Q (next a) t (keeps.1 a t (lets call a s t allowed)))

-- A call that returns no chain with nothing.
abbrev pub ReturnsSome : Call → Type 0
ReturnsSome (Ring (Return chain len)) = 0 < len
ReturnsSome _ = Unit {0}

abbrev pub AllReturnSome : {A : Type 0} → DeviceTree A → Type 0
AllReturnSome (Done x) = Unit {0}
AllReturnSome (Ask call next) = ReturnsSome call × ((a : Answer call) → AllReturnSome (next a))

-- A chain in which bytes were written is held.
written_held : (chain : Chain) (held : List Held) → 0 < length (bytes_in chain held) → Contains (chains_of held) chain
written_held chain [] some = absurd (omega (arith, some))
written_held chain (h ∷ held) some = by (λ more. written_held chain held more) (same_chain chain h.chain) refl some
  where
    by : (0 < length (bytes_in chain held) → Contains (chains_of held) chain) → (b : Bool) → same_chain chain h.chain ≡ b
        → 0 < length (cond b h.bytes (bytes_in chain held)) → Contains (chains_of (h ∷ held)) chain
    by rest true is some = (0, omega arith, sym (same_chain_is chain h.chain is))
    by rest false is some = let more = rest some in let lt = more.1 in (suc more.0, omega (arith, lt), more.2)

ring_made : (call : DeviceCall) (s : Situation) → ReturnsSome (Ring call) → CanMake (Ring call) s → IsHeldFor (Ring call) s.ring
ring_made x s some can = grind (arith, common_steps, written_held)

made_held : (call : Call) (s : Situation) → ReturnsSome call → CanMake call s → CanHold call s
made_held (Ring call) s some can = ring_made call s some can
made_held x s some can = tt

pub some_held : {A : Type 0} (tree : DeviceTree A) (s : Situation) → AllReturnSome tree → MayRun tree s → MayHold tree s
some_held (Done x) s some may = tt
some_held (Ask call next) s some may = (
  made_held call s some.0 may.0,
  λ a t allowed. some_held (next a) t (some.1 a) (may.1 a t allowed),
)

-- One conversation and then the next; one of two; one for each value of an Option.
pub bind_some : {A B : Type 0} (tree : DeviceTree B) (f : B → DeviceTree A) → AllReturnSome tree → ((x : B) → AllReturnSome (f x))
    → AllReturnSome (bind tree f)
bind_some (Done x) f first then_ = then_ x
bind_some (Ask call next) f first then_ = (first.0, λ a. bind_some (next a) f (first.1 a) then_)

pub cond_some : {A : Type 0} (b : Bool) (t u : DeviceTree A) → AllReturnSome t → AllReturnSome u → AllReturnSome (cond b t u)
cond_some true t u first second = first
cond_some false t u first second = second

pub option_some : {X A : Type 0} (o : Option X) (t : DeviceTree A) (f : X → DeviceTree A) → AllReturnSome t
    → ((x : X) → AllReturnSome (f x))
    → AllReturnSome (elim o [ None ↦ t | Some x ↦ f x ])
option_some None t f none some = none
option_some (Some x) t f none some = some x
