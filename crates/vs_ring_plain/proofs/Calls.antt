-- Each call of the device over its plain state is one that the ring's port allows.
use Rattle.std.proofs.lemmas.Grind.{common_steps}
use Rattle.std.proofs.{Common.{◌≡◌, ℕ, Bool, true, false, cond, List, [], ◌∷◌, map, None, refl, sym, ap, ◌∙◌, subst, arith}}
use Rattle.std.specs.Prelude.{IfSome}
use Rattle.vs_ring_port.specs.{Contents.{DeviceCall, DeviceAnswer, Take, Read, Write, Return, Given, PublishCid}, Chains.{chain_of, held_after, IsLongEnough, same_chain, without}}
use Rattle.vs_ring_port.specs.{declared.{queue.Queue.{Queue}, device_ring.{Chain.Chain, Next.Next}}, DeviceCalls.{DeviceAllows, DeviceMoves}}
use Rattle.vs_ring_port.specs.{EndLog.EndLog, Lists.Rings}
use Rattle.vs_ring_plain.specs.Device.{DeviceState, HeldChain, answer_found, answer_taken, is_busy, answer_to, chains_held, contents_of, ring_at, turns_at}
use Rattle.vs_ring_plain.specs.{Device.{with_memory, without_hold}, Chain.{Ring, Taken, taking}}
use Rattle.vs_ring_plain.{specs.Accesses.over, proofs.Outcomes.{IsGoodTaken, good_taken}}
use Rattle.vs_ring_port.specs.declared.device_ring.Next.TheVariants as next

-- where the plain state alone is exposed, a call and its answer by that state are allowed
moves : (call : DeviceCall) (answer : DeviceAnswer call) (P : Rings → Type 0) (f : Rings → Rings) (Q : EndLog → Type 0)
    (g : EndLog → EndLog) (old new : DeviceState) → answer_to call old ≡ (answer, new)
    → DeviceMoves call answer P f Q g (contents_of old) (contents_of new)
moves call answer P f Q g old new is = grind (arith, common_steps)

pub allowed : (call : DeviceCall) (answer : DeviceAnswer call) (old new : DeviceState) → answer_to call old ≡ (answer, new)
    → DeviceAllows call answer (contents_of old) (contents_of new)
allowed (Take queue) answer old new is = (None, moves (Take queue) answer _ _ _ _ old new is)
allowed (Read chain place count) answer old new is = moves (Read chain place count) answer _ _ _ _ old new is
allowed (Write chain place bytes) answer old new is = moves (Write chain place bytes) answer _ _ _ _ old new is
allowed (Return chain len) answer old new is = ([], moves (Return chain len) answer _ _ _ _ old new is)
allowed (Given queue) answer old new is = (0, moves (Given queue) answer _ _ _ _ old new is)
allowed (PublishCid cid) answer old new is = moves (PublishCid cid) answer _ _ _ _ old new is

-- what is so of a chain that was taken
pub record Takes (queue : Queue) (result : Next) (old new : DeviceState) : Type 0 where
  pub held : chains_held new ≡ held_after result (chains_held old)
  pub queue_is : IfSome (chain_of result) (λ chain. chain.queue ≡ queue)
  pub long_enough : IfSome (chain_of result) (IsLongEnough queue)
  pub same_size : new.size ≡ old.size

takes : (queue : Queue) (r : Ring) (t : Taken) (d : DeviceState) → r.queue ≡ queue → IsGoodTaken r t
    → let a = answer_taken queue t d in Takes queue a.0 d a.1
takes queue r t d is good = grind (arith, common_steps)

takes_next : (queue : Queue) (busy : Bool) (d : DeviceState)
    → let a = cond busy (next.None, d) (answer_found queue d) in Takes queue a.0 d a.1
takes_next queue false d =
    let r = ring_at queue d in let found = over (taking r (turns_at queue d.turns).taken) d.memory in
    let t = takes queue r found.0 (with_memory d found.1) refl (good_taken r (turns_at queue d.turns).taken d.memory) in
    record { held = t.held; queue_is = t.queue_is; long_enough = t.long_enough; same_size = t.same_size }
takes_next queue true d = record { held = refl; queue_is = tt; long_enough = tt; same_size = refl }

pub takes_by : (queue : Queue) (result : Next) (old new : DeviceState) → answer_to (Take queue) old ≡ (result, new)
    → Takes queue result old new
takes_by queue result old new is =
    subst (λ (a : Next × DeviceState). Takes queue a.0 old a.1) is (takes_next queue (is_busy queue old.size old.held) old)

-- the chains alone, after a return
pub chains-without_hold : (c : Chain) (held : List HeldChain)
    → map (λ (h : HeldChain). h.chain) (without_hold c held) ≡ without c (map (λ (h : HeldChain). h.chain) held)
chains-without_hold c [] = refl
chains-without_hold c (h ∷ held) =
    elim (same_chain c h.chain) as (λ b. map (λ (h : HeldChain). h.chain) (cond b held (h ∷ without_hold c held))
    ≡ cond b (map (λ (h : HeldChain). h.chain) held) (h.chain ∷ without c (map (λ (h : HeldChain). h.chain) held))) [
      | true ↦ refl
      | false ↦ ap (λ (cs : List Chain). h.chain ∷ cs) (chains-without_hold c held)
    ]

pub returns_by : (chain : Chain) (len : ℕ) (old new : DeviceState) → answer_to (Return chain len) old ≡ (tt, new)
    → (chains_held new ≡ without chain (chains_held old)) × (new.size ≡ old.size)
returns_by chain len old new is = (
  ap (λ (r : Unit {0} × DeviceState). chains_held r.1) (sym is) ∙ chains-without_hold chain old.held,
  ap (λ (r : Unit {0} × DeviceState). r.1.size) (sym is),
)

-- the other calls keep the chains and the size
pub record Keeps (old new : DeviceState) : Type 0 where
  pub held : chains_held new ≡ chains_held old
  pub same_size : new.size ≡ old.size

pub reads_by : (chain : Chain) (place count : ℕ) (bytes : List ℕ) (old new : DeviceState)
    → answer_to (Read chain place count) old ≡ (bytes, new) → Keeps old new
reads_by chain place count bytes old new is = grind (arith, common_steps)

pub writes_by : (chain : Chain) (place : ℕ) (bytes : List ℕ) (old new : DeviceState)
    → answer_to (Write chain place bytes) old ≡ (tt, new) → Keeps old new
writes_by chain place bytes old new is = grind (arith, common_steps)

pub counts_by : (queue : Queue) (count : ℕ) (old new : DeviceState) → answer_to (Given queue) old ≡ (count, new) → Keeps old new
counts_by queue count old new is = grind (arith, common_steps)
