-- What a conversation keeps of its ring: what holds at each of its ends, where each of its calls on the ring may be made.
use Rattle.std.proofs.lemmas.Grind.{common_steps}
use Rattle.std.proofs.Common.{arith}
use Rattle.std.{proofs.Common.{◌≡◌, ℕ, ◌<◌, ◌^◌, Bool, true, List, Contains, subst}, specs.Option.ForSome}
use Rattle.vs_contents.specs.CallTree.{Done, Ask, bind, for_each, while_up_to}
use Rattle.vs_ring_port.specs.{Contents.{RingContents, DeviceCall, Read, Write, Return, PublishCid, DeviceAnswer}, DeviceCalls.{CanReturn, LeavesNoGap, DeviceAllows}}
use Rattle.vs_ring_port.specs.{Chains.chains_of, declared.{device_ring.Chain.Chain, queue.Queue.TheVariants.Tx}}
use Rattle.vs_header.specs.{Packet.header_of, declared.TheConstants.HEADER_LEN}
use Rattle.laws_device.{specs.{Honest.is_held, Named.Split.{CanPut, MayPut}}, proofs.{Walk.Keeping.Asking, Named.Keeping.asking as asked}}
use Rattle.vs_page.{specs.Held.FitsWire, proofs.Holding.header_fits}
use Rattle.vs_device_parts.specs.{Calls.{IsFitAnswer, Call, Answer, Ring, DeviceTree, Situation, Allows}, Playing.Runs}
use Rattle.laws_device.proofs.Walk.Keeping as walked

-- The chain is among those that are held.
abbrev pub HoldsChain : Chain → RingContents → Type 0
HoldsChain chain c = ForSome c.log (λ l. Contains (chains_of l.held) chain)

-- What the ring asks of a call, and what the call leaves of it. A chain that is returned is held, and none of tx is written. At its front a
-- chain of tx is read that is held, by a header.
abbrev pub Can : Call → RingContents → Type 0
Can (Ring (Read chain place count)) c = place ≡ 0 → (count ≡ HEADER_LEN) × (chain.queue ≡ Tx) × ForSome c.log (λ l. is_held chain l.held ≡ true)
Can (Ring (Write chain place bytes)) c = LeavesNoGap chain place c × (chain.queue ≡ Tx → ⊥)
Can (Ring (Return chain len)) c = (0 < len → CanReturn chain len c) × HoldsChain chain c
Can (Ring (PublishCid cid)) c = cid < 2 ^ 64
Can _ c = Unit {0}

can_ring : (call : DeviceCall) (s : Situation) → Can (Ring call) s.ring → CanPut (Ring call) s
can_ring call s can = grind (arith, common_steps)

can_make : (call : Call) (s : Situation) → Can call s.ring → CanPut call s
can_make (Ring call) s can = can_ring call s can
can_make _ s can = tt

-- What answers a call may get: of what is read at the front of a chain only that a header fits is asked.
abbrev pub FitsAs : (call : DeviceCall) → DeviceAnswer call → Type 0
FitsAs (Read chain place count) bytes = place ≡ 0 → FitsWire (header_of bytes)
FitsAs call a = IsFitAnswer call a

abbrev pub Lets : (call : Call) → Answer call → Situation → Situation → Type 0
Lets (Ring call) a s t = DeviceAllows call a s.ring t.ring × (t.host ≡ s.host) × (t.faults ≡ s.faults) × FitsAs call a
Lets call a s t = Allows call a s t

fits_as : (call : DeviceCall) (a : DeviceAnswer call) → IsFitAnswer call a → FitsAs call a
fits_as (Read chain place count) bytes fits = λ front. header_fits bytes fits
fits_as _ a fits = fits

pub lets : (call : Call) (a : Answer call) (s t : Situation) → Allows call a s t → Lets call a s t
lets (Ring call) a s t allowed = (allowed.0, allowed.1, allowed.2, fits_as call a allowed.3)
lets _ a s t allowed = allowed

abbrev pub asking : Asking Situation
asking = asked (λ call s. Can call s.ring) Lets

abbrev pub Keeps : {A : Type 0} → (A → Situation → Type 0) → DeviceTree A → Situation → Type 0
Keeps Q tree c = walked.Keeps asking Q tree c

module _ {A : Type 0} (Q : A → Situation → Type 0) where
  pub keeps_put : (t : DeviceTree A) (s : Situation) → Keeps Q t s → MayPut t s
  keeps_put (Done x) s keeps = tt
  keeps_put (Ask call next) s keeps = (can_make call s keeps.0, λ a d allowed. keeps_put (next a) d (keeps.1 a d (lets call a s d allowed)))

  pub keeps_end : (t : DeviceTree A) (s d : Situation) (x : A) → Keeps Q t s → Runs t s x d → Q x d
  keeps_end (Done y) s d x keeps runs =
      let P : A → Type 0 = λ z. Q z s in
      let R : Situation → Type 0 = λ e. Q x e in
      subst R runs.1 (subst P runs.0 keeps)
  keeps_end (Ask call next) s d x keeps runs = keeps_end (next runs.0) runs.1 d x (keeps.1 runs.0 runs.1 (lets call runs.0 s runs.1 runs.2)) runs.3

  pub keeps_weaker : (R : A → Situation → Type 0) → ((x : A) (d : Situation) → Q x d → R x d) → (t : DeviceTree A) (c : Situation)
      → Keeps Q t c → Keeps R t c
  keeps_weaker = walked.keeps_weaker asking Q

  pub keeps_bind : {B : Type 0} (t : DeviceTree B) (f : B → DeviceTree A) (c : Situation) → Keeps (λ x d. Keeps Q (f x) d) t c
      → Keeps Q (bind t f) c
  keeps_bind t f c keeps = walked.keeps_then asking Q (λ x d. Keeps Q (f x) d) t f c keeps (λ x d kept. kept)

-- One conversation, and then what follows each of its ends.
pub keeps_then : {A B : Type 0} (P : B → Situation → Type 0) (Q : A → Situation → Type 0) (t : DeviceTree B) (f : B → DeviceTree A)
    (c : Situation)
    → Keeps P t c → ((x : B) (d : Situation) → P x d → Keeps Q (f x) d) → Keeps Q (bind t f) c
keeps_then P Q = walked.keeps_then asking Q P

-- A step that says whether it goes on: where it does P holds, else E.
abbrev pub Goes : {A : Type 0} → (A → Situation → Type 0) → (A → Situation → Type 0) → A × Bool → Situation → Type 0
Goes P E r c = walked.Goes asking P E r c

pub keeps_while : {A : Type 0} (P E : A → Situation → Type 0) → ((x : A) (c : Situation) → P x c → E x c) → (step : A → DeviceTree (A × Bool))
    → ((x : A) (c : Situation) → P x c → Keeps (Goes P E) (step x) c) → (n : ℕ) (x : A) (c : Situation) → P x c → Keeps E (while_up_to n step x) c
keeps_while P E = walked.goes_while asking P E

pub keeps_each : {A X : Type 0} (P : A → Situation → Type 0) (step : X → A → DeviceTree A)
    → ((i : X) (x : A) (c : Situation) → P x c → Keeps P (step i x) c)
    → (is : List X) (x : A) (c : Situation) → P x c → Keeps P (for_each step is x) c
keeps_each P = walked.keeps_each asking P
