-- The device over any ring that tells its log: the walk of its conversations with nothing that an honest ring gives.
use Rattle.std.proofs.lemmas.Grind.{common_steps}
use Rattle.std.proofs.Common.{arith}
use Rattle.std.proofs.Common.{◌≡◌, ℕ, ◌<◌, ◌^◌, Bool, true, false, List, [], Option, Some, None, refl, sym, ap, subst}
use Rattle.vs_contents.specs.{CallTree.{Done, Ask}, Contents.Exposes}
use Rattle.vs_flow.specs.{Table.refusal, declared.flow.Flow.Flow}
use Rattle.vs_page.specs.Log.{Device}
use Rattle.vs_ring_port.specs.{Chains.Held, Contents.{DeviceAnswer, DeviceCall, Given, PublishCid, Read, Return, RingContents, Take, Write}, DeviceCalls.{DeviceAllows, DeviceMoves}}
use Rattle.vs_ring_port.specs.{EndLog.EndLog, Lists.Rings}
use Rattle.vs_outside.specs.Host.{HostContents}
use Rattle.laws_tables.specs.{Steps.IsNextFlow}
use Rattle.vs_device_parts.specs.Calls.{Accept, Allows, Answer, Call, CloseStream, DeviceTree, Dial, HostMoves, Label, ReadStream, Ring, ShutWrite, Situation, WriteStream}
use Rattle.vs_device_parts.specs.{Playing.{Runs}, State.{DeviceState, new_device}, Turns.{open_of}}
use Rattle.laws_device.proofs.{Carrying.{StreamedOver, With}, Chains.{Among, alone, alone_so}, Keeping.{Keeps, asking, keeps_end}, Seats.Carried}
use Rattle.laws_device.proofs.{Turning.{label_keeps, new_with}, Walk.Keeping.keeps_some}
use Rattle.laws_device.specs.Carried.Streamed.{lasting}
use Rattle.laws_device.specs.{Honest.{IsFitFlow, IsFresh, ends_of_state, port_after}, Told.{IsToldWith}}
use Rattle.vs_proxy_parts.specs.State.{Handshake}
use Rattle.laws_tables.specs.Steps as steps

-- Nothing is carried, and the ring isn't honest.
abbrev pub told : Carried
told = record {
  ok = ⊥;
  since = lasting false;
  others = λ held. held ≡ [];
  asks = λ f. Unit {0};
  of_host = λ f host. tt;
  holds = λ w. Unit {0};
  step = λ step w may asked fits was. tt;
  plain = λ first log. ⊥;
  before = λ first entry log no. no;
  fairly = false;
  sure = λ first log no. absurd no;
  idle = λ first p w was m fair no dropped e has given. absurd no;
}

-- What ring and host allow, a ring allows that tells the same log and isn't honest.
abbrev pub unsure : RingContents → RingContents
unsure c = record c { honest = false }

abbrev pub unsurely : Situation → Situation
unsurely a = record a { ring = unsure a.ring }

exposes_weaker : {T : Type 0} (old new : Option T) (P Q : T → Type 0) (f : T → T) → ((x : T) → P x → Q x) → Exposes old new P f → Exposes old new Q f
exposes_weaker None new P Q f then exposes = exposes
exposes_weaker (Some x) new P Q f then exposes = (then x exposes.0, exposes.1)

unsure_moves : (call : DeviceCall) (a : DeviceAnswer call) (L : Rings → Type 0) (f : Rings → Rings) (Q R : EndLog → Type 0) (g : EndLog → EndLog) (c d : RingContents)
    → ((l : EndLog) → Q l → R l) → DeviceMoves call a L f Q g c d → DeviceMoves call a L f R g (unsure c) (unsure d)
unsure_moves call a L f Q R g c d then made = grind (arith, common_steps, exposes_weaker)

unsure_ring : (call : DeviceCall) (a : DeviceAnswer call) (c d : RingContents) → DeviceAllows call a c d → DeviceAllows call a (unsure c) (unsure d)
unsure_ring (Take queue) a c d made = (made.0, unsure_moves _ _ _ _ _ _ _ c d (λ l asked. (asked.0, λ never. absurd cc)) made.1)
unsure_ring (Read chain place count) a c d made = unsure_moves _ _ _ _ _ _ _ c d (λ l asked. asked) made
unsure_ring (Write chain place bytes) a c d made = unsure_moves _ _ _ _ _ _ _ c d (λ l asked. asked) made
unsure_ring (Return chain len) a c d made = (made.0, unsure_moves _ _ _ _ _ _ _ c d (λ l asked. asked) made.1)
unsure_ring (Given queue) a c d made = (made.0, unsure_moves _ _ _ _ _ _ _ c d (λ l asked. asked) made.1)
unsure_ring (PublishCid cid) a c d made = unsure_moves _ _ _ _ _ _ _ c d (λ l asked. asked) made

unsure_host : (failed : Bool) (A : HostContents → Type 0) (f : HostContents → HostContents) (c d : Situation) → HostMoves failed A f c d
    → HostMoves failed A f (unsurely c) (unsurely d)
unsure_host failed A f c d made = record { ring = ap unsure made.ring; faults = made.faults; host = made.host }

unsure_allows : (call : Call) (a : Answer call) (c d : Situation) → Allows call a c d → Allows call a (unsurely c) (unsurely d)
unsure_allows (Ring call) a c d made = (unsure_ring call a c.ring d.ring made.0, made.1, made.2, made.3)
unsure_allows (ReadStream stream n) a c d made = (unsure_host _ _ _ c d made.0, made.1)
unsure_allows (WriteStream stream bytes) a c d made = (unsure_host _ _ _ c d made.0, made.1)
unsure_allows Accept a c d made = unsure_host _ _ _ c d made
unsure_allows (Dial path flow) a c d made = unsure_host _ _ _ c d made
unsure_allows (Label stream flow) a c d made = unsure_host _ _ _ c d made
unsure_allows (ShutWrite stream) a c d made = unsure_host _ _ _ c d made
unsure_allows (CloseStream stream) a c d made = unsure_host _ _ _ c d made

pub unsure_runs : {A : Type 0} (tree : DeviceTree A) (a b : Situation) (x : A) → Runs tree a x b → Runs tree (unsurely a) x (unsurely b)
unsure_runs (Done y) a b x runs = (runs.0, ap unsurely runs.1)
unsure_runs (Ask call next) a b x runs =
    (runs.0, unsurely runs.1, unsure_allows call runs.0 a runs.1 runs.2, unsure_runs (next runs.0) runs.1 b x runs.3)

-- What is said of the device and the log.
module _ (lines : List Handshake) (first port : ℕ) (s : DeviceState) (a : Situation) where
  pub held_told : IsToldWith first port s a.ring → With told lines first port s (unsurely a)
  held_told holds = (
    holds.0,
    record {
      sure = refl;
      told = λ l is. let was = holds.1 l is in (
        λ still. subst (λ (held : List Held). Among (λ others. others ≡ []) s.chain held) (sym (was.held still)) (alone_so s.chain),
        λ guard. let left = was.left guard.0 guard.1 in (
          record { fits = left.fits; none_overrun = tt; matches = left.matches; fair = guard.1; seated = tt },
          λ no. absurd no,
        ),
      );
    },
  )

  pub told_held : With told lines first port s (unsurely a) → IsToldWith first port s a.ring
  told_held holds = (
    holds.0,
    λ l is. let was = holds.1.told l is in record {
      held = λ still. alone s.chain l.held (was.0 still);
      left = λ still ordered. let p = (was.1 (still, ordered)).0 in record { fits = p.fits; matches = p.matches };
    },
  )

-- What a whole conversation leaves.
pub told_end : {A : Type 0} (first port : ℕ) (state_of : A → DeviceState) (s : DeviceState) (tree : DeviceTree A) (a b : Situation) (x : A)
    → IsToldWith first port s a.ring
    → (With told [] first port s (unsurely a) → Keeps (λ y d. With told [] first port (state_of y) d) tree (unsurely a)) → Runs tree a x b
    → IsToldWith first port (state_of x) b.ring
told_end first port state_of s tree a b x holds keeps runs =
    told_held [] first port (state_of x) b
    (keeps_end (λ y d. With told [] first port (state_of y) d) tree (unsurely a) (unsurely b) x (keeps (held_told [] first port s a holds)) (unsure_runs tree a b x runs))

-- A client's connection is asked for.
pub opens_told : (first port : ℕ) (flow : Flow) (stream : ℕ) (s : DeviceState) → IsNextFlow Device flow (ends_of_state port s) → IsFitFlow flow
    → (c : Situation) → With told [] first port s c → Keeps (λ x d. With told [] first (port_after flow port x.1) x.0 d) (open_of flow stream s) c
opens_told first port flow stream s next ports c held =
    keeps_some asking (λ x d. With told [] first (port_after flow port x.1) x.0 d) (refusal s.table flow) _ _ c
    (λ free. label_keeps told [] first port flow stream s (steps.port_after port flow.host)
    (λ l p. record { next = next; ports = ports; wanted = tt; port_is = refl }) (StreamedOver told [] first port s)
    (λ o n l p made x no. absurd no) c free held) (λ fault full. held)

-- A new device.
pub new_told : (port cid : ℕ) (base : List ℕ) (c : RingContents) → cid < 2 ^ 64 → IsFresh c → IsToldWith cid port (new_device cid base) c
new_told port cid base c less fresh =
    let made = new_with port cid base (record c { honest = true }) less fresh in (
      made.0,
      λ l is. let was = made.1 l is in record {
        held = was.0;
        left = λ still ordered. let p = was.1 refl in record { fits = p.fits; matches = p.matches };
      },
    )
