-- A proxy that is steady stays so, and what its ring's end knows of the other one's only grows.
use Rattle.std.proofs.lemmas.Grind.{common_steps}
use Rattle.std.proofs.{Common.{◌≡◌, ℕ, Bool, List, [], Option, Some, None, refl, ◌∙◌, arith}}
use Rattle.vs_contents.specs.{Contents.Relates}
use Rattle.vs_limits.specs.declared.TheConstants.{FIRST_CID}
use Rattle.vs_ring_port.specs.{Contents.{DeviceAnswer, DeviceCall, RingContents}, DeviceCalls.DeviceAllows, EndLog.EndLog, Known.{Known}}
use Rattle.vs_device_parts.specs.{Calls.{DeviceTree, Situation}, Playing.Runs}
use Rattle.laws_rest.{specs.Calm.resets_in, proofs.Calm.calm_turns}
use Rattle.vs_proxy_parts.specs.{State.ProxyState, Turns.{new_proxy, turn_of}, declared.answers.Turn.Turn}
use Rattle.laws_proxy.proofs.Ordered.{turn_honest, turn_streams}
use Rattle.laws_settled.{specs.{Settled.IsSteady}, proofs.{Exact.exact_turns, Hosted.turn_hosts, Shutting.turn_shuts}}
use Rattle.laws_device.{proofs.{Logs.over_runs, Packets.joined}}

pub new_steady : (base : List ℕ) (a : Situation) (l : EndLog) → a.ring.log ≡ Some l → l.entries ≡ [] → l.held ≡ [] → IsSteady (new_proxy FIRST_CID base) a
new_steady base a l told silent none = grind (arith, common_steps)

-- A ring that tells of resets tells its log.
log_told : (o : Option EndLog) (r : Bool × List ℕ) → resets_in o ≡ Some r → (l : EndLog) × (o ≡ Some l)
log_told None r is = absurd cc
log_told (Some l) r is = (l, refl)

pub turn_steady : (size now : ℕ) (s : ProxyState) (a b : Situation) (x : ProxyState × Turn) → IsSteady s a → Runs (turn_of size now s) a x b
    → IsSteady x.0 b
turn_steady size now s a b x steady runs =
    let calm = calm_turns size now s a b x steady.no_event runs in
    let told = log_told a.ring.log _ steady.no_reset in
    record {
      order = record {
        streams = turn_streams s a b size now x runs steady.order.streams;
        ring = turn_honest s a b size now x runs FIRST_CID steady.order.ring;
      };
      no_reset = calm.1 ∙ steady.no_reset;
      no_event = calm.0;
      hosts = turn_hosts FIRST_CID size now s a b x steady.order.ring steady.hosts runs;
      exact = exact_turns size now s a b x told.0 told.1 steady.exact runs;
      shut = turn_shuts size now s a b x steady.shut runs;
    }

-- What the device was told of stays.
abbrev pub ToldAsMuch : Known → Known → Type 0
ToldAsMuch k i = i.rx.told ≡ k.rx.told

as_much : (o : Option Known) → Relates o o ToldAsMuch
as_much None = refl
as_much (Some k) = refl

by_ring : (call : DeviceCall) (a : DeviceAnswer call) (c d : RingContents) → DeviceAllows call a c d → Relates c.known d.known ToldAsMuch
by_ring call a c d allowed = grind (arith, common_steps)

pub told_runs : {A : Type 0} (tree : DeviceTree A) (c d : Situation) (x : A) → Runs tree c x d → Relates c.ring.known d.ring.known ToldAsMuch
told_runs = over_runs (λ c d. Relates c.known d.known ToldAsMuch) (λ c. as_much c.known)
    (λ c d e. joined c.known d.known e.known ToldAsMuch ToldAsMuch ToldAsMuch (λ k i l first rest. rest ∙ first)) by_ring
