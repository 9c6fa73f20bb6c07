-- Each line of a run is a step.
use Rattle.std.proofs.Common.{◌≡◌, ℕ, Bool, true, false, cond, List, [], ◌++◌, Some, None, Result, Ok, Err, OnOk, refl, sym, ap, subst, ◌∙◌}
use Rattle.vs_layout.specs.declared.span.Span.{Span}
use Rattle.vs_outside.specs.Host.{HostContents}
use Rattle.vs_report.specs.HostLines.{ok_text}
use Rattle.vs_ring_plain.specs.Device.{DeviceState, chains_held}
use Rattle.vs_ring_port.specs.declared.device_ring.Chain.{Chain}
use Rattle.vs_device_parts.specs.Playing.{IsItsRing}
use Rattle.vs_proxy_parts.specs.State.{ProxyState}
use Rattle.vs_script.specs.Hostile.{Hostile}
use Rattle.vs_script.specs.Hostile as hostile
use Rattle.vs_hostile.specs.{Answer.said_text, Ready.IsReady, Ready.Steps, Ready.held_in, Rings.are_placed, Run.GuestState, Run.HasMemory}
use Rattle.vs_hostile.specs.Run.{HostileState, Said, Done, hostile_does, line_in, rings_in, second_set_up, with_guest}

-- No chain is held in rings just made.
made_hold_none : (b : Bool) (memory : Span) (d : DeviceState) → chains_held d ≡ [] → held_in (rings_in memory (cond b (Some d) None)) ≡ []
made_hold_none true memory d none = none
made_hold_none false memory d none = refl

second_holds_none : (line : Hostile) (memory : Span) → held_in (second_set_up line memory) ≡ []
second_holds_none (hostile.Rings n) memory = made_hold_none (are_placed memory n) memory _ refl
second_holds_none (hostile.Memory span) memory = refl
second_holds_none (hostile.Write addr bytes) memory = refl
second_holds_none (hostile.WriteDesc q i desc) memory = refl
second_holds_none (hostile.Give q at head) memory = refl
second_holds_none (hostile.Index q value) memory = refl
second_holds_none (hostile.Packet addr header bytes) memory = refl
second_holds_none (hostile.Before access addr bytes) memory = refl
second_holds_none (hostile.Look addr len) memory = refl
second_holds_none (hostile.Around line) memory = refl

-- A line that sets up the memory or its rings.
module _ (line : Hostile) (old new : HostileState) (text text' : List ℕ) (was to : GuestState) where
  steps_to : old.guest ≡ was → held_in was ≡ held_in to → line_in was line old ≡ (with_guest to old, Done) → new ≡ with_guest to old
      → text' ≡ text ++ ok_text → IsReady old → Steps line old new text text'
  steps_to is same does moved prints r =
      let now : hostile_does line old ≡ (with_guest to old, Done) = ap (λ (g : GuestState). line_in g line old) is ∙ does in
      let held : held_in old.guest ≡ held_in to = ap held_in is ∙ same in
      record {
        state = moved ∙ sym (ap (λ (x : HostileState × Said). x.0) now);
        printed = prints ∙ sym (ap (λ (x : HostileState × Said). text ++ said_text x.1) now);
        ready =
            subst IsReady (sym moved) (record {
              ring = subst (λ (h : List Chain). IsItsRing h old.proxy.device) held r.ring;
              serving = r.serving;
            });
      }

pub steps_second : (line : Hostile) (memory : Span) (old new : HostileState) (text text' : List ℕ) → old.guest ≡ HasMemory memory
    → new ≡ with_guest (second_set_up line memory) old → text' ≡ text ++ ok_text → IsReady old → Steps line old new text text'
steps_second line memory old new text text' is moved prints r =
    steps_to line old new text text' (HasMemory memory) (second_set_up line memory) is (sym (second_holds_none line memory)) refl moved prints r

pub steps_second_at : (line : Hostile) (memory : Span) (g g' : GuestState) (p : ProxyState) (h : HostContents) (now : ℕ) (old : HostileState)
    (text text' : List ℕ) → record { guest = g; proxy = p; host = h; now = now } ≡ old → g ≡ HasMemory memory → g' ≡ second_set_up line memory
    → text' ≡ text ++ ok_text → IsReady old → Steps line old (record { guest = g'; proxy = p; host = h; now = now }) text text'
steps_second_at line memory g g' p h now old text text' view is made prints r =
    let first : HostileState = record { guest = g; proxy = p; host = h; now = now } in
    let next : HostileState = record { guest = g'; proxy = p; host = h; now = now } in
    let made_so : next ≡ with_guest (second_set_up line memory) first =
    ap (λ (x : GuestState). record { guest = x; proxy = p; host = h; now = now }) made in
    subst (λ (o : HostileState). IsReady o → Steps line o next text text') view
    (λ ready. steps_second line memory first next text text' is made_so prints ready) r

pub on_ok : {E P Q : Type 0} (r : Result (Unit {0}) E) → (P → Q) → OnOk r P → OnOk r Q
on_ok (Ok x) f h = f h
on_ok (Err e) f h = h
