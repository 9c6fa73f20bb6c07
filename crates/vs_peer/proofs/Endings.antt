-- The last line, behind what was written before.
use Rattle.std.proofs.Common.{◌≡◌, inl, inr, ℕ, true, List, ◌++◌, Option, Result, Err, refl, subst, ◌∙◌}
use Rattle.vs_outside.specs.{Faults.CountsFault, Host.HostContents}
use Rattle.vs_peer.specs.{Conversing.Converses, Ends.{EndsAs, HostFails, Meets, Waits}, Failing.{host_failed, sink_failed}, Pieces.Emits, Text.{host_fault_text, waited_text}}
use Rattle.vs_peer.{specs.{Waiting.{Paused, pauses_of}, declared.stop.Stop.Stop}, proofs.Pieces.{emits_append, emits_then_some}}
use Rattle.vs_peer.specs.declared.stop.Stop.TheVariants as stop

ends_then : (out out' out'' : Option (List ℕ)) (f f' f'' : ℕ) (written text : List ℕ) (status result : ℕ) → Emits out out' written →
    f' ≡ f →
    EndsAs out' out'' f' f'' text status result → EndsAs out out'' f f'' (written ++ text) status result
ends_then out out' out'' f f' f'' written text status result e same (inl h) = inl
    (h.0, emits_append out out' out'' written text e h.1, h.2 ∙ same)
ends_then out out' out'' f f' f'' written text status result e same (inr h) =
    inr (h.0, emits_then_some out out' out'' written text e h.1, subst (λ (n : ℕ). CountsFault true n f'') same h.2)

module _ (base : List ℕ) (port : ℕ) (source : List ℕ) (idle : ℕ) (host host' : Option HostContents) (faults faults' pauses pauses' : ℕ)
    (out out' out'' : Option (List ℕ))
    (f f' f'' result : ℕ) where
  waits_on : Converses base port source host host' out out' (Err stop.Waited) → faults' ≡ faults → f' ≡ f →
      Paused idle pauses pauses' → (text : List ℕ) → text ≡ waited_text idle →
      EndsAs out' out'' f' f'' text 5 result → Meets base port source idle host host' faults faults' pauses pauses' out out'' f f'' result
  waits_on (written, e, why) kept same paused text is h =
      let said = subst (λ (t : List ℕ). EndsAs out' out'' f' f'' t 5 result) is h in
      inl (
        written ++ waited_text idle,
        5,
        Waits refl written refl why kept paused,
        ends_then out out' out'' f f' f'' written
            (waited_text idle) 5 result e same said,
      )

  fails_on : Converses base port source host host' out out' (Err stop.Host) → CountsFault true faults faults' → f' ≡ f →
      EndsAs out' out'' f' f'' host_fault_text 6 result → Meets base port source idle host host' faults faults' pauses pauses' out out'' f f'' result
  fails_on (written, e, why) counts same h =
      inl (
        written ++ host_fault_text,
        6,
        HostFails refl written refl why counts,
        ends_then out out' out'' f f' f'' written
            host_fault_text 6 result e same h,
      )

  -- what is known of a conversation with that result
  abbrev Known : Result (Unit {0}) Stop → Type 0
  Known r = Converses base port source host host' out out' r × CountsFault (host_failed r) faults faults' × CountsFault (sink_failed r) f f'

  pub waits_to_end : (e : Stop) → e ≡ stop.Waited → Converses base port source host host' out out' (Err e) →
      CountsFault (host_failed {A = Unit {0}} (Err e)) faults faults' →
      CountsFault (sink_failed {A = Unit {0}} (Err e)) f f' → Paused (pauses_of {A = Unit {0}} idle (Err e)) pauses pauses' →
      (text : List ℕ) → text ≡ waited_text idle →
      EndsAs out' out'' f' f'' text 5 result →
      Meets base port source idle host host' faults faults' pauses pauses' out out'' f f'' result
  waits_to_end e is known host_faults sink_faults paused text text_is h =
      let P : Stop → Type 0 = λ x. Known (Err x) × Paused (pauses_of {A = Unit {0}} idle (Err x)) pauses pauses' in
      let k : P stop.Waited = subst P is ((known, host_faults, sink_faults), paused) in
      waits_on k.0.0 k.0.1 k.0.2 k.1 text text_is h

  pub fails_to_end : (e : Stop) → e ≡ stop.Host → Converses base port source host host' out out' (Err e) →
      CountsFault (host_failed {A = Unit {0}} (Err e)) faults faults' →
      CountsFault (sink_failed {A = Unit {0}} (Err e)) f f' → EndsAs out' out'' f' f'' host_fault_text 6 result →
      Meets base port source idle host host' faults faults' pauses pauses' out out'' f f'' result
  fails_to_end e is known host_faults sink_faults h =
      let P : Stop → Type 0 = λ x. Known (Err x) in
      let k : Known (Err stop.Host) = subst P is (known, host_faults, sink_faults) in
      fails_on k.0 k.1 k.2 h
