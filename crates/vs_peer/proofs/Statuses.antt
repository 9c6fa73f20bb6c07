-- What each status of a client says follows from how it ends.
use Rattle.std.proofs.{Common.{◌⊎◌, ◌≡◌, ◌≤◌, ◌<◌, ◌-◌, ◌^◌, inl, inr, ℕ, true, List, length, take, Option, Some, None, refl, ap, subst, ◌∙◌, arith}, lemmas.List.length-take}
use Rattle.std.{proofs.lemmas.Bool.Decides.nat_tests, specs.Option.ForSome}
use Rattle.vs_outside.specs.Faults.{CountsFault}
use Rattle.vs_peer.specs.{Ends.{Lent, Meets, PeerEnds}, Pieces.{Emits, EmitsSome, IsReading, ReadsAll}, Statuses.{Belongs, Came, Done, HostFault, IsSource, Line, NoFault}}
use Rattle.vs_peer.specs.{Statuses.{NoMemory, Refused, Says, SinkFault, SourceFault, TooLong, Waited, is_faultless}, Text.{no_memory_text, read_fault_text, too_long_text}}
use Rattle.vs_peer.specs.declared.source.TheConstants.{SOURCE_MAX}
use Rattle.vs_peer.specs.Ends as ends

-- A fault shows in a count that can rise.
fault_shows : (old new : ℕ) → CountsFault true old new → old < 2 ^ 64 - 1 → new ≡ old → ⊥
fault_shows old new counts few same = grind (arith, nat_tests)

-- the source's bytes
whole_source : (left bytes : List ℕ) → IsReading left bytes → length bytes ≤ SOURCE_MAX → bytes ≡ left
whole_source left bytes (inl h) fits = h
whole_source left bytes (inr h) fits = absurd (omega (arith, h.0, fits))

is_source : (o : Option (List ℕ)) (bytes : List ℕ) → ReadsAll o bytes → length bytes ≤ SOURCE_MAX → IsSource o bytes
is_source None bytes h fits l is = cc
is_source (Some left) bytes h fits l is = let same : left ≡ l = cc in whole_source left bytes h fits ∙ same

take_within : (n : ℕ) (xs : List ℕ) → length (take n xs) ≤ length xs
take_within n xs = omega (arith, length-take n xs)

long_source : (left bytes : List ℕ) → IsReading left bytes → SOURCE_MAX < length bytes → SOURCE_MAX < length left
long_source left bytes (inl h) long = subst (λ (xs : List ℕ). SOURCE_MAX < length xs) h long
long_source left bytes (inr h) long = let e = ap length h.1 in omega (arith, long, e, take_within (length bytes) left)

is_long : (o : Option (List ℕ)) (bytes : List ℕ) → ReadsAll o bytes → SOURCE_MAX < length bytes →
    ForSome o (λ left. SOURCE_MAX < length left)
is_long None bytes h long l is = cc
is_long (Some left) bytes h long l is = let same : left ≡ l = cc in subst (λ (xs : List ℕ). SOURCE_MAX < length xs) same
    (long_source left bytes h long)

module _ (base : List ℕ) (port idle : ℕ) (old new : Lent) (result : ℕ) where
  met : (bytes : List ℕ) → IsSource old.source bytes →
      Meets base port bytes idle old.host new.host old.host_faults new.host_faults old.pauses new.pauses old.out new.out old.sink_faults new.sink_faults result →
      Says base port idle old new result
  met bytes is (inl (text, status, ends.Done zero why kept, inl end)) =
      Done (end.0 ∙ zero) (record { source = bytes; written = text; is_source = is; writes = end.1; is_done = why })
  met bytes is (inl (text, status, ends.Waits five written said why kept paused, inl end)) =
      Waited (end.0 ∙ five) (record {
        source = bytes;
        written = written;
        is_source = is;
        writes = subst (λ (t : List ℕ). Emits old.out new.out t) said end.1;
        waits = why;
        paused = paused;
      })
  met bytes is (inl (text, status, ends.HostFails six written said why counts, inl end)) =
      HostFault (end.0 ∙ six) (record {
        counts = counts;
        source = bytes;
        written = written;
        is_source = is;
        writes = subst (λ (t : List ℕ). Emits old.out new.out t) said end.1;
        failed = why;
      })
  met bytes is (inl (text, status, ends.Refuses eight said why kept, inl end)) =
      Refused (end.0 ∙ eight) (record { writes = subst (λ (t : List ℕ). Emits old.out new.out t) said end.1; refused = why })
  met bytes is (inl (text, status, means, inr end)) =
      SinkFault end.0 (record { counts = end.2; text = text; meant = Belongs bytes is status means; writes = end.1 })
  met bytes is (inr (text, four, some, counts, why, kept)) =
      SinkFault four (record { counts = counts; text = text; meant = Came bytes is why; writes = some })

  sink_fails : (text : List ℕ) → (text ≡ too_long_text) ⊎ (text ≡ read_fault_text) ⊎ (text ≡ no_memory_text) →
      (result ≡ 4) × EmitsSome old.out new.out text × CountsFault true old.sink_faults new.sink_faults → Says base port idle old new result
  sink_fails text line end = SinkFault end.0 (record { counts = end.2; text = text; meant = Line line; writes = end.1 })

  pub says : PeerEnds base port idle old new result → Says base port idle old new result
  says (ends.Met bytes reads fits kept meets) = met bytes (is_source old.source bytes reads fits) meets
  says (ends.TooLong bytes reads long kept host host_kept (inl end)) =
      TooLong end.0 (record { long = is_long old.source bytes reads long; writes = end.1; kept = host })
  says (ends.TooLong bytes reads long kept host host_kept (inr end)) = sink_fails too_long_text (inl refl) end
  says (ends.SourceFails counts host host_kept (inl end)) = SourceFault end.0 (record { counts = counts; writes = end.1; kept = host })
  says (ends.SourceFails counts host host_kept (inr end)) = sink_fails read_fault_text (inr (inl refl)) end
  says (ends.NoMemory kept host host_kept (inl end)) = NoMemory end.0 (record { writes = end.1; kept = host })
  says (ends.NoMemory kept host host_kept (inr end)) = sink_fails no_memory_text (inr (inr refl)) end

  -- where no call failed
  pub faultless : Says base port idle old new result → NoFault old new → is_faultless result ≡ true
  faultless (Done is h) none = rw is refl
  faultless (TooLong is h) none = rw is refl
  faultless (SourceFault is h) none = absurd (fault_shows old.source_faults new.source_faults h.counts none.source_rises none.source)
  faultless (SinkFault is h) none = absurd (fault_shows old.sink_faults new.sink_faults h.counts none.sink_rises none.sink)
  faultless (Waited is h) none = rw is refl
  faultless (HostFault is h) none = absurd (fault_shows old.host_faults new.host_faults h.counts none.host_rises none.host)
  faultless (Refused is h) none = rw is refl
  faultless (NoMemory is h) none = rw is refl
