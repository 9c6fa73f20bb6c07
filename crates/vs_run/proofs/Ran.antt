-- What the status of a run says, and of a load.
use Rattle.std.{proofs.Common.{◌≡◌, ◌⊎◌, inl, inr, arith, ℕ, Bool, cond, true, false, List, [], ◌∷◌, length, map, Option, Result, Ok, Err, refl, subst}, specs.List.range_with_len}
use Rattle.vs_outside.specs.Host.{HostContents}
use Rattle.vs_peer.specs.{Ends.EndsAs, Text.{host_fault_text, no_memory_text}}
use Rattle.vs_ring_shared.specs.Ports.{IsRingSize}
use Rattle.vs_script.specs.{Script.{Attacks, Plays, Runs, Saying}, declared.fault.Refused.Refused}
use Rattle.vs_apps_parts.specs.{Scripts.RunScript, declared.{journal.Entry.Entry, progress.AppState.AppState}}
use Rattle.vs_run_report.specs.{Endings.is_done, Report.{ended_at, run_status, status_of}, declared.ending.Ending.Ending}
use Rattle.vs_report.specs.Gives.{joined}
use Rattle.laws_settled.specs.Begun.{start_with}
use Rattle.vs_run_apps.specs.{Printed.{Answers, texts_of}, declared.whole.RunError.RunError}
use Rattle.vs_words.specs.Command.{IsQueueSize}
use Rattle.vs_run.{specs.{Ends.EndsWith, Runs.{EndsLoad, EndsOver, EndsRun}}, proofs.Endings.not_two}
use Rattle.vs_report.specs.declared.giving.GiveError.TheVariants as give
use Rattle.vs_run_apps.specs.declared.whole.RunError.TheVariants as error

-- the status of a run that was over
zero_or_five : (es : List Ending) → (status_of es ≡ 0) ⊎ (status_of es ≡ 5)
zero_or_five [] = inl refl
zero_or_five (e ∷ es) = go (is_done e) (zero_or_five es)
  where
    go : (b : Bool) → (status_of es ≡ 0) ⊎ (status_of es ≡ 5) → (cond b (status_of es) 5 ≡ 0) ⊎ (cond b (status_of es) 5 ≡ 5)
    go true h = h
    go false h = inr refl

pub run_zero_or_five : (script : RunScript) (apps : List AppState) (entries : List Entry)
    → (run_status script apps entries ≡ 0) ⊎ (run_status script apps entries ≡ 5)
run_zero_or_five script apps entries = zero_or_five (map (ended_at script apps entries) (range_with_len 0 (length script)))

no_two : (n : ℕ) → (n ≡ 0) ⊎ (n ≡ 5) → n ≡ 2 → ⊥
no_two n (inl e) two = absurd (omega (arith, e, two))
no_two n (inr e) two = absurd (omega (arith, e, two))

module _ (out out' : Option (List ℕ)) (f g r : ℕ) where
  with_two : (line : List ℕ) (status : ℕ) → EndsWith out out' f g line status r → r ≡ 2 → status ≡ 2
  with_two line status (inl h) two = not_two out out' f g line status r h two
  with_two line status (inr h) two = absurd (omega (arith, not_two out out' f g _ 9 r h two))

  over_two : (base : List ℕ) (idle first : ℕ) (script : RunScript) (host host' : Option HostContents) (failed failed' : ℕ)
      → EndsOver base idle first script host host' failed failed' out out' f g r → r ≡ 2 → ⊥
  over_two base idle first script host host' failed failed' (inl (guests, side, met, told, faults, ran, h)) two =
      no_two (run_status script guests.apps guests.entries) (run_zero_or_five script guests.apps guests.entries)
      (not_two out out' f g (joined (texts_of idle script guests side.proxy)) (run_status script guests.apps guests.entries) r h two)
  over_two base idle first script host host' failed failed' (inr (inl h)) two = absurd (omega (arith, not_two out out' f g _ 9 r h two))
  over_two base idle first script host host' failed failed' (inr (inr h)) two = absurd (omega (arith, not_two out out' f g _ 6 r h.1 two))

  pub run_two : (base : List ℕ) (idle first : ℕ) (host host' : Option HostContents) (failed failed' : ℕ) (p : Result Saying Refused)
      → EndsRun base idle first host host' failed failed' out out' f g r p → r ≡ 2 → (e : Refused) × (p ≡ Err e)
  run_two base idle first host host' failed failed' (Ok (Runs apps)) h two = absurd (over_two base idle first apps host host' failed failed' h two)
  run_two base idle first host host' failed failed' (Ok (Plays lines)) h two = absurd (omega (arith, with_two [] 0 h.0 two))
  run_two base idle first host host' failed failed' (Ok (Attacks lines)) h two = absurd (omega (arith, with_two [] 0 h.0 two))
  run_two base idle first host host' failed failed' (Err e) h two = (e, refl)

  pub load_two : (number conns bytes : ℕ) → EndsLoad number conns bytes out out' f g r → r ≡ 2 → ⊥
  load_two number conns bytes (inl (line, loaded, h)) two = absurd (omega (arith, not_two out out' f g line 0 r h two))
  load_two number conns bytes (inr h) two = absurd (omega (arith, not_two out out' f g _ 9 r h two))

-- how a run ended, and what was written behind it
module _ (base : List ℕ) (idle first : ℕ) (script : RunScript) (host host' : Option HostContents) (failed failed' : ℕ) (out mid : Option (List ℕ)) (f m : ℕ) where
  abbrev Answered : Result ℕ RunError → Type 0
  Answered r = Answers idle first script (start_with base host failed) host' failed' out mid f m r

  pub over_done : (status : ℕ) → Answered (Ok status) → EndsOver base idle first script host host' failed failed' out mid f m status
  over_done status (guests, side, met, told, faults, ran, h) = inl (guests, side, met, told, faults, ran, inl h)

  over_part : Answered (Err (error.NotGiven give.Sink)) → EndsOver base idle first script host host' failed failed' out mid f m 4
  over_part (guests, side, met, told, faults, ran, h) = inl (guests, side, met, told, faults, ran, inr (refl, h.0, h.1))

  pub over_less : (e : RunError) → e ≡ error.NotGiven give.Sink → Answered (Err e) → EndsOver base idle first script host host' failed failed' out mid f m 4
  over_less e is h = over_part (subst (λ x. Answered (Err x)) is h)

  module _ (out' : Option (List ℕ)) (g r : ℕ) where
    behind : (line : List ℕ) (status : ℕ) → (mid ≡ out) × (m ≡ f) → EndsAs mid out' m g line status r → EndsAs out out' f g line status r
    behind line status (same, kept) h =
        subst (λ o. EndsAs o out' f g line status r) same (subst (λ n. EndsAs mid out' n g line status r) kept h)

    pub over_starved : (e : RunError) → e ≡ error.NotGiven give.OutOfMemory → Answered (Err e) → EndsAs mid out' m g no_memory_text 9 r
        → EndsOver base idle first script host host' failed failed' out out' f g r
    over_starved e is h last = inr (inl (behind no_memory_text 9 (subst (λ x. Answered (Err x)) is h) last))

    pub not_started : (e : RunError) → e ≡ error.NotStarted → Answered (Err e) → EndsAs mid out' m g host_fault_text 6 r
        → EndsOver base idle first script host host' failed failed' out out' f g r
    not_started e is h last =
        let k = subst (λ x. Answered (Err x)) is h in
        inr (inr (k.0, behind host_fault_text 6 (k.1, k.2) last))

-- a run for whose script memory ran out
pub run_starved : (base : List ℕ) (idle first : ℕ) (host : Option HostContents) (failed : ℕ) (out out' : Option (List ℕ)) (f g r : ℕ) (p : Result Saying Refused)
    → EndsAs out out' f g no_memory_text 9 r → EndsRun base idle first host host failed failed out out' f g r p
run_starved base idle first host failed out out' f g r (Ok (Runs apps)) h = inr (inl h)
run_starved base idle first host failed out out' f g r (Ok (Plays lines)) h = (inr h, (refl, refl))
run_starved base idle first host failed out out' f g r (Ok (Attacks lines)) h = (inr h, (refl, refl))
run_starved base idle first host failed out out' f g r (Err e) h = (inr h, (refl, refl))

-- a queue of the command is one that rings may have
pub ring_size : (n : ℕ) → IsQueueSize n → IsRingSize n
ring_size n (inl e) = rw e (omega arith, omega arith, refl)
ring_size n (inr (inl e)) = rw e (omega arith, omega arith, refl)
ring_size n (inr (inr (inl e))) = rw e (omega arith, omega arith, refl)
ring_size n (inr (inr (inr (inl e)))) = rw e (omega arith, omega arith, refl)
ring_size n (inr (inr (inr (inr (inl e))))) = rw e (omega arith, omega arith, refl)
ring_size n (inr (inr (inr (inr (inr e))))) = rw e (omega arith, omega arith, refl)
