-- The rings stay the driver's over its steps and its calls.
use Rattle.std.proofs.{Common.{◌≡◌, ℕ, ◌<◌, Bool, true, [], length, Option, Some, unwrap_or, refl, sym, ap, subst, ◌∙◌, rules}, lemmas.Bool.and_parts}
use Rattle.vs_ring_port.specs.{Contents.RingContents, Counts.{at, no_counts, with_count}, EndLog.{EndLog, Pages, pages_at}, declared.queue.Queue.{Queue, TheVariants.{Rx, Tx}}}
use Rattle.vs_ring_port.specs.declared.queue.Queue.TheVariants.{Event}
use Rattle.vs_ring_list.specs.Ends.{Ends, driver_contents, flight_of, staged_of}
use Rattle.vs_driver_parts.specs.{Playing.{IsAtWork, IsRingOf, SamePages}, State.DriverState}
use Rattle.laws_driver.{specs.{Honest.{AgreesWith, IsHonest, IsHonestWith, ends_of_state}, Staged.{IsAtWorkWith, IsLeft, IsTied, IsWorkingWith}}, proofs.Ringing.{agrees, at_rest}}
use Rattle.laws_driver.proofs.Ringing.{tied}
use Rattle.laws_world.{specs.{Events.{is_at_rest, none_staged, works_on}, World.first_cid}, proofs.{Polls.rest_works, Sound.nothing_staged}}
use Rattle.vs_core.specs.Ready.{IsDrivenAtWork}
use Rattle.vs_limits.specs.declared.TheConstants.{STAGED_MAX}

-- On any other queue than the one in work nothing is staged.
others_empty : (queue q : Queue) (staged : Pages) → works_on queue staged ≡ true → (queue ≡ q → ⊥) → pages_at q staged ≡ []
others_empty Rx Rx staged works other = absurd (other refl)
others_empty Rx Tx staged works other = nothing_staged staged.tx (and_parts (none_staged staged.tx) (none_staged staged.event) works).0
others_empty Rx Event staged works other = nothing_staged staged.event (and_parts (none_staged staged.tx) (none_staged staged.event) works).1
others_empty Tx Rx staged works other = nothing_staged staged.rx (and_parts (none_staged staged.rx) (none_staged staged.event) works).0
others_empty Tx Tx staged works other = absurd (other refl)
others_empty Tx Event staged works other = nothing_staged staged.event (and_parts (none_staged staged.rx) (none_staged staged.event) works).1
others_empty Event Rx staged works other = nothing_staged staged.rx (and_parts (none_staged staged.rx) (none_staged staged.tx) works).0
others_empty Event Tx staged works other = nothing_staged staged.tx (and_parts (none_staged staged.rx) (none_staged staged.tx) works).1
others_empty Event Event staged works other = absurd (other refl)

counted_at : (q : Queue) (n : ℕ) → at q (with_count q n no_counts) ≡ n
counted_at Rx n = refl
counted_at Tx n = refl
counted_at Event n = refl

staged_at : (q : Queue) (e : Ends) → at q (staged_of e) ≡ length (pages_at q e.driver.staged)
staged_at Rx e = refl
staged_at Tx e = refl
staged_at Event e = refl

none_counted : (q : Queue) → with_count q 0 no_counts ≡ no_counts
none_counted Rx = refl
none_counted Tx = refl
none_counted Event = refl

-- So a count of another queue is none.
moved_count : (queue q : Queue) (n : ℕ) → n ≡ 0 → with_count q n no_counts ≡ with_count queue n no_counts
moved_count queue q n none =
    ap (λ k. with_count q k no_counts) none ∙ (none_counted q ∙ (sym (none_counted queue) ∙ ap (λ k. with_count queue k no_counts) (sym none)))

same_queue_or : (queue q : Queue) → (P : Type 0) → (queue ≡ q → P) → ((queue ≡ q → ⊥) → P) → P
same_queue_or Rx Rx P yes_ no_ = yes_ refl
same_queue_or Tx Tx P yes_ no_ = yes_ refl
same_queue_or Event Event P yes_ no_ = yes_ refl
same_queue_or Rx Tx P yes_ no_ = no_ (λ is. absurd cc)
same_queue_or Rx Event P yes_ no_ = no_ (λ is. absurd cc)
same_queue_or Tx Rx P yes_ no_ = no_ (λ is. absurd cc)
same_queue_or Tx Event P yes_ no_ = no_ (λ is. absurd cc)
same_queue_or Event Rx P yes_ no_ = no_ (λ is. absurd cc)
same_queue_or Event Tx P yes_ no_ = no_ (λ is. absurd cc)

staged_on : (queue q : Queue) (n : ℕ) (e : Ends) → works_on queue e.driver.staged ≡ true → staged_of e ≡ with_count q n no_counts
    → staged_of e ≡ with_count queue n no_counts
staged_on queue q n e works staged =
    same_queue_or queue q (staged_of e ≡ with_count queue n no_counts)
    (λ is. subst (λ x. staged_of e ≡ with_count x n no_counts) (sym is) staged)
    (λ other.
    let none : n ≡ 0 = sym (counted_at q n) ∙ (sym (ap (at q) staged) ∙ (staged_at q e ∙ ap length (others_empty queue q e.driver.staged works other))) in
    staged ∙ moved_count queue q n none)

-- Before a step on a queue.
module _ (queue : Queue) (s : DriverState) (e : Ends) (works : works_on queue e.driver.staged ≡ true) (driven : IsDrivenAtWork s e) where
  pub working : IsAtWork queue e.lists.size (flight_of e) (staged_of e) s
  working = record {
    size = driven.size;
    flight = driven.flight;
    staged = staged_on queue driven.staged.0 s.staged e works driven.staged.1;
    few = driven.few;
  }

same_log : (e : Ends) (l : EndLog) → (driver_contents e).log ≡ Some l → e.driver ≡ l
same_log e l is = ap (λ (o : Option EndLog). unwrap_or o e.driver) is

-- Where no transmit page is staged the log is the driver's.
agrees_at : (s : DriverState) (e : Ends) → e.driver.staged.tx ≡ [] → IsTied true first_cid s e.driver → AgreesWith true first_cid s e.driver
agrees_at s e none ties =
    agrees true first_cid s e.driver (ties.0, subst (λ pages. IsLeft true first_cid s.broken (ends_of_state s) pages e.driver.entries) none ties.1, none)

pub honest_at : (s : DriverState) (e : Ends) → e.driver.staged.tx ≡ [] → IsTied true first_cid s e.driver → IsHonestWith true first_cid s (driver_contents e)
honest_at s e none ties = λ honest l is. subst (AgreesWith true first_cid s) (same_log e l is) (agrees_at s e none ties)

not_rx : Rx ≡ Tx → ⊥
not_rx is = absurd cc

not_event : Event ≡ Tx → ⊥
not_event is = absurd cc

pub works_with : (queue : Queue) (s : DriverState) (e : Ends) → works_on queue e.driver.staged ≡ true → IsDrivenAtWork s e
    → IsWorkingWith queue true first_cid s (driver_contents e)
works_with Rx s e works driven = honest_at s e (others_empty Rx Tx e.driver.staged works not_rx) driven.tied
works_with Tx s e works driven = λ honest l is. subst (IsTied true first_cid s) (same_log e l is) driven.tied
works_with Event s e works driven = honest_at s e (others_empty Event Tx e.driver.staged works not_event) driven.tied

pub at_work_with : (queue : Queue) (s : DriverState) (e : Ends) → works_on queue e.driver.staged ≡ true → IsDrivenAtWork s e
    → IsAtWorkWith queue s (driver_contents e)
at_work_with queue s e works driven = (true, first_cid, works_with queue s e works driven)

tied_by : (s : DriverState) (e : Ends) → IsHonestWith true first_cid s (driver_contents e) → IsTied true first_cid s e.driver
tied_by s e honest = tied true first_cid s e.driver (at_rest true first_cid s e.driver (honest refl e.driver refl))

tied_on : (queue : Queue) (s : DriverState) (e : Ends) → IsWorkingWith queue true first_cid s (driver_contents e) → IsTied true first_cid s e.driver
tied_on Rx s e honest = tied_by s e honest
tied_on Tx s e ties = ties refl e.driver refl
tied_on Event s e honest = tied_by s e honest

-- After a step.
pub stepped : (queue : Queue) (t : DriverState) (w : Ends) → IsAtWork queue w.lists.size (flight_of w) (staged_of w) t
    → IsWorkingWith queue true first_cid t (driver_contents w) → IsDrivenAtWork t w
stepped queue t w ring honest = record {
  size = ring.size;
  flight = ring.flight;
  staged = (queue, ring.staged);
  few = ring.few;
  tied = tied_on queue t w honest;
}

-- A step after which nothing is staged.
no_few : (n : ℕ) → n ≡ 0 → n < STAGED_MAX
no_few n none = rw none (search rules)

pub rested : (t : DriverState) (w : Ends) → IsRingOf w.lists.size (flight_of w) (staged_of w) t → IsHonestWith true first_cid t (driver_contents w)
    → IsDrivenAtWork t w
rested t w ring honest = record {
  size = ring.size;
  flight = ring.flight;
  staged = (Tx, ring.staged ∙ (sym (none_counted Tx) ∙ ap (λ n. with_count Tx n no_counts) (sym ring.none)));
  few = no_few t.staged ring.none;
  tied = tied_by t w honest;
}

-- At rest.
pub resting : (s : DriverState) (e : Ends) → is_at_rest e.driver.staged ≡ true → IsDrivenAtWork s e
    → IsRingOf e.lists.size (flight_of e) (staged_of e) s
resting s e rest driven =
    record {
      size = driven.size;
      flight = driven.flight;
      staged = all_none e rest;
      none = sym (counted_at driven.staged.0 s.staged) ∙ (sym (ap (at driven.staged.0) driven.staged.1) ∙ (ap (at driven.staged.0) (all_none e rest) ∙ no_count driven.staged.0));
    }
  where
    no_count : (q : Queue) → at q no_counts ≡ 0
    no_count Rx = refl
    no_count Tx = refl
    no_count Event = refl

    all_none : (e : Ends) → is_at_rest e.driver.staged ≡ true → staged_of e ≡ no_counts
    all_none e rest =
        let rx = others_empty Tx Rx e.driver.staged (rest_works Tx e.driver.staged rest) (λ is. absurd cc) in
        let tx = others_empty Rx Tx e.driver.staged (rest_works Rx e.driver.staged rest) not_rx in
        let event = others_empty Rx Event e.driver.staged (rest_works Rx e.driver.staged rest) (λ is. absurd cc) in
        rw (rx, tx, event) refl

pub honest_rest : (s : DriverState) (e : Ends) → is_at_rest e.driver.staged ≡ true → IsDrivenAtWork s e → IsHonestWith true first_cid s (driver_contents e)
honest_rest s e rest driven = honest_at s e (others_empty Rx Tx e.driver.staged (rest_works Rx e.driver.staged rest) not_rx) driven.tied

pub is_honest : (s : DriverState) (e : Ends) → is_at_rest e.driver.staged ≡ true → IsDrivenAtWork s e → IsHonest s (driver_contents e)
is_honest s e rest driven = (true, first_cid, honest_rest s e rest driven)

-- A call that leaves the pages.
pub driven_stays : (s t : DriverState) → SamePages s t
    → ((hosts : Bool) (first : ℕ) (c : RingContents) → IsHonestWith hosts first s c → IsHonestWith hosts first t c)
    → (e : Ends) → is_at_rest e.driver.staged ≡ true → IsDrivenAtWork s e → IsDrivenAtWork t e
driven_stays s t same honest e rest driven =
    let size : t.size ≡ s.size = same.0 in
    let tx : t.in_flight ≡ s.in_flight = same.1 in
    let staged : t.staged ≡ s.staged = same.2 in
    record {
      size = size ∙ driven.size;
      flight = rw tx driven.flight;
      staged = (driven.staged.0, rw staged driven.staged.1);
      few = rw staged driven.few;
      tied = tied_by t e (honest true first_cid (driver_contents e) (honest_rest s e rest driven));
    }
