-- What the driver decided to send no more on, it puts no payload on, whatever call is made.
use Rattle.std.proofs.Common.{◌≡◌, ℕ, true, refl, ◌∙◌}
use Rattle.vs_flow.specs.Connection.{Connection}
use Rattle.vs_page.specs.Log.{Driver}
use Rattle.vs_ring_port.specs.Contents.{RingContents}
use Rattle.laws_tables.{specs.Both.Seat, proofs.{Going.stays, Shutting.goes_past}}
use Rattle.vs_driver_parts.specs.{Conversations.{DriverTree, poll_of}, Playing.Plays, State.DriverState, declared.answers.Polled.Polled}
use Rattle.laws_driver.{specs.{Honest.IsHonestWith, Carried.{Calls.{GuestCall, ReplyTo, is_right, makes_call, whole_call}, Sent.StaysPast}}, proofs.{Calls.honest_of, Going.seat}}
use Rattle.laws_driver.proofs.{Keeping.{Keeps, keeps_end}, Polling.poll_keeps, Staging.Rests, Walking.{goes_from, poll_goes}, Carried.Growing.honest_stays}
use Rattle.laws_driver.proofs.Carried.{Making.{call_goes, made_with, whole_with}, Sending.begins}

module _ (first : ℕ) (k : Connection) (s : DriverState) (c d : RingContents) (honest : IsHonestWith true first s c) where
  ends_past : {A : Type 0} (tree : DriverTree A) (state_of : A → DriverState) (x : A)
      → ((w : Seat) → Rests true true first (goes_from w) s c → Keeps (λ y e. Rests true true first (goes_from w) (state_of y) e) tree c)
      → Plays tree c x d → StaysPast k s (state_of x) c d
  ends_past tree state_of x keeps plays on l is m told past =
      let v : Seat = seat s l.entries in
      let still = honest_stays tree c d x plays ∙ on in
      let kept : Rests true true first (goes_from v) (state_of x) d =
      keeps_end _ tree c d x (keeps v (begins first (goes_from v) s c l is (stays Driver v v refl) honest)) plays in
      goes_past Driver first k v (seat (state_of x) m.entries) (kept still m told).1 (honest on l is).matches
      (honest_of true first (goes_from v) (state_of x) d kept still m told).fair past

  pub poll_past : (x : DriverState × Polled) → Plays (poll_of s) c x d → StaysPast k s x.0 c d
  poll_past x = ends_past (poll_of s) (λ y. y.0) x (λ w. poll_keeps true true first (goes_from w) (poll_goes true first w) s c)

  module _ (call : GuestCall) (x : DriverState × ReplyTo call) (right : is_right call ≡ true) where
    pub call_past : Plays (whole_call call s) c x d → StaysPast k s x.0 c d
    call_past = ends_past (whole_call call s) (λ y. y.0) x
        (λ w. whole_with first s c call (goes_from w) (λ reply. goes_from w) right (call_goes first w call right))

    pub step_past : Plays (makes_call call s) c x d → StaysPast k s x.0 c d
    step_past = ends_past (makes_call call s) (λ y. y.0) x
        (λ w. made_with first s c call (goes_from w) (λ reply. goes_from w) right (call_goes first w call right))
