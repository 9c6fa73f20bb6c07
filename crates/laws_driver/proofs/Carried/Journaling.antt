-- What the journal says was received and sent, once a call was made.
use Rattle.std.proofs.Common.{ℕ, refl, ◌∙◌, true}
use Rattle.vs_flow.specs.Connection.{Connection}
use Rattle.vs_ring_port.specs.Contents.{RingContents}
use Rattle.vs_driver_parts.specs.{Conversations.DriverTree, Playing.Plays, State.DriverState}
use Rattle.laws_driver.specs.{Honest.IsHonestWith, Carried.{Calls.{GuestCall, IsJournaledWith, Journal, ReplyTo, account_of, sent_of, with_call}, Received.Account}}
use Rattle.laws_driver.{specs.Carried.{Received.IsReceivedWith, Sent.PutsJust}, proofs.{Carrying.Fact, Keeping.{Keeps, keeps_end}, Staging.Rests, Carried.Making.CarriesCall}}
use Rattle.laws_driver.proofs.Carried.{Making.{account_after, at_first, call_received, call_sent, further_journal, sent_with}, Ending.further_from, Growing.honest_stays}
use Rattle.laws_driver.proofs.Carried.{Polling.Further, Sending.begins}

-- A conversation that carries what the call carries.
abbrev pub Carried : ℕ → (call : GuestCall) → DriverTree (DriverState × ReplyTo call) → DriverState → RingContents → Type 1
Carried first call tree s c = (before : Fact) (after : ReplyTo call → Fact) → CarriesCall first call before after → Rests true true first before s c
    → Keeps (λ x d. Rests true true first (after x.1) x.0 d) tree c

module _ (first : ℕ) (call : GuestCall) (tree : DriverTree (DriverState × ReplyTo call)) (s : DriverState) (c d : RingContents)
    (x : DriverState × ReplyTo call) (carried : Carried first call tree s c) (honest : IsHonestWith true first s c) (plays : Plays tree c x d) where
  pub journaled : (first_id : ℕ) (opened : ℕ → Connection) (journal : Journal) → IsReceivedWith (account_of first_id opened journal) s c
      → IsJournaledWith first_id opened (with_call call s x.1 journal) x.0 d
  journaled first_id opened journal account = λ on l is. further_journal first_id opened journal call s x.1 _ l.entries (kept on l is).1
    where
      a : Account
      a = account_of first_id opened journal

      kept : Rests true true first (Further (account_after call x.1 a)) x.0 d
      kept = keeps_end _ tree c d x (carried (Further a) (λ reply. Further (account_after call reply a)) (call_received first call a)
          (further_from first a s c honest account)) plays

  pub sent_just : PutsJust (sent_of call x.1 s) c d
  sent_just = λ on l is m told k.
      let kept : Rests true true first (sent_with first s l.entries call x.1) x.0 d =
      keeps_end _ tree c d x (carried (at_first first s l.entries) (sent_with first s l.entries call) (call_sent first s l.entries call)
      (begins first (at_first first s l.entries) s c l is (refl, refl) honest)) plays in
      (kept (honest_stays tree c d x plays ∙ on) m told).1 k
