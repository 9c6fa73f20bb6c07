-- A journal stays right, once a call was made with its reply, and over a poll.
use Rattle.std.proofs.Common.{◌≡◌, ℕ, ◌≤◌, true, Option, Some, None, sym, refl, ◌∙◌, append-nil}
use Rattle.vs_flow.specs.Connection.{Connection}
use Rattle.vs_page.specs.Log.{Log}
use Rattle.vs_ring_port.specs.{Contents.RingContents, EndLog.EndLog}
use Rattle.vs_driver_parts.specs.{Conversations.{DriverTree, poll_of}, Playing.Plays, State.DriverState, declared.answers.Polled.Polled}
use Rattle.laws_driver.specs.{Honest.{IsHonestWith, slots_of}, Carried.Calls.{GuestCall, Journal, ReplyTo, account_of, is_right, makes_call, received_by, whole_call, with_call}}
use Rattle.laws_driver.{specs.Carried.{Received.{Account, AreReceived}, Senders.{GoesRightWith, IsRightWith}, Sent.TellsMore}, proofs.Carried.{Ending.poll_ends, Growing.goes_on}}
use Rattle.laws_driver.proofs.Carried.{Growing.honest_stays, Journaling.{Carried, journaled, sent_just}, Making.{further_as, made_with, whole_with}, Senders.{Says, call_says}}
use Rattle.laws_driver.proofs.Carried.{Senders.{sent_more, step_says, still_sent}, Sending.poll_sent}

-- A log that is told after a conversation was told before it.
pub told_before : {A : Type 0} (tree : DriverTree A) (c d : RingContents) (x : A) → Plays tree c x d → (m : EndLog) → d.log ≡ Some m
    → (l : EndLog) × (c.log ≡ Some l)
told_before tree c d x plays m is = by c.log refl (goes_on tree c d x plays).2
  where
    by : (o : Option EndLog) → c.log ≡ o → TellsMore o d.log → (l : EndLog) × (c.log ≡ Some l)
    by None log more = let e : None ≡ Some m = sym more ∙ is in absurd cc
    by (Some l) log more = (l, log)

module _ (first : ℕ) (call : GuestCall) (tree : DriverTree (DriverState × ReplyTo call)) (s : DriverState) (c d : RingContents)
    (x : DriverState × ReplyTo call) (carried : Carried first call tree s c) (honest : IsHonestWith true first s c) (plays : Plays tree c x d)
    (says : (a : Account) (log : Log) → AreReceived a log (slots_of s) → (now : ℕ → Connection)
    → ((id : ℕ) → 1 ≤ (a.opened id).number → now id ≡ a.opened id) → Says s log now call x.1) where
  pub righted : (first_id : ℕ) (opened : ℕ → Connection) (journal : Journal) → IsRightWith first_id opened journal s c
      → GoesRightWith first_id opened (with_call call s x.1 journal) x.0 d
  righted first_id opened journal right = λ on m is.
      let before = told_before tree c d x plays m is in
      let l : EndLog = before.0 in
      let on_then : c.honest ≡ true = sym (honest_stays tree c d x plays) ∙ on in
      let was = right on_then l before.1 in
      let now = journaled first call tree s c d x carried honest plays first_id opened journal (λ on l is. (right on l is).received) on m is in
      let told = says (account_of first_id opened journal) l.entries was.received now.0 now.1 in
      let puts = sent_just first call tree s c d x carried honest plays on_then l before.1 m is in (
        now.0,
        now.1,
        record {
          received = now.2;
          sent = sent_more opened now.0 now.1 journal call s x.1 l.entries m.entries puts told was.sent;
        },
      )

-- A call, whole and on the pages as they stand.
module _ (first : ℕ) (call : GuestCall) (s : DriverState) (c d : RingContents) (x : DriverState × ReplyTo call) (fits : is_right call ≡ true)
    (honest : IsHonestWith true first s c) where
  pub call_righted : Plays (whole_call call s) c x d → (first_id : ℕ) (opened : ℕ → Connection) (journal : Journal)
      → IsRightWith first_id opened journal s c → GoesRightWith first_id opened (with_call call s x.1 journal) x.0 d
  call_righted plays = righted first call (whole_call call s) s c d x (λ before after. whole_with first s c call before after fits) honest plays
      (λ a log account now stay. call_says s c d a log account now stay call x plays)

  pub step_righted : Plays (makes_call call s) c x d → (first_id : ℕ) (opened : ℕ → Connection) (journal : Journal)
      → IsRightWith first_id opened journal s c → GoesRightWith first_id opened (with_call call s x.1 journal) x.0 d
  step_righted plays = righted first call (makes_call call s) s c d x (λ before after. made_with first s c call before after fits) honest plays
      (λ a log account now stay. step_says s c d a log account now stay call x plays)

pub poll_righted : (first first_id : ℕ) (opened : ℕ → Connection) (journal : Journal) (s : DriverState) (c d : RingContents) (x : DriverState × Polled)
    → IsHonestWith true first s c → IsRightWith first_id opened journal s c → Plays (poll_of s) c x d → GoesRightWith first_id opened journal x.0 d
poll_righted first first_id opened journal s c d x honest right plays = λ on m is.
    let before = told_before (poll_of s) c d x plays m is in
    let l : EndLog = before.0 in
    let on_then : c.honest ≡ true = sym (honest_stays (poll_of s) c d x plays) ∙ on in
    let was = right on_then l before.1 in
    let now = poll_ends first (account_of first_id opened journal) s c d x honest (λ on l is. (right on l is).received) plays on m is in
    let puts = poll_sent first s c d x honest plays on_then l before.1 m is in (
      now.0.opened,
      now.1.opened,
      record {
        received = further_as (account_of first_id opened journal) now.0 (λ id. received_by id journal) m.entries (slots_of x.0) now.1 (λ id. refl) now.2;
        sent = still_sent opened now.0.opened now.1.opened journal l.entries m.entries (λ k. puts k ∙ append-nil _) was.sent;
      },
    )
