-- What each single step of the driver keeps over an honest ring.
use Rattle.std.proofs.Common.{ℕ, ◌<◌, ◌^◌, ◌==◌, Bool, true, false, cond, List, Option, Some, None, Result, refl, arith}
use Rattle.vs_contents.specs.CallTree.{Done, Ask}
use Rattle.vs_limits.specs.declared.TheConstants.{HOST_CID}
use Rattle.vs_ring_port.specs.{declared.queue.Queue.{TheVariants.{Rx, Tx, Event}, Queue}, Contents.RingContents, DriverCalls.Reap, EndLog.{EndLog, log_reaped}}
use Rattle.vs_driver_parts.specs.{Conversations.{publish_of, put_owed, put_reply, reap_one, reaped, start, take_event, take_packet}, Steps.{connects, sends, stages_owed}}
use Rattle.vs_driver_parts.specs.{Steps.{stages_reply, takes_page}, declared.answers.{ConnectError.ConnectError, Sent.Sent}, State.DriverState}
use Rattle.laws_driver.proofs.{Staging.{Rests, Ties, publish_other, publish_tx}, Calls.{connect_nothing, connects_with, honest_of, rests_of, send_nothing, sends_with}}
use Rattle.laws_driver.proofs.{Carrying.{Carries, Fact, IsTiedBy, carries_nothing, nothing}, Polling.{not_tx_event, not_tx_rx, put_owed_keeps, put_reply_keeps, take_event_keeps}}
use Rattle.laws_driver.{proofs.{Polling.take_packet_keeps, Keeping.{Keeps, keeps_bind, keeps_weaker}, Ringing.{moves, tells_weaker}}, specs.{Honest.IsHonestWith, Staged.IsTied}}
use Rattle.laws_driver.specs.Staged.{IsTiedWith, IsWorkingWith}

-- What holds while a queue is worked on: on tx packets may be staged.
abbrev pub Works : Queue → Bool → Bool → ℕ → Fact → DriverState → RingContents → Type 0
Works Tx fairly hosts first fact s c = Ties fairly hosts first fact s c
Works _ fairly hosts first fact s c = Rests fairly hosts first fact s c

module _ (fairly hosts : Bool) (first : ℕ) (fact : Fact) (steps : Carries fairly hosts first fact) where
  -- A transmit page comes back.
  back_same : (s : DriverState) (page : Option (List ℕ)) (l : EndLog) → IsTiedBy fairly hosts first fact s l → IsTiedBy fairly hosts first fact (reaped s page).0 (log_reaped Tx page l)
  back_same s None l tie = tie
  back_same s (Some page) l tie = tie

  back_by : (b : Bool) (s : DriverState) (c : RingContents) → Ties fairly hosts first fact s c
      → Keeps (λ r d. Ties fairly hosts first fact r.0 d) (cond b (Done (s, false)) (Ask (Reap Tx) (λ page. Done (reaped s page)))) c
  back_by true s c ties = ties
  back_by false s c ties = (
    tt,
    λ page d made. moves fairly _ _ _ _ _ (log_reaped Tx page) c d made.1 (IsTiedBy fairly hosts first fact s) (IsTiedBy fairly hosts first fact (reaped s page).0)
        (λ l tie fair. back_same s page l tie) ties,
  )

  -- A page is taken, and a receive or event page staged again.
  pub takes_with : (queue : Queue) (s : DriverState) (c : RingContents) → Works queue fairly hosts first fact s c
      → Keeps (Works queue fairly hosts first fact) (takes_page queue s) c
  takes_with Tx s c ties = keeps_bind (Ties fairly hosts first fact) (reap_one s) (λ r. Done r.0) c (back_by (s.in_flight == 0) s c ties)
  takes_with Rx s c rests =
      keeps_bind (Rests fairly hosts first fact) (take_packet (start s)) (λ r. Done r.0.state) c (take_packet_keeps fairly hosts first fact steps (start s) c rests)
  takes_with Event s c rests =
      keeps_bind (Rests fairly hosts first fact) (take_event (start s)) (λ r. Done r.0.state) c (take_event_keeps fairly hosts first fact steps (start s) c rests)

  pub publish_with : (queue : Queue) (s : DriverState) (c : RingContents) → Works queue fairly hosts first fact s c → Keeps (Rests fairly hosts first fact) (publish_of queue s) c
  publish_with Tx s c ties = publish_tx fairly hosts first fact s c ties
  publish_with Rx s c rests = publish_other fairly hosts first fact Rx not_tx_rx s c rests
  publish_with Event s c rests = publish_other fairly hosts first fact Event not_tx_event s c rests

  pub reply_with : (s : DriverState) (c : RingContents) → Ties fairly hosts first fact s c → Keeps (Ties fairly hosts first fact) (stages_reply s) c
  reply_with s c ties = keeps_bind (Ties fairly hosts first fact) (put_reply (start s)) (λ r. Done r.0.state) c (put_reply_keeps fairly hosts first fact steps (start s) c ties)

  pub owed_with : (slot : ℕ) (s : DriverState) (c : RingContents) → Ties fairly hosts first fact s c → Keeps (Ties fairly hosts first fact) (stages_owed slot s) c
  owed_with slot s c ties = keeps_bind (Ties fairly hosts first fact) (put_owed slot (start s)) (λ r. Done r.0.state) c (put_owed_keeps fairly hosts first fact steps slot (start s) c ties)

-- The same of the driver and its log alone.
module _ (hosts : Bool) (first : ℕ) where
  working_of : (queue : Queue) (s : DriverState) (c : RingContents) → Works queue true hosts first nothing s c → IsWorkingWith queue hosts first s c
  working_of Tx s c ties = tells_weaker true (IsTiedBy true hosts first nothing s) (IsTied hosts first s) (λ l tie. tie.0) c ties
  working_of _ s c rests = honest_of hosts first nothing s c rests

  works_of : (queue : Queue) (s : DriverState) (c : RingContents) → IsWorkingWith queue hosts first s c → Works queue true hosts first nothing s c
  works_of Tx s c ties = tells_weaker true (IsTied hosts first s) (IsTiedBy true hosts first nothing s) (λ l tie. (tie, tt)) c ties
  works_of _ s c honest = rests_of hosts first s c honest

  pub takes_keeps : (queue : Queue) (s : DriverState) (c : RingContents) → IsWorkingWith queue hosts first s c
      → Keeps (IsWorkingWith queue hosts first) (takes_page queue s) c
  takes_keeps queue s c working = keeps_weaker (Works queue true hosts first nothing) (IsWorkingWith queue hosts first) (working_of queue) (takes_page queue s) c
      (takes_with true hosts first nothing (carries_nothing true hosts first) queue s c (works_of queue s c working))

  pub publish_keeps : (queue : Queue) (s : DriverState) (c : RingContents) → IsWorkingWith queue hosts first s c
      → Keeps (IsHonestWith hosts first) (publish_of queue s) c
  publish_keeps queue s c working = keeps_weaker (Rests true hosts first nothing) (IsHonestWith hosts first) (honest_of hosts first nothing) (publish_of queue s) c
      (publish_with true hosts first nothing (carries_nothing true hosts first) queue s c (works_of queue s c working))

  pub reply_keeps : (s : DriverState) (c : RingContents) → IsTiedWith hosts first s c → Keeps (IsTiedWith hosts first) (stages_reply s) c
  reply_keeps s c ties = keeps_weaker (Ties true hosts first nothing) (IsTiedWith hosts first) (working_of Tx) (stages_reply s) c
      (reply_with true hosts first nothing (carries_nothing true hosts first) s c (works_of Tx s c ties))

  pub owed_keeps : (slot : ℕ) (s : DriverState) (c : RingContents) → IsTiedWith hosts first s c → Keeps (IsTiedWith hosts first) (stages_owed slot s) c
  owed_keeps slot s c ties = keeps_weaker (Ties true hosts first nothing) (IsTiedWith hosts first) (working_of Tx) (stages_owed slot s) c
      (owed_with true hosts first nothing (carries_nothing true hosts first) slot s c (works_of Tx s c ties))

-- connect and send, on the pages as they stand.
module _ (hosts : Bool) (first : ℕ) where
  abbrev pub ConnectHonest : DriverState × Result ℕ ConnectError → RingContents → Type 0
  ConnectHonest x c = IsHonestWith hosts first x.0 c

  abbrev pub SendHonest : DriverState × Sent → RingContents → Type 0
  SendHonest x c = IsHonestWith hosts first x.0 c

  pub connects_keeps : (host : ℕ) (s : DriverState) (c : RingContents) → host < 2 ^ 32 → IsHonestWith hosts first s c → Keeps ConnectHonest (connects host s) c
  connects_keeps host s c port honest =
      keeps_weaker (λ x d. Rests true hosts first nothing x.0 d) ConnectHonest (λ x d. honest_of hosts first nothing x.0 d) (connects host s) c
      (connects_with true hosts first HOST_CID host nothing (λ answer. nothing) (connect_nothing true hosts first HOST_CID host) (omega arith) port (λ all. refl) s c
      (rests_of hosts first s c honest))

  pub sends_keeps : (id : ℕ) (bytes : List ℕ) (s : DriverState) (c : RingContents) → IsHonestWith hosts first s c → Keeps SendHonest (sends id bytes s) c
  sends_keeps id bytes s c honest =
      keeps_weaker (λ x d. Rests true hosts first nothing x.0 d) SendHonest (λ x d. honest_of hosts first nothing x.0 d) (sends id bytes s) c
      (sends_with true hosts first id bytes nothing (λ answer. nothing) (send_nothing true hosts first id bytes) s c (rests_of hosts first s c honest))
