-- What calls on the ring carry to their ends.
use Rattle.std.proofs.{Common.{ℕ, ◌<◌, ◌≤◌, ◌^◌, List, [], Result, refl, arith, true}, lemmas.Grind.common_steps}
use Rattle.vs_limits.specs.declared.TheConstants.{HOST_CID, LAST_PORT}
use Rattle.vs_ring_port.specs.Contents.{RingContents}
use Rattle.vs_driver_parts.specs.{declared.answers.{ConnectError.ConnectError, Polled.Polled, Sent.Sent}, Conversations.{connect_of, new_of, new_state, poll_of, send_of}}
use Rattle.vs_driver_parts.specs.{Playing.Plays, State.DriverState}
use Rattle.laws_driver.proofs.{Polling.poll_keeps, Calls.{connect_keeps, new_keeps, send_keeps}, Carrying.Fact, Keeping.keeps_end, Ringing.at_rest, Staging.Rests}
use Rattle.laws_driver.{proofs.Carried.{Connecting.connect_carries, Polling.{Further, poll_carries}, Changing.send_receives}, specs.Honest.{IsFresh, IsHonestWith}}
use Rattle.laws_driver.specs.{Honest.slots_of, Carried.{Received.{Account, AreReceived, GoesOnWith, IsReceivedWith, no_account}, Senders.{IsRightJournal, IsRightWith}}}

abbrev pub received_by : Account → Fact
received_by a part s log = AreReceived a log (slots_of s)

pub further_from : (first : ℕ) (a : Account) (s : DriverState) (c : RingContents) → IsHonestWith true first s c → IsReceivedWith a s c → Rests true true first (Further a) s c
further_from first a s c honest account = λ on l is.
    (at_rest true first s l (honest on l is), (a, record { first_id = refl; opened = λ id some. refl; received = λ id. refl }, account on l is))

pub send_ends : (first id : ℕ) (bytes : List ℕ) (a : Account) (s : DriverState) (c d : RingContents) (x : DriverState × Sent)
    → IsHonestWith true first s c → IsReceivedWith a s c → Plays (send_of id bytes s) c x d → IsReceivedWith a x.0 d
send_ends first id bytes a s c d x honest account plays = λ on l is.
    let starts : Rests true true first (received_by a) s c = λ on l is. (at_rest true first s l (honest on l is), account on l is) in
    let kept : Rests true true first (received_by a) x.0 d =
    keeps_end _ (send_of id bytes s) c d x (send_keeps true true first id bytes _ _ (send_receives first id bytes a) s c starts) plays in
    (kept on l is).1

-- The account goes on.
pub poll_ends : (first : ℕ) (a : Account) (s : DriverState) (c d : RingContents) (x : DriverState × Polled)
    → IsHonestWith true first s c → IsReceivedWith a s c → Plays (poll_of s) c x d → GoesOnWith a x.0 d
poll_ends first a s c d x honest account plays = λ on l is.
    let kept : Rests true true first (Further a) x.0 d =
    keeps_end _ (poll_of s) c d x (poll_keeps true true first (Further a) (poll_carries first a) s c (further_from first a s c honest account)) plays in
    (kept on l is).1

pub connect_ends : (first host : ℕ) (a : Account) (s : DriverState) (c d : RingContents) (x : DriverState × Result ℕ ConnectError) → host < 2 ^ 32
    → IsHonestWith true first s c → IsReceivedWith a s c → Plays (connect_of host s) c x d → GoesOnWith a x.0 d
connect_ends first host a s c d x port honest account plays = λ on l is.
    let kept : Rests true true first (Further a) x.0 d =
    keeps_end _ (connect_of host s) c d x
    (connect_keeps true true first HOST_CID host (Further a) _ (connect_carries first host a) (omega arith) port (λ all. refl) s c (further_from first a s c honest account)) plays in
    (kept on l is).1

-- Nothing was sent before the first call.
pub none_righted : (size port id : ℕ) → IsRightJournal id (no_account id).opened [] [] (slots_of (new_state size port id 0))
none_righted size port id = grind (arith, common_steps)

abbrev starts : ℕ → Fact
starts id part s log = IsRightJournal id (no_account id).opened [] log (slots_of s)

pub new_righted : (size port id : ℕ) (c d : RingContents) (s : DriverState) → port ≤ LAST_PORT → IsFresh c → Plays (new_of size port id) c s d
    → IsRightWith id (no_account id).opened [] s d
new_righted size port id c d s fits fresh plays = λ on l is.
    let kept : Rests true true s.cid (starts id) s d =
    keeps_end (λ t e. Rests true true t.cid (starts id) t e) (new_of size port id) c d s
    (new_keeps size port id fits true (starts id) (λ cid. none_righted size port id) c fresh) plays in
    (kept on l is).1
