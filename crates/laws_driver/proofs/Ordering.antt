-- The driver over any ring that tells its log: the walk of its conversations with nothing that an honest ring gives.
use Rattle.std.proofs.lemmas.Grind.{common_steps}
use Rattle.std.proofs.Common.{ℕ, ◌<◌, ◌≤◌, ◌^◌, true, false, List, [], ◌∷◌, take, Result, refl, ap, arith}
use Rattle.vs_contents.specs.CallTree.{Done, Ask}
use Rattle.laws_history.specs.declared.packet.Packet.{Packet}
use Rattle.vs_page.specs.{Log.{Driver, Log}, declared.log.LogEntry.{TheVariants.{GotEvent, GotPacket, Mark, PutPacket}}}
use Rattle.vs_ring_port.specs.{Contents.RingContents, DriverCalls.{DriverAnswer, DriverCall, DriverMoves, LoadCid, Publish, Reap, Stage}, EndLog.EndLog, Lists.Rings}
use Rattle.vs_ring_port.specs.declared.queue.Queue.{Queue, TheVariants.Tx}
use Rattle.vs_limits.specs.declared.TheConstants.{HOST_CID, LAST_PORT}
use Rattle.laws_tables.{specs.{Heard.{IsOrderedLog}, Matches.Matches}, proofs.{Fair.{older_ordered, ordered_in_order}, Keeps.{start_matches, takes_event}}}
use Rattle.vs_driver_parts.specs.{Conversations.{DriverTree, connect_to, new_of, new_state, poll_of, publish_of, send_of}, Playing.{Plays, RingAllows}, State.DriverState}
use Rattle.vs_driver_parts.specs.{Steps.{connects, sends, stages_owed, stages_reply, takes_page}, declared.answers.{ConnectError.ConnectError, Polled.Polled, Sent.Sent}}
use Rattle.laws_driver.proofs.{Calls.{CarriesConnect, CarriesSend, connect_keeps, connects_with, new_keeps, send_keeps, sends_with}, Changing.{Changes, wanting_changes}}
use Rattle.laws_driver.proofs.{Carrying.{Carries, Fact}, Keeping.{keeps_end}, Polling.poll_keeps, Resetting.resets, Tabling.fits_weaker, Taking.gets_packet}
use Rattle.laws_driver.proofs.{Putting.{connect_puts, owed_puts, reply_puts, send_puts}, Ringing.{Puts}, Staging.{Rests, Ties}, Stepping.{Works, owed_with, publish_with, reply_with, takes_with}}
use Rattle.laws_driver.specs.{Honest.{IsFitState, ends_of_state}, Told.{IsNew, IsStagedWith, IsToldAtWork, IsToldWith}}

-- Where packets come in order, each connection is the one that the log left.
abbrev ordered_from : ℕ → Fact
ordered_from first part s log = IsOrderedLog Driver log → Matches Driver first part log

module _ (first : ℕ) where
  put_told : (p : Packet) (s : DriverState) (page : List ℕ) (t : DriverState) (log : Log) → Puts false p s page t
      → (IsOrderedLog Driver log → Matches Driver first (ends_of_state s) log)
      → IsOrderedLog Driver (PutPacket p ∷ log) → Matches Driver first (ends_of_state t) (PutPacket p ∷ log)
  put_told p s page t log puts held ordered = puts.matches first log (held (older_ordered Driver (PutPacket p) log ordered))

  poll_told : Carries false false first (ordered_from first)
  poll_told = record {
    owed = λ what e s log fits stands owes m was fair held. put_told _ s _ _ log (owed_puts what e s fits stands owes) held;
    reply = λ r rest s log fits is m fair held. put_told _ s _ (record s { replies = rest }) log (reply_puts r rest s fits is) held;
    got = λ p s log fits ports whole m was fair held ordered. (gets_packet false p s fits ports whole).matches first log
        (held (older_ordered Driver (GotPacket p) log ordered)) (ordered_in_order Driver first p log ordered);
    event = λ id s log held ordered. takes_event Driver first id (ends_of_state s) log (held (older_ordered Driver (GotEvent id) log ordered));
    reset = λ cid s log less fits held ordered. (resets cid s less fits).matches first log (held (older_ordered Driver (Mark cid) log ordered));
  }

  connect_told : (peer to : ℕ) → peer < 2 ^ 64 → to < 2 ^ 32
      → CarriesConnect false false first peer to (ordered_from first) (λ answer. ordered_from first)
  connect_told peer to peer_fits to_fits = record {
    refused = λ why s log held. held;
    opens = λ s log fits free m was fair held. put_told _ s _ _ log (connect_puts peer to s peer_fits to_fits (λ all. absurd cc) fits free) held;
  }

  send_told : (id : ℕ) (bytes : List ℕ) → CarriesSend false false first id bytes (ordered_from first) (λ answer. ordered_from first)
  send_told id bytes = record {
    stopped = λ why s log held. held;
    unknown = λ s log none held. held;
    empty = λ s log held. held;
    full = λ n s log held. held;
    wants = λ e s log fits stands m held ordered. (wanting_changes s e fits stands).matches first log (held ordered);
    sends = λ e n s log fits stands known can few m was fair held. put_told _ s _ _ log (send_puts e (take n bytes) s fits stands can few) held;
  }

-- What a ring allows, one allows that tells the same log and isn't honest.
abbrev unsure : RingContents → RingContents
unsure c = record c { honest = false }

unsure_moves : (call : DriverCall) (a : DriverAnswer call) (L : Rings → Type 0) (f : Rings → Rings) (R : EndLog → Type 0) (g : EndLog → EndLog) (c d : RingContents)
    → DriverMoves call a L f R g c d → DriverMoves call a L f R g (unsure c) (unsure d)
unsure_moves call a L f R g c d made = grind (arith, common_steps)

unsure_allows : (call : DriverCall) (a : DriverAnswer call) (c d : RingContents) → RingAllows call a c d → RingAllows call a (unsure c) (unsure d)
unsure_allows (Stage queue page) a c d made = unsure_moves _ _ _ _ _ _ c d made
unsure_allows (Publish queue) a c d made = (made.0, unsure_moves _ _ _ _ _ _ c d made.1)
unsure_allows (Reap queue) a c d made = (made.0, unsure_moves _ _ _ _ _ _ c d made.1)
unsure_allows LoadCid a c d made = (made.0, unsure_moves _ _ _ _ _ _ c d made.1)

unsure_plays : {A : Type 0} (tree : DriverTree A) (c d : RingContents) (x : A) → Plays tree c x d → Plays tree (unsure c) x (unsure d)
unsure_plays (Done y) c d x plays = (plays.0, ap unsure plays.1)
unsure_plays (Ask call next) c d x plays =
    (plays.0, unsure plays.1, unsure_allows call plays.0 c plays.1 plays.2, unsure_plays (next plays.0) plays.1 d x plays.3)

-- What is said of the driver and the log.
module _ (first : ℕ) where
  rests_told : (s : DriverState) (c : RingContents) → IsToldWith first s c → Rests false false first (ordered_from first) s (unsure c)
  rests_told s c told = (refl, λ l is. let t = told l is in ((t.fits, tt, t.published), t.matches))

  told_rests : (s : DriverState) (c : RingContents) → Rests false false first (ordered_from first) s (unsure c) → IsToldWith first s c
  told_rests s c rests = λ l is. let r = rests.1 l is in record { fits = r.0.0; published = r.0.2; matches = r.1 }

  works_told : (queue : Queue) (s : DriverState) (c : RingContents) → IsToldAtWork queue first s c
      → Works queue false false first (ordered_from first) s (unsure c)
  works_told Tx s c told = (refl, λ l is. let t = told l is in ((t.fits, tt), t.matches))
  works_told _ s c told = rests_told s c told

  told_works : (queue : Queue) (s : DriverState) (c : RingContents) → Works queue false false first (ordered_from first) s (unsure c)
      → IsToldAtWork queue first s c
  told_works Tx s c ties = λ l is. let t = ties.1 l is in record { fits = t.0.0; matches = t.1 }
  told_works _ s c rests = told_rests s c rests

  -- Each call.
  module _ (s : DriverState) (c d : RingContents) where
    pub connect_stays : (peer to : ℕ) (x : DriverState × Result ℕ ConnectError) → peer < 2 ^ 64 → to < 2 ^ 32 → IsToldWith first s c
        → Plays (connect_to peer to s) c x d → IsToldWith first x.0 d
    connect_stays peer to x peer_fits to_fits told plays = told_rests x.0 d
        (keeps_end (λ y e. Rests false false first (ordered_from first) y.0 e) (connect_to peer to s) (unsure c) (unsure d) x
        (connect_keeps false false first peer to (ordered_from first) (λ answer. ordered_from first) (connect_told first peer to peer_fits to_fits) peer_fits to_fits
        (λ all. absurd cc) s (unsure c) (rests_told s c told)) (unsure_plays (connect_to peer to s) c d x plays))

    pub send_stays : (id : ℕ) (bytes : List ℕ) (x : DriverState × Sent) → IsToldWith first s c → Plays (send_of id bytes s) c x d → IsToldWith first x.0 d
    send_stays id bytes x told plays = told_rests x.0 d
        (keeps_end (λ y e. Rests false false first (ordered_from first) y.0 e) (send_of id bytes s) (unsure c) (unsure d) x
        (send_keeps false false first id bytes (ordered_from first) (λ answer. ordered_from first) (send_told first id bytes) s (unsure c) (rests_told s c told))
        (unsure_plays (send_of id bytes s) c d x plays))

    pub poll_stays : (x : DriverState × Polled) → IsToldWith first s c → Plays (poll_of s) c x d → IsToldWith first x.0 d
    poll_stays x told plays = told_rests x.0 d
        (keeps_end (λ y e. Rests false false first (ordered_from first) y.0 e) (poll_of s) (unsure c) (unsure d) x
        (poll_keeps false false first (ordered_from first) (poll_told first) s (unsure c) (rests_told s c told)) (unsure_plays (poll_of s) c d x plays))

    -- On the pages as they stand.
    pub connects_stays : (to : ℕ) (x : DriverState × Result ℕ ConnectError) → to < 2 ^ 32 → IsToldWith first s c
        → Plays (connects to s) c x d → IsToldWith first x.0 d
    connects_stays to x to_fits told plays = told_rests x.0 d
        (keeps_end (λ y e. Rests false false first (ordered_from first) y.0 e) (connects to s) (unsure c) (unsure d) x
        (connects_with false false first HOST_CID to (ordered_from first) (λ answer. ordered_from first) (connect_told first HOST_CID to (omega arith) to_fits)
        (omega arith) to_fits (λ all. refl) s (unsure c) (rests_told s c told)) (unsure_plays (connects to s) c d x plays))

    pub sends_stays : (id : ℕ) (bytes : List ℕ) (x : DriverState × Sent) → IsToldWith first s c → Plays (sends id bytes s) c x d → IsToldWith first x.0 d
    sends_stays id bytes x told plays = told_rests x.0 d
        (keeps_end (λ y e. Rests false false first (ordered_from first) y.0 e) (sends id bytes s) (unsure c) (unsure d) x
        (sends_with false false first id bytes (ordered_from first) (λ answer. ordered_from first) (send_told first id bytes) s (unsure c) (rests_told s c told))
        (unsure_plays (sends id bytes s) c d x plays))

    -- Single steps.
    pub takes_stays : (queue : Queue) (t : DriverState) → IsToldAtWork queue first s c → Plays (takes_page queue s) c t d → IsToldAtWork queue first t d
    takes_stays queue t told plays = told_works queue t d
        (keeps_end (Works queue false false first (ordered_from first)) (takes_page queue s) (unsure c) (unsure d) t
        (takes_with false false first (ordered_from first) (poll_told first) queue s (unsure c) (works_told queue s c told))
        (unsure_plays (takes_page queue s) c d t plays))

    pub publish_stays : (queue : Queue) (t : DriverState) → IsToldAtWork queue first s c → Plays (publish_of queue s) c t d → IsToldWith first t d
    publish_stays queue t told plays = told_rests t d
        (keeps_end (Rests false false first (ordered_from first)) (publish_of queue s) (unsure c) (unsure d) t
        (publish_with false false first (ordered_from first) (poll_told first) queue s (unsure c) (works_told queue s c told))
        (unsure_plays (publish_of queue s) c d t plays))

    pub reply_stays : (t : DriverState) → IsStagedWith first s c → Plays (stages_reply s) c t d → IsStagedWith first t d
    reply_stays t told plays = told_works Tx t d
        (keeps_end (Ties false false first (ordered_from first)) (stages_reply s) (unsure c) (unsure d) t
        (reply_with false false first (ordered_from first) (poll_told first) s (unsure c) (works_told Tx s c told)) (unsure_plays (stages_reply s) c d t plays))

    pub owed_stays : (slot : ℕ) (t : DriverState) → IsStagedWith first s c → Plays (stages_owed slot s) c t d → IsStagedWith first t d
    owed_stays slot t told plays = told_works Tx t d
        (keeps_end (Ties false false first (ordered_from first)) (stages_owed slot s) (unsure c) (unsure d) t
        (owed_with false false first (ordered_from first) (poll_told first) slot s (unsure c) (works_told Tx s c told)) (unsure_plays (stages_owed slot s) c d t plays))

  -- Calls that make no use of the ring.
  pub still_told : (s t : DriverState) (c : RingContents) → (IsFitState false s → Changes false s t) → IsToldWith first s c → IsToldWith first t c
  still_told s t c step told = λ l is.
      let was = told l is in
      let go = step was.fits in
      record { fits = go.fits; published = was.published; matches = λ ordered. go.matches first l.entries (was.matches ordered) }

-- A driver that is made.
new_ordered : (size port id cid : ℕ) → Matches Driver cid (ends_of_state (record (new_state size port id 0) { cid = cid })) []
new_ordered size port id cid = start_matches Driver cid port

pub new_told : (size port id : ℕ) (c d : RingContents) (s : DriverState) → port ≤ LAST_PORT → IsNew c → Plays (new_of size port id) c s d
    → IsToldWith s.cid s d
new_told size port id c d s fits new plays =
    let starts : Fact = λ part t log. IsOrderedLog Driver log → Matches Driver part.cid part log in
    let kept : Rests false true s.cid starts s (unsure d) =
    keeps_end (λ t e. Rests false true t.cid starts t e) (new_of size port id) (unsure c) (unsure d) s
    (new_keeps size port id fits false starts (λ cid ordered. new_ordered size port id cid) (unsure c) (refl, new))
    (unsure_plays (new_of size port id) c d s plays) in
    λ l is. let r = kept.1 l is in record { fits = fits_weaker true false (λ never. absurd cc) s r.0.0; published = r.0.2; matches = r.1 }
