-- What staging, publishing and getting back pages keeps.
use Rattle.std.proofs.Common.{◌≡◌, ℕ, ◌+◌, ◌-◌, ◌==◌, Bool, true, false, cond, List, Option, Some, None, refl, ap}
use Rattle.vs_contents.specs.CallTree.{Done, Ask}
use Rattle.laws_history.specs.declared.packet.Packet.{Packet}
use Rattle.vs_ring_port.specs.{DriverCalls.{CanPublish, Publish, Reap}, declared.queue.Queue.{Queue, TheVariants.Tx}, Contents.RingContents, EndLog.{EndLog, log_published}}
use Rattle.vs_ring_port.specs.EndLog.{log_reaped, log_staged}
use Rattle.vs_driver_parts.specs.{Conversations.{one_more_in_flight, post_packet, publish_of, reap_all, reap_one, reaped, stage_of, stage_packet}, State.DriverState}
use Rattle.vs_driver_parts.specs.Playing.{RingAllows}
use Rattle.laws_driver.proofs.{Carrying.{Fact, IsTiedBy, PutsWith, RestsWith, published_other, reaped_same, rest_tied, staged_other, staged_with}, Ringing.{RestsAs, TiedAs, publishes}}
use Rattle.laws_driver.proofs.{Ringing.{Tells, can_publish, can_publish_other, moves, tells_weaker, can_stage, can_stage_other}, Keeping.{Keeps, keeps_while}}
use Rattle.vs_limits.specs.declared.TheConstants.{STAGED_MAX}

-- What holds of the driver that a conversation ends with, and while packets may be staged.
abbrev pub Rests : Bool → Bool → ℕ → Fact → DriverState → RingContents → Type 0
Rests fairly hosts first fact s c = Tells fairly (RestsWith fairly hosts first fact s) c

abbrev pub Ties : Bool → Bool → ℕ → Fact → DriverState → RingContents → Type 0
Ties fairly hosts first fact s c = Tells fairly (IsTiedBy fairly hosts first fact s) c

pub rests_tied : (fairly hosts : Bool) (first : ℕ) (fact : Fact) (s : DriverState) (c : RingContents) → Rests fairly hosts first fact s c → Ties fairly hosts first fact s c
rests_tied fairly hosts first fact s c rests = tells_weaker fairly (RestsWith fairly hosts first fact s) (IsTiedBy fairly hosts first fact s) (rest_tied fairly hosts first fact s) c rests

may_publish : (fairly hosts : Bool) (first : ℕ) (fact : Fact) (s : DriverState) (c : RingContents) → Ties fairly hosts first fact s c → CanPublish Tx c
may_publish fairly hosts first fact s c ties = can_publish fairly hosts first s c (tells_weaker fairly (IsTiedBy fairly hosts first fact s) (TiedAs fairly hosts first s) (λ l tie. tie.0) c ties)

-- What is staged on tx is published.
pub after_publish : (fairly hosts : Bool) (first : ℕ) (fact : Fact) (s : DriverState) (c d : RingContents) → RingAllows (Publish Tx) tt c d → Ties fairly hosts first fact s c
    → Rests fairly hosts first fact s d
after_publish fairly hosts first fact s c d made ties =
    moves fairly _ _ _ _ _ (log_published Tx) c d made.1 (IsTiedBy fairly hosts first fact s) (RestsWith fairly hosts first fact s)
    (λ l tie fair. (publishes fairly hosts first s l tie.0, tie.1)) ties

module _ (fairly hosts : Bool) (first : ℕ) (fact : Fact) where
  pub publish_tx : (s : DriverState) (c : RingContents) → Ties fairly hosts first fact s c → Keeps (Rests fairly hosts first fact) (publish_of Tx s) c
  publish_tx s c ties = (may_publish fairly hosts first fact s c ties, λ a d made. after_publish fairly hosts first fact s c d made ties)

  tx_by : (b : Bool) (s : DriverState) (c : RingContents) → Ties fairly hosts first fact s c
      → Keeps (Ties fairly hosts first fact) (cond b (Ask (Publish Tx) (λ _. Done (record s { staged = 0 }))) (Done (record s { staged = s.staged + 1 }))) c
  tx_by true s c ties = (may_publish fairly hosts first fact s c ties, λ a d made. rests_tied fairly hosts first fact s d (after_publish fairly hosts first fact s c d made ties))
  tx_by false s c ties = ties

  -- A packet is staged.
  pub stage_tx : (p : Packet) (s t : DriverState) (page : List ℕ) (c : RingContents)
      → ((l : EndLog) → TiedAs fairly hosts first s l → PutsWith fairly hosts first fact fact p s page t) → Ties fairly hosts first fact s c
      → Keeps (Ties fairly hosts first fact) (stage_packet page t) c
  stage_tx p s t page c puts ties = (
    can_stage fairly (IsTiedBy fairly hosts first fact s) p s t page c (λ l tie. (puts l tie.0).puts) ties,
    λ a d made. tx_by (t.staged + 1 == STAGED_MAX) (one_more_in_flight t) d
        (moves fairly _ _ _ _ _ (log_staged Tx page) c d made (IsTiedBy fairly hosts first fact s) (IsTiedBy fairly hosts first fact t)
        (λ l tie fair. staged_with fairly hosts first fact fact p s t page l (puts l tie.0) tie) ties),
  )

  -- One is posted, and carries the fact to another.
  pub post_tx : (after : Fact) (p : Packet) (s t : DriverState) (page : List ℕ) (c : RingContents)
      → ((l : EndLog) → RestsAs fairly hosts first s l → PutsWith fairly hosts first fact after p s page t) → Rests fairly hosts first fact s c
      → Keeps (λ u d. (u ≡ one_more_in_flight s) × Rests fairly hosts first after t d) (post_packet page s) c
  post_tx after p s t page c puts rests = (
    can_stage fairly (RestsWith fairly hosts first fact s) p s t page c (λ l rest. (puts l rest.0).puts) rests,
    λ a d made.
        let staged : Ties fairly hosts first after t d =
        moves fairly _ _ _ _ _ (log_staged Tx page) c d made (RestsWith fairly hosts first fact s) (IsTiedBy fairly hosts first after t)
        (λ l rest fair. staged_with fairly hosts first fact after p s t page l (puts l rest.0) (rest_tied fairly hosts first fact s l rest)) rests in
        (may_publish fairly hosts first after t d staged, λ b e published. (refl, after_publish fairly hosts first after t d e published staged)),
  )

  module _ (queue : Queue) (other : queue ≡ Tx → ⊥) where
    pub publish_other : (s : DriverState) (c : RingContents) → Rests fairly hosts first fact s c → Keeps (Rests fairly hosts first fact) (publish_of queue s) c
    publish_other s c rests = (
      can_publish_other queue c other,
      λ a d made. moves fairly _ _ _ _ _ (log_published queue) c d made.1 (RestsWith fairly hosts first fact s) (RestsWith fairly hosts first fact s)
          (λ l rest fair. published_other fairly hosts first fact queue other s l rest) rests,
    )

    other_by : (b : Bool) (s : DriverState) (c : RingContents) → Rests fairly hosts first fact s c
        → Keeps (Rests fairly hosts first fact) (cond b (Ask (Publish queue) (λ _. Done (record s { staged = 0 }))) (Done (record s { staged = s.staged + 1 }))) c
    other_by true s c rests = publish_other s c rests
    other_by false s c rests = rests

    -- A page is staged for the device to write into.
    pub stage_other : (s : DriverState) (page : List ℕ) (c : RingContents) → Rests fairly hosts first fact s c
        → Keeps (Rests fairly hosts first fact) (stage_of queue page s) c
    stage_other s page c rests = (
      can_stage_other queue page c other,
      λ a d made. other_by (s.staged + 1 == STAGED_MAX) s d
          (moves fairly _ _ _ _ _ (log_staged queue page) c d made (RestsWith fairly hosts first fact s) (RestsWith fairly hosts first fact s)
          (λ l rest fair. staged_other fairly hosts first fact queue page other s l rest) rests),
    )

  -- Transmit pages come back: nothing else changes.
  abbrev pub SameBut : DriverState → DriverState → RingContents → Type 0
  SameBut s t c = (t ≡ record s { in_flight = t.in_flight }) × Rests fairly hosts first fact s c

  got_back : (s t : DriverState) (page : Option (List ℕ)) → t ≡ record s { in_flight = t.in_flight }
      → (reaped t page).0 ≡ record s { in_flight = (reaped t page).0.in_flight }
  got_back s t None same = same
  got_back s t (Some page) same = ap (λ (x : DriverState). let y : DriverState = record x { in_flight = t.in_flight - 1 } in y) same

  reap_by : (b : Bool) (s t : DriverState) (c : RingContents) → SameBut s t c
      → Keeps (λ r d. SameBut s r.0 d) (cond b (Done (t, false)) (Ask (Reap Tx) (λ page. Done (reaped t page)))) c
  reap_by true s t c same = same
  reap_by false s t c same = (
    tt,
    λ page d made. (
      got_back s t page same.0,
      moves fairly _ _ _ _ _ (log_reaped Tx page) c d made.1 (RestsWith fairly hosts first fact s) (RestsWith fairly hosts first fact s)
          (λ l rest fair. reaped_same fairly hosts first fact s page l rest) same.1,
    ),
  )

  pub reap_keeps : (s : DriverState) (c : RingContents) → Rests fairly hosts first fact s c → Keeps (SameBut s) (reap_all s) c
  reap_keeps s c rests =
      keeps_while (SameBut s) reap_one (λ t d same. reap_by (t.in_flight == 0) s t d same) s.in_flight s c (refl, rests)
