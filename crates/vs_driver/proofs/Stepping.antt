-- What single steps come to.
use Rattle.std.proofs.Common.{◌≡◌, ℕ, Bool, false, None, Result, refl, sym, subst}
use Rattle.vs_contents.{specs.CallTree.{Done, bind}, proofs.{Leads.{leads_of, leads_bind}, Conditions.{may_first, may_of}}}
use Rattle.vs_ring_port.specs.{declared.queue.Queue.{Queue, TheVariants.Tx}, Contents.RingContents}
use Rattle.vs_limits.specs.declared.TheConstants.{HOST_CID}
use Rattle.vs_driver_parts.specs.{Conversations.{DriverTree, Round, connect_with_page, reap_one, round_of, start}, Playing.{CanMake, MayPublishAll, Plays, RingAllows}}
use Rattle.vs_driver_parts.specs.{declared.{answers.ConnectError.ConnectError, tally.Tally.Tally}, State.DriverState, Connections.connect_refusal, Steps.{connects, takes_page}}
use Rattle.laws_driver.{specs.Staged.{IsAtWorkWith, IsWorkingWith}, proofs.{Keeping.{keeps_end, keeps_may}, Stepping.takes_keeps}}

-- A step of a round in which nothing was done yet.
module _ (take : Round → DriverTree (Round × Bool)) (s : DriverState) (tally : Tally) (none : tally ≡ record { count = 0; reset = false }) where
  abbrev step : DriverTree DriverState
  step = bind (take (start s)) (λ r. Done r.0.state)

  pub stepped : (c m : RingContents) (r : Round) (b : Bool) → Plays (take (round_of s tally)) c (r, b) m → Plays step c r.state m
  stepped c m r b plays =
      let P : Tally → Type 0 = λ t. Plays (take (round_of s t)) c (r, b) m in
      leads_bind RingAllows (take (start s)) (λ x. Done x.0.state) c m m (r, b) r.state (subst P none plays) (refl, refl)

  pub may_step : (c : RingContents) → MayPublishAll step c → MayPublishAll (take (round_of s tally)) c
  may_step c may =
      let P : Tally → Type 0 = λ t. MayPublishAll (take (round_of s t)) c in
      subst P (sym none) (may_first CanMake RingAllows (take (start s)) (λ x. Done x.0.state) c may)

module _ (s : DriverState) where
  pub back_stepped : (c m : RingContents) (t : DriverState) (b : Bool) → Plays (reap_one s) c (t, b) m → Plays (takes_page Tx s) c t m
  back_stepped c m t b plays = leads_bind RingAllows (reap_one s) (λ x. Done x.0) c m m (t, b) t plays (refl, refl)

  -- of the queue that it is
  module _ (queue q : Queue) (is : queue ≡ q) where
    pub page_taken : (t : DriverState) (c m : RingContents) → Plays (takes_page q s) c t m → Plays (takes_page queue s) c t m
    page_taken t c m plays = let P : Queue → Type 0 = λ x. Plays (takes_page x s) c t m in subst P (sym is) plays

    pub may_take : (c : RingContents) → IsAtWorkWith queue s c → MayPublishAll (takes_page q s) c
    may_take c (hosts, first, honest) =
        let P : Queue → Type 0 = λ x. MayPublishAll (takes_page x s) c in
        subst P is (keeps_may (λ u e. IsWorkingWith queue hosts first u e) (takes_page queue s) c (takes_keeps hosts first queue s c honest))

  pub stays_honest : (queue : Queue) (hosts : Bool) (first : ℕ) (t : DriverState) (c m : RingContents) → Plays (takes_page queue s) c t m
      → IsWorkingWith queue hosts first s c → IsWorkingWith queue hosts first t m
  stays_honest queue hosts first t c m plays honest =
      keeps_end (λ u d. IsWorkingWith queue hosts first u d) (takes_page queue s) c m t (takes_keeps hosts first queue s c honest) plays

  -- connect
  module _ (port : ℕ) (free : connect_refusal HOST_CID port s ≡ None) where
    step_connects : connects port s ≡ connect_with_page HOST_CID port s
    step_connects = rw (free, connects) refl

    pub connect_stepped : (c m : RingContents) (x : DriverState × Result ℕ ConnectError) → Plays (connect_with_page HOST_CID port s) c x m
        → Plays (connects port s) c x m
    connect_stepped c m x plays = leads_of RingAllows _ _ c m x step_connects plays

    pub may_step_connect : (c : RingContents) → MayPublishAll (connects port s) c → MayPublishAll (connect_with_page HOST_CID port s) c
    may_step_connect c may = may_of CanMake RingAllows _ _ c step_connects may
