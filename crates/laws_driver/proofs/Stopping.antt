-- Where a stage of a poll ends for want of a page: the last load showed none that isn't taken.
use Rattle.std.proofs.lemmas.Grind.{common_steps}
use Rattle.std.proofs.Common.{◌≡◌, ◌<◌, ◌≤◌, ◌+◌, ℕ, zero, suc, nat_lt, nat_le, Bool, true, false, cond, List, length, Option, Some, None, refl, subst, arith}
use Rattle.std.proofs.lemmas.Bool.{leb-true, ltb-true}
use Rattle.vs_contents.specs.{CallTree.{Ask, Done, bind, while_up_to}, Contents.Relates}
use Rattle.vs_limits.specs.declared.TheConstants.{DRIVER_REPLIES_FULL}
use Rattle.vs_ring_port.specs.{Contents.RingContents, DriverCalls.{DriverAnswer, DriverCall, DriverLearns, LoadCid, Publish, Reap}, Known.{Known, StopsAt, after_stores}}
use Rattle.vs_ring_port.{specs.declared.queue.Queue.{Queue, TheVariants.{Event, Rx, Tx}}, proofs.{Stopping.{NotFewer, at_first, stops_by}}}
use Rattle.vs_driver_parts.specs.{Playing.{Plays, RingAllows}, Receiving.{after_reset, is_reset_event, on_page}, Conversations.{DriverTree, Round, event_reaped}}
use Rattle.vs_driver_parts.specs.Conversations.{packet_reaped, published, reap_all, reap_one, staged_again, start, take_all, take_event, take_packet, all_taken}
use Rattle.vs_driver_parts.specs.State.{DriverState}

-- What holds at each end of a conversation.
abbrev Keeps : {A : Type 0} → (A → RingContents → Type 0) → DriverTree A → RingContents → Type 0
Keeps Q (Done x) c = Q x c
Keeps Q (Ask call go) c = (a : DriverAnswer call) (d : RingContents) → RingAllows call a c d → Keeps Q (go a) d

keeps_end : {A : Type 0} (Q : A → RingContents → Type 0) (t : DriverTree A) (c d : RingContents) (x : A) → Keeps Q t c → Plays t c x d → Q x d
keeps_end {A} Q (Done y) c d x keeps plays =
    let P : A → Type 0 = λ z. Q z c in
    let R : RingContents → Type 0 = λ e. Q x e in
    subst R plays.1 (subst P plays.0 keeps)
keeps_end Q (Ask call go) c d x keeps plays = keeps_end Q (go plays.0) plays.1 d x (keeps plays.0 plays.1 plays.2) plays.3

keeps_then : {A B : Type 0} (P : B → RingContents → Type 0) (Q : A → RingContents → Type 0) (t : DriverTree B) (f : B → DriverTree A)
    (c : RingContents) → Keeps P t c → ((x : B) (d : RingContents) → P x d → Keeps Q (f x) d) → Keeps Q (bind t f) c
keeps_then P Q (Done x) f c keeps rest = rest x c keeps
keeps_then P Q (Ask call go) f c keeps rest = λ a d allowed. keeps_then P Q (go a) f d (keeps a d allowed) rest

-- a publication leaves what was seen
stored_by : (queue : Queue) (a b c : Option Known) (R : Known → Known → Type 0)
    → ((l m : Known) → R l m → (n : ℕ) × (m ≡ after_stores n queue l))
    → Relates a b (StopsAt queue) → Relates b c R → Relates a c (StopsAt queue)
stored_by queue a b c R is first stored = grind (arith, common_steps)

module _ (queue : Queue) (a : Option Known) where
  abbrev Grown : RingContents → Type 0
  Grown d = Relates a d.known (NotFewer queue)

  abbrev Stops : RingContents → Type 0
  Stops d = Relates a d.known (StopsAt queue)

  grown_call : (call : DriverCall) (answer : DriverAnswer call) (c d : RingContents) → RingAllows call answer c d → Grown c → Grown d
  grown_call call answer c d allowed grown = grind (arith, common_steps)

  stops_none : (c d : RingContents) → RingAllows (Reap queue) None c d → Grown c → Stops d
  stops_none c d allowed grown = stops_by (List ℕ) queue a c.known d.known grown allowed.1.known

  stops_published : (c d : RingContents) → RingAllows (Publish queue) tt c d → Stops c → Stops d
  stops_published c d allowed stops =
      stored_by queue a c.known d.known (DriverLearns (Publish queue) tt c.log) (λ l m learns. (_, learns.2)) stops allowed.1.known

  -- A round that takes at most n pages, while fewer replies than a limit are owed.
  module _ (n limit : ℕ) where
    abbrev Ends : Round → RingContents → Type 0
    Ends r d = Grown d × (r.count < n → length r.state.replies < limit → Stops d)

    abbrev Steps : ℕ → Round × Bool → RingContents → Type 0
    Steps m (r, true) d = Grown d × (r.count + m ≡ n)
    Steps m (r, false) d = Ends r d

    by_last : (m : ℕ) (step : Round → DriverTree (Round × Bool))
        → ((r : Round) (d : RingContents) → Grown d → r.count + m ≡ n → Keeps Ends (while_up_to m step r) d)
        → (x : Round × Bool) (d : RingContents) → Steps m x d
        → Keeps Ends (elim x.1 [ true ↦ while_up_to m step x.0 | false ↦ Done x.0 ]) d
    by_last m step rest (r, true) d on = rest r d on.0 on.1
    by_last m step rest (r, false) d ends = ends

    loop : (step : Round → DriverTree (Round × Bool))
        → ((m : ℕ) (r : Round) (c : RingContents) → Grown c → r.count + suc m ≡ n → Keeps (Steps m) (step r) c)
        → (m : ℕ) (r : Round) (c : RingContents) → Grown c → r.count + m ≡ n → Keeps Ends (while_up_to m step r) c
    loop step each zero r c grown left = (grown, λ fewer few. absurd (omega (arith, fewer, left)))
    loop step each (suc m) r c grown left =
        keeps_then (Steps m) Ends (step r) (λ x. elim x.1 [ true ↦ while_up_to m step x.0 | false ↦ Done x.0 ]) c (each m r c grown left)
        (by_last m step (λ q d on more. loop step each m q d on more))

    again : (m : ℕ) (r : Round) (c : RingContents) → Grown c → r.count + m ≡ n → Keeps (Steps m) (staged_again queue r) c
    again m r c grown left = grind (arith, common_steps)

    ends_published : (r : Round) (c : RingContents) → Ends r c → Keeps Ends (published queue r) c
    ends_published r c ends = λ u d allowed.
        (grown_call (Publish queue) u c d allowed ends.0, λ fewer few. stops_published c d allowed (ends.1 fewer few))

    -- The whole stage, which ends by publishing what it staged.
    stage : (step : Round → DriverTree (Round × Bool))
        → ((m : ℕ) (r : Round) (c : RingContents) → Grown c → r.count + suc m ≡ n → Keeps (Steps m) (step r) c)
        → (s : DriverState) (c d : RingContents) (r : Round) → Grown c → s.size ≡ n → Plays (take_all queue step s) c r d → Ends r d
    stage step each s c d r grown size =
        keeps_end Ends (take_all queue step s) c d r
        (keeps_then Ends Ends (all_taken step s) (published queue) c (loop step each s.size (start s) c grown (omega (arith, size))) ends_published)

-- PACKETS
module _ (s : DriverState) (c : RingContents) where
  packet_step : (m : ℕ) (r : Round) (d : RingContents) → Grown Rx c.known d → r.count + suc m ≡ s.size
      → Keeps (Steps Rx c.known s.size DRIVER_REPLIES_FULL m) (take_packet r) d
  packet_step m r d grown left = by (nat_le DRIVER_REPLIES_FULL (length r.state.replies)) refl
    where
      found : (page : Option (List ℕ)) (e : RingContents) → RingAllows (Reap Rx) page d e
          → Keeps (Steps Rx c.known s.size DRIVER_REPLIES_FULL m) (packet_reaped r page) e
      found None e allowed = (grown_call Rx c.known (Reap Rx) None d e allowed grown, λ fewer few. stops_none Rx c.known d e allowed grown)
      found (Some bytes) e allowed =
          again Rx c.known s.size DRIVER_REPLIES_FULL m (record r { state = on_page bytes r.state; count = r.count + 1 }) e
          (grown_call Rx c.known (Reap Rx) (Some bytes) d e allowed grown) (omega (arith, left))

      by : (b : Bool) → nat_le DRIVER_REPLIES_FULL (length r.state.replies) ≡ b
          → Keeps (Steps Rx c.known s.size DRIVER_REPLIES_FULL m) (cond b (Done (r, false)) (Ask (Reap Rx) (packet_reaped r))) d
      by true full = (grown, λ fewer few. absurd (omega (arith, few, leb-true DRIVER_REPLIES_FULL (length r.state.replies) full)))
      by false full = λ page e allowed. found page e allowed

pub packets_stop : (s : DriverState) (c d : RingContents) (r : Round) → Plays (take_all Rx take_packet s) c r d → r.count < s.size
    → length r.state.replies < DRIVER_REPLIES_FULL → Relates c.known d.known (StopsAt Rx)
packets_stop s c d r plays =
    (stage Rx c.known s.size DRIVER_REPLIES_FULL take_packet (packet_step s c) s c d r (at_first Rx c.known) refl plays).1

-- EVENTS
module _ (s : DriverState) (c : RingContents) where
  abbrev limit : ℕ
  limit = DRIVER_REPLIES_FULL + 1

  event_step : (m : ℕ) (r : Round) (d : RingContents) → Grown Event c.known d → r.count + suc m ≡ s.size
      → Keeps (Steps Event c.known s.size limit m) (take_event r) d
  event_step m r d grown left = by (nat_lt DRIVER_REPLIES_FULL (length r.state.replies)) refl
    where
      more : (r.count + 1) + m ≡ s.size
      more = omega (arith, left)

      heard : (bytes : List ℕ) (e : RingContents) → Grown Event c.known e → (b : Bool)
          → Keeps (Steps Event c.known s.size limit m) (bind (cond b (Ask LoadCid (λ cid.
          Done (record r { state = after_reset cid r.state; count = r.count + 1; reset = true })))
          (Done (record r { count = r.count + 1 }))) (staged_again Event)) e
      heard bytes e on true = λ cid f also.
          again Event c.known s.size limit m (record r { state = after_reset cid r.state; count = r.count + 1; reset = true }) f
          (grown_call Event c.known LoadCid cid e f also on) more
      heard bytes e on false = again Event c.known s.size limit m (record r { count = r.count + 1 }) e on more

      found : (page : Option (List ℕ)) (e : RingContents) → RingAllows (Reap Event) page d e
          → Keeps (Steps Event c.known s.size limit m) (event_reaped r page) e
      found None e allowed =
          (grown_call Event c.known (Reap Event) None d e allowed grown, λ fewer few. stops_none Event c.known d e allowed grown)
      found (Some bytes) e allowed =
          heard bytes e (grown_call Event c.known (Reap Event) (Some bytes) d e allowed grown) (is_reset_event bytes)

      by : (b : Bool) → nat_lt DRIVER_REPLIES_FULL (length r.state.replies) ≡ b
          → Keeps (Steps Event c.known s.size limit m) (cond b (Done (r, false)) (Ask (Reap Event) (event_reaped r))) d
      by true full = (grown, λ fewer few. absurd (omega (arith, few, ltb-true DRIVER_REPLIES_FULL (length r.state.replies) full)))
      by false full = λ page e allowed. found page e allowed

pub events_stop : (s : DriverState) (c d : RingContents) (r : Round) → Plays (take_all Event take_event s) c r d → r.count < s.size
    → length r.state.replies ≤ DRIVER_REPLIES_FULL → Relates c.known d.known (StopsAt Event)
events_stop s c d r plays fewer few =
    (stage Event c.known s.size (DRIVER_REPLIES_FULL + 1) take_event (event_step s c) s c d r (at_first Event c.known) refl plays).1 fewer (omega (arith, few))

-- TRANSMIT PAGES
module _ (a : Option Known) where
  abbrev PagesEnd : DriverState → RingContents → Type 0
  PagesEnd s d = 0 < s.in_flight → Stops Tx a d

  abbrev PagesStep : ℕ → DriverState × Bool → RingContents → Type 0
  PagesStep m (s, true) d = Grown Tx a d × (s.in_flight ≡ m)
  PagesStep m (s, false) d = PagesEnd s d

  one_reaped : (m : ℕ) (s : DriverState) (c : RingContents) → Grown Tx a c → s.in_flight ≡ suc m → Keeps (PagesStep m) (reap_one s) c
  one_reaped m s c grown left = grind (arith, common_steps)

  pages_last : (m : ℕ) → ((s : DriverState) (d : RingContents) → Grown Tx a d → s.in_flight ≡ m → Keeps PagesEnd (while_up_to m reap_one s) d)
      → (x : DriverState × Bool) (d : RingContents) → PagesStep m x d
      → Keeps PagesEnd (elim x.1 [ true ↦ while_up_to m reap_one x.0 | false ↦ Done x.0 ]) d
  pages_last m rest (s, true) d on = rest s d on.0 on.1
  pages_last m rest (s, false) d ends = ends

  pages_loop : (m : ℕ) (s : DriverState) (c : RingContents) → Grown Tx a c → s.in_flight ≡ m → Keeps PagesEnd (while_up_to m reap_one s) c
  pages_loop zero s c grown left = λ some. absurd (omega (arith, some, left))
  pages_loop (suc m) s c grown left =
      keeps_then (PagesStep m) PagesEnd (reap_one s) (λ x. elim x.1 [ true ↦ while_up_to m reap_one x.0 | false ↦ Done x.0 ]) c
      (one_reaped m s c grown left) (pages_last m (λ q d on more. pages_loop m q d on more))

pub pages_stop : (s t : DriverState) (c d : RingContents) → Plays (reap_all s) c t d → 0 < t.in_flight → Relates c.known d.known (StopsAt Tx)
pages_stop s t c d plays =
    keeps_end (PagesEnd c.known) (reap_all s) c d t (pages_loop c.known s.in_flight s c (at_first Tx c.known) refl) plays
