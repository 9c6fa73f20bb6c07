-- A poll that moved nothing leaves the driver as it was, but for its pages in flight.
use Rattle.std.proofs.Common.{◌≡◌, ◌≤◌, ◌<◌, ◌+◌, ◌==◌, ◌||◌, ℕ, zero, suc, nat_lt, Bool, true, false, cond, List, [], ◌∷◌, length, Option, Some, None, refl, ◌∙◌}
use Rattle.std.proofs.{Common.arith, lemmas.{Bool.Decides.nat_tests, Grind.common_steps}}
use Rattle.vs_contents.{specs.CallTree.{Ask, Done, bind, for_each, while_up_to}, proofs.Leads.{AllEnds, end_of, ends_weaker}}
use Rattle.vs_flow.specs.Table.{slots}
use Rattle.vs_limits.specs.declared.TheConstants.{OWED_MAX, STAGED_MAX}
use Rattle.vs_replies.specs.declared.Reply.{Reply}
use Rattle.vs_ring_port.specs.{Contents.RingContents, DriverCalls.{LoadCid}, declared.queue.Queue.{Queue, TheVariants.{Event, Rx, Tx}}}
use Rattle.vs_driver_parts.specs.Conversations.{DriverTree, Round, all_taken, event_reaped, goes_on_with, one_put, packet_reaped}
use Rattle.vs_driver_parts.specs.Conversations.{pay_all, pay_and_publish, pay_slot, poll_of, poll_packets, poll_puts, poll_reaps, polled, publish_and_pay, published, put_all}
use Rattle.vs_driver_parts.specs.Conversations.{put_owed, put_replies, put_reply, put_reply_of, reap_all, reap_one, stage_of}
use Rattle.vs_driver_parts.specs.{Conversations.{staged_again, start, take_all, take_event, take_packet}, Playing.{Plays, RingAllows}, Receiving.{after_reset}}
use Rattle.vs_driver_parts.specs.{Receiving.on_page, State.{DriverState}, declared.answers.Polled.Polled}
use Rattle.laws_apps.specs.Runs.{poll_moved}
use Rattle.laws_rest.proofs.Quiet.{ends_any, ends_then}

-- The driver but for what it counts of its pages. It has no more of them in flight than before.
abbrev pub core : DriverState → DriverState
core s = record s { in_flight = 0; staged = 0 }

abbrev pub SameCore : DriverState → DriverState → Type 0
SameCore s t = (core t ≡ core s) × (t.in_flight ≤ s.in_flight)

pub core_same : (s : DriverState) → SameCore s s
core_same s = (refl, omega arith)

core_then : (r s t : DriverState) → SameCore r s → SameCore s t → SameCore r t
core_then r s t one two = (two.0 ∙ one.0, (let a = one.1 in let b = two.1 in omega (arith, a, b)))

-- A page may be put.
abbrev pub HasRoom : DriverState → Type 0
HasRoom s = s.in_flight < s.size

pub room_stays : (s t : DriverState) → SameCore s t → HasRoom s → HasRoom t
room_stays s t same room = grind (arith, common_steps)

same_if : (b : Bool) (p q : DriverTree DriverState) (P : DriverState → Type 0) → AllEnds P p → AllEnds P q → AllEnds P (cond b p q)
same_if true p q P one other = one
same_if false p q P one other = other

abbrev pub EndsIn : {A : Type 0} → (A → Type 0) → DriverTree A → Type 0
EndsIn P tree = AllEnds P tree

-- Pages that are staged, and those that are reaped.
stages : (queue : Queue) (page : List ℕ) (s : DriverState) → AllEnds (SameCore s) (stage_of queue page s)
stages queue page s = λ a. same_if (s.staged + 1 == STAGED_MAX) _ _ (SameCore s) (λ b. (refl, omega arith)) (refl, omega arith)

reaps_one : (s : DriverState) → AllEnds (λ (x : DriverState × Bool). SameCore s x.0) (reap_one s)
reaps_one s = grind (arith, common_steps)

pub reaps_all : (s : DriverState) → AllEnds (SameCore s) (reap_all s)
reaps_all s = loop s.in_flight s
  where
    on_with : (n : ℕ) (t q : DriverState) (b : Bool) → SameCore t q → AllEnds (SameCore q) (while_up_to n reap_one q)
        → AllEnds (SameCore t) (elim b [ true ↦ while_up_to n reap_one q | false ↦ Done q ])
    on_with n t q true one after =
        ends_weaker (SameCore q) (SameCore t) (λ x two. core_then t q x one two) (while_up_to n reap_one q) after
    on_with n t q false one after = one

    loop : (n : ℕ) (t : DriverState) → AllEnds (SameCore t) (while_up_to n reap_one t)
    loop zero t = core_same t
    loop (suc n) t =
        ends_then (SameCore t) (λ (x : DriverState × Bool). SameCore t x.0) (reap_one t)
        (λ q. elim q.1 [ true ↦ while_up_to n reap_one q.0 | false ↦ Done q.0 ]) (reaps_one t) (λ x a. on_with n t x.0 x.1 a (loop n x.0))

-- A round that is quiet at its end was so before, and left the driver as it was.
abbrev Kept : (Round → Type 0) → Round → Round → Type 0
Kept Q r x = Q x → Q r × SameCore r.state x.state

module _ (Q : Round → Type 0) where
  kept : (r : Round) → Kept Q r r
  kept r = λ at. (at, core_same r.state)

  kept_then : (r q x : Round) → Kept Q r q → Kept Q q x → Kept Q r x
  kept_then r q x one two = λ at. let b = two at in let a = one b.0 in (a.0, core_then r.state q.state x.state a.1 b.1)

  abbrev KeptBy : Round → Round × Bool → Type 0
  KeptBy r x = Kept Q r x.0

  kept_while : (step : Round → DriverTree (Round × Bool)) → ((r : Round) → AllEnds (KeptBy r) (step r)) → (n : ℕ) (r : Round)
      → AllEnds (Kept Q r) (while_up_to n step r)
  kept_while step one zero r = kept r
  kept_while step one (suc n) r =
      ends_then (Kept Q r) (KeptBy r) (step r) (λ q. elim q.1 [ true ↦ while_up_to n step q.0 | false ↦ Done q.0 ]) (one r)
      (λ x a. on_with x.0 x.1 a (kept_while step one n x.0))
    where
      on_with : (q : Round) (b : Bool) → Kept Q r q → AllEnds (Kept Q q) (while_up_to n step q)
          → AllEnds (Kept Q r) (elim b [ true ↦ while_up_to n step q | false ↦ Done q ])
      on_with q true first after = ends_weaker (Kept Q q) (Kept Q r) (λ x two. kept_then r q x first two) (while_up_to n step q) after
      on_with q false first after = first

  kept_each : (step : ℕ → Round → DriverTree Round) → ((i : ℕ) (r : Round) → AllEnds (Kept Q r) (step i r)) → (is : List ℕ) (r : Round)
      → AllEnds (Kept Q r) (for_each step is r)
  kept_each step one [] r = kept r
  kept_each step one (i ∷ is) r =
      ends_then (Kept Q r) (Kept Q r) (step i r) (for_each step is) (one i r)
      (λ q a. ends_weaker (Kept Q q) (Kept Q r) (λ x b. kept_then r q x a b) (for_each step is q) (kept_each step one is q))

-- Events: a round is quiet in which no reset was told.
abbrev NoReset : Round → Type 0
NoReset r = r.reset ≡ false

event_by : (r : Round) (b : Bool) → EndsIn (Kept NoReset r) (cond b
    (Ask LoadCid (λ cid. Done (record r { state = after_reset cid r.state; count = r.count + 1; reset = true })))
    (Done (record r { count = r.count + 1 })))
event_by r true = λ cid at. absurd (let no : true ≡ false = at in cc)
event_by r false = λ at. (at, core_same r.state)

again : (Q : Round → Type 0) (queue : Queue) (r : Round) → ((s : DriverState) → Q (record r { state = s }) → Q r)
    → AllEnds (λ (x : Round × Bool). Kept Q r x.0) (staged_again queue r)
again Q queue r back = grind (arith, common_steps, ends_then, stages)

event_back : (r : Round) (page : Option (List ℕ)) → AllEnds (λ (x : Round × Bool). Kept NoReset r x.0) (event_reaped r page)
event_back r page = grind (arith, common_steps, kept, ends_then, event_by, ends_weaker, kept_then, again)

takes_event : (r : Round) → AllEnds (λ (x : Round × Bool). Kept NoReset r x.0) (take_event r)
takes_event r = grind (arith, common_steps, kept, event_back)

-- All else that is taken or put is counted: a round is quiet where that is none.
abbrev CountsNone : Round → Type 0
CountsNone r = r.count ≡ 0

no_more : (r x : Round) → x.count ≡ r.count + 1 → Kept CountsNone r x
no_more r x one = λ none. absurd (omega (arith, one, none))

packet_back : (r : Round) (page : Option (List ℕ)) → AllEnds (λ (x : Round × Bool). Kept CountsNone r x.0) (packet_reaped r page)
packet_back r None = kept CountsNone r
packet_back r (Some page) =
    let q : Round = record r { state = on_page page r.state; count = r.count + 1 } in
    ends_then (λ (x : Round × Bool). Kept CountsNone r x.0) (SameCore q.state) (stage_of Rx [] q.state) (goes_on_with q) (stages Rx [] q.state)
    (λ s same. no_more r (record q { state = s }) refl)

takes_packet : (r : Round) → AllEnds (λ (x : Round × Bool). Kept CountsNone r x.0) (take_packet r)
takes_packet r = grind (arith, common_steps, kept, packet_back)

puts_if : (r : Round) (p : DriverTree DriverState) (b : Bool)
    → AllEnds (λ (x : Round × Bool). Kept CountsNone r x.0) (cond b (bind p (one_put r)) (Done (r, false)))
puts_if r p true =
    ends_then (λ (x : Round × Bool). Kept CountsNone r x.0) (λ s. Unit {0}) p (one_put r) (ends_any (λ s. Unit {0}) (λ s. tt) p)
    (λ s any. no_more r (record r { state = s; count = r.count + 1 }) refl)
puts_if r p false = kept CountsNone r

puts_reply : (rs : List Reply) (r : Round) → AllEnds (λ (x : Round × Bool). Kept CountsNone r x.0) (put_reply_of rs r)
puts_reply rs r = grind (arith, common_steps, kept, puts_if)

puts_owed : (slot : ℕ) (r : Round) → AllEnds (λ (x : Round × Bool). Kept CountsNone r x.0) (put_owed slot r)
puts_owed slot r = grind (arith, common_steps, kept, puts_if)

publishes : (Q : Round → Type 0) (queue : Queue) (r q : Round) → Kept Q r q → ((s : DriverState) → Q (record q { state = s }) → Q q)
    → AllEnds (Kept Q r) (published queue q)
publishes Q queue r q a back = λ x. kept_then Q r q (record q { state = record q.state { staged = 0 } }) a (λ at. (back _ at, (refl, omega arith)))

puts_all : (s : DriverState) → AllEnds (Kept CountsNone (start s)) (put_all s)
puts_all s =
    ends_then (Kept CountsNone (start s)) (Kept CountsNone (start s)) (put_replies s) publish_and_pay
    (kept_while CountsNone put_reply (λ r. puts_reply r.state.replies r) (length s.replies) (start s))
    (λ r a. ends_then (Kept CountsNone (start s)) (Kept CountsNone (start s)) (published Tx r) pay_and_publish
    (publishes CountsNone Tx (start s) r a (λ t at. at))
    (λ q b. ends_then (Kept CountsNone (start s)) (Kept CountsNone (start s)) (pay_all q) (published Tx)
    (ends_weaker (Kept CountsNone q) (Kept CountsNone (start s)) (λ x c. kept_then CountsNone (start s) q x b c) (pay_all q)
    (kept_each CountsNone pay_slot (λ slot p. kept_while CountsNone (put_owed slot) (puts_owed slot) OWED_MAX p) (slots q.state.table) q))
    (λ x c. publishes CountsNone Tx (start s) x c (λ t at. at))))

-- The whole poll.
abbrev Polls : DriverState → DriverState × Polled → Type 0
Polls s x = x.1.took ≡ 0 → x.1.posted ≡ 0 → x.1.reset ≡ false → SameCore s x.0

takes_all : (Q : Round → Type 0) (queue : Queue) (take_one : Round → DriverTree (Round × Bool))
    → ((r : Round) → AllEnds (λ (x : Round × Bool). Kept Q r x.0) (take_one r)) → ((q : Round) (t : DriverState) → Q (record q { state = t }) → Q q)
    → (s : DriverState) → AllEnds (Kept Q (start s)) (take_all queue take_one s)
takes_all Q queue take_one one back s =
    ends_then (Kept Q (start s)) (Kept Q (start s)) (all_taken take_one s) (published queue) (kept_while Q take_one one s.size (start s))
    (λ r a. publishes Q queue (start s) r a (back r))

polls : (s : DriverState) → AllEnds (Polls s) (poll_of s)
polls s =
    ends_then (Polls s) (Kept NoReset (start s)) (take_all Event take_event s) poll_packets
    (takes_all NoReset Event take_event takes_event (λ q t at. at) s)
    (λ events a. ends_then (Polls s) (Kept CountsNone (start events.state)) (take_all Rx take_packet events.state) (poll_reaps events.reset)
    (takes_all CountsNone Rx take_packet takes_packet (λ q t at. at) events.state)
    (λ packets b. ends_then (Polls s) (SameCore packets.state) (reap_all packets.state) (poll_puts packets.count events.reset) (reaps_all packets.state)
    (λ t c. ends_then (Polls s) (Kept CountsNone (start t)) (put_all t) (polled packets.count events.reset) (puts_all t)
    (λ put d took posted reset. core_then s events.state put.state (a reset).1
    (core_then events.state packets.state put.state (b took).1 (core_then packets.state t put.state c (d posted).1))))))

none : (n : ℕ) (b : Bool) → (nat_lt 0 n || b) ≡ false → (n ≡ 0) × (b ≡ false)
none = grind (arith, nat_tests, common_steps)

pub took_none : (p : Polled) → poll_moved p ≡ false → p.took ≡ 0
took_none p still = (none p.took _ still).0

pub poll_still : (s t : DriverState) (c d : RingContents) (p : Polled) → Plays (poll_of s) c (t, p) d → poll_moved p ≡ false → SameCore s t
poll_still s t c d p plays still =
    let took = none p.took _ still in
    let posted = none p.posted _ took.1 in
    end_of (Polls s) RingAllows (poll_of s) c d (t, p) (polls s) plays took.0 posted.0 posted.1
