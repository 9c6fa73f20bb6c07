-- A poll counts each page of rx that it takes back.
use Rattle.std.proofs.lemmas.Grind.{common_steps}
use Rattle.std.proofs.Common.{◌≡◌, ◌+◌, ◌==◌, ℕ, zero, suc, nat_lt, Bool, true, false, cond, List, [], ◌∷◌, length, Option, Some, None, refl, sym, ap, subst, ◌∙◌, arith}
use Rattle.vs_contents.specs.{CallTree.{Ask, Done, bind, for_each, while_up_to}, Contents.Relates}
use Rattle.vs_flow.specs.Table.{slots}
use Rattle.vs_limits.specs.declared.TheConstants.{DRIVER_REPLIES_FULL, OWED_MAX, STAGED_MAX}
use Rattle.vs_replies.specs.declared.Reply.{Reply}
use Rattle.vs_ring_port.specs.{Contents.RingContents, DriverCalls.{DriverAnswer, DriverCall, DriverLearns, LoadCid, Publish, Reap, Stage}, EndLog.EndLog, Known.{Finds, Known}}
use Rattle.vs_ring_port.specs.{Known.{after_stores, stores_for}, declared.queue.Queue.{Queue, TheVariants.{Event, Rx, Tx}}}
use Rattle.vs_driver_parts.specs.Conversations.{DriverTree, Round, all_taken, event_reaped, event_taken, goes_on_with, packet_reaped, pay_all}
use Rattle.vs_driver_parts.specs.Conversations.{pay_and_publish, pay_slot, poll_of, poll_packets, poll_puts, poll_reaps, polled, publish_and_pay, published, put_all, put_owed}
use Rattle.vs_driver_parts.specs.Conversations.{put_replies, put_reply, put_reply_of, reap_all, reap_one, stage_of}
use Rattle.vs_driver_parts.specs.{Conversations.{staged_again, take_all, take_event, take_packet}, Playing.{Plays, RingAllows}, Receiving.{is_reset_event, on_page}}
use Rattle.vs_driver_parts.specs.{State.{DriverState}, declared.answers.Polled.Polled}

-- How many pages of rx were taken back, after a call.
abbrev more : (call : DriverCall) → DriverAnswer call → ℕ → ℕ
more (Reap Rx) (Some page) n = n + 1
more call a n = n

abbrev Walks : {A : Type 0} → (A → ℕ → Type 0) → DriverTree A → ℕ → Type 0
Walks Q (Done x) n = Q x n
Walks Q (Ask call k) n = (a : DriverAnswer call) → Walks Q (k a) (more call a n)

walks_then : {A B : Type 0} (R : B → ℕ → Type 0) (Q : A → ℕ → Type 0) (p : DriverTree B) (f : B → DriverTree A) (n : ℕ) → Walks R p n
    → ((x : B) (m : ℕ) → R x m → Walks Q (f x) m) → Walks Q (bind p f) n
walks_then R Q (Done x) f n walks then = then x n walks
walks_then R Q (Ask call k) f n walks then = λ a. walks_then R Q (k a) f (more call a n) (walks a) then

-- The same step again and again.
module _ {A : Type 0} (P : A → ℕ → Type 0) where
  by_last : (n : ℕ) (step : A → DriverTree (A × Bool)) → ((x : A) (m : ℕ) → P x m → Walks P (while_up_to n step x) m)
      → (r : A × Bool) (m : ℕ) → P r.0 m → Walks P (elim r.1 [ true ↦ while_up_to n step r.0 | false ↦ Done r.0 ]) m
  by_last n step rest (y, true) m holds = rest y m holds
  by_last n step rest (y, false) m holds = holds

  walks_while : (step : A → DriverTree (A × Bool)) → ((x : A) (m : ℕ) → P x m → Walks (λ r d. P r.0 d) (step x) m)
      → (n : ℕ) (x : A) (m : ℕ) → P x m → Walks P (while_up_to n step x) m
  walks_while step each zero x m holds = holds
  walks_while step each (suc n) x m holds =
      walks_then (λ r d. P r.0 d) P (step x) (λ r. elim r.1 [ true ↦ while_up_to n step r.0 | false ↦ Done r.0 ]) m (each x m holds)
      (by_last n step (λ y d kept. walks_while step each n y d kept))

  walks_each : {X : Type 0} (step : X → A → DriverTree A) → ((i : X) (x : A) (m : ℕ) → P x m → Walks P (step i x) m)
      → (is : List X) (x : A) (m : ℕ) → P x m → Walks P (for_each step is x) m
  walks_each step each [] x m holds = holds
  walks_each step each (i ∷ is) x m holds =
      walks_then P P (step i x) (for_each step is) m (each i x m holds) (λ y d kept. walks_each step each is y d kept)

-- Conversations that take none.
abbrev Same : {A : Type 0} → ℕ → DriverTree A → Type 0
Same n tree = Walks (λ x m. m ≡ n) tree n

same_then : {A B : Type 0} (p : DriverTree B) (f : B → DriverTree A) (n : ℕ) → Same n p → ((x : B) → Same n (f x)) → Same n (bind p f)
same_then p f n first rest =
    walks_then (λ x m. m ≡ n) (λ x m. m ≡ n) p f n first (λ x m is. subst (λ (d : ℕ). Walks (λ y k. k ≡ n) (f x) d) (sym is) (rest x))

same_while : {A : Type 0} (step : A → DriverTree (A × Bool)) (n : ℕ) → ((x : A) → Same n (step x)) → (k : ℕ) (x : A) → Same n (while_up_to k step x)
same_while step n each k x =
    walks_while (λ y m. m ≡ n) step (λ y m is. subst (λ (d : ℕ). Walks (λ z e. e ≡ n) (step y) d) (sym is) (each y)) k x n refl

same_each : {A X : Type 0} (step : X → A → DriverTree A) (n : ℕ) → ((i : X) (x : A) → Same n (step i x)) → (is : List X) (x : A)
    → Same n (for_each step is x)
same_each step n each is x =
    walks_each (λ y m. m ≡ n) step (λ i y m e. subst (λ (d : ℕ). Walks (λ z k. k ≡ n) (step i y) d) (sym e) (each i y)) is x n refl

same_if : {A : Type 0} (b : Bool) (p q : DriverTree A) (n : ℕ) → Same n p → Same n q → Same n (cond b p q)
same_if true p q n one other = one
same_if false p q n one other = other

module _ (n : ℕ) where
  stages : (queue : Queue) (page : List ℕ) (s : DriverState) → Same n (stage_of queue page s)
  stages queue page s = λ a. same_if (s.staged + 1 == STAGED_MAX) _ _ n (λ b. refl) refl

  publishes : (queue : Queue) (r : Round) → Same n (published queue r)
  publishes queue r = λ a. refl

  again : (queue : Queue) (r : Round) → Same n (staged_again queue r)
  again queue r = same_then (stage_of queue [] r.state) (goes_on_with r) n (stages queue [] r.state) (λ s. refl)

  events_taken : (page : List ℕ) (r : Round) → Same n (event_taken page r)
  events_taken page r = same_if (is_reset_event page) _ _ n (λ a. refl) refl

  event_back : (r : Round) (page : Option (List ℕ)) → Same n (event_reaped r page)
  event_back r None = refl
  event_back r (Some page) = same_then (event_taken page r) (staged_again Event) n (events_taken page r) (λ q. again Event q)

  takes_event : (r : Round) → Same n (take_event r)
  takes_event r = same_if (nat_lt DRIVER_REPLIES_FULL (length r.state.replies)) _ _ n refl (λ a. event_back r a)

  -- What it puts.
  reaps_one : (s : DriverState) → Same n (reap_one s)
  reaps_one s = same_if (s.in_flight == 0) _ _ n refl (λ a. refl)

  puts_reply : (rs : List Reply) (r : Round) → Same n (put_reply_of rs r)
  puts_reply rs r = grind (arith, common_steps)

  puts_owed : (slot : ℕ) (r : Round) → Same n (put_owed slot r)
  puts_owed slot r = grind (arith, common_steps)

  pays_all : (r : Round) → Same n (pay_all r)
  pays_all r = same_each pay_slot n (λ slot q. same_while (put_owed slot) n (puts_owed slot) OWED_MAX q) (slots r.state.table) r

  puts_all : (s : DriverState) → Same n (put_all s)
  puts_all s =
      same_then (put_replies s) publish_and_pay n (same_while put_reply n (λ r. puts_reply r.state.replies r) (length s.replies) _)
      (λ r. same_then (published Tx r) pay_and_publish n (publishes Tx r)
      (λ q. same_then (pay_all q) (published Tx) n (pays_all q) (publishes Tx)))

-- Packets.
abbrev Counted : Round → ℕ → Type 0
Counted r m = r.count ≡ m

packet_back : (r : Round) (page : Option (List ℕ)) (m : ℕ) → Counted r m → Walks (λ x d. Counted x.0 d) (packet_reaped r page) (more (Reap Rx) page m)
packet_back r None m is = is
packet_back r (Some page) m is =
    let q : Round = record r { state = on_page page r.state; count = r.count + 1 } in
    walks_then (λ s d. d ≡ m + 1) (λ x d. Counted x.0 d) (stage_of Rx [] q.state) (goes_on_with q) (m + 1) (stages (m + 1) Rx [] q.state)
    (λ s d same. ap (λ (k : ℕ). k + 1) is ∙ sym same)

takes_packet : (r : Round) (m : ℕ) → Counted r m → Walks (λ x d. Counted x.0 d) (take_packet r) m
takes_packet r m is = grind (arith, common_steps, packet_back)

takes_packets : (s : DriverState) → Walks Counted (take_all Rx take_packet s) 0
takes_packets s =
    walks_then Counted Counted (all_taken take_packet s) (published Rx) 0 (walks_while Counted take_packet takes_packet s.size _ 0 refl)
    (λ r m is. λ a. is)

abbrev Tells : DriverState × Polled → ℕ → Type 0
Tells x m = x.1.took ≡ m

rest_tells : (reset : Bool) (r : Round) (m : ℕ) → Counted r m → Walks Tells (poll_reaps reset r) m
rest_tells reset r m is =
    walks_then (λ s d. d ≡ m) Tells (reap_all r.state) (poll_puts r.count reset) m (same_while reap_one m (reaps_one m) r.state.in_flight r.state)
    (λ s d same. walks_then (λ q e. e ≡ d) Tells (put_all s) (polled r.count reset) d (puts_all d s) (λ q e also. is ∙ sym (also ∙ same)))

poll_tells : (s : DriverState) → Walks Tells (poll_of s) 0
poll_tells s =
    walks_then (λ r m. m ≡ 0) Tells (take_all Event take_event s) poll_packets 0
    (same_then (all_taken take_event s) (published Event) 0 (same_while take_event 0 (takes_event 0) s.size _) (publishes 0 Event))
    (λ r m none. subst (λ (d : ℕ). Walks Tells (poll_packets r) d) (sym none)
    (walks_then Counted Tells (take_all Rx take_packet r.state) (poll_reaps r.reset) 0 (takes_packets r.state) (rest_tells r.reset)))

-- What the ring's end knows of that.
abbrev Rises : ℕ → ℕ → Known → Known → Type 0
Rises n m k i = i.rx.taken + n ≡ k.rx.taken + m

finds_rises : (queue : Queue) (page : Option (List ℕ)) (n : ℕ) (k i : Known) → Finds queue page k i → Rises n (more (Reap queue) page n) k i
finds_rises queue page n k i finds = grind (arith, common_steps)

stores_rise : (queue : Queue) (n stores : ℕ) (k i : Known) → i ≡ after_stores stores queue k → Rises n n k i
stores_rise queue n stores k i is = grind (arith, common_steps)

learn_rises : (call : DriverCall) (a : DriverAnswer call) (log : Option EndLog) (n : ℕ) (k i : Known) → DriverLearns call a log k i
    → Rises n (more call a n) k i
learn_rises (Stage queue page) a log n k i is = ap (λ (j : Known). j.rx.taken + n) is
learn_rises (Publish queue) a log n k i learns = stores_rise queue n (stores_for learns.0) k i learns.2
learn_rises (Reap queue) page log n k i finds = finds_rises queue page n k i finds
learn_rises LoadCid cid log n k i loads = ap (λ (j : Known). j.rx.taken + n) loads.is

learns : (call : DriverCall) (a : DriverAnswer call) (c d : RingContents) → RingAllows call a c d
    → Relates c.known d.known (DriverLearns call a c.log)
learns (Stage queue page) a c d allowed = allowed.known
learns (Publish queue) a c d allowed = allowed.1.known
learns (Reap queue) page c d allowed = allowed.1.known
learns LoadCid cid c d allowed = allowed.1.known

no_rise : (n : ℕ) (o p : Option Known) → o ≡ p → Relates o p (Rises n n)
no_rise n o p same = grind (arith, common_steps)

rises_then : (R : Known → Known → Type 0) (o p q : Option Known) (n j m : ℕ) → Relates o p R → ((k i : Known) → R k i → Rises n j k i)
    → Relates p q (Rises j m) → Relates o q (Rises n m)
rises_then R o p q n j m first rises rest = grind (arith, common_steps)

walks_run : {A : Type 0} (Q : A → ℕ → Type 0) (tree : DriverTree A) (n : ℕ) (c d : RingContents) (x : A) → Walks Q tree n → Plays tree c x d
    → (m : ℕ) × Q x m × Relates c.known d.known (Rises n m)
walks_run Q (Done y) n c d x walks plays =
    (n, subst (λ z. Q z n) plays.0 walks, no_rise n c.known d.known (ap (λ (r : RingContents). r.known) plays.1))
walks_run Q (Ask call k) n c d x walks plays =
    let rest = walks_run Q (k plays.0) (more call plays.0 n) plays.1 d x (walks plays.0) plays.3 in (
      rest.0,
      rest.1,
      rises_then (DriverLearns call plays.0 c.log) c.known plays.1.known d.known n (more call plays.0 n) rest.0
          (learns call plays.0 c plays.1 plays.2) (learn_rises call plays.0 c.log n) rest.2,
    )

-- A poll that took nothing took no page of rx back.
abbrev pub TakesNone : Known → Known → Type 0
TakesNone k i = i.rx.taken ≡ k.rx.taken

takes_none : (o p : Option Known) (m : ℕ) → m ≡ 0 → Relates o p (Rises 0 m) → Relates o p TakesNone
takes_none o p m none rises = grind (arith, common_steps)

pub poll_takes_none : (s t : DriverState) (c d : RingContents) (p : Polled) → Plays (poll_of s) c (t, p) d → p.took ≡ 0
    → Relates c.known d.known TakesNone
poll_takes_none s t c d p plays none =
    let told = walks_run Tells (poll_of s) 0 c d (t, p) (poll_tells s) plays in
    takes_none c.known d.known told.0 (sym told.1 ∙ none) told.2
