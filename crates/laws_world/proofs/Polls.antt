-- A poll of the driver's is a list of events.
use Rattle.std.proofs.{Common.{◌≡◌, ℕ, zero, suc, ◌&&◌, Bool, true, false, List, [], ◌∷◌, length, refl, sym, ap, subst, ◌∙◌, arith}, lemmas.Grind.common_steps}
use Rattle.std.proofs.lemmas.Bool.{and_parts}
use Rattle.vs_contents.specs.CallTree.{Done, bind, for_each, played, while_up_to}
use Rattle.vs_flow.specs.Table.{slots}
use Rattle.vs_ring_port.specs.{Lists.{Rings}, declared.queue.Queue.Queue, DriverCalls.{driver_answer}, EndLog.{EndLog, Pages}}
use Rattle.vs_ring_port.specs.EndLog.{with_pages}
use Rattle.vs_driver_parts.specs.{State.{DriverState}, Conversations.{all_taken, pay_all, pay_and_publish, pay_slot}}
use Rattle.vs_driver_parts.specs.Conversations.{poll_of, poll_packets, poll_puts, poll_reaps, polled, publish_and_pay, put_all, put_replies, reap_all, take_all}
use Rattle.vs_driver_parts.specs.Conversations.{DriverTree, Round}
use Rattle.vs_driver_parts.specs.Conversations.{publish_of, published, put_owed, put_reply, start, take_event, take_packet}
use Rattle.vs_driver_parts.specs.Steps.{stages_owed, stages_reply, takes_page}
use Rattle.vs_limits.specs.declared.TheConstants.{OWED_MAX}
use Rattle.laws_world.specs.{Steps.Leads, World.World, Events.{Event, GuestPays, GuestPublishes, GuestReplies, GuestTakes, driver_step, happens, is_at_rest, works_on}}
use Rattle.laws_world.proofs.GuestLines.{leads_none, leads_one, leads_then, played_bind, possible_is, reaps_all, with_driver}
use Rattle.vs_ring_port.specs.declared.queue.Queue.TheVariants as q

-- Events lead to this driver and these rings, and only that queue is worked on.
pub record Does (queue : Queue) (w : World) (s : DriverState) (r : Rings × EndLog) : Type 0 where
  pub leads : Leads w (with_driver s r w)
  pub works : works_on queue r.1.staged ≡ true

abbrev plays : {A : Type 0} → DriverTree A → World → A × (Rings × EndLog)
plays tree w = played driver_answer tree (w.rings.lists, w.rings.driver)

does_nothing : (queue : Queue) (w : World) → works_on queue w.rings.driver.staged ≡ true
    → Does queue w w.driver (w.rings.lists, w.rings.driver)
does_nothing queue w works = record { leads = leads_none w w refl; works = works }

-- One conversation after another.
does_then : {A B : Type 0} (queue : Queue) (w : World) (p : DriverTree A) (f : A → DriverTree B) (state_of : B → DriverState) (middle : A → DriverState)
    → (let r = plays p w in Does queue w (middle r.0) r.1)
    → (let r = plays p w in let v = with_driver (middle r.0) r.1 w in let x = plays (f r.0) v in Does queue v (state_of x.0) x.1)
    → (let r = plays (bind p f) w in Does queue w (state_of r.0) r.1)
does_then queue w p f state_of middle first then_ =
    subst (λ x. Does queue w (state_of x.0) x.1) (sym (played_bind p f (w.rings.lists, w.rings.driver))) (record {
      leads = leads_then w _ _ first.leads then_.leads;
      works = then_.works;
    })

-- A step of a round, over any count.
abbrev round : DriverState → ℕ → Bool → Round
round s count reset = record { state = s; count = count; reset = reset }

abbrev StepDoes : Queue → (Round → DriverTree (Round × Bool)) → Type 0
StepDoes queue step = (w : World) (count : ℕ) (reset : Bool) → works_on queue w.rings.driver.staged ≡ true
    → let r = plays (step (round w.driver count reset)) w in Does queue w r.0.0.state r.1

does_while : (queue : Queue) (step : Round → DriverTree (Round × Bool)) → StepDoes queue step → (n : ℕ) (w : World) (count : ℕ) (reset : Bool)
    → works_on queue w.rings.driver.staged ≡ true
    → let r = plays (while_up_to n step (round w.driver count reset)) w in Does queue w r.0.state r.1
does_while queue step does zero w count reset works = does_nothing queue w works
does_while queue step does (suc n) w count reset works =
    let one = does w count reset works in
    let r = plays (step (round w.driver count reset)) w in
    does_then queue w (step (round w.driver count reset))
    (λ r. elim r.1 as (λ _. DriverTree Round) [ true ↦ while_up_to n step r.0 | false ↦ Done r.0 ]) (λ r. r.state) (λ r. r.0.state) one
    (more r.0.1 (does_while queue step does n (with_driver r.0.0.state r.1 w) r.0.0.count r.0.0.reset one.works) (does_nothing queue _ one.works))
  where
    more : (b : Bool) → (let r = plays (step (round w.driver count reset)) w in let v = with_driver r.0.0.state r.1 w in
        let x = plays (while_up_to n step r.0.0) v in Does queue v x.0.state x.1)
        → (let r = plays (step (round w.driver count reset)) w in let v = with_driver r.0.0.state r.1 w in Does queue v r.0.0.state r.1)
        → (let r = plays (step (round w.driver count reset)) w in let v = with_driver r.0.0.state r.1 w in
        let x = plays (elim b as (λ _. DriverTree Round) [ true ↦ while_up_to n step r.0.0 | false ↦ Done r.0.0 ]) v in Does queue v x.0.state x.1)
    more true rest none = rest
    more false rest none = none

-- A step that is one event.
one_event : (queue : Queue) (e : Event) (step : DriverState → DriverTree DriverState) (w : World) (s : DriverState) (r : Rings × EndLog)
    → works_on queue w.rings.driver.staged ≡ true → happens e w ≡ driver_step step w
    → (let x = plays (step w.driver) w in with_driver x.0 x.1 w ≡ with_driver s r w) → works_on queue r.1.staged ≡ true → Does queue w s r
one_event queue e step w s r works is same after = record { leads = leads_one e w _ (is ∙ same); works = after }

-- The same step in any round does the same.
record IsSame (queue : Queue) (w : World) (x : DriverState × (Rings × EndLog)) (s : DriverState) (r : Rings × EndLog) : Type 0 where
  same : with_driver x.0 x.1 w ≡ with_driver s r w
  works : works_on queue r.1.staged ≡ true

abbrev AlikeFrom : Queue → World → ℕ → Bool → Rings × EndLog → (Round → DriverTree (Round × Bool)) → Type 0
AlikeFrom queue w count reset x step =
    let r = played driver_answer (step (round w.driver count reset)) x in
    IsSame queue w (played driver_answer (bind (step (start w.driver)) (λ r. Done r.0.state)) x) r.0.0.state r.1

abbrev Alike : Queue → World → ℕ → Bool → (Round → DriverTree (Round × Bool)) → Type 0
Alike queue w count reset step = AlikeFrom queue w count reset (w.rings.lists, w.rings.driver) step

still_works : (queue : Queue) (pages : List (List ℕ)) (staged : Pages) → works_on queue staged ≡ true
    → works_on queue (with_pages queue pages staged) ≡ true
still_works q.Rx pages staged works = works
still_works x pages staged works = works

reply_alike : (w : World) (count : ℕ) (reset : Bool) → works_on q.Tx w.rings.driver.staged ≡ true → Alike q.Tx w count reset put_reply
reply_alike w count reset works = grind (arith, common_steps)

owed_alike : (slot : ℕ) (w : World) (count : ℕ) (reset : Bool) → works_on q.Tx w.rings.driver.staged ≡ true
    → Alike q.Tx w count reset (put_owed slot)
owed_alike slot w count reset works = grind (arith, common_steps)

reply_does : StepDoes q.Tx put_reply
reply_does w count reset works =
    let alike = reply_alike w count reset works in
    one_event q.Tx GuestReplies stages_reply w _ _ works (possible_is (works_on q.Tx w.rings.driver.staged) (driver_step stages_reply) w works)
    alike.same alike.works

owed_does : (slot : ℕ) → StepDoes q.Tx (put_owed slot)
owed_does slot w count reset works =
    let alike = owed_alike slot w count reset works in
    one_event q.Tx (GuestPays slot) (stages_owed slot) w _ _ works
    (possible_is (works_on q.Tx w.rings.driver.staged) (driver_step (stages_owed slot)) w works) alike.same alike.works

-- Pages are published.
publishes_does : (queue : Queue) (w : World) → works_on queue w.rings.driver.staged ≡ true
    → let r = plays (publish_of queue w.driver) w in Does queue w r.0 r.1
publishes_does queue w works =
    one_event queue (GuestPublishes queue) (publish_of queue) w _ _ works
    (possible_is (works_on queue w.rings.driver.staged) (driver_step (publish_of queue)) w works) refl
    (still_works queue [] w.rings.driver.staged works)

-- A packet is taken.
packet_alike : (w : World) (count : ℕ) (reset : Bool) → works_on q.Rx w.rings.driver.staged ≡ true → Alike q.Rx w count reset take_packet
packet_alike w count reset works = grind (arith, common_steps)

-- An event is.
event_alike : (w : World) (count : ℕ) (reset : Bool) → works_on q.Event w.rings.driver.staged ≡ true → Alike q.Event w count reset take_event
event_alike w count reset works = grind (arith, common_steps)

packet_does : StepDoes q.Rx take_packet
packet_does w count reset works =
    let alike = packet_alike w count reset works in
    one_event q.Rx (GuestTakes q.Rx) (takes_page q.Rx) w _ _ works
    (possible_is (works_on q.Rx w.rings.driver.staged) (driver_step (takes_page q.Rx)) w works) alike.same alike.works

event_does : StepDoes q.Event take_event
event_does w count reset works =
    let alike = event_alike w count reset works in
    one_event q.Event (GuestTakes q.Event) (takes_page q.Event) w _ _ works
    (possible_is (works_on q.Event w.rings.driver.staged) (driver_step (takes_page q.Event)) w works) alike.same alike.works

-- Nothing is left staged.
pub record Rests (w : World) (s : DriverState) (r : Rings × EndLog) : Type 0 where
  pub leads : Leads w (with_driver s r w)
  pub rest : is_at_rest r.1.staged ≡ true

all_three : (a b c : Bool) → a ≡ true → b ≡ true → c ≡ true → (a && b && c) ≡ true
all_three a b c x y z = grind (arith, common_steps)

pub published_rests : (queue : Queue) (staged : Pages) → works_on queue staged ≡ true → is_at_rest (with_pages queue [] staged) ≡ true
published_rests queue staged works = grind (arith, common_steps, and_parts, all_three)

pub rest_works : (queue : Queue) (staged : Pages) → is_at_rest staged ≡ true → works_on queue staged ≡ true
rest_works queue staged rest = grind (arith, common_steps)

rests_then : {A B : Type 0} (w : World) (p : DriverTree A) (f : A → DriverTree B) (state_of : B → DriverState) (middle : A → DriverState)
    → (let r = plays p w in Leads w (with_driver (middle r.0) r.1 w))
    → (let r = plays p w in let v = with_driver (middle r.0) r.1 w in let x = plays (f r.0) v in Rests v (state_of x.0) x.1)
    → (let r = plays (bind p f) w in Rests w (state_of r.0) r.1)
rests_then w p f state_of middle first then_ =
    subst (λ x. Rests w (state_of x.0) x.1) (sym (played_bind p f (w.rings.lists, w.rings.driver))) (record {
      leads = leads_then w _ _ first then_.leads;
      rest = then_.rest;
    })

-- A part of a poll ends by publishing.
published_does : (queue : Queue) (w : World) (count : ℕ) (reset : Bool) → works_on queue w.rings.driver.staged ≡ true
    → let r = plays (published queue (round w.driver count reset)) w in Rests w r.0.state r.1
published_does queue w count reset works =
    let one = publishes_does queue w works in
    record { leads = one.leads; rest = published_rests queue w.rings.driver.staged works }

take_all_does : (queue : Queue) (step : Round → DriverTree (Round × Bool)) → StepDoes queue step → (w : World)
    → is_at_rest w.rings.driver.staged ≡ true → let r = plays (take_all queue step w.driver) w in Rests w r.0.state r.1
take_all_does queue step does w rest =
    let all = does_while queue step does w.driver.size w 0 false (rest_works queue w.rings.driver.staged rest) in
    let r = plays (all_taken step w.driver) w in
    rests_then w (all_taken step w.driver) (published queue) (λ r. r.state) (λ r. r.state) all.leads
    (published_does queue (with_driver r.0.state r.1 w) r.0.count r.0.reset all.works)

pay_does : (xs : List ℕ) (w : World) (count : ℕ) (reset : Bool) → works_on q.Tx w.rings.driver.staged ≡ true
    → let r = plays (for_each pay_slot xs (round w.driver count reset)) w in Does q.Tx w r.0.state r.1
pay_does [] w count reset works = does_nothing q.Tx w works
pay_does (slot ∷ xs) w count reset works =
    let one = does_while q.Tx (put_owed slot) (owed_does slot) OWED_MAX w count reset works in
    let r = plays (pay_slot slot (round w.driver count reset)) w in
    does_then q.Tx w (pay_slot slot (round w.driver count reset)) (for_each pay_slot xs) (λ r. r.state) (λ r. r.state) one
    (pay_does xs (with_driver r.0.state r.1 w) r.0.count r.0.reset one.works)

pay_and_publish_does : (w : World) (count : ℕ) (reset : Bool) → is_at_rest w.rings.driver.staged ≡ true
    → let r = plays (pay_and_publish (round w.driver count reset)) w in Rests w r.0.state r.1
pay_and_publish_does w count reset rest =
    let all = pay_does (slots w.driver.table) w count reset (rest_works q.Tx w.rings.driver.staged rest) in
    let r = plays (pay_all (round w.driver count reset)) w in
    rests_then w (pay_all (round w.driver count reset)) (published q.Tx) (λ r. r.state) (λ r. r.state) all.leads
    (published_does q.Tx (with_driver r.0.state r.1 w) r.0.count r.0.reset all.works)

publish_and_pay_does : (w : World) (count : ℕ) (reset : Bool) → works_on q.Tx w.rings.driver.staged ≡ true
    → let r = plays (publish_and_pay (round w.driver count reset)) w in Rests w r.0.state r.1
publish_and_pay_does w count reset works =
    let one = published_does q.Tx w count reset works in
    let r = plays (published q.Tx (round w.driver count reset)) w in
    rests_then w (published q.Tx (round w.driver count reset)) pay_and_publish (λ r. r.state) (λ r. r.state) one.leads
    (pay_and_publish_does (with_driver r.0.state r.1 w) r.0.count r.0.reset one.rest)

put_all_does : (w : World) → is_at_rest w.rings.driver.staged ≡ true → let r = plays (put_all w.driver) w in Rests w r.0.state r.1
put_all_does w rest =
    let all = does_while q.Tx put_reply reply_does (length w.driver.replies) w 0 false (rest_works q.Tx w.rings.driver.staged rest) in
    let r = plays (put_replies w.driver) w in
    rests_then w (put_replies w.driver) publish_and_pay (λ r. r.state) (λ r. r.state) all.leads
    (publish_and_pay_does (with_driver r.0.state r.1 w) r.0.count r.0.reset all.works)

puts_does : (took : ℕ) (reset : Bool) (w : World) → is_at_rest w.rings.driver.staged ≡ true
    → let r = plays (poll_puts took reset w.driver) w in Rests w r.0.0 r.1
puts_does took reset w rest =
    let all = put_all_does w rest in
    rests_then w (put_all w.driver) (polled took reset) (λ r. r.0) (λ r. r.state) all.leads
    (record { leads = leads_none _ _ refl; rest = all.rest })

reaps_does : (took : ℕ) (reset : Bool) (w : World) → is_at_rest w.rings.driver.staged ≡ true
    → let r = plays (bind (reap_all w.driver) (poll_puts took reset)) w in Rests w r.0.0 r.1
reaps_does took reset w rest =
    let all = reaps_all w.driver.in_flight w rest in
    let r = plays (reap_all w.driver) w in
    rests_then w (reap_all w.driver) (poll_puts took reset) (λ r. r.0) (λ s. s) all.leads
    (puts_does took reset (with_driver r.0 r.1 w) (ap is_at_rest all.staged ∙ rest))

packets_does : (reset : Bool) (w : World) → is_at_rest w.rings.driver.staged ≡ true
    → let r = plays (bind (take_all q.Rx take_packet w.driver) (poll_reaps reset)) w in Rests w r.0.0 r.1
packets_does reset w rest =
    let all = take_all_does q.Rx take_packet packet_does w rest in
    let r = plays (take_all q.Rx take_packet w.driver) w in
    rests_then w (take_all q.Rx take_packet w.driver) (poll_reaps reset) (λ r. r.0) (λ r. r.state) all.leads
    (reaps_does r.0.count reset (with_driver r.0.state r.1 w) all.rest)

pub poll_does : (w : World) → is_at_rest w.rings.driver.staged ≡ true → let r = plays (poll_of w.driver) w in Rests w r.0.0 r.1
poll_does w rest =
    let all = take_all_does q.Event take_event event_does w rest in
    let r = plays (take_all q.Event take_event w.driver) w in
    rests_then w (take_all q.Event take_event w.driver) poll_packets (λ r. r.0) (λ r. r.state) all.leads
    (packets_does r.0.reset (with_driver r.0.state r.1 w) all.rest)
