-- Each call of the guest's, whole, is a list of events.
use Rattle.std.proofs.lemmas.Grind.{common_steps}
use Rattle.std.proofs.Common.{◌≡◌, ℕ, zero, suc, ◌==◌, Bool, true, false, cond, List, [], ◌∷◌, ◌++◌, length, Option, Some, None, refl, sym, ap, subst, ◌∙◌, Result, Ok, Err, arith}
use Rattle.vs_contents.specs.CallTree.{Done, Ask, bind, played, while_up_to}
use Rattle.vs_ring_port.specs.{DriverCalls.{driver_answer, Reap}, EndLog.{EndLog, Pages}, Lists.{Rings, oldest}}
use Rattle.vs_driver_parts.specs.Conversations.{DriverTree, reap_all, reap_one, reaped, connect_with_page, no_credit, not_sent, payload_of, send_on, send_stopped, send_with_credit}
use Rattle.vs_driver_parts.specs.{Conversations.send_with_page, Steps.{connects, sends, sends_on, sends_with_credit, takes_page}, State.{DriverState, DriverEntry, entry_known_as}}
use Rattle.vs_driver_parts.specs.{Connections.{connect_refusal, with_end}, declared.answers.{ConnectError.ConnectError, Sent.Sent}}
use Rattle.vs_conn.specs.{End.{may_send_of, wanting_credit}, declared.end.Stop.Stop}
use Rattle.vs_flow.specs.declared.flow.Flow.{Flow}
use Rattle.vs_limits.specs.declared.TheConstants.{HOST_CID}
use Rattle.laws_driver.specs.Carried.Calls.{GuestCall, ReplyTo, Connect, Listen, Unlisten, Accept, Send, Recv, Shutdown, Grow, Close, LookAt, is_right, flow_named, id_named}
use Rattle.laws_driver.specs.Carried.Calls.{makes_call, with_call}
use Rattle.laws_world.specs.{Events.{call_made, Event, GuestCalls, GuestTakes, driver_step, happens, is_at_rest, run, where_possible, works_on}, Plays.guest_line}
use Rattle.laws_world.specs.{Steps.Leads, World.World}
use Rattle.vs_ring_port.specs.declared.queue.Queue.TheVariants as q
use Rattle.vs_driver_parts.specs.declared.answers.Sent.TheVariants as sent

run_append : (xs ys : List Event) (w : World) → run (xs ++ ys) w ≡ run ys (run xs w)
run_append [] ys w = refl
run_append (x ∷ xs) ys w = run_append xs ys (happens x w)

pub leads_none : (w v : World) → w ≡ v → Leads w v
leads_none w v is = ([], is)

pub leads_one : (e : Event) (w v : World) → happens e w ≡ v → Leads w v
leads_one e w v is = (e ∷ [], is)

pub leads_then : (w v u : World) → Leads w v → Leads v u → Leads w u
leads_then w v u (xs, x) (ys, y) = (xs ++ ys, run_append xs ys w ∙ ap (run ys) x ∙ y)

-- One conversation after another, in the world.
pub played_bind : {A B : Type 0} (p : DriverTree A) (f : A → DriverTree B) (s : Rings × EndLog)
    → played driver_answer (bind p f) s ≡ (let r = played driver_answer p s in played driver_answer (f r.0) r.1)
played_bind (Done x) f s = refl
played_bind (Ask call k) f s = let r = driver_answer call s in played_bind (k r.0) f r.1

-- The world with this driver and these rings.
abbrev pub with_driver : DriverState → Rings × EndLog → World → World
with_driver s r w = record w { driver = s; rings = record w.rings { lists = r.0; driver = r.1 } }

-- A step of the driver that may happen.
pub possible_is : (b : Bool) (step : World → World) (w : World) → b ≡ true → where_possible b step w ≡ step w
possible_is true step w is = refl
possible_is false step w is = absurd cc

-- Transmit pages are reaped.
rest_works : (staged : Pages) → is_at_rest staged ≡ true → works_on q.Tx staged ≡ true
rest_works staged rest = grind (arith, common_steps)

-- Reaping one transmit page is an event, and stages nothing.
reap_leads : (w : World) → is_at_rest w.rings.driver.staged ≡ true
    → (let r = played driver_answer (reap_one w.driver) (w.rings.lists, w.rings.driver) in
    Leads w (with_driver r.0.0 r.1 w) × (r.1.1.staged ≡ w.rings.driver.staged) × (r.0.0 ≡ record w.driver { in_flight = r.0.0.in_flight }))
reap_leads w rest = (
  leads_one (GuestTakes q.Tx) w _ (possible_is (works_on q.Tx w.rings.driver.staged) (driver_step (takes_page q.Tx)) w
      (rest_works w.rings.driver.staged rest) ∙ same (w.driver.in_flight == 0)),
  staged (w.driver.in_flight == 0),
  only (w.driver.in_flight == 0),
)
  where
    same : (b : Bool) → (let r = played driver_answer (bind (cond b (Done (w.driver, false)) (Ask (Reap q.Tx) (λ page. Done (reaped w.driver page)))) (λ r. Done r.0))
        (w.rings.lists, w.rings.driver) in with_driver r.0 r.1 w)
        ≡ (let r = played driver_answer (cond b (Done (w.driver, false)) (Ask (Reap q.Tx) (λ page. Done (reaped w.driver page)))) (w.rings.lists, w.rings.driver) in
        with_driver r.0.0 r.1 w)
    same true = refl
    same false = refl

    staged : (b : Bool) → (played driver_answer (cond b (Done (w.driver, false)) (Ask (Reap q.Tx) (λ page. Done (reaped w.driver page))))
        (w.rings.lists, w.rings.driver)).1.1.staged ≡ w.rings.driver.staged
    staged true = refl
    staged false = refl

    come : (page : Option (List ℕ)) → (reaped w.driver page).0 ≡ record w.driver { in_flight = (reaped w.driver page).0.in_flight }
    come None = refl
    come (Some page) = refl

    only : (b : Bool) → (let r = played driver_answer (cond b (Done (w.driver, false)) (Ask (Reap q.Tx) (λ page. Done (reaped w.driver page))))
        (w.rings.lists, w.rings.driver) in r.0.0 ≡ record w.driver { in_flight = r.0.0.in_flight })
    only true = refl
    only false = come (oldest w.rings.lists.tx.back)

-- All of them.
pub record Reaps (w : World) (s : DriverState) (r : Rings × EndLog) : Type 0 where
  pub leads : Leads w (with_driver s r w)
  pub staged : r.1.staged ≡ w.rings.driver.staged
  pub only : s ≡ record w.driver { in_flight = s.in_flight }

two_only : (s t u : DriverState) → t ≡ record s { in_flight = t.in_flight } → u ≡ record t { in_flight = u.in_flight }
    → u ≡ record s { in_flight = u.in_flight }
two_only s t u first then_ = then_ ∙ ap (λ (x : DriverState). record x { in_flight = u.in_flight }) first

pub reaps_all : (n : ℕ) (w : World) → is_at_rest w.rings.driver.staged ≡ true
    → (let r = played driver_answer (while_up_to n reap_one w.driver) (w.rings.lists, w.rings.driver) in Reaps w r.0 r.1)
reaps_all zero w rest = record { leads = leads_none w _ refl; staged = refl; only = refl }
reaps_all (suc n) w rest =
    let one = reap_leads w rest in
    let r = played driver_answer (reap_one w.driver) (w.rings.lists, w.rings.driver) in
    let v = with_driver r.0.0 r.1 w in
    let after : is_at_rest v.rings.driver.staged ≡ true = ap is_at_rest one.1 ∙ rest in
    subst (λ x. Reaps w x.0 x.1) (sym (played_bind (reap_one w.driver)
    (λ r. elim r.1 as (λ _. DriverTree DriverState) [ true ↦ while_up_to n reap_one r.0 | false ↦ Done r.0 ]) (w.rings.lists, w.rings.driver)))
    (more r.0.1 v one (reaps_all n v after))
  where
    more : (b : Bool) (v : World) → (let r = played driver_answer (reap_one w.driver) (w.rings.lists, w.rings.driver) in
        Leads w (with_driver r.0.0 r.1 w) × (r.1.1.staged ≡ w.rings.driver.staged) × (r.0.0 ≡ record w.driver { in_flight = r.0.0.in_flight }))
        → (let r = played driver_answer (reap_one w.driver) (w.rings.lists, w.rings.driver) in
        let rest = played driver_answer (while_up_to n reap_one r.0.0) r.1 in
        Reaps (with_driver r.0.0 r.1 w) rest.0 rest.1)
        → (let r = played driver_answer (reap_one w.driver) (w.rings.lists, w.rings.driver) in
        let rest = played driver_answer (elim b as (λ _. DriverTree DriverState) [ true ↦ while_up_to n reap_one r.0.0 | false ↦ Done r.0.0 ]) r.1 in
        Reaps w rest.0 rest.1)
    more true v one rest = record {
      leads = leads_then w _ _ one.0 rest.leads;
      staged = rest.staged ∙ one.1;
      only = two_only w.driver _ _ one.2 rest.only;
    }
    more false v one rest = record { leads = one.0; staged = one.1; only = one.2 }

-- A call of the guest's on the pages as they stand is an event.
call_possible : (call : GuestCall) (w : World) → is_at_rest w.rings.driver.staged ≡ true → is_right call ≡ true
    → happens (GuestCalls call) w ≡ (call_made call w).0
call_possible call w rest right = grind (arith, common_steps)

-- A connect, and a send, with a page.
connects_free : (port : ℕ) (s : DriverState) → connect_refusal HOST_CID port s ≡ None → connects port s ≡ connect_with_page HOST_CID port s
connects_free port s none = rw (none, connects) refl

sends_free : (id : ℕ) (bytes : List ℕ) (s : DriverState) (e : DriverEntry) (credit : ℕ) → entry_known_as id s ≡ Some e
    → may_send_of e.value.end ≡ Ok credit → (length bytes == 0) ≡ false → (credit == 0) ≡ false
    → sends id bytes s ≡ send_with_page e (payload_of credit bytes) s
sends_free id bytes s e credit known may some free = rw (known, sends) (rw (may, sends_on) (rw (some, free, sends_with_credit) refl))

connects_refused : (port : ℕ) (s : DriverState) (why : ConnectError) → connect_refusal HOST_CID port s ≡ Some why → connects port s ≡ Done (s, Err why)
connects_refused port s why is = rw (is, connects) refl

sends_unknown : (id : ℕ) (bytes : List ℕ) (s : DriverState) → entry_known_as id s ≡ None → sends id bytes s ≡ Done (s, not_sent id s)
sends_unknown id bytes s none = rw (none, sends) refl

module _ (id : ℕ) (bytes : List ℕ) (s : DriverState) (e : DriverEntry) (known : entry_known_as id s ≡ Some e) where
  sends_known : sends id bytes s ≡ sends_on e bytes s
  sends_known = rw (known, sends) refl

  sends_stopped : (why : Stop) → may_send_of e.value.end ≡ Err why → sends id bytes s ≡ Done (s, send_stopped why)
  sends_stopped why may = sends_known ∙ rw (may, sends_on) refl

  sends_nothing : (credit : ℕ) → may_send_of e.value.end ≡ Ok credit → (length bytes == 0) ≡ true → sends id bytes s ≡ Done (s, sent.Took 0)
  sends_nothing credit may empty = sends_known ∙ rw (may, sends_on) (rw (empty, sends_with_credit) refl)

  sends_no_credit : (credit : ℕ) → may_send_of e.value.end ≡ Ok credit → (length bytes == 0) ≡ false → (credit == 0) ≡ true
      → sends id bytes s ≡ Done (with_end (wanting_credit e.value.end) e s, no_credit e.value.end)
  sends_no_credit credit may some none = sends_known ∙ rw (may, sends_on) (rw (some, none, sends_with_credit) refl)

-- What a call of the guest's leads to, by its conversation.
abbrev named : GuestCall → DriverState → Option ℕ × Option Flow
named call s = (id_named call s, flow_named call s)

abbrev after_call : (call : GuestCall) → DriverTree (DriverState × ReplyTo call) → Option ℕ × Option Flow → World → World
after_call call tree on w =
    let r = played driver_answer tree (w.rings.lists, w.rings.driver) in
    record (with_driver r.0.0 r.1 w) { journal = record { call = call; id = on.0; flow = on.1; reply = r.0.1 } ∷ w.journal }

module _ (w : World) (rest : is_at_rest w.rings.driver.staged ≡ true) where
  -- One that reaps first.
  reaped_call : (call : GuestCall) (k : DriverState → DriverTree (DriverState × ReplyTo call)) → is_right call ≡ true
      → ((m : ℕ) → makes_call call (record w.driver { in_flight = m }) ≡ k (record w.driver { in_flight = m }))
      → ((m : ℕ) → named call (record w.driver { in_flight = m }) ≡ named call w.driver)
      → Leads w (after_call call (bind (reap_all w.driver) k) (named call w.driver) w)
  reaped_call call k right same flow =
      let r = played driver_answer (reap_all w.driver) (w.rings.lists, w.rings.driver) in
      let reaps = reaps_all w.driver.in_flight w rest in
      let v = with_driver r.0 r.1 w in
      let at_rest : is_at_rest v.rings.driver.staged ≡ true = ap is_at_rest reaps.staged ∙ rest in
      leads_then w v _ reaps.leads (leads_one (GuestCalls call) v _ (call_possible call v at_rest right
      ∙ ap (λ (tree : DriverTree (DriverState × ReplyTo call)). after_call call tree (named call r.0) v)
      (ap (makes_call call) reaps.only ∙ same r.0.in_flight ∙ ap k (sym reaps.only))
      ∙ ap (λ (g : Option ℕ × Option Flow). after_call call (k r.0) g v) (ap (named call) reaps.only ∙ flow r.0.in_flight)
      ∙ ap (λ (x : (DriverState × ReplyTo call) × (Rings × EndLog)).
      let u : World = record (with_driver x.0.0 x.1 w) { journal = with_call call w.driver x.0.1 w.journal } in u)
      (sym (played_bind (reap_all w.driver) k (w.rings.lists, w.rings.driver)))))

  -- One that doesn't.
  plain_call : (call : GuestCall) (tree : DriverTree (DriverState × ReplyTo call)) → is_right call ≡ true → makes_call call w.driver ≡ tree
      → Leads w (after_call call tree (named call w.driver) w)
  plain_call call tree right same = leads_one (GuestCalls call) w _ (call_possible call w rest right
      ∙ ap (λ (t : DriverTree (DriverState × ReplyTo call)). after_call call t (named call w.driver) w) same)

  connect_leads : (port : ℕ) → is_right (Connect port) ≡ true → Leads w (guest_line (Connect port) w).0
  connect_leads port right = by (connect_refusal HOST_CID port w.driver) refl
    where
      by : (o : Option ConnectError) → connect_refusal HOST_CID port w.driver ≡ o → Leads w (after_call (Connect port)
          (elim o as (λ _. DriverTree (DriverState × Result ℕ ConnectError)) [
            | Some refusal ↦ Done (w.driver, Err refusal)
            | None ↦ bind (reap_all w.driver) (connect_with_page HOST_CID port)
          ]) (named (Connect port) w.driver) w)
      by (Some refusal) is = plain_call (Connect port) (Done (w.driver, Err refusal)) right (connects_refused port w.driver refusal is)
      by None is = reaped_call (Connect port) (connect_with_page HOST_CID port) right (λ m. connects_free port (record w.driver { in_flight = m }) is) (λ m. refl)

  send_leads : (id : ℕ) (bytes : List ℕ) → Leads w (guest_line (Send id bytes) w).0
  send_leads id bytes = by (entry_known_as id w.driver) refl
    where
      with_credit : (e : DriverEntry) (credit : ℕ) → entry_known_as id w.driver ≡ Some e → may_send_of e.value.end ≡ Ok credit → (a b : Bool)
          → (length bytes == 0) ≡ a → (credit == 0) ≡ b
          → Leads w (after_call (Send id bytes) (cond a (Done (w.driver, sent.Took 0)) (cond b
          (Done (with_end (wanting_credit e.value.end) e w.driver, no_credit e.value.end))
          (bind (reap_all w.driver) (send_with_page e (payload_of credit bytes))))) (named (Send id bytes) w.driver) w)
      with_credit e credit known may true b empty none =
          plain_call (Send id bytes) (Done (w.driver, sent.Took 0)) refl (sends_nothing id bytes w.driver e known credit may empty)
      with_credit e credit known may false true empty none =
          plain_call (Send id bytes) (Done (with_end (wanting_credit e.value.end) e w.driver, no_credit e.value.end)) refl
          (sends_no_credit id bytes w.driver e known credit may empty none)
      with_credit e credit known may false false empty none =
          reaped_call (Send id bytes) (send_with_page e (payload_of credit bytes)) refl
          (λ m. sends_free id bytes (record w.driver { in_flight = m }) e credit known may empty none) (λ m. refl)

      on : (e : DriverEntry) → entry_known_as id w.driver ≡ Some e → (r : Result ℕ Stop) → may_send_of e.value.end ≡ r
          → Leads w (after_call (Send id bytes) (elim r as (λ _. DriverTree (DriverState × Sent)) [
            | Err why ↦ Done (w.driver, send_stopped why)
            | Ok credit ↦ send_with_credit e credit bytes w.driver
          ]) (named (Send id bytes) w.driver) w)
      on e known (Err why) may =
          plain_call (Send id bytes) (Done (w.driver, send_stopped why)) refl (sends_stopped id bytes w.driver e known why may)
      on e known (Ok credit) may = with_credit e credit known may (length bytes == 0) (credit == 0) refl refl

      by : (o : Option DriverEntry) → entry_known_as id w.driver ≡ o
          → Leads w (after_call (Send id bytes) (elim o as (λ _. DriverTree (DriverState × Sent)) [
            | None ↦ Done (w.driver, not_sent id w.driver)
            | Some e ↦ send_on e bytes w.driver
          ]) (named (Send id bytes) w.driver) w)
      by None is = plain_call (Send id bytes) (Done (w.driver, not_sent id w.driver)) refl (sends_unknown id bytes w.driver is)
      by (Some e) is = on e is (may_send_of e.value.end) refl

  -- Each call of the guest's.
  pub call_leads : (call : GuestCall) → is_right call ≡ true → Leads w (guest_line call w).0
  call_leads (Connect port) right = connect_leads port right
  call_leads (Send id bytes) right = send_leads id bytes
  call_leads (Listen port) right = plain_call (Listen port) _ right refl
  call_leads (Unlisten port) right = plain_call (Unlisten port) _ right refl
  call_leads (Accept port) right = plain_call (Accept port) _ right refl
  call_leads (Recv id n) right = plain_call (Recv id n) _ right refl
  call_leads (Shutdown id bits) right = plain_call (Shutdown id bits) _ right refl
  call_leads (Grow id alloc) right = plain_call (Grow id alloc) _ right refl
  call_leads (Close id) right = plain_call (Close id) _ right refl
  call_leads (LookAt id) right = plain_call (LookAt id) _ right refl
