-- Whole calls leave no page staged; nor does the opening of the world.
use Rattle.std.proofs.lemmas.Grind.{common_steps}
use Rattle.std.proofs.Common.{◌≡◌, ℕ, zero, suc, ◌+◌, ◌==◌, Bool, true, false, cond, List, [], length, Option, Some, None, Result, Ok, Err, arith}
use Rattle.vs_contents.specs.CallTree.{Done, Ask, bind, played, while_up_to}
use Rattle.vs_conn.specs.{End.{may_send_of, wanting_credit}, declared.end.Stop.Stop}
use Rattle.vs_outside.specs.Host.{HostContents}
use Rattle.vs_limits.specs.declared.TheConstants.{HOST_CID}
use Rattle.vs_ring_port.specs.{DriverCalls.{Publish, Stage, driver_answer}, EndLog.{EndLog}, Lists.Rings, declared.queue.Queue.Queue}
use Rattle.vs_driver_parts.specs.{State.{DriverEntry, DriverState, entry_known_as}, declared.answers.{ConnectError.ConnectError, Sent.Sent}, Connections.connect_refusal}
use Rattle.vs_driver_parts.specs.{Connections.{with_end}, Conversations.{DriverTree, connect_with_page, no_credit, not_sent}}
use Rattle.vs_driver_parts.specs.Conversations.{payload_of, post_all, post_one, reap_all, send_on}
use Rattle.vs_driver_parts.specs.Conversations.{send_stopped, send_with_credit, send_with_page}
use Rattle.laws_world.{specs.{Events.{is_at_rest, works_on}, Plays.guest_line, World.{Beginning, World, opening}}, proofs.GuestLines.{played_bind, reaps_all}}
use Rattle.laws_world.proofs.Polls.{published_rests, rest_works}
use Rattle.laws_driver.specs.Carried.Calls.{GuestCall, Connect, Send}
use Rattle.vs_ring_port.specs.declared.queue.Queue.TheVariants as q
use Rattle.vs_driver_parts.specs.declared.answers.Sent.TheVariants as sent

abbrev AtRest : Rings × EndLog → Type 0
AtRest r = is_at_rest r.1.staged ≡ true

-- A packet that is posted is published at once.
abbrev LeavesRest : {A : Type 0} → DriverTree A → Type 0
LeavesRest tree = (r : Rings × EndLog) → AtRest r → AtRest (played driver_answer tree r).1

connect_rests : (port : ℕ) (s : DriverState) → LeavesRest (connect_with_page HOST_CID port s)
connect_rests port s = grind (arith, common_steps)

send_rests : (e : DriverEntry) (payload : List ℕ) (s : DriverState) → LeavesRest (send_with_page e payload s)
send_rests e payload s = grind (arith, common_steps)

module _ (w : World) (rest : is_at_rest w.rings.driver.staged ≡ true) where
  reaped_rests : {A : Type 0} (k : DriverState → DriverTree A) → ((s : DriverState) → LeavesRest (k s))
      → AtRest (played driver_answer (bind (reap_all w.driver) k) (w.rings.lists, w.rings.driver)).1
  reaped_rests k leaves = grind (arith, common_steps, reaps_all, played_bind)

  connecting : (port : ℕ) (o : Option ConnectError)
      → AtRest (played driver_answer (elim o as (λ _. DriverTree (DriverState × Result ℕ ConnectError)) [
        | Some refusal ↦ Done (w.driver, Err refusal)
        | None ↦ bind (reap_all w.driver) (connect_with_page HOST_CID port)
      ]) (w.rings.lists, w.rings.driver)).1
  connecting port (Some refusal) = rest
  connecting port None = reaped_rests (connect_with_page HOST_CID port) (connect_rests port)

  sending : (id : ℕ) (bytes : List ℕ) (o : Option DriverEntry)
      → AtRest (played driver_answer (elim o as (λ _. DriverTree (DriverState × Sent)) [
        | None ↦ Done (w.driver, not_sent id w.driver)
        | Some e ↦ send_on e bytes w.driver
      ]) (w.rings.lists, w.rings.driver)).1
  sending id bytes None = rest
  sending id bytes (Some e) = on (may_send_of e.value.end)
    where
      with_credit : (credit : ℕ) (a b : Bool) → AtRest (played driver_answer (cond a (Done (w.driver, sent.Took 0)) (cond b
          (Done (with_end (wanting_credit e.value.end) e w.driver, no_credit e.value.end))
          (bind (reap_all w.driver) (send_with_page e (payload_of credit bytes))))) (w.rings.lists, w.rings.driver)).1
      with_credit credit true b = rest
      with_credit credit false true = rest
      with_credit credit false false = reaped_rests (send_with_page e (payload_of credit bytes)) (send_rests e (payload_of credit bytes))

      on : (r : Result ℕ Stop) → AtRest (played driver_answer (elim r as (λ _. DriverTree (DriverState × Sent)) [
        | Err why ↦ Done (w.driver, send_stopped why)
        | Ok credit ↦ send_with_credit e credit bytes w.driver
      ]) (w.rings.lists, w.rings.driver)).1
      on (Err why) = rest
      on (Ok credit) = with_credit credit (length bytes == 0) (credit == 0)

  -- Each call of the guest's.
  pub call_rests : (call : GuestCall) → is_at_rest (guest_line call w).0.rings.driver.staged ≡ true
  call_rests (Connect port) = connecting port (connect_refusal HOST_CID port w.driver)
  call_rests (Send id bytes) = sending id bytes (entry_known_as id w.driver)
  call_rests x = rest

-- A driver just made published all that it staged.
stages : (queue : Queue) (page : List ℕ) (r : Rings × EndLog) → works_on queue r.1.staged ≡ true
    → works_on queue (driver_answer (Stage queue page) r).1.1.staged ≡ true
stages q.Rx page r works = works
stages x page r works = works

publishes : (queue : Queue) (r : Rings × EndLog) → works_on queue r.1.staged ≡ true
    → works_on queue (driver_answer (Publish queue) r).1.1.staged ≡ true
publishes q.Rx r works = works
publishes x r works = works

posts_work : (queue : Queue) (n : ℕ) (s : DriverState) (r : Rings × EndLog) → works_on queue r.1.staged ≡ true
    → works_on queue (played driver_answer (while_up_to n (post_one queue) s) r).1.1.staged ≡ true
posts_work queue zero s r works = works
posts_work queue (suc n) s r works = by (s.staged + 1 == 16) (posts_work queue n)
  where
    by : (b : Bool) → ((s : DriverState) (r : Rings × EndLog) → works_on queue r.1.staged ≡ true
        → works_on queue (played driver_answer (while_up_to n (post_one queue) s) r).1.1.staged ≡ true)
        → works_on queue (played driver_answer (bind {A = DriverState × Bool} (bind (Ask (Stage queue []) (λ _. cond b
        (Ask (Publish queue) (λ _. Done (record s { staged = 0 }))) (Done (record s { staged = s.staged + 1 })))) (λ t. Done (t, true)))
        (λ x. elim x.1 as (λ _. DriverTree DriverState) [
          | true ↦ while_up_to n
              (post_one queue) x.0
          | false ↦ Done x.0
        ])) r).1.1.staged ≡ true
    by true rest = rest _ _ (publishes queue (driver_answer (Stage queue []) r).1 (stages queue [] r works))
    by false rest = rest _ _ (stages queue [] r works)

post_all_rests : (queue : Queue) (s : DriverState) → LeavesRest (post_all queue s)
post_all_rests queue s r rest = grind (arith, common_steps, played_bind, published_rests, posts_work, rest_works)

pub opening_rests : (b : Beginning) (host : HostContents) → is_at_rest (opening b host).rings.driver.staged ≡ true
opening_rests b host = grind (arith, common_steps, played_bind, post_all_rests)
