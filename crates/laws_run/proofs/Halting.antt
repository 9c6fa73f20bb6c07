-- A call that told an app to wait leaves the driver alike, and the driver answers it so again.
use Rattle.std.proofs.lemmas.Grind.{common_steps}
use Rattle.std.proofs.Common.{◌≡◌, ◌==◌, ℕ, Bool, true, false, cond, List, [], ◌∷◌, length, Option, Some, None, Result, Ok, Err, refl, sym, ap, subst, ◌∙◌, arith}
use Rattle.std.{proofs.lemmas.{Bool.{eqb-true}, Option.same_Some}, specs.Prelude.{is_some, slice_get}}
use Rattle.vs_contents.{specs.CallTree.{Done, bind}, proofs.Leads.{AllEnds, end_of}}
use Rattle.vs_conn.specs.{End.{may_send_of, wanting_credit}, declared.end.Stop.Stop}
use Rattle.vs_credit.specs.declared.Credit.{Credit}
use Rattle.vs_limits.specs.declared.TheConstants.{HOST_CID}
use Rattle.vs_script.specs.App.{Act}
use Rattle.vs_ring_port.specs.Contents.{RingContents}
use Rattle.vs_driver_parts.specs.Connections.{after_recv, all_gone_after_read, connect_refusal, is_full, entry_answer, entry_read, gone_answer}
use Rattle.vs_driver_parts.specs.{Connections.{is_at_end, nothing_read, read_of, recv_of, state_of, unread_of_id, with_end}, Conversations.connect_of}
use Rattle.vs_driver_parts.specs.Conversations.{connect_with_page, payload_of, reap_all, send_of, send_on, no_credit, not_sent}
use Rattle.vs_driver_parts.specs.{Conversations.{send_stopped, send_with_credit, send_with_page}, Listening.{next_accepted, after_accept, accept_of, listener_on, with_waiting}}
use Rattle.vs_driver_parts.specs.{Listening.without_id, Playing.{Plays, RingAllows}, State.{DriverEntry, DriverState, GoneConnection, entry_known_as, gone_known_as}}
use Rattle.vs_driver_parts.specs.declared.answers.{Accepted.Accepted, ConnectError.ConnectError, ConnectionState.ConnectionState, Received.Received, Sent.Sent}
use Rattle.laws_driver.specs.Carried.{Calls.{GuestCall, Made, ReplyTo, whole_call}, Received.bytes_got}
use Rattle.laws_rest.proofs.Quiet.{ends_then}
use Rattle.vs_apps_parts.specs.{Scripts.{RunScript, calls_in, calls_next, told_in}, Told.{step_wait, told_accept, told_by, told_connect, told_look, told_of, told_recv, told_send}}
use Rattle.vs_apps_parts.specs.{Told.wait_of, declared.{journal.WaitsFor.WaitsFor, progress.Progress.Progress, told.Told.Told}}
use Rattle.laws_apps.specs.Runs.{MakesCalls, Run}
use Rattle.laws_run.proofs.Alike.{Alike, HasApart, Leaves, accepted_alike, full_alike, known_too, leaves_core, leaves_none, leaves_then, leaves_wanting, may_send_too, recv_alike}
use Rattle.laws_run.proofs.{Alike.state_alike, Still.{HasRoom, SameCore, core_same, reaps_all, room_stays}}
use Rattle.vs_run_report.specs.Right.{may_wait}
use Rattle.vs_conn.specs.declared.end.Stop.TheVariants as stop
use Rattle.vs_driver_parts.specs.declared.answers.Accepted.TheVariants as accepted
use Rattle.vs_driver_parts.specs.declared.answers.ConnectionState.TheVariants as seen
use Rattle.vs_driver_parts.specs.declared.answers.Received.TheVariants as got
use Rattle.vs_driver_parts.specs.declared.answers.Sent.TheVariants as sent
use Rattle.laws_driver.specs.Carried.Calls as call
use Rattle.vs_apps_parts.specs.declared.journal.WaitsFor.TheVariants as waits
use Rattle.vs_apps_parts.specs.declared.told.Told.TheVariants as says

-- What an end says to a send on a connection.
pub record SaysToSend (id : ℕ) (answer : Result ℕ Stop) (s : DriverState) : Type 0 where
  pub entry : DriverEntry
  pub there : entry_known_as id s ≡ Some entry
  pub says : may_send_of entry.value.end ≡ answer

abbrev pub StopsSend : ℕ → WaitsFor → DriverState → Type 0
StopsSend id waits.NotOpen s = SaysToSend id (Err stop.NotOpen) s
StopsSend id (waits.NoCredit tx alloc fwd) s = SaysToSend id (Ok 0) s
StopsSend id (waits.NoDescriptor in_flight) s = Unit {0}
StopsSend id why s = ⊥

-- What a connect may wait for before it asked, and an accept.
abbrev pub StopsConnect : WaitsFor → DriverState → Type 0
StopsConnect waits.Full s = is_full s ≡ true
StopsConnect (waits.NoDescriptor in_flight) s = Unit {0}
StopsConnect why s = ⊥

abbrev pub StopsAccept : ℕ → WaitsFor → DriverState → Type 0
StopsAccept port waits.NoneWaiting s = (is_some (listener_on port s.listeners) ≡ true) × (next_accepted port s ≡ None)
StopsAccept port why s = ⊥

-- Where a page may be put, nothing waits for one.
abbrev pub IsRoomy : WaitsFor → Type 0
IsRoomy (waits.NoDescriptor in_flight) = ⊥
IsRoomy why = Unit {0}

-- The driver's answer to a call is to wait for this.
abbrev pub Stops : GuestCall → WaitsFor → DriverState → Type 0
Stops (call.Send id bytes) why s = StopsSend id why s
Stops (call.Recv id n) why s = wait_of (told_recv (recv_of id n s)) ≡ Some why
Stops (call.LookAt id) why s = wait_of (told_look (state_of id s)) ≡ Some why
Stops (call.Connect port) why s = StopsConnect why s
Stops (call.Accept port) why s = StopsAccept port why s
Stops c why s = ⊥

stops_send : (id : ℕ) (why : WaitsFor) (s t : DriverState) → Alike s t → StopsSend id why s → StopsSend id why t
stops_send id waits.NotOpen s t alike stops = record {
  entry = (known_too s t alike id stops.entry stops.there).entry;
  there = (known_too s t alike id stops.entry stops.there).there;
  says = may_send_too s t alike id stops.entry stops.there ∙ stops.says;
}
stops_send id (waits.NoCredit tx alloc fwd) s t alike stops = record {
  entry = (known_too s t alike id stops.entry stops.there).entry;
  there = (known_too s t alike id stops.entry stops.there).there;
  says = may_send_too s t alike id stops.entry stops.there ∙ stops.says;
}
stops_send id (waits.NoDescriptor n) s t alike stops = tt
stops_send id waits.Full s t alike stops = stops
stops_send id waits.Empty s t alike stops = stops
stops_send id waits.NoneWaiting s t alike stops = stops

stops_connecting : (why : WaitsFor) (s t : DriverState) → Alike s t → StopsConnect why s → StopsConnect why t
stops_connecting why s t alike stops = grind (arith, common_steps, full_alike)

stops_accepting : (port : ℕ) (why : WaitsFor) (s t : DriverState) → Alike s t → StopsAccept port why s → StopsAccept port why t
stops_accepting port why s t alike stops = grind (arith, common_steps, accepted_alike)

pub stops_alike : (c : GuestCall) (why : WaitsFor) (s t : DriverState) → Alike s t → Stops c why s → Stops c why t
stops_alike c why s t alike stops = grind (arith, common_steps, stops_send, recv_alike, state_alike, stops_connecting, stops_accepting)

-- A connect.
abbrev Connects : DriverState → DriverState × Result ℕ ConnectError → Type 0
Connects s x = (why : WaitsFor) → wait_of (told_connect x.1) ≡ Some why → SameCore s x.0 × StopsConnect why s × (HasRoom s → IsRoomy why)

-- What refuses a connect at once, and what an accept finds that waits.
stops_connect : (host : ℕ) (s : DriverState) (r : ConnectError) (why : WaitsFor) → connect_refusal HOST_CID host s ≡ Some r → wait_of (told_connect (Err r)) ≡ Some why
    → StopsConnect why s
stops_connect host s r why at is = grind (arith, common_steps)

stops_accept : (port : ℕ) (s : DriverState) (b : Bool) (o : Option ℕ) (why : WaitsFor) → is_some (listener_on port s.listeners) ≡ b → next_accepted port s ≡ o
    → wait_of (told_accept (cond b (elim o as (λ _. Accepted) [ None ↦ accepted.None | Some id ↦ accepted.Conn id ]) accepted.NotListening)) ≡ Some why
    → StopsAccept port why s
stops_accept port s b o why listens none is = grind (arith, common_steps, same_Some)

connects_page : (host : ℕ) (s t : DriverState) → SameCore s t → AllEnds (Connects s) (connect_with_page HOST_CID host t)
connects_page host s t same = grind (arith, common_steps)

-- What refuses a connect at once is no want of a page.
refusal_roomy : (host : ℕ) (s : DriverState) (refusal : ConnectError) (why : WaitsFor) → connect_refusal HOST_CID host s ≡ Some refusal
    → wait_of (told_connect (Err refusal)) ≡ Some why → IsRoomy why
refusal_roomy host s refusal why is waits = grind (arith, common_steps)

connects_as : (host : ℕ) (s : DriverState) (o : Option ConnectError) → connect_refusal HOST_CID host s ≡ o → AllEnds (Connects s) (elim o [
  | Some refusal ↦ Done (s, Err refusal)
  | None ↦ bind (reap_all s) (connect_with_page HOST_CID host)
])
connects_as host s (Some refusal) at = λ why is. (core_same s, stops_connect host s refusal why at is, λ room. refusal_roomy host s refusal why at is)
connects_as host s None at =
    ends_then (Connects s) (SameCore s) (reap_all s) (connect_with_page HOST_CID host) (reaps_all s) (λ t same. connects_page host s t same)

-- A send.
abbrev Sends : ℕ → DriverState → DriverState × Sent → Type 0
Sends id s x = (why : WaitsFor) → wait_of (told_send x.1) ≡ Some why → Leaves s x.0 × StopsSend id why s × (HasRoom s → HasRoom x.0 × IsRoomy why)

sends_page : (id : ℕ) (e : DriverEntry) (payload : List ℕ) (s t : DriverState) → SameCore s t → AllEnds (Sends id s) (send_with_page e payload t)
sends_page id e payload s t same = grind (arith, common_steps)

sends_credit : (id : ℕ) (bytes : List ℕ) (e : DriverEntry) (credit : ℕ) (s : DriverState) → entry_known_as id s ≡ Some e
    → may_send_of e.value.end ≡ Ok credit → AllEnds (Sends id s) (send_with_credit e credit bytes s)
sends_credit id bytes e credit s at may = by (length bytes == 0) (credit == 0) refl
  where
    wants : (credit == 0) ≡ true → (why : WaitsFor) → wait_of (told_send (no_credit e.value.end)) ≡ Some why → StopsSend id why s
    wants zero why is =
        let c : Credit = e.value.end.credit in
        subst (λ (w : WaitsFor). StopsSend id w s) (same_Some (waits.NoCredit c.tx_cnt c.peer_alloc c.peer_fwd) why is)
        (record { entry = e; there = at; says = may ∙ ap (λ (n : ℕ). let r : Result ℕ Stop = Ok n in r) (eqb-true credit 0 zero) })

    roomy : (why : WaitsFor) → wait_of (told_send (no_credit e.value.end)) ≡ Some why → IsRoomy why
    roomy why is =
        let c : Credit = e.value.end.credit in subst IsRoomy (same_Some (waits.NoCredit c.tx_cnt c.peer_alloc c.peer_fwd) why is) tt

    by : (none : Bool) (b : Bool) → (credit == 0) ≡ b → AllEnds (Sends id s) (cond none (Done (s, sent.Took 0))
        (cond b (Done (with_end (wanting_credit e.value.end) e s, no_credit e.value.end))
        (bind (reap_all s) (send_with_page e (payload_of credit bytes)))))
    by true b is = λ why waits. absurd cc
    by false true is = λ why waits. (leaves_wanting id s e at, wants is why waits, λ room. (room, roomy why waits))
    by false false is =
        ends_then (Sends id s) (SameCore s) (reap_all s) (send_with_page e (payload_of credit bytes)) (reaps_all s)
        (λ t same. sends_page id e (payload_of credit bytes) s t same)

sends_may : (id : ℕ) (bytes : List ℕ) (e : DriverEntry) (s : DriverState) (r : Result ℕ Stop) → entry_known_as id s ≡ Some e
    → may_send_of e.value.end ≡ r
    → AllEnds (Sends id s) (elim r [ Err why ↦ Done (s, send_stopped why) | Ok credit ↦ send_with_credit e credit bytes s ])
sends_may id bytes e s r at may = grind (arith, common_steps, sends_credit, leaves_none, same_Some)

sends_as : (id : ℕ) (bytes : List ℕ) (s : DriverState) (o : Option DriverEntry) → entry_known_as id s ≡ o
    → AllEnds (Sends id s) (elim o [ None ↦ Done (s, not_sent id s) | Some e ↦ send_on e bytes s ])
sends_as id bytes s (Some e) at = sends_may id bytes e s (may_send_of e.value.end) at refl
sends_as id bytes s None at = by (is_some (gone_known_as id s))
  where
    by : (b : Bool) → Sends id s (s, cond b sent.Reset sent.Unknown)
    by true = λ why waits. absurd cc
    by false = λ why waits. absurd cc

-- A receive.
entry_stays : (n : ℕ) (e : DriverEntry) (s : DriverState) (unread : List ℕ) (why : WaitsFor) → e.value.unread ≡ unread
    → wait_of (told_recv (read_of n unread (cond (is_at_end e.value.end) got.End (nothing_read e.value.end.state)))) ≡ Some why → entry_read n e s ≡ s
entry_stays n e s unread why is waits = grind (arith, common_steps)

gone_stays : (n : ℕ) (g : GoneConnection) (unread : List ℕ) (why : WaitsFor) → wait_of (told_recv (read_of n unread (cond (is_at_end g.end) got.End got.Reset))) ≡ Some why → ⊥
gone_stays n g unread why waits = grind (arith, common_steps)

recv_stays : (id n : ℕ) (s : DriverState) (o : Option DriverEntry) (q : Option GoneConnection) (why : WaitsFor)
    → wait_of (told_recv (elim o as (λ _. Received) [
      | Some e ↦ entry_answer n e
      | None ↦ elim q as (λ _. Received) [ None ↦ got.Unknown | Some g ↦ gone_answer n g ]
    ])) ≡ Some why
    → elim o as (λ _. DriverState) [ Some e ↦ entry_read n e s | None ↦ record s { gone = all_gone_after_read id n s.gone } ] ≡ s
recv_stays id n s o q why waits = grind (arith, common_steps, entry_stays, gone_stays)

-- An accept.
accept_stays : (port : ℕ) (s : DriverState) (b : Bool) (o : Option ℕ) (why : WaitsFor)
    → wait_of (told_accept (cond b (elim o as (λ _. Accepted) [ None ↦ accepted.None | Some id ↦ accepted.Conn id ]) accepted.NotListening)) ≡ Some why
    → elim o as (λ _. DriverState) [ None ↦ s | Some id ↦ record s { listeners = with_waiting port (without_id id) s.listeners } ] ≡ s
accept_stays port s b o why waits = grind (arith, common_steps)

same_leaves : (s t : DriverState) → t ≡ s → Leaves s t
same_leaves s t is = subst (λ (x : DriverState). Leaves s x) (sym is) (leaves_none s)

recv_roomy : (r : Received) (why : WaitsFor) → wait_of (told_recv r) ≡ Some why → IsRoomy why
recv_roomy r why is = grind (arith, common_steps)

look_roomy : (r : ConnectionState) (why : WaitsFor) → wait_of (told_look r) ≡ Some why → IsRoomy why
look_roomy r why is = grind (arith, common_steps, same_Some)

accept_roomy : (r : Accepted) (why : WaitsFor) → wait_of (told_accept r) ≡ Some why → IsRoomy why
accept_roomy r why is = grind (arith, common_steps, same_Some)

pub waits_leave : (c : GuestCall) (s t : DriverState) (old new : RingContents) (reply : ReplyTo c) (why : WaitsFor)
    → Plays (whole_call c s) old (t, reply) new → wait_of (told_by c reply) ≡ Some why → Leaves s t × Stops c why s × (HasRoom s → HasRoom t × IsRoomy why)
waits_leave (call.Connect port) s t old new reply why plays waits =
    let both = end_of (Connects s) RingAllows (connect_of port s) old new (t, reply) (connects_as port s (connect_refusal HOST_CID port s) refl) plays why waits in
    (leaves_core s t both.0, both.1, λ room. (room_stays s t both.0 room, both.2 room))
waits_leave (call.Send id bytes) s t old new reply why plays waits =
    end_of (Sends id s) RingAllows (send_of id bytes s) old new (t, reply) (sends_as id bytes s (entry_known_as id s) refl) plays why waits
waits_leave (call.Recv id n) s t old new reply why plays waits =
    let same : (after_recv id n s, (recv_of id n s, bytes_got (recv_of id n s) (unread_of_id id s))) ≡ (t, reply) = plays.0 in
    let state : after_recv id n s ≡ t = ap (λ x. x.0) same in
    let answer : recv_of id n s ≡ reply.0 = ap (λ x. x.1.0) same in
    let so : wait_of (told_recv (recv_of id n s)) ≡ Some why = ap (λ (r : Received). wait_of (told_recv r)) answer ∙ waits in
    let stays : t ≡ s = sym state ∙ recv_stays id n s (entry_known_as id s) (gone_known_as id s) why so in
    (same_leaves s t stays, so, λ room. (subst HasRoom (sym stays) room, recv_roomy (recv_of id n s) why so))
waits_leave (call.LookAt id) s t old new reply why plays waits =
    let same : (s, state_of id s) ≡ (t, reply) = plays.0 in
    let so : wait_of (told_look (state_of id s)) ≡ Some why = ap (λ x. wait_of (told_look x.1)) same ∙ waits in (
      same_leaves s t (sym (ap (λ x. x.0) same)),
      so,
      λ room. (subst HasRoom (ap (λ x. x.0) same) room, look_roomy (state_of id s) why so),
    )
waits_leave (call.Accept port) s t old new reply why plays waits =
    let same : (after_accept port s, accept_of port s) ≡ (t, reply) = plays.0 in
    let so : wait_of (told_accept (accept_of port s)) ≡ Some why = ap (λ x. wait_of (told_accept x.1)) same ∙ waits in
    let stays : t ≡ s = sym (ap (λ x. x.0) same) ∙ accept_stays port s (is_some (listener_on port s.listeners)) (next_accepted port s) why so in (
      same_leaves s t stays,
      stops_accept port s (is_some (listener_on port s.listeners)) (next_accepted port s) why refl refl so,
      λ room. (subst HasRoom (sym stays) room, accept_roomy (accept_of port s) why so),
    )
waits_leave (call.Listen port) s t old new reply why plays waits = absurd cc
waits_leave (call.Unlisten port) s t old new reply why plays waits = absurd cc
waits_leave (call.Shutdown id bits) s t old new reply why plays waits = absurd cc
waits_leave (call.Grow id alloc) s t old new reply why plays waits = absurd cc
waits_leave (call.Close id) s t old new reply why plays waits = absurd cc

-- The calls of a step that waits: the last of them is the one that says for what.
abbrev pub last_of : List GuestCall → Option GuestCall
last_of [] = None
last_of (c ∷ []) = Some c
last_of (c ∷ d ∷ cs) = last_of (d ∷ cs)

abbrev pub first_call : List GuestCall → Option GuestCall
first_call [] = None
first_call (c ∷ cs) = Some c

-- The first of them told to wait too, maybe for something else.
pub record FirstStops (c : GuestCall) (old new : DriverState) : Type 0 where
  pub why : WaitsFor
  pub stops : HasApart new → Stops c why new
  pub roomy : HasRoom old → IsRoomy why

pub record Halted (calls : List GuestCall) (why : WaitsFor) (old new : DriverState) : Type 0 where
  pub leaves : Leaves old new
  pub call : GuestCall
  pub last : last_of calls ≡ Some call
  pub stops : HasApart new → Stops call why new
  pub room : HasRoom old → HasRoom new × IsRoomy why
  pub firsts : (c : GuestCall) → first_call calls ≡ Some c → FirstStops c old new

pub first_waits : (t : Told) (ts : List Told) (why : WaitsFor) → step_wait (t ∷ ts) ≡ Some why → (w : WaitsFor) × (wait_of t ≡ Some w)
first_waits (says.Waits w) ts why waits = (w, refl)
first_waits (says.Asked id) ts why waits = absurd cc
first_waits (says.Given id) ts why waits = absurd cc
first_waits (says.Took n) ts why waits = absurd cc
first_waits (says.Got n) ts why waits = absurd cc
first_waits says.Ends ts why waits = absurd cc

pub rest_waits : (t u : Told) (ts : List Told) (why : WaitsFor) → step_wait (t ∷ u ∷ ts) ≡ Some why → step_wait (u ∷ ts) ≡ Some why
rest_waits t u ts why waits = grind (arith, common_steps)

only_wait : (t : Told) (why : WaitsFor) → step_wait (t ∷ []) ≡ Some why → wait_of t ≡ Some why
only_wait t why is = grind (arith, common_steps)

pub calls_halt : (script : RunScript) (k : ℕ) (made : List Made) (why : WaitsFor) (old new : Run) → step_wait (told_in made) ≡ Some why
    → MakesCalls script k made old new → Halted (calls_in made) why old.driver new.driver
calls_halt script k [] why old new waits makes = absurd cc
calls_halt script k (m ∷ []) why old new waits makes =
    let both = waits_leave m.call old.driver makes.0.driver old.ring makes.0.ring m.reply why makes.1.plays (only_wait (told_of m) why waits) in
    let same : new.driver ≡ makes.0.driver = ap (λ (r : Run). r.driver) makes.2 in
    let leaves : Leaves old.driver new.driver = subst (λ (s : DriverState). Leaves old.driver s) (sym same) both.0 in
    record {
      leaves = leaves;
      call = m.call;
      last = refl;
      stops = λ apart. stops_alike m.call why old.driver new.driver (leaves apart).1 both.1;
      room = λ room. let r = both.2 room in (subst HasRoom (sym same) r.0, r.1);
      firsts = λ c is. subst (λ (d : GuestCall). FirstStops d old.driver new.driver) (same_Some m.call c is) (record {
        why = why;
        stops = λ apart. stops_alike m.call why old.driver new.driver (leaves apart).1 both.1;
        roomy = λ room. (both.2 room).1;
      });
    }
calls_halt script k (m ∷ n ∷ ms) why old new waits makes =
    let first = first_waits (told_of m) (told_in (n ∷ ms)) why waits in
    let one = waits_leave m.call old.driver makes.0.driver old.ring makes.0.ring m.reply first.0 makes.1.plays first.1 in
    let rest = calls_halt script k (n ∷ ms) why makes.0 new (rest_waits (told_of m) (told_of n) (told_in ms) why waits) makes.2 in
    record {
      leaves = leaves_then old.driver makes.0.driver new.driver one.0 rest.leaves;
      call = rest.call;
      last = rest.last;
      stops = rest.stops;
      room = λ room. rest.room (one.2 room).0;
      firsts = λ c is. subst (λ (d : GuestCall). FirstStops d old.driver new.driver) (same_Some m.call c is) (record {
        why = first.0;
        stops = λ apart.
            stops_alike m.call first.0 old.driver new.driver (leaves_then old.driver makes.0.driver new.driver one.0 rest.leaves apart).1 one.1;
        roomy = λ room. (one.2 room).1;
      });
    }

-- An app waits at an instruction for this, and the driver answers the last of its next calls so; not for a page, where one might be put at first.
module _ (first : DriverState) where
  pub record Halts (acts : List Act) (p : Progress) (why : WaitsFor) (s : DriverState) : Type 0 where
    pub act : Act
    pub next : slice_get acts p.at ≡ Some act
    pub may : may_wait act why ≡ true
    pub call : GuestCall
    pub last : last_of (calls_next act p) ≡ Some call
    pub stops : HasApart s → Stops call why s
    pub roomy : HasRoom first → IsRoomy why
    pub firsts : (c : GuestCall) → first_call (calls_next act p) ≡ Some c → FirstStops c first s

  pub halts_on : (acts : List Act) (p : Progress) (why : WaitsFor) (s t : DriverState) → Leaves s t → Halts acts p why s → Halts acts p why t
  halts_on acts p why s t leaves halts = record {
    act = halts.act;
    next = halts.next;
    may = halts.may;
    call = halts.call;
    last = halts.last;
    stops = λ apart. let was = leaves apart in stops_alike halts.call why s t was.1 (halts.stops was.0);
    roomy = halts.roomy;
    firsts = λ c is. let was = halts.firsts c is in record {
      why = was.why;
      stops = λ apart. let l = leaves apart in stops_alike c was.why s t l.1 (was.stops l.0);
      roomy = was.roomy;
    };
  }
