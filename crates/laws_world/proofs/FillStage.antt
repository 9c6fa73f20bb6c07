-- The packets and the event that the device puts in a turn are a list of events.
use Rattle.std.proofs.lemmas.Grind.{common_steps}
use Rattle.std.proofs.Common.{arith}
use Rattle.std.proofs.Common.{◌≡◌, ℕ, ◌+◌, ◌==◌, not, Bool, true, false, cond, List, [], ◌∷◌, length, Option, Some, None, Result, Ok, Err, refl, sym, subst}
use Rattle.vs_contents.specs.CallTree.{Done, Ask, bind, for_each, played, while_up_to}
use Rattle.vs_conn.specs.{End.{owes_of, wanting_credit}, Headers.owed_header, declared.end.Owed.Owed}
use Rattle.vs_credit.specs.Credit.{free_of}
use Rattle.vs_flow.specs.Table.{entry_under, slots}
use Rattle.vs_header.specs.declared.Header.{Header}
use Rattle.vs_outside.specs.{Host.read_answer, declared.host_net.StreamRead.StreamRead}
use Rattle.vs_replies.specs.declared.Reply.{Reply}
use Rattle.vs_ring_port.specs.{Contents.Take, Lists.chain_with, declared.{device_ring.Chain.Chain, failure.Failure.Failure, queue.Queue.TheVariants.Rx}}
use Rattle.vs_device_parts.specs.{Calls.{CloseStream, DeviceTree, ReadStream, Ring}, Connections.{cut_off, route_to_guest, with_connection}}
use Rattle.vs_device_parts.specs.{Connections.with_fault, Receiving.{Filling, after_paying, fill_rx_of, filled_of, hold, may_read, put_on, put_owed, put_packet, put_reply}}
use Rattle.vs_device_parts.specs.{Receiving.{read_answered, read_room, read_stream, read_with_chain, reply_header, round_from, serve_slot}, State.{DeviceEntry, DeviceState}}
use Rattle.vs_device_parts.specs.{Steps.{filling, puts_owed, puts_payload, puts_reply, reads, takes_chain}, declared.answers.Filled.Filled}
use Rattle.vs_proxy_parts.specs.{State.{ProxyState, with_device}, Turns.{device_after, fill_stage, filled}}
use Rattle.laws_world.specs.{Answers.{Around, answer_around, bytes_with}, Events.{DevicePays, DeviceReads, DeviceReplies, DeviceTakes}, Steps.Leads, World.{World, around}}
use Rattle.laws_world.proofs.{DeviceLeads.{Does, EndsFine, device_bind, device_event, does_nothing, does_then, fine_played, plays, with_proxy}, GuestLines.leads_then}
use Rattle.laws_world.proofs.TickStage.{TurnDoes, turning_at}
use Rattle.vs_limits.specs.declared.TheConstants.{OWED_MAX}
use Rattle.vs_conn.specs.declared.end.Owed.TheVariants as owed
use Rattle.vs_outside.specs.declared.host_net.StreamRead.TheVariants as read
use Rattle.laws_world.proofs.DeviceLeads as leads

abbrev filling_at : World → Filling → Filling
filling_at w x = record x { state = w.proxy.device }

abbrev filling_of : World → Filling → ProxyState
filling_of w x = with_device x.state w.proxy

abbrev FillDoes : (Filling → DeviceTree Filling) → Type 0
FillDoes step = (w : World) (x : Filling) → w.proxy.device.failed ≡ None
    → let r = plays (step (filling_at w x)) w in Does w (with_device r.0.state w.proxy) r.1

abbrev PutDoes : (Filling → DeviceTree (Filling × Bool)) → Type 0
PutDoes step = (w : World) (x : Filling) → w.proxy.device.failed ≡ None
    → let r = plays (step (filling_at w x)) w in Does w (with_device r.0.0.state w.proxy) r.1

-- Whether the stage goes on after a put, and the device's state alone.
abbrev tested : Filling → DeviceTree (Filling × Bool)
tested q = Done (q, not q.over)

abbrev left_state : Filling × Bool → DeviceTree DeviceState
left_state q = Done q.0.state

-- The world in which the device holds this chain.
abbrev holding_in : World → Chain → DeviceState
holding_in w c = record w.proxy.device { chain = Some c }

abbrev held_world : World → Chain → Around → World
held_world w c a = with_proxy (with_device (holding_in w c) w.proxy) a w

-- With a receive chain held where one is there, and then g.
module _ (w : World) (fine : w.proxy.device.failed ≡ None) (g : Filling → DeviceTree Filling)
    (none : (x : Filling) (a : Around) → played answer_around (g (record x { state = record w.proxy.device { chain = None } })) a
    ≡ (record x { state = record w.proxy.device { chain = None } }, a))
    (some : (x : Filling) (c : Chain) (a : Around) → let r = played answer_around (g (record x { state = holding_in w c })) a in
    Does (held_world w c a) (with_device r.0.state w.proxy) r.1) where
  abbrev here : Option Chain → List (List ℕ) → World
  here o given = record w {
    proxy = with_device (record w.proxy.device { chain = o }) w.proxy;
    rings = record w.rings { lists = record w.rings.lists { rx = record w.rings.lists.rx { given = given } } };
  }

  holding_by : (x : Filling) (o : Option Chain) (given : List (List ℕ))
      → let v = here o given in let r = plays (bind (hold (filling_at v x)) g) v in Does v (with_device r.0.state w.proxy) r.1
  holding_by x (Some c) given = some x c (around (here (Some c) given))
  holding_by x None [] =
      let v = here None [] in
      subst (λ r. Does v (with_device r.0.state w.proxy) r.1) (sym (none (record x { over = true }) (around v)))
      (record { leads = device_event (DeviceTakes Rx) (takes_chain Rx) v refl fine; fine = fine })
  holding_by x None (page ∷ pages) =
      let v = here None (page ∷ pages) in
      let c = chain_with Rx w.rings.lists.rx.place page in
      let rest = some x c (answer_around (Ring (Take Rx)) (around v)).1 in
      record { leads = leads_then v _ _ (device_event (DeviceTakes Rx) (takes_chain Rx) v refl fine) rest.leads; fine = rest.fine }

  pub holding_does : (x : Filling) → let r = plays (bind (hold (filling_at w x)) g) w in Does w (with_device r.0.state w.proxy) r.1
  holding_does x = holding_by x w.proxy.device.chain w.rings.lists.rx.given

-- A packet without payload is put, where the same put of another round is an event.
end_alike : (tree : DeviceTree DeviceState) (p : Filling) (a : Around)
    → played answer_around (bind (bind (bind tree (λ s. Done (record p { state = s }))) tested) left_state) a
    ≡ played answer_around tree a
end_alike (Done s) p a = refl
end_alike (Ask call k) p a = let r = answer_around call a in end_alike (k r.0) p r.1

put_does : (w : World) (fine : w.proxy.device.failed ≡ None) (h : Header) (f : DeviceState → DeviceTree DeviceState)
    → EndsFine (f (record w.proxy.device { chain = None }))
    → ((c : Chain) (a : Around) → let r = played answer_around
    (bind (bind (put_packet h f (filling (holding_in w c))) tested) left_state) a in
    Leads (held_world w c a) (with_proxy (with_device r.0 w.proxy) r.1 w))
    → (x : Filling) → let r = plays (put_packet h f (filling_at w x)) w in Does w (with_device r.0.state w.proxy) r.1
put_does w fine h f ends event x =
    holding_does w fine (λ q. elim q.state.chain as (λ _. DeviceTree Filling) [
      | None ↦ Done q
      | Some chain ↦ bind (put_on chain h [] q) (λ p. bind (f p.state) (λ s. Done (record p { state = s })))
    ]) (λ x a. refl) some x
  where
    some : (x : Filling) (c : Chain) (a : Around) → let r = played answer_around
        (bind (put_on c h [] (record x { state = holding_in w c })) (λ p. bind (f p.state) (λ s. Done (record p { state = s })))) a in
        Does (held_world w c a) (with_device r.0.state w.proxy) r.1
    some x c a =
        let tree = f (record w.proxy.device { chain = None }) in
        let b = (played answer_around (put_on c h [] (record x { state = holding_in w c })) a).1 in
        let p : Filling = record x { state = record w.proxy.device { chain = None }; put = x.put + 1 } in
        let p0 : Filling = record (filling (record w.proxy.device { chain = None })) { put = 1 } in
        subst (λ r. Does (held_world w c a) (with_device r.0.state w.proxy) r.1) (sym (device_bind tree
        (λ s. Done (record p { state = s })) b)) (record {
          leads = subst (λ r. Leads (held_world w c a) (with_proxy (with_device r.0 w.proxy) r.1 w)) (end_alike tree p0 b) (event c a);
          fine = fine_played tree b ends;
        })

-- The oldest reply.
reply_does : PutDoes put_reply
reply_does w x fine = by w.proxy.device.replies
  where
    by : (rs : List Reply) → let v = record w { proxy = with_device (record w.proxy.device { replies = rs }) w.proxy } in
        let r = plays (put_reply (filling_at v x)) v in Does v (with_device r.0.0.state w.proxy) r.1
    by [] = does_nothing _ fine
    by (reply ∷ rest) =
        let v = record w { proxy = with_device (record w.proxy.device { replies = reply ∷ rest }) w.proxy } in
        let h = reply_header reply w.proxy.device in
        let f : DeviceState → DeviceTree DeviceState = λ s. Done (record s { replies = rest }) in
        let one = put_does v fine h f fine (λ c a. device_event DeviceReplies puts_reply (held_world v c a) refl fine) x in
        let r = plays (put_packet h f (filling_at v x)) v in
        does_then v (put_packet h f (filling_at v x)) tested (λ q. with_device q.0.state w.proxy) (λ q. with_device q.state w.proxy) one
        (does_nothing (with_proxy (with_device r.0.state w.proxy) r.1 v) one.fine)

-- What a connection owes.
abbrev owed_from : Option DeviceEntry → Filling → DeviceTree (Filling × Bool)
owed_from o r = elim o as (λ _. DeviceTree (Filling × Bool)) [
  | None ↦ Done (r, false)
  | Some e ↦ elim (owes_of e.value.end) as (λ _. DeviceTree (Filling × Bool)) [
    | None ↦ Done (r, false)
    | Some what ↦
        bind (put_packet (owed_header e.value.end (route_to_guest r.state.cid e.flow) what) (after_paying what e) r) tested
  ]
]

paying_fine : (e : DeviceEntry) (what : Owed) (s : DeviceState) → s.failed ≡ None → EndsFine (after_paying what e s)
paying_fine e what s fine = grind (arith, common_steps, EndsFine)

owed_does : (slot : ℕ) → PutDoes (put_owed slot)
owed_does slot w x fine =
    by (entry_under w.proxy.device.table slot) (λ c a. device_event (DevicePays slot) (puts_owed slot) (held_world w c a) refl fine)
  where
    puts : (e : DeviceEntry) (what : Owed)
        → ((c : Chain) (a : Around) → let r = played answer_around (bind (bind
        (put_packet (owed_header e.value.end (route_to_guest w.proxy.device.cid e.flow) what) (after_paying what e) (filling
        (holding_in w c)))
        tested) left_state) a in Leads (held_world w c a) (with_proxy (with_device r.0 w.proxy) r.1 w))
        → (let r = plays (bind (put_packet (owed_header e.value.end (route_to_guest w.proxy.device.cid e.flow) what)
        (after_paying what e) (filling_at w x))
        tested) w in Does w (with_device r.0.0.state w.proxy) r.1)
    puts e what event =
        let h = owed_header e.value.end (route_to_guest w.proxy.device.cid e.flow) what in
        let one = put_does w fine h (after_paying what e) (paying_fine e what (record w.proxy.device { chain = None }) fine) event x in
        let r = plays (put_packet h (after_paying what e) (filling_at w x)) w in
        does_then w (put_packet h (after_paying what e) (filling_at w x)) tested (λ q. with_device q.0.state w.proxy)
        (λ q. with_device q.state w.proxy) one (does_nothing (with_proxy (with_device r.0.state w.proxy) r.1 w) one.fine)

    owing : (e : DeviceEntry) (o : Option Owed)
        → ((c : Chain) (a : Around) → let r = played answer_around (bind (elim o as (λ _. DeviceTree (Filling × Bool)) [
          | None ↦ Done (filling (holding_in w c), false)
          | Some what ↦ bind (put_packet (owed_header e.value.end (route_to_guest w.proxy.device.cid e.flow) what) (after_paying what e)
              (filling (holding_in w c))) tested
        ]) left_state) a in Leads (held_world w c a) (with_proxy (with_device r.0 w.proxy) r.1 w))
        → (let r = plays (elim o as (λ _. DeviceTree (Filling × Bool)) [
          | None ↦ Done (filling_at w x, false)
          | Some what ↦ bind (put_packet (owed_header e.value.end (route_to_guest w.proxy.device.cid e.flow) what) (after_paying what e)
              (filling_at w x)) tested
        ]) w in Does w (with_device r.0.0.state w.proxy) r.1)
    owing e None event = does_nothing w fine
    owing e (Some what) event = puts e what event

    by : (o : Option DeviceEntry)
        → ((c : Chain) (a : Around) → let r = played answer_around (bind (owed_from o (filling (holding_in w c))) left_state) a in
        Leads (held_world w c a) (with_proxy (with_device r.0 w.proxy) r.1 w))
        → (let r = plays (owed_from o (filling_at w x)) w in Does w (with_device r.0.0.state w.proxy) r.1)
    by None event = does_nothing w fine
    by (Some e) event = owing e (owes_of e.value.end) event

-- Payload that is read of a connection's stream.
module _ (w : World) (fine : w.proxy.device.failed ≡ None) (e : DeviceEntry) where
  module _ (x : Filling) (c : Chain) (a : Around) where
    closing_from : (b : Around) (closed : Bool)
        → (let y = played answer_around (bind (bind (cond closed (Done (with_connection e.slot (cut_off e.value) (with_fault
        (holding_in w c))))
        (Ask (CloseStream e.value.stream) (λ _. Done (with_connection e.slot (cut_off e.value) (with_fault (holding_in w c))))))
        (λ s. Done (record (filling (holding_in w c)) { state = s }))) (λ r. Done r.state)) b in
        Leads (held_world w c a) (with_proxy (with_device y.0 w.proxy) y.1 w))
        → (let r = played answer_around (bind (cond closed (Done (with_connection e.slot (cut_off e.value) (with_fault (holding_in w c))))
        (Ask (CloseStream e.value.stream) (λ _. Done (with_connection e.slot (cut_off e.value) (with_fault (holding_in w c))))))
        (λ s. Done (record x { state = s }))) b in Does (held_world w c a) (with_device r.0.state w.proxy) r.1)
    closing_from b true leads = record { leads = leads; fine = fine }
    closing_from b false leads = record { leads = leads; fine = fine }

    payload_from : (n : ℕ) (payload : List ℕ) (b : Around)
        → (let y = played answer_around (bind (read_answered c e (read.Got n) payload (filling (holding_in w c))) (λ r. Done r.state)) b in
        Leads (held_world w c a) (with_proxy (with_device y.0 w.proxy) y.1 w))
        → (let r = played answer_around (read_answered c e (read.Got n) payload (record x { state = holding_in w c })) b in
        Does (held_world w c a) (with_device r.0.state w.proxy) r.1)
    payload_from n [] b leads = record { leads = leads; fine = fine }
    payload_from n (byte ∷ bytes) b leads = record { leads = leads; fine = fine }

    answered_from : (answer : StreamRead) (payload : List ℕ) (b : Around)
        → (let y = played answer_around (bind (read_answered c e answer payload (filling (holding_in w c))) (λ r. Done r.state)) b in
        Leads (held_world w c a) (with_proxy (with_device y.0 w.proxy) y.1 w))
        → (let r = played answer_around (read_answered c e answer payload (record x { state = holding_in w c })) b in
        Does (held_world w c a) (with_device r.0.state w.proxy) r.1)
    answered_from (read.Got n) payload b leads = payload_from n payload b leads
    answered_from read.Failed payload b leads = closing_from b e.value.closed leads
    answered_from y payload b leads = record { leads = leads; fine = fine }

  reads_from : (x : Filling)
      → ((c : Chain) (a : Around) → let r = played answer_around (bind (read_with_chain e (filling (holding_in w c)))
      (λ r. Done r.state)) a in
      Leads (held_world w c a) (with_proxy (with_device r.0 w.proxy) r.1 w))
      → (let r = plays (bind (hold (filling_at w x)) (read_with_chain e)) w in Does w (with_device r.0.state w.proxy) r.1)
  reads_from x event = holding_does w fine (read_with_chain e) (λ x a. refl) some x
    where
      some : (x : Filling) (c : Chain) (a : Around)
          → let r = played answer_around (read_with_chain e (record x { state = holding_in w c })) a in
          Does (held_world w c a) (with_device r.0.state w.proxy) r.1
      some x c a =
          let room = read_room (free_of e.value.end.credit) c in
          let answer = read_answer e.value.stream room a.host in
          answered_from x c a answer (bytes_with e.value.stream answer a.host) (answer_around (ReadStream e.value.stream room) a).1
          (event c a)

abbrev read_from : Option DeviceEntry → Filling → DeviceTree Filling
read_from o r = elim o as (λ _. DeviceTree Filling) [ None ↦ Done r | Some e ↦ read_stream e r ]

abbrev reads_by : Option DeviceEntry → DeviceState → DeviceTree DeviceState
reads_by o s = elim o as (λ _. DeviceTree DeviceState) [ None ↦ Done s | Some e ↦ reads e s ]

read_does : (slot : ℕ) → FillDoes (λ r. read_from (entry_under r.state.table slot) r)
read_does slot w x fine =
    by (entry_under w.proxy.device.table slot) (device_event (DeviceReads slot) (puts_payload slot) w refl fine)
    (λ c a. device_event (DeviceReads slot) (puts_payload slot) (held_world w c a) refl fine)
  where
    credit : (e : DeviceEntry) (b : Bool)
        → (let r = plays (cond b (Done (with_connection e.slot (record e.value { end = wanting_credit e.value.end }) w.proxy.device))
        (bind (read_with_chain e (filling w.proxy.device)) (λ r. Done r.state))) w in Leads w (with_proxy (with_device r.0 w.proxy) r.1 w))
        → ((c : Chain) (a : Around) → let r = played answer_around
        (cond b (Done (with_connection e.slot (record e.value { end = wanting_credit e.value.end }) (holding_in w c)))
        (bind (read_with_chain e (filling (holding_in w c))) (λ r. Done r.state))) a in
        Leads (held_world w c a) (with_proxy (with_device r.0 w.proxy) r.1 w))
        → (let r = plays (cond b
        (Done (record x { state = with_connection e.slot (record e.value { end = wanting_credit e.value.end }) w.proxy.device }))
        (bind (hold (filling_at w x)) (read_with_chain e))) w in Does w (with_device r.0.state w.proxy) r.1)
    credit e true now event = record { leads = now; fine = fine }
    credit e false now event = reads_from w fine e x event

    may : (e : DeviceEntry) (b : Bool)
        → (let r = plays (cond b (cond (free_of e.value.end.credit == 0)
        (Done (with_connection e.slot (record e.value { end = wanting_credit e.value.end }) w.proxy.device))
        (bind (read_with_chain e (filling w.proxy.device)) (λ r. Done r.state))) (Done w.proxy.device)) w in
        Leads w (with_proxy (with_device r.0 w.proxy) r.1 w))
        → ((c : Chain) (a : Around) → let r = played answer_around (cond b (cond (free_of e.value.end.credit == 0)
        (Done (with_connection e.slot (record e.value { end = wanting_credit e.value.end }) (holding_in w c)))
        (bind (read_with_chain e (filling (holding_in w c))) (λ r. Done r.state))) (Done (holding_in w c))) a in
        Leads (held_world w c a) (with_proxy (with_device r.0 w.proxy) r.1 w))
        → (let r = plays (cond b (cond (free_of e.value.end.credit == 0)
        (Done (record x { state = with_connection e.slot (record e.value { end = wanting_credit e.value.end }) w.proxy.device }))
        (bind (hold (filling_at w x)) (read_with_chain e))) (Done (filling_at w x))) w in Does w (with_device r.0.state w.proxy) r.1)
    may e true now event = credit e (free_of e.value.end.credit == 0) now event
    may e false now event = does_nothing w fine

    by : (o : Option DeviceEntry)
        → (let r = plays (reads_by o w.proxy.device) w in Leads w (with_proxy (with_device r.0 w.proxy) r.1 w))
        → ((c : Chain) (a : Around) → let r = played answer_around (reads_by o (holding_in w c)) a in
        Leads (held_world w c a) (with_proxy (with_device r.0 w.proxy) r.1 w))
        → (let r = plays (read_from o (filling_at w x)) w in Does w (with_device r.0.state w.proxy) r.1)
    by None now event = does_nothing w fine
    by (Some e) now event = may e (may_read e.value.end e.value.end.state) now event

-- A connection is served.
fill_while : (step : Filling → DeviceTree (Filling × Bool)) → PutDoes step → (n : ℕ) → FillDoes (while_up_to n step)
fill_while step does n w x fine =
    leads.while_does filling_at filling_of (λ w a x. refl) (λ w a x y. refl) (λ w x. refl) step does n w x fine

unless_over : (f : Filling → DeviceTree Filling) → FillDoes f → FillDoes (λ r. cond r.over (Done r) (f r))
unless_over f does w x fine = by x.over
  where
    by : (b : Bool) → let r = plays (cond b (Done (filling_at w x)) (f (filling_at w x))) w in Does w (with_device r.0.state w.proxy) r.1
    by true = does_nothing w fine
    by false = does w x fine

serve_does : (slot : ℕ) → FillDoes (serve_slot slot)
serve_does slot = unless_over (λ r. bind (read_from (entry_under r.state.table slot) r)
    (λ q. cond q.over (Done q) (while_up_to OWED_MAX (put_owed slot) q))) serve
  where
    serve : FillDoes (λ r. bind (read_from (entry_under r.state.table slot) r)
        (λ q. cond q.over (Done q) (while_up_to OWED_MAX (put_owed slot) q)))
    serve w x fine =
        let one = read_does slot w x fine in
        let r = plays (read_from (entry_under w.proxy.device.table slot) (filling_at w x)) w in
        does_then w (read_from (entry_under w.proxy.device.table slot) (filling_at w x))
        (λ q. cond q.over (Done q) (while_up_to OWED_MAX (put_owed slot) q))
        (λ q. with_device q.state w.proxy) (λ q. with_device q.state w.proxy) one
        (unless_over (while_up_to OWED_MAX (put_owed slot)) (fill_while (put_owed slot) (owed_does slot) OWED_MAX)
        (with_proxy (with_device r.0.state w.proxy) r.1 w) r.0 one.fine)

serve_all : FillDoes (λ r. for_each serve_slot (round_from r.state.last_put (slots r.state.table)) r)
serve_all w x fine =
    leads.each_does filling_at filling_of (λ w a x. refl) (λ w a x y. refl) (λ w x. refl) serve_slot serve_does
    (round_from w.proxy.device.last_put (slots w.proxy.device.table)) w x fine

-- The stage.
abbrev serves : Filling → DeviceTree Filling
serves r = cond r.over (Done r) (for_each serve_slot (round_from r.state.last_put (slots r.state.table)) r)

pub fill_does : (w : World) → w.proxy.device.failed ≡ None
    → let r = plays (fill_rx_of w.proxy.device) w in Does w (with_device r.0.0 w.proxy) r.1
fill_does w fine = by w.proxy.device.failed fine
  where
    rounds : (v : World) → v.proxy.device.failed ≡ None
        → let r = plays (bind (while_up_to (length v.proxy.device.replies) put_reply (filling v.proxy.device)) (λ r. bind (serves r)
        (λ q. Done (filled_of q)))) v in
        Does v (with_device r.0.0 v.proxy) r.1
    rounds v fine =
        let n = length v.proxy.device.replies in
        let first = while_up_to n put_reply (filling v.proxy.device) in
        let one = fill_while put_reply reply_does n v (filling v.proxy.device) fine in
        let r = plays first v in
        let u = with_proxy (with_device r.0.state v.proxy) r.1 v in
        let two = unless_over (λ r. for_each serve_slot (round_from r.state.last_put (slots r.state.table)) r) serve_all u r.0 one.fine in
        let q = plays (serves r.0) u in
        does_then v first (λ r. bind (serves r) (λ q. Done (filled_of q))) (λ q. with_device q.0 v.proxy)
        (λ q. with_device q.state v.proxy) one
        (does_then u (serves r.0) (λ q. Done (filled_of q)) (λ q. with_device q.0 v.proxy) (λ q. with_device q.state v.proxy) two
        (does_nothing (with_proxy (with_device q.0.state v.proxy) q.1 u) two.fine))

    by : (o : Option Failure) → o ≡ None → let v = record w { proxy = with_device (record w.proxy.device { failed = o }) w.proxy } in
        let r = plays (fill_rx_of v.proxy.device) v in Does v (with_device r.0.0 w.proxy) r.1
    by None is = rounds (record w { proxy = with_device (record w.proxy.device { failed = None }) w.proxy }) refl
    by (Some f) is = absurd cc

pub fill_stage_does : TurnDoes fill_stage
fill_stage_does w t fine =
    let one = fill_does w fine in
    let r = plays (fill_rx_of w.proxy.device) w in
    does_then w (fill_rx_of w.proxy.device) (λ r. Done (filled r.1 (device_after r.0 (turning_at w t)))) (λ u. u.state)
    (λ r. with_device r.0 w.proxy) one
    (ended r.0.1 (does_nothing (with_proxy (with_device r.0.0 w.proxy) r.1 w) one.fine))
  where
    ended : (f : Result Filled Failure) → (let r = plays (fill_rx_of w.proxy.device) w in let v = with_proxy
        (with_device r.0.0 w.proxy) r.1 w in
        Does v (with_device r.0.0 w.proxy) r.1)
        → (let r = plays (fill_rx_of w.proxy.device) w in let v = with_proxy (with_device r.0.0 w.proxy) r.1 w in
        Does v (filled f (device_after r.0.0 (turning_at w t))).state r.1)
    ended (Ok f) does = does
    ended (Err f) does = does
