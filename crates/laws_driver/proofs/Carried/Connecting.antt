-- A connect opens a connection on which nothing was delivered; and the account of a driver that was just made.
use Rattle.std.proofs.lemmas.Grind.{common_steps}
use Rattle.laws_tables.{proofs.Adding.got_over_put, specs.{Later.IsLater, Steps.{request_on, port_after}}}
use Rattle.std.{proofs.Common.{◌≡◌, ◌≢◌, ℕ, ◌+◌, ◌<◌, Bool, true, false, cond, None, List, [], ◌∷◌, refl, ap, ◌∙◌, arith, Some}, specs.List.All}
use Rattle.vs_conn.specs.End.{asked, paid_of}
use Rattle.vs_flow.{specs.{Connection.Connection, Flow.host_asks, declared.flow.Flow.Flow}, proofs.Entries.same_flow_false}
use Rattle.vs_header.specs.declared.Kind.TheVariants.{Stream}
use Rattle.vs_limits.specs.declared.TheConstants.{BUF_ALLOC, HOST_CID}
use Rattle.laws_history.specs.{History.{Answerer, Asker, Put, Side, gots, puts}, declared.packet.Packet.Packet, Again.count, Packets.is_request}
use Rattle.vs_page.specs.{Fair.{IsFairLog, asked_by, current, number_of, payload_got, payload_of}, Log.{Driver, Log, and_then, history_of, side_by, side_of, whole_of}}
use Rattle.vs_page.{specs.declared.log.LogEntry.TheVariants.PutPacket, proofs.{Flows.same_self, Present.present_got}}
use Rattle.vs_driver_parts.specs.{Connections.{connect_refusal, connected, next_flow, free_flow}, Held.HeldSlots, State.{DriverConnection, DriverState}, Conversations.new_state}
use Rattle.vs_driver_parts.proofs.Clean.{given_absent, given_to, may_connect, port_below, port_rises}
use Rattle.laws_driver.{specs.{Honest.{IsFitState, slots_of}, Carried.Received.{Account, AreReceived, EndsClean, no_account, with_opened}}, proofs.Calls.CarriesConnect}
use Rattle.laws_driver.proofs.Carried.{Polling.{Further, IsFurther, goes_then, not_there}, Logging.{opened_goes_on, opened_received}, Receiving.in_slots}
use Rattle.vs_conn.specs.declared.end.Owed.TheVariants as owed

-- The numbers given last don't count, nor do the flows that are kept.
with_last : (a : Account) (log : Log) (slots : HeldSlots) (port id : ℕ) (clean : List Flow) → AreReceived a log slots
    → AreReceived a log (record slots { last_port = port; last_id = id; clean = clean })
with_last a log slots port id clean x =
    in_slots a log slots (record slots { last_port = port; last_id = id; clean = clean }) x refl x.numbers x.held x.left

number_rises : (side : Side) (put got : List Packet) (p : Packet) → side ≡ Asker → is_request p ≡ true
    → asked_by side (p ∷ put) got ≡ asked_by side put got + 1
number_rises Asker put got p is request = ap (λ (b : Bool). cond b (count is_request put + 1) (count is_request put)) request
number_rises Answerer put got p is request = absurd cc

connected_received : (a : Account) (host : ℕ) (s : DriverState) (log : Log) → let p = request_on Driver s.cid (next_flow HOST_CID host s) Stream in
    IsFitState true s → connect_refusal HOST_CID host s ≡ None → IsFairLog Driver (PutPacket p ∷ log) → IsFurther a (slots_of s) log
    → IsFurther a (slots_of (connected HOST_CID host s)) (PutPacket p ∷ log)
connected_received a host s log fits free fair x =
    let f : Flow = next_flow HOST_CID host s in
    let p : Packet = request_on Driver s.cid f Stream in
    let new : Log = PutPacket p ∷ log in
    let may = may_connect HOST_CID host s free in
    let goes = given_to HOST_CID host s.next_port s.clean f may.flow in
    let given : free_flow f.peer f.host s.next_port s.clean ≡ Some f =
    ap (λ (n : ℕ). free_flow n f.host s.next_port s.clean) goes.peer_is ∙ ap (λ (n : ℕ). free_flow HOST_CID n s.next_port s.clean) goes.port_is ∙ may.flow in
    let side : side_of Driver f ≡ Asker = ap (λ (b : Bool). side_by Driver b) may.own in
    let w = whole_of Driver f log in
    let next : number_of Driver f new ≡ number_of Driver f log + 1 =
    ap (λ (b : Bool). let v = cond b (Put p ∷ w) w in asked_by (side_of Driver f) (puts v) (gots v)) (same_self f)
    ∙ number_rises (side_of Driver f) (puts w) (gots w) p side refl in
    let got : (k : Connection) → payload_got Driver k new ≡ payload_got Driver k log = λ k. got_over_put Driver p log k in
    let nothing : payload_got Driver (current Driver f new) new ≡ [] =
    present_got Driver f new (fair f)
    ∙ ap (λ (b : Bool). payload_of (gots (cond b (and_then (Put p) (history_of Driver f log)) (history_of Driver f log)))) (same_self f) in
    let others : (g : Flow) → g ≢ f → number_of Driver g new ≡ number_of Driver g log =
    λ g apart. ap (λ (b : Bool). let v = cond b (Put p ∷ whole_of Driver g log) (whole_of Driver g log) in asked_by (side_of Driver g) (puts v) (gots v))
    (same_flow_false g f apart) in
    let absent : All (λ e. e.flow ≢ f) s.table.entries =
    not_there s.table f (given_absent s.next_port s.table s.clean fits.clean_sound f fits.ports may.own given) in
    let c : DriverConnection = record { id = s.next_id; end = paid_of (asked Stream BUF_ALLOC) owed.Request; unread = []; unanswered = false; closed = false } in
    let port : ℕ = port_after s.next_port f.guest in
    let below : host_asks f ≡ false → f.guest < port = λ mine. port_below s.next_port f.guest in
    let later : IsLater log new = (PutPacket p ∷ [], refl) in
    let clean : EndsClean c = λ unclosed is. absurd cc in
    let b : Account = with_opened s.next_id (current Driver f new) x.0 in (
      b,
      goes_then a x.0 b x.1
          (opened_goes_on x.0 log new (slots_of s) f c port x.2 got nothing next others refl refl absent (port_rises s.next_port f.guest) below later clean),
      with_last b new (record (slots_of s) { next_port = port; next_id = s.next_id + 1; table = (connected HOST_CID host s).table }) f.guest s.next_id
          (connected HOST_CID host s).clean
          (with_last b new _ s.last_port s.last_id s.clean
          (opened_received x.0 log new (slots_of s) f c port x.2 got nothing next others refl refl absent (port_rises s.next_port f.guest) below later clean)),
    )

pub connect_carries : (first host : ℕ) (a : Account) → CarriesConnect true true first HOST_CID host (Further a) (λ answer. Further a)
connect_carries first host a = record {
  refused = λ why s log x. x;
  opens = λ s log fits free m was fair x. connected_received a host s log fits free fair x;
}

-- Nothing was received before the first call.
pub none_received : (size port id : ℕ) → AreReceived (no_account id) [] (slots_of (new_state size port id 0))
none_received size port id = grind (arith, common_steps)
