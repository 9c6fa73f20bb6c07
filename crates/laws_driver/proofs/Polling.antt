-- What a poll keeps, part by part.
use Rattle.std.proofs.lemmas.Grind.{common_steps}
use Rattle.std.proofs.Common.{◌≡◌, ℕ, ◌+◌, ◌<◌, ◌^◌, ◌==◌, nat_le, nat_lt, Bool, true, false, cond, List, [], ◌∷◌, length, Option, Some, None, refl, sym, ap, subst, ◌∙◌, arith}
use Rattle.std.proofs.lemmas.Bool.Decides.{nat_tests}
use Rattle.vs_contents.specs.CallTree.{Done, Ask, bind}
use Rattle.vs_conn.specs.{End.owes_of, declared.end.Owed.Owed}
use Rattle.vs_flow.specs.Table.{entry_under, slots}
use Rattle.vs_header.specs.Packet.{header_bytes}
use Rattle.laws_history.specs.declared.packet.Packet.{Packet}
use Rattle.vs_page.specs.{declared.log.LogEntry.TheVariants.{GotEvent, GotPacket, Mark}, Fair.IsFairLog, Held.{IsWhole, packet_held}, Log.{Driver, Log, flow_got}}
use Rattle.vs_page.proofs.Holding.{packet_whole}
use Rattle.vs_replies.specs.declared.Reply.{Reply}
use Rattle.vs_ring_port.specs.{EndLog.{EndLog, entries_marked, log_loaded, log_reaped, with_event, with_packet}, declared.queue.Queue.{TheVariants.{Rx, Tx, Event}, Queue}}
use Rattle.vs_ring_port.specs.{Contents.RingContents, DriverCalls.{Reap, LoadCid}}
use Rattle.laws_tables.{specs.Steps.{owed_on, reply_on}, proofs.{Fair.got_in_order, Keeps.takes_event, Slots.found_by}}
use Rattle.vs_driver_parts.specs.Conversations.{DriverTree, Round, after_paying, all_taken, event_reaped, event_taken, goes_on_with, has_page, one_put, owed_bytes, packet_reaped}
use Rattle.vs_driver_parts.specs.Conversations.{pay_all, pay_and_publish, pay_slot, poll_of, poll_packets, poll_puts, poll_reaps, polled, publish_and_pay, publish_of, published}
use Rattle.vs_driver_parts.specs.Conversations.{put_all, put_owed, put_owed_of, put_replies, put_reply, put_reply_of, reap_all, reply_header, stage_of, stage_packet, staged_again}
use Rattle.vs_driver_parts.specs.{Conversations.{start, take_all, take_event, take_packet, with_state}, Receiving.{after_reset, is_reset_event, on_packet, on_page}}
use Rattle.vs_driver_parts.{specs.{Playing.{BringsFit, FitsPorts, RingAllows}, declared.answers.Polled.Polled, State.{DriverEntry, DriverState}}, proofs.Ids.has_slot}
use Rattle.vs_limits.specs.declared.TheConstants.{DRIVER_REPLIES_FULL, OWED_MAX}
use Rattle.laws_driver.proofs.{Keeping.{Keeps, keeps_bind, keeps_each, keeps_weaker, keeps_while}, Staging.{Rests, SameBut, Ties, publish_other, publish_tx, reap_keeps}}
use Rattle.laws_driver.proofs.{Staging.{rests_tied, stage_other, stage_tx}, Putting.{owed_puts, reply_puts}, Resetting.resets, Tabling.Stands, Taking.gets_packet, Ringing.Tells}
use Rattle.laws_driver.{proofs.{Ringing.{Given, moves, tells_weaker}, Carrying.{Carries, Fact, Holds, RestsWith}}, specs.{Honest.{IsFitState, ends_of_state}, Staged.IsLeft}}

pub not_tx_rx : Rx ≡ Tx → ⊥
not_tx_rx is = absurd cc

pub not_tx_event : Event ≡ Tx → ⊥
not_tx_event is = absurd cc

-- A page with a packet comes back.
module _ (hosts : Bool) (first : ℕ) (p : Packet) (s : DriverState) (log : Log) (fits : IsFitState hosts s) (ports : FitsPorts p.header) (whole : IsWhole p) where
  got_left : (fairly : Bool) → Given fairly (IsLeft hosts first s.broken (ends_of_state s) [] log) → Given fairly (IsFairLog Driver (GotPacket p ∷ log))
      → Given fairly (IsLeft hosts first (on_packet p s).broken (ends_of_state (on_packet p s)) [] (GotPacket p ∷ log))
  got_left true left fair =
      let g = gets_packet hosts p s fits ports whole in record {
        none_refused = λ all. g.broken first log left.matches fair all ∙ left.none_refused all;
        matches = g.matches first log left.matches (got_in_order Driver first p log (fair (flow_got Driver p)));
        fair = fair;
        marks = left.marks;
      }
  got_left false left fair = tt

  got_held : (fairly : Bool) (fact : Fact) → Carries fairly hosts first fact → Given fairly (IsLeft hosts first s.broken (ends_of_state s) [] log)
      → Given fairly (IsFairLog Driver (GotPacket p ∷ log)) → Holds fact s log → Holds fact (on_packet p s) (GotPacket p ∷ log)
  got_held true fact steps left fair held = steps.got p s log fits ports whole left.matches left.fair fair held
  got_held false fact steps left fair held = steps.got p s log fits ports whole tt tt tt held

gets_with : (fairly hosts : Bool) (first : ℕ) (fact : Fact) → Carries fairly hosts first fact → (s : DriverState) (page : List ℕ) (l : EndLog) → BringsFit page
    → RestsWith fairly hosts first fact s l → Given fairly (IsFairLog Driver (log_reaped Rx (Some page) l).entries)
    → RestsWith fairly hosts first fact (on_page page s) (log_reaped Rx (Some page) l)
gets_with fairly hosts first fact steps s page l ports rest fair = by (packet_held page) refl fair
  where
    by : (o : Option Packet) → packet_held page ≡ o → Given fairly (IsFairLog Driver (with_packet (λ p. GotPacket p) o l.entries))
        → let t : DriverState = elim o [ None ↦ s | Some p ↦ on_packet p s ] in
        let log = with_packet (λ p. GotPacket p) o l.entries in
        (IsFitState hosts t × Given fairly (IsLeft hosts first t.broken (ends_of_state t) [] log) × (l.staged.tx ≡ [])) × Holds fact t log
    by None is fair = rest
    by (Some p) is fair =
        let fits = rest.0.0 in
        let whole = (packet_whole page p is).0 in (
          ((gets_packet hosts p s fits (ports p is) whole).fits, got_left hosts first p s l.entries fits (ports p is) whole fairly rest.0.1 fair, rest.0.2),
          got_held hosts first p s l.entries fits (ports p is) whole fairly fact steps rest.0.1 fair rest.1,
        )

-- An event comes back. Where it tells a reset, its Mark is still to come.
abbrev LeftBehind : Bool → Bool → ℕ → DriverState → Log → Type 0
LeftBehind true hosts first s entries =
    (older : Log) × (entries ≡ GotEvent 0 ∷ older) × IsLeft hosts first s.broken (ends_of_state s) [] older × IsFairLog Driver entries
LeftBehind false hosts first s entries = IsLeft hosts first s.broken (ends_of_state s) [] entries

event_by : (hosts : Bool) (first : ℕ) (s : DriverState) (o : Option ℕ) (entries : Log) → IsLeft hosts first s.broken (ends_of_state s) [] entries
    → IsFairLog Driver (with_event (λ id. GotEvent id) o entries)
    → LeftBehind (elim o [ None ↦ false | Some id ↦ id == 0 ]) hosts first s (with_event (λ id. GotEvent id) o entries)
event_by hosts first s None entries left fair = left
event_by hosts first s (Some id) entries left fair = by (id == 0) refl
  where
    by : (b : Bool) → (id == 0) ≡ b → LeftBehind b hosts first s (GotEvent id ∷ entries)
    by true is = let zero : id ≡ 0 = grind (arith, nat_tests, is) in (entries, ap (λ (n : ℕ). GotEvent n ∷ entries) zero, left, fair)
    by false is = record {
      none_refused = left.none_refused;
      matches = takes_event Driver first id (ends_of_state s) entries left.matches;
      fair = fair;
      marks = (λ zero. grind (arith, nat_tests, is, zero), left.marks);
    }

-- The log has an event at its end, where it tells a reset.
abbrev Begun : Bool → Log → Type 0
Begun true entries = (older : Log) × (entries ≡ GotEvent 0 ∷ older)
Begun false entries = Unit {0}

begun_by : (o : Option ℕ) (entries : Log) → Begun (elim o [ None ↦ false | Some id ↦ id == 0 ]) (with_event (λ id. GotEvent id) o entries)
begun_by o entries = grind (arith, common_steps)

abbrev EventWith : Bool → Bool → ℕ → Fact → Bool → DriverState → EndLog → Type 0
EventWith fairly hosts first fact b s l =
    (IsFitState hosts s × Given fairly (LeftBehind b hosts first s l.entries) × Begun b l.entries × (l.staged.tx ≡ [])) × Holds fact s l.entries

event_with : (fairly hosts : Bool) (first : ℕ) (fact : Fact) → Carries fairly hosts first fact → (s : DriverState) (page : List ℕ) (l : EndLog)
    → RestsWith fairly hosts first fact s l → Given fairly (IsFairLog Driver (log_reaped Event (Some page) l).entries)
    → EventWith fairly hosts first fact (is_reset_event page) s (log_reaped Event (Some page) l)
event_with fairly hosts first fact steps s page l rest fair = grind (arith, common_steps, begun_by, event_by)

-- The guest's CID is loaded.
module _ (hosts : Bool) (first cid : ℕ) (s : DriverState) (less : cid < 2 ^ 64) (fits : IsFitState hosts s) where
  reset_left : (fairly : Bool) (entries : Log) → Given fairly (LeftBehind true hosts first s entries)
      → Given fairly (IsLeft hosts first (after_reset cid s).broken (ends_of_state (after_reset cid s)) [] (entries_marked cid entries))
  reset_left true entries left =
      let r = resets cid s less fits in
      let marked : entries_marked cid entries ≡ Mark cid ∷ GotEvent 0 ∷ left.0 = ap (entries_marked cid) left.1 in
      let now : IsLeft hosts first (after_reset cid s).broken (ends_of_state (after_reset cid s)) [] (Mark cid ∷ GotEvent 0 ∷ left.0) = record {
        none_refused = λ all. r.broken ∙ left.2.none_refused all;
        matches = r.matches first (GotEvent 0 ∷ left.0) (takes_event Driver first 0 (ends_of_state s) left.0 left.2.matches);
        fair = subst (λ (log : Log). IsFairLog Driver log) left.1 left.3;
        marks = (refl, left.2.marks);
      } in
      subst (λ (log : Log). IsLeft hosts first (after_reset cid s).broken (ends_of_state (after_reset cid s)) [] log) (sym marked) now
  reset_left false entries left = tt

loads_with : (fairly hosts : Bool) (first : ℕ) (fact : Fact) → Carries fairly hosts first fact → (cid : ℕ) (s : DriverState) (l : EndLog) → cid < 2 ^ 64
    → EventWith fairly hosts first fact true s l → RestsWith fairly hosts first fact (after_reset cid s) (log_loaded cid l)
loads_with fairly hosts first fact steps cid s l less was =
    let fits = was.0.0 in
    let begun = was.0.2 in
    let here : entries_marked cid l.entries ≡ Mark cid ∷ l.entries = ap (entries_marked cid) begun.1 ∙ ap (λ (log : Log). Mark cid ∷ log) (sym begun.1) in (
      ((resets cid s less fits).fits, reset_left hosts first cid s less fits fairly l.entries was.0.1, was.0.3),
      subst (λ (log : Log). Holds fact (after_reset cid s) log) (sym here) (steps.reset cid s l.entries less fits was.1),
    )

module _ (fairly hosts : Bool) (first : ℕ) (fact : Fact) (steps : Carries fairly hosts first fact) where
  abbrev pub RoundRests : Round → RingContents → Type 0
  RoundRests r c = Rests fairly hosts first fact r.state c

  abbrev pub RoundTies : Round → RingContents → Type 0
  RoundTies r c = Ties fairly hosts first fact r.state c

  abbrev pub PairRests : Round × Bool → RingContents → Type 0
  PairRests x c = RoundRests x.0 c

  abbrev pub PairTies : Round × Bool → RingContents → Type 0
  PairTies x c = RoundTies x.0 c

  -- Events.
  taken_by : (b : Bool) (r : Round) (c : RingContents) → Tells fairly (EventWith fairly hosts first fact b r.state) c
      → Keeps RoundRests (cond b (Ask LoadCid (λ cid. Done (record r { state = after_reset cid r.state; count = r.count + 1; reset = true })))
      (Done (record r { count = r.count + 1 }))) c
  taken_by true r c tells = (
    tt,
    λ cid d made. moves fairly _ _ _ _ _ (log_loaded cid) c d made.1 (EventWith fairly hosts first fact true r.state) (RestsWith fairly hosts first fact (after_reset cid r.state))
        (λ l both fair. loads_with fairly hosts first fact steps cid r.state l made.0 both) tells,
  )
  taken_by false r c tells =
      tells_weaker fairly (EventWith fairly hosts first fact false r.state) (RestsWith fairly hosts first fact r.state)
      (λ l was. ((was.0.0, was.0.1, was.0.3), was.1)) c tells

  again : (queue : Queue) → (queue ≡ Tx → ⊥) → (r : Round) (c : RingContents) → RoundRests r c → Keeps PairRests (staged_again queue r) c
  again queue other r c rests = keeps_bind PairRests (stage_of queue [] r.state) (goes_on_with r) c (stage_other fairly hosts first fact queue other r.state [] c rests)

  event_reaped_keeps : (page : Option (List ℕ)) (r : Round) (c d : RingContents) → RingAllows (Reap Event) page c d → RoundRests r c
      → Keeps PairRests (event_reaped r page) d
  event_reaped_keeps None r c d made rests =
      moves fairly _ _ _ _ _ (log_reaped Event None) c d made.1 (RestsWith fairly hosts first fact r.state) (RestsWith fairly hosts first fact r.state) (λ l rest fair. rest) rests
  event_reaped_keeps (Some page) r c d made rests =
      keeps_bind PairRests (event_taken page r) (staged_again Event) d
      (keeps_weaker RoundRests (λ x e. Keeps PairRests (staged_again Event x) e) (λ x e kept. again Event not_tx_event x e kept) (event_taken page r) d
      (taken_by (is_reset_event page) r d
      (moves fairly _ _ _ _ _ (log_reaped Event (Some page)) c d made.1 (RestsWith fairly hosts first fact r.state) (EventWith fairly hosts first fact (is_reset_event page) r.state)
      (λ l rest fair. event_with fairly hosts first fact steps r.state page l rest fair) rests)))

  event_step : (b : Bool) (r : Round) (c : RingContents) → RoundRests r c → Keeps PairRests (cond b (Done (r, false)) (Ask (Reap Event) (event_reaped r))) c
  event_step true r c rests = rests
  event_step false r c rests = (tt, λ page d made. event_reaped_keeps page r c d made rests)

  pub take_event_keeps : (r : Round) (c : RingContents) → RoundRests r c → Keeps PairRests (take_event r) c
  take_event_keeps r c rests = event_step (nat_lt DRIVER_REPLIES_FULL (length r.state.replies)) r c rests

  -- Packets.
  packet_reaped_keeps : (page : Option (List ℕ)) (r : Round) (c d : RingContents) → RingAllows (Reap Rx) page c d → RoundRests r c
      → Keeps PairRests (packet_reaped r page) d
  packet_reaped_keeps None r c d made rests =
      moves fairly _ _ _ _ _ (log_reaped Rx None) c d made.1 (RestsWith fairly hosts first fact r.state) (RestsWith fairly hosts first fact r.state) (λ l rest fair. rest) rests
  packet_reaped_keeps (Some page) r c d made rests =
      again Rx not_tx_rx (record r { state = on_page page r.state; count = r.count + 1 }) d
      (moves fairly _ _ _ _ _ (log_reaped Rx (Some page)) c d made.1 (RestsWith fairly hosts first fact r.state) (RestsWith fairly hosts first fact (on_page page r.state))
      (λ l rest fair. gets_with fairly hosts first fact steps r.state page l made.0 rest fair) rests)

  packet_step : (b : Bool) (r : Round) (c : RingContents) → RoundRests r c → Keeps PairRests (cond b (Done (r, false)) (Ask (Reap Rx) (packet_reaped r))) c
  packet_step true r c rests = rests
  packet_step false r c rests = (tt, λ page d made. packet_reaped_keeps page r c d made rests)

  pub take_packet_keeps : (r : Round) (c : RingContents) → RoundRests r c → Keeps PairRests (take_packet r) c
  take_packet_keeps r c rests = packet_step (nat_le DRIVER_REPLIES_FULL (length r.state.replies)) r c rests

  -- Each of these parts ends by publishing what it staged.
  take_all_keeps : (queue : Queue) → (queue ≡ Tx → ⊥) → (take_one : Round → DriverTree (Round × Bool))
      → ((r : Round) (c : RingContents) → RoundRests r c → Keeps PairRests (take_one r) c) → (s : DriverState) (c : RingContents) → Rests fairly hosts first fact s c
      → Keeps RoundRests (take_all queue take_one s) c
  take_all_keeps queue other take_one each s c rests =
      keeps_bind RoundRests (all_taken take_one s) (published queue) c
      (keeps_weaker RoundRests (λ r d. Keeps RoundRests (published queue r) d)
      (λ r d kept. keeps_bind RoundRests (publish_of queue r.state) (with_state r) d (publish_other fairly hosts first fact queue other r.state d kept))
      (all_taken take_one s) c (keeps_while RoundRests take_one each s.size (start s) c rests))

  -- Owed replies.
  reply_by : (replies : List Reply) (r : Round) (c : RingContents) → r.state.replies ≡ replies → RoundTies r c → Keeps PairTies (put_reply_of replies r) c
  reply_by [] r c is ties = ties
  reply_by (reply ∷ rest) r c is ties = by (has_page r.state)
    where
      t : DriverState
      t = record r.state { replies = rest }

      by : (b : Bool) → Keeps PairTies (cond b (bind (stage_packet (header_bytes (reply_header r.state.cid reply)) (record r.state { replies = rest })) (one_put r)) (Done (r, false))) c
      by true =
          keeps_bind PairTies (stage_packet (header_bytes (reply_header r.state.cid reply)) (record r.state { replies = rest })) (one_put r) c
          (stage_tx fairly hosts first fact (reply_on Driver r.state.cid reply) r.state (record r.state { replies = rest }) (header_bytes (reply_header r.state.cid reply)) c
          (λ l tie. record {
            puts = reply_puts reply rest r.state tie.0 is;
            carries = λ log m was fair held. steps.reply reply rest r.state log tie.0 is m fair held;
          }) ties)
      by false = ties

  pub put_reply_keeps : (r : Round) (c : RingContents) → RoundTies r c → Keeps PairTies (put_reply r) c
  put_reply_keeps r c ties = reply_by r.state.replies r c refl ties

  -- What a connection owes.
  stands_under : (s : DriverState) (slot : ℕ) (e : DriverEntry) → entry_under s.table slot ≡ Some e → Stands s e
  stands_under s slot e found =
      let by = found_by (λ (x : DriverEntry). x.slot == slot) s.table.entries e found in
      let at = has_slot s.table slot e found in
      record { under = ap (entry_under s.table) at ∙ found; contains = by.0 }

  owed_by : (slot : ℕ) (e : DriverEntry) (what : Owed) (r : Round) (c : RingContents) → entry_under r.state.table slot ≡ Some e → owes_of e.value.end ≡ Some what
      → RoundTies r c → Keeps PairTies (put_owed_of what e r) c
  owed_by slot e what r c found owes ties = by (has_page r.state)
    where
      by : (b : Bool) → Keeps PairTies (cond b (bind (stage_packet (owed_bytes what e r.state) (after_paying what e r.state)) (one_put r)) (Done (r, false))) c
      by true =
          keeps_bind PairTies (stage_packet (owed_bytes what e r.state) (after_paying what e r.state)) (one_put r) c
          (stage_tx fairly hosts first fact (owed_on Driver r.state.cid e.flow e.value.end what) r.state (after_paying what e r.state) (owed_bytes what e r.state) c
          (λ l tie. let stands = stands_under r.state slot e found in record {
            puts = owed_puts what e r.state tie.0 stands owes;
            carries = λ log m was fair held. steps.owed what e r.state log tie.0 stands owes m was fair held;
          }) ties)
      by false = ties

  owes_by : (o : Option Owed) (slot : ℕ) (e : DriverEntry) (r : Round) (c : RingContents) → entry_under r.state.table slot ≡ Some e → owes_of e.value.end ≡ o
      → RoundTies r c → Keeps PairTies (elim o [ None ↦ Done (r, false) | Some what ↦ put_owed_of what e r ]) c
  owes_by None slot e r c found owes ties = ties
  owes_by (Some what) slot e r c found owes ties = owed_by slot e what r c found owes ties

  entry_by : (o : Option DriverEntry) (slot : ℕ) (r : Round) (c : RingContents) → entry_under r.state.table slot ≡ o → RoundTies r c
      → Keeps PairTies (elim o [
        | None ↦ Done (r, false)
        | Some e ↦ elim (owes_of e.value.end) [ None ↦ Done (r, false) | Some what ↦ put_owed_of what e r ]
      ]) c
  entry_by None slot r c found ties = ties
  entry_by (Some e) slot r c found ties = owes_by (owes_of e.value.end) slot e r c found refl ties

  pub put_owed_keeps : (slot : ℕ) (r : Round) (c : RingContents) → RoundTies r c → Keeps PairTies (put_owed slot r) c
  put_owed_keeps slot r c ties = entry_by (entry_under r.state.table slot) slot r c refl ties

  pay_slot_keeps : (slot : ℕ) (r : Round) (c : RingContents) → RoundTies r c → Keeps RoundTies (pay_slot slot r) c
  pay_slot_keeps slot r c ties = keeps_while RoundTies (put_owed slot) (put_owed_keeps slot) OWED_MAX r c ties

  pay_all_keeps : (r : Round) (c : RingContents) → RoundTies r c → Keeps RoundTies (pay_all r) c
  pay_all_keeps r c ties = keeps_each RoundTies pay_slot pay_slot_keeps (slots r.state.table) r c ties

  published_keeps : (r : Round) (c : RingContents) → RoundTies r c → Keeps RoundRests (published Tx r) c
  published_keeps r c ties = keeps_bind RoundRests (publish_of Tx r.state) (with_state r) c (publish_tx fairly hosts first fact r.state c ties)

  pay_and_publish_keeps : (r : Round) (c : RingContents) → RoundTies r c → Keeps RoundRests (pay_and_publish r) c
  pay_and_publish_keeps r c ties =
      keeps_bind RoundRests (pay_all r) (published Tx) c
      (keeps_weaker RoundTies (λ x d. Keeps RoundRests (published Tx x) d) published_keeps (pay_all r) c (pay_all_keeps r c ties))

  publish_and_pay_keeps : (r : Round) (c : RingContents) → RoundTies r c → Keeps RoundRests (publish_and_pay r) c
  publish_and_pay_keeps r c ties =
      keeps_bind RoundRests (published Tx r) pay_and_publish c
      (keeps_weaker RoundRests (λ x d. Keeps RoundRests (pay_and_publish x) d)
      (λ x d kept. pay_and_publish_keeps x d (rests_tied fairly hosts first fact x.state d kept)) (published Tx r) c (published_keeps r c ties))

  put_all_keeps : (s : DriverState) (c : RingContents) → Rests fairly hosts first fact s c → Keeps RoundRests (put_all s) c
  put_all_keeps s c rests =
      keeps_bind RoundRests (put_replies s) publish_and_pay c
      (keeps_weaker RoundTies (λ x d. Keeps RoundRests (publish_and_pay x) d) publish_and_pay_keeps (put_replies s) c
      (keeps_while RoundTies put_reply put_reply_keeps (length s.replies) (start s) c (rests_tied fairly hosts first fact s c rests)))

  -- The whole poll.
  abbrev EndRests : DriverState × Polled → RingContents → Type 0
  EndRests x c = Rests fairly hosts first fact x.0 c

  puts_keeps : (took : ℕ) (reset : Bool) (s : DriverState) (c : RingContents) → Rests fairly hosts first fact s c → Keeps EndRests (poll_puts took reset s) c
  puts_keeps took reset s c rests = keeps_bind EndRests (put_all s) (polled took reset) c (put_all_keeps s c rests)

  reaps_keeps : (reset : Bool) (r : Round) (c : RingContents) → RoundRests r c → Keeps EndRests (poll_reaps reset r) c
  reaps_keeps reset r c rests =
      keeps_bind EndRests (reap_all r.state) (poll_puts r.count reset) c
      (keeps_weaker (SameBut fairly hosts first fact r.state) (λ s d. Keeps EndRests (poll_puts r.count reset s) d)
      (λ s d same. puts_keeps r.count reset s d (subst (λ (x : DriverState). Rests fairly hosts first fact x d) (sym same.0) same.1)) (reap_all r.state) c
      (reap_keeps fairly hosts first fact r.state c rests))

  packets_keeps : (r : Round) (c : RingContents) → RoundRests r c → Keeps EndRests (poll_packets r) c
  packets_keeps r c rests =
      keeps_bind EndRests (take_all Rx take_packet r.state) (poll_reaps r.reset) c
      (keeps_weaker RoundRests (λ x d. Keeps EndRests (poll_reaps r.reset x) d) (reaps_keeps r.reset) (take_all Rx take_packet r.state) c
      (take_all_keeps Rx not_tx_rx take_packet take_packet_keeps r.state c rests))

  pub poll_keeps : (s : DriverState) (c : RingContents) → Rests fairly hosts first fact s c → Keeps EndRests (poll_of s) c
  poll_keeps s c rests =
      keeps_bind EndRests (take_all Event take_event s) poll_packets c
      (keeps_weaker RoundRests (λ x d. Keeps EndRests (poll_packets x) d) packets_keeps (take_all Event take_event s) c
      (take_all_keeps Event not_tx_event take_event take_event_keeps s c rests))
