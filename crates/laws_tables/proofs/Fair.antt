-- What is put keeps a log fair, and what a fair log says of the packets that are got.
use Rattle.std.proofs.{lemmas.Grind.common_steps, Common.{rules, ◌≡◌, ◌≢◌, ℕ, ◌+◌, ◌≤◌, Bool, true, false, ◌||◌, if◌then◌else◌, is_some, ◌⊎◌, inl, inr, List, [], ◌∷◌, length}}
use Rattle.std.proofs.Common.{Some, refl, sym, ap, ◌∙◌, subst, arith}
use Rattle.vs_conn.specs.{End.{CanSend, ConnectionEnd, is_refused, owes_of, verdict_of}, Follows.{FitsMessage, Follows, IsTaken}, declared.end.{Owed.Owed, State.TheVariants.Ended}}
use Rattle.vs_conn.proofs.{Getting.get_taken, Steps.{pay_may, send_may, taken_of}}
use Rattle.vs_credit.specs.Credit.{room_of}
use Rattle.vs_flow.specs.{Flow.same_flow, declared.flow.Flow.Flow}
use Rattle.vs_header.specs.{Kind.{kind_named, kind_number}, declared.{Header.Header, Kind.Kind}}
use Rattle.laws_history.specs.{Again.{AllowsNow, IsClean, IsFairAll, present}, declared.packet.Packet.Packet, History.{Allows, Answerer, Asker, Entry, Got, History, IsFair}}
use Rattle.laws_history.specs.{History.{MayPut, Put, Side, gots, is_begun, peer, puts}, Packets.{IsFormed, allowance, bytes, has, is_clean_rst, is_request, is_rst, size}}
use Rattle.laws_history.{specs.Packets.{told_alloc, told_forwarded}, proofs.{Present.fair_once, Now.now, Quiet.marked_both, Fair.{BothSound, sound}, Ties.{Later, may_put_later}}}
use Rattle.vs_limits.specs.declared.TheConstants.{HOST_CID}
use Rattle.vs_page.specs.{Fair.{IsFairLog, IsFairOn}, Open.{cid_of, is_dropped, left_kind}, declared.log.LogEntry.{LogEntry, TheVariants.{PutPacket, GotPacket}}, Log.{Log, Role}}
use Rattle.vs_page.{specs.Log.{Driver, and_then, flow_put, flow_got, history_of, side_of, whole_of}, proofs.Entries.{fair_got_on, fair_put_on, one_put, present_is}}
use Rattle.vs_page.proofs.{Flows.same_self, Phases.kind_stays}
use Rattle.vs_replies.specs.declared.Reply.{Reply}
use Rattle.laws_tables.specs.{Ends.{Ends, is_among, is_new, replied}, Matches.{IsOwed, IsReady, MatchesFlows}, Heard.{IsAllHeard, IsInOrder, IsOrdered, IsOrderedLog, IsWithin}}
use Rattle.laws_tables.specs.{Heard.{IsWithinCredit, heard_of, hears, is_awaiting, is_empty, is_fresh, is_over, route_of}, Steps.{HasEnd, is_overrun, owed_on, payload_on}}
use Rattle.laws_tables.{specs.Steps.{reply_on, request_on}, proofs.{OnFlow.{IsOne, end_follows}, Steps.{can_old, known_goes_on, order_one}}}

-- A fair history of one connection that has begun has the REQUEST.
pub fair_begun : (side : Side) (h : History) (entry : Entry) → IsFair side (entry ∷ h)
    → is_begun side (puts (entry ∷ h)) (gots (entry ∷ h)) ≡ true
fair_begun side h entry fair = grind (arith, common_steps)

-- What was heard, and what passed: all that the end put, and some of what it got.
record IsHeardOf (k h : History) : Type 0 where
  none : h ≡ [] → k ≡ []
  puts_are : puts k ≡ puts h
  fresh : is_fresh h ≡ true → is_fresh k ≡ true
  marks : has is_clean_rst (gots k) ≡ true → has is_clean_rst (gots h) ≡ true

heard_same : (h : History) → IsHeardOf h h
heard_same = grind (arith, common_steps)

heard_after_put : (b asks : Bool) (p : Packet) (h k : History) → is_request p ≡ asks → IsHeardOf k h
    → IsHeardOf (if b then and_then (Put p) k else k) (if b then and_then (Put p) h else h)
heard_after_put = grind (arith, common_steps)

heard_after_got : (b dropped asks : Bool) (p : Packet) (h k : History) → is_request p ≡ asks → IsHeardOf k h
    → IsHeardOf (if b then hears dropped p k else k) (if b then and_then (Got p) h else h)
heard_after_got = grind (arith, common_steps)

heard_of_passed : (role : Role) (first : ℕ) (f : Flow) (log : Log) → IsHeardOf (heard_of role first f log) (history_of role f log)
heard_of_passed role first f [] = heard_same []
heard_of_passed role first f (PutPacket p ∷ log) =
    heard_after_put (same_flow f (flow_put role p)) (is_request p) p _ _ refl (heard_of_passed role first f log)
heard_of_passed role first f (GotPacket p ∷ log) =
    heard_after_got (same_flow f (flow_got role p)) (is_dropped role (cid_of first log) p.header) (is_request p) p _ _ refl
    (heard_of_passed role first f log)
heard_of_passed role first f (_ ∷ log) = heard_of_passed role first f log

pub heard_puts : (role : Role) (first : ℕ) (f : Flow) (log : Log) → puts (heard_of role first f log) ≡ puts (history_of role f log)
heard_puts role first f log = (heard_of_passed role first f log).puts_are

all_heard_got : (f : Flow) (p : Packet) (cid : ℕ) (h k : History) (b : Bool) → same_flow f (flow_got Driver p) ≡ b → f.peer ≡ HOST_CID
    → k ≡ h
    → (if b then hears (is_dropped Driver cid p.header) p k else k) ≡ (if b then and_then (Got p) h else h)
all_heard_got f p cid h k b same host is = grind (arith, common_steps)

pub heard_all : (first : ℕ) (f : Flow) (log : Log) → f.peer ≡ HOST_CID → heard_of Driver first f log ≡ history_of Driver f log
heard_all first f [] host = refl
heard_all first f (PutPacket p ∷ log) host =
    ap (λ (h : History). if same_flow f (flow_put Driver p) then and_then (Put p) h else h) (heard_all first f log host)
heard_all first f (GotPacket p ∷ log) host =
    all_heard_got f p (cid_of first log) (history_of Driver f log) (heard_of Driver first f log) (same_flow f (flow_got Driver p)) refl host
    (heard_all first f log host)
heard_all first f (_ ∷ log) host = heard_all first f log host

-- Some of the packets of a list say no more than all of them.
pub less_none : (all : List Packet) → Later [] all
less_none = grind (arith, common_steps)

pub less_same : (all : List Packet) → Later all all
less_same = grind (arith, common_steps)

forwarded_both : (some all : List Packet) (p : Packet) → told_forwarded some ≤ told_forwarded all
    → told_forwarded (p ∷ some) ≤ told_forwarded (p ∷ all)
forwarded_both some all p less = grind (arith, common_steps)

alloc_both : (some all : List Packet) (p : Packet) → told_alloc some ≤ told_alloc all → told_alloc (p ∷ some) ≤ told_alloc (p ∷ all)
alloc_both = grind (arith, common_steps)

pub less_both : (some all : List Packet) (p : Packet) → is_request p ≡ false → Later some all → Later (p ∷ some) (p ∷ all)
less_both = grind (arith, forwarded_both, alloc_both, kind_stays, common_steps)

pub less_more : (some all : List Packet) (p : Packet) → is_request p ≡ false → (is_rst p ≡ false → told_alloc all ≤ p.header.buf_alloc)
    → Later some all → Later some (p ∷ all)
less_more = grind (arith, common_steps)

got_rises : (side : Side) (h : History) (p : Packet) → MayPut (peer side) (gots h) (puts h) p → is_rst p ≡ false
    → told_alloc (gots h) ≤ p.header.buf_alloc
got_rises = grind (arith, common_steps)

less_got : (side : Side) (h k : History) (p : Packet) (same dropped asks : Bool) → is_request p ≡ asks
    → (same ≡ true → AllowsNow side h (Got p)) → Later (gots k) (gots h)
    → Later (gots (if same then hears dropped p k else k)) (gots (if same then and_then (Got p) h else h))
less_got = grind (arith, less_none, less_more, less_same, less_both, got_rises, common_steps)

less_put : (h k : History) (p : Packet) (same asks : Bool) → is_request p ≡ asks → Later (gots k) (gots h)
    → Later (gots (if same then and_then (Put p) k else k)) (gots (if same then and_then (Put p) h else h))
less_put = grind (arith, less_none, common_steps)

pub heard_less : (role : Role) (first : ℕ) (f : Flow) (log : Log) → IsFairOn role f log
    → Later (gots (heard_of role first f log)) (gots (history_of role f log))
heard_less role first f [] fair = less_none []
heard_less role first f (PutPacket p ∷ log) fair =
    let two = fair_put_on role f p log (same_flow f (flow_put role p)) refl fair in
    less_put (history_of role f log) (heard_of role first f log) p (same_flow f (flow_put role p)) (is_request p) refl
    (heard_less role first f log two.0)
heard_less role first f (GotPacket p ∷ log) fair =
    let two = fair_got_on role f p log (same_flow f (flow_got role p)) refl fair in
    less_got (side_of role f) (history_of role f log) (heard_of role first f log) p (same_flow f (flow_got role p))
    (is_dropped role (cid_of first log) p.header) (is_request p) refl two.1 (heard_less role first f log two.0)
heard_less role first f (_ ∷ log) fair = heard_less role first f log fair

-- The present connection of a fair log is fair.
pub fair_now : (role : Role) (f : Flow) (log : Log) → IsFairOn role f log → IsFair (side_of role f) (history_of role f log)
fair_now role f log fair = subst (IsFair (side_of role f)) (present_is role f log) (fair_once (side_of role f) (whole_of role f log) fair)

-- A packet that may be put after what was heard keeps the log fair.
pub put_allowed : (role : Role) (first : ℕ) (f : Flow) (p : Packet) (log : Log) → is_request p ≡ false → IsFairOn role f log
    → (let h = heard_of role first f log in MayPut (side_of role f) (puts h) (gots h) p)
    → AllowsNow (side_of role f) (history_of role f log) (Put p)
put_allowed role first f p log other fair may =
    let h = heard_of role first f log in
    let all = subst (λ x. MayPut (side_of role f) x (gots (history_of role f log)) p) (heard_puts role first f log)
    (may_put_later (side_of role f) (puts h) (gots h) (gots (history_of role f log)) p (heard_less role first f log fair) may) in
    record { opens = λ is. (let both : true ≡ false = sym is ∙ other in absurd cc); goes_on = λ is. all }

pub put_fair : (role : Role) (f : Flow) (p : Packet) (log : Log) → flow_put role p ≡ f → IsFairLog role log
    → AllowsNow (side_of role f) (history_of role f log) (Put p) → IsFairLog role (PutPacket p ∷ log)
put_fair role f p log is fair may =
    (one_put role log p).1 (fair, subst (λ x. AllowsNow (side_of role x) (history_of role x log) (Put p)) (sym is) may)

-- A REQUEST of an end that may ask.
pub request_allowed : (role : Role) (cid : ℕ) (f : Flow) (kind : Kind) (log : Log) → side_of role f ≡ Asker
    → IsReady (history_of role f log)
    → AllowsNow (side_of role f) (history_of role f log) (Put (request_on role cid f kind))
request_allowed role cid f kind log asker ready = grind (arith, common_steps)

-- Where the log is fair and what an end put is within the credit that it heard, its credit is sound.
both_sound : (side : Side) (h heard : History) → IsFair side h → puts heard ≡ puts h → Later (gots heard) (gots h) → IsWithin heard
    → BothSound (puts heard) (gots heard)
both_sound side h heard fair same less within =
    let s = subst (λ ps. BothSound ps (gots h)) (sym same) (sound side h fair) in
    grind (
      arith,
      s.out.alloc,
      s.back.fits,
      s.back.forwarded,
      s.back.alloc,
      less.bytes_more,
      less.forwarded,
      less.alloc,
      within.fits,
      within.forwarded,
    )

sound_heard : (role : Role) (first : ℕ) (f : Flow) (log : Log) → IsFairOn role f log → IsWithinCredit role first f log
    → let h = heard_of role first f log in BothSound (puts h) (gots h)
sound_heard role first f log fair within =
    both_sound (side_of role f) (history_of role f log) (heard_of role first f log) (fair_now role f log fair) (heard_puts role first f log)
    (heard_less role first f log fair) within

-- The packets that may be put, by what was heard.
pub send_may_on : (role : Role) (first cid : ℕ) (f : Flow) (e : ConnectionEnd) (payload : List ℕ) (part : Ends) (log : Log)
    → MatchesFlows role first part log
    → HasEnd f e part → CanSend e (length payload) → FitsMessage e (puts (history_of role f log)) (length payload)
    → IsFairOn role f log → IsWithinCredit role first f log
    → (let h = heard_of role first f log in MayPut (side_of role f) (puts h) (gots h) (payload_on role cid f e payload))
send_may_on role first cid f e payload part log m has can fits fair within =
    let h = heard_of role first f log in
    let fits' = subst (λ put. FitsMessage e put (length payload)) (sym (heard_puts role first f log)) fits in
    let o = end_follows role (side_of role f) h _ _ _ e (m.on f) has (can_old e (length payload) can) in
    send_may (side_of role f) (puts h) (gots h) e (route_of role cid f) payload
    (sound_heard role first f log fair within) o.follows can fits'

pub pay_may_on : (role : Role) (first cid : ℕ) (f : Flow) (e : ConnectionEnd) (what : Owed) (part : Ends) (log : Log)
    → MatchesFlows role first part log
    → HasEnd f e part → (is_new e) ≡ false → owes_of e ≡ Some what → IsFairOn role f log → IsWithinCredit role first f log
    → (let h = heard_of role first f log in MayPut (side_of role f) (puts h) (gots h) (owed_on role cid f e what))
pay_may_on role first cid f e what part log m has old owes fair within =
    let h = heard_of role first f log in
    let o = end_follows role (side_of role f) h _ _ _ e (m.on f) has old in
    pay_may (side_of role f) (puts h) (gots h) e (route_of role cid f) what (sound_heard role first f log fair within) o.follows owes

pub known_kind : (k : Kind) → is_some (kind_named (kind_number k)) ≡ true
known_kind k = grind (arith, common_steps)

pub reply_may : (role : Role) (cid : ℕ) (r : Reply) (log : Log) → IsOwed role log r
    → AllowsNow (side_of role r.flow) (history_of role r.flow log) (Put (reply_on role cid r))
reply_may = grind (arith, known_kind, common_steps)

-- Each keeps what was put within credit.
pub put_keeps_within : (role : Role) (first : ℕ) (f : Flow) (p : Packet) (log : Log) → flow_put role p ≡ f → is_request p ≡ false
    → (let h = heard_of role first f log in MayPut (side_of role f) (puts h) (gots h) p) → IsWithinCredit role first f log
    → IsWithinCredit role first f (PutPacket p ∷ log)
put_keeps_within role first f p log is other may within = grind (arith, common_steps)

pub open_within : (role : Role) (first cid : ℕ) (f : Flow) (kind : Kind) (log : Log)
    → IsWithinCredit role first f (PutPacket (request_on role cid f kind) ∷ log)
open_within role first cid f kind log = grind (arith, common_steps)

pub reply_within : (role : Role) (first cid : ℕ) (r : Reply) (log : Log) → IsWithinCredit role first r.flow log
    → IsWithinCredit role first r.flow (PutPacket (reply_on role cid r) ∷ log)
reply_within role first cid r log within = grind (arith, common_steps)

got_within_by : (side : Side) (h heard : History) (p : Packet) (same dropped asks : Bool) → is_request p ≡ asks
    → (same ≡ true → AllowsNow side h (Got p))
    → Later (gots heard) (gots h) → IsWithin heard → IsWithin (if same then hears dropped p heard else heard)
got_within_by = grind (arith, common_steps)

pub got_within : (role : Role) (first : ℕ) (f : Flow) (p : Packet) (log : Log) → IsFairOn role f (GotPacket p ∷ log)
    → IsWithinCredit role first f log
    → IsWithinCredit role first f (GotPacket p ∷ log)
got_within role first f p log fair within =
    let two = fair_got_on role f p log (same_flow f (flow_got role p)) refl fair in
    got_within_by (side_of role f) (history_of role f log) (heard_of role first f log) p (same_flow f (flow_got role p))
    (is_dropped role (cid_of first log) p.header) (is_request p) refl two.1 (heard_less role first f log two.0) within

-- A packet got that is fair comes in order, and its fields fit.
pub own_got_fair : (role : Role) (p : Packet) (log : Log) → let f = flow_got role p in IsFairOn role f (GotPacket p ∷ log)
    → IsFairOn role f log × AllowsNow (side_of role f) (history_of role f log) (Got p)
own_got_fair role p log fair =
    let two = fair_got_on role (flow_got role p) p log true (same_self (flow_got role p)) fair in (two.0, two.1 refl)

no_rst : (p : Packet) (ps : List Packet) → has is_rst (p ∷ ps) ≡ false → (is_rst p ≡ false) × (has is_rst ps ≡ false)
no_rst = grind (arith, common_steps)

-- Where an end put a marked RST and got no RST, nothing passed since.
over_by : (side : Side) (h : History) → IsFair side h → has is_clean_rst (puts h) ≡ true → has is_rst (gots h) ≡ false → is_over h ≡ true
over_by side [] fair marked plain = absurd cc
over_by side (Put p ∷ h) fair marked plain = by (is_clean_rst p) refl marked
  where
    by : (b : Bool) → is_clean_rst p ≡ b → (b || has is_clean_rst (puts h)) ≡ true → is_clean_rst p ≡ true
    by true is marked = is
    by false is marked = let both : false ≡ true = sym fair.0.quiet ∙ marked in absurd cc
over_by side (Got p ∷ h) fair marked plain =
    let two = no_rst p (gots h) plain in
    let shut = marked_both side h fair.1 marked in
    let both : false ≡ true = sym (fair.0.honest two.0).not_closed ∙ shut in absurd cc

over_fresh : (h : History) → is_over h ≡ true → is_fresh h ≡ true
over_fresh = grind (arith, common_steps)

none_fresh : (h : History) → (gots h ≡ []) × (puts h ≡ []) → is_fresh h ≡ true
none_fresh = grind (arith, common_steps)

pub request_side : (side : Side) (p : Packet) → is_request p ≡ true → MayPut (peer side) [] [] p → side ≡ Answerer
request_side = grind (arith, common_steps)

begun_some : (h : History) → is_begun Answerer (gots h) (puts h) ≡ true → is_empty h ≡ false
begun_some = grind (arith, common_steps)

pub awaiting_by : (h : History) → is_empty h ≡ false → has is_clean_rst (gots h) ≡ false → is_awaiting h ≡ true
awaiting_by h some quiet = rw (some, quiet) refl

pub fair_order : (side : Side) (h : History) (p : Packet) → IsFair side h → AllowsNow side h (Got p) → IsInOrder side h p
fair_order side h p fair may = record {
  request = λ is. (let o = may.opens is in (request_side side p is o.1, by o.0));
  asked = λ asker. by_asked asker (is_request p) refl;
}
  where
    by : ((gots h ≡ []) × (puts h ≡ [])) ⊎ IsClean (gots h) (puts h) → is_fresh h ≡ true
    by (inl none) = none_fresh h none
    by (inr clean) = over_fresh h (over_by side h fair clean.marked clean.not_reset)

    by_asked : side ≡ Asker → (b : Bool) → is_request p ≡ b → is_awaiting h ≡ true
    by_asked asker true is = let both : Asker ≡ Answerer = sym asker ∙ request_side side p is (may.opens is).1 in absurd cc
    by_asked asker false is =
        let m : MayPut Answerer (gots h) (puts h) p = subst (λ (s : Side). MayPut (peer s) (gots h) (puts h) p) asker (may.goes_on is) in
        awaiting_by h (begun_some h (m.begun is)) m.quiet

pub some_by_puts : (h k : History) → puts k ≡ puts h → has is_request (puts h) ≡ true → is_empty k ≡ false
some_by_puts = grind (arith, common_steps)

not_both : (a b : Bool) → (a ≡ true → b ≡ true) → b ≡ false → a ≡ false
not_both = grind (arith, common_steps)

pub awaiting_quiet : (h : History) → is_awaiting h ≡ true → has is_clean_rst (gots h) ≡ false
awaiting_quiet = grind (arith, common_steps)

-- Order by what passed is order by what was heard.
pub heard_order : (role : Role) (first : ℕ) (f : Flow) (p : Packet) (log : Log)
    → IsInOrder (side_of role f) (history_of role f log) p
    → (side_of role f ≡ Asker → has is_request (puts (history_of role f log)) ≡ true)
    → IsInOrder (side_of role f) (heard_of role first f log) p
heard_order role first f p log o begun = record {
  request = λ is. (let two = o.request is in (two.0, (heard_of_passed role first f log).fresh two.1));
  asked = λ asker. awaiting_by (heard_of role first f log)
      (some_by_puts (history_of role f log) (heard_of role first f log) (heard_puts role first f log) (begun asker))
      (not_both (has is_clean_rst (gots (heard_of role first f log))) (has is_clean_rst (gots (history_of role f log)))
      (heard_of_passed role first f log).marks
      (awaiting_quiet (history_of role f log) (o.asked asker)));
}

pub asked_first : (side : Side) (h : History) (p : Packet) → AllowsNow side h (Got p) → side ≡ Asker → has is_request (puts h) ≡ true
asked_first = grind (arith, common_steps)

pub got_in_order : (role : Role) (first : ℕ) (p : Packet) (log : Log) → let f = flow_got role p in IsFairOn role f (GotPacket p ∷ log)
    → IsInOrder (side_of role f) (heard_of role first f log) p
got_in_order role first p log fair =
    let f = flow_got role p in
    let two = own_got_fair role p log fair in
    heard_order role first f p log (fair_order (side_of role f) (history_of role f log) p (fair_now role f log two.0) two.1)
    (asked_first (side_of role f) (history_of role f log) p two.1)

pub got_formed : (role : Role) (p : Packet) (log : Log) → let f = flow_got role p in IsFairOn role f (GotPacket p ∷ log) → IsFormed p
got_formed role p log fair = grind (arith, common_steps)

pub got_is_taken : (role : Role) (p : Packet) (log : Log) → let f = flow_got role p in IsFairOn role f (GotPacket p ∷ log) → IsTaken p
got_is_taken role p log fair = taken_of p (got_formed role p log fair)

-- The end of a flow on which a fair packet is got follows what was heard, and the flow is open. The packet is no REQUEST.
pub got_one : (role : Role) (first : ℕ) (p : Packet) (e : ConnectionEnd) (part : Ends) (log : Log) → let f = flow_got role p in
    MatchesFlows role first part log → HasEnd f e part → IsFairOn role f (GotPacket p ∷ log)
    → IsOne (side_of role f) (heard_of role first f log) (left_kind role first f log) (is_among f (replied part.replies)) e
got_one role first p e part log m has fair = order_one role first p e part log m has (got_in_order role first p log fair)

pub got_goes_on : (role : Role) (first : ℕ) (p : Packet) (e : ConnectionEnd) (part : Ends) (log : Log) → let f = flow_got role p in
    MatchesFlows role first part log → HasEnd f e part → IsFairOn role f (GotPacket p ∷ log) → is_request p ≡ false
got_goes_on role first p e part log m has fair =
    let f = flow_got role p in
    known_goes_on (side_of role f) (heard_of role first f log) p e (got_in_order role first p log fair)
    (got_one role first p e part log m has fair).follows

pub got_fair : (role : Role) (first : ℕ) (p : Packet) (e : ConnectionEnd) (part : Ends) (log : Log) → let f = flow_got role p in
    MatchesFlows role first part log → HasEnd f e part → IsFairOn role f (GotPacket p ∷ log)
    → IsFair (side_of role f) (Got p ∷ history_of role f log)
got_fair role first p e part log m has fair =
    let two = own_got_fair role p log fair in
    (two.1.goes_on (got_goes_on role first p e part log m has fair), fair_now role (flow_got role p) log two.0)

pub got_not_refused : (role : Role) (first : ℕ) (p : Packet) (e : ConnectionEnd) (part : Ends) (log : Log) → let f = flow_got role p in
    MatchesFlows role first part log → HasEnd f e part → IsFairOn role f (GotPacket p ∷ log) → IsAllHeard role first f log
    → is_refused (verdict_of e p.header) ≡ false
got_not_refused role first p e part log m has fair all =
    let f = flow_got role p in
    let follows = subst (λ x. Follows (side_of role f) (puts x) (gots x) e) all (got_one role first p e part log m has fair).follows in
    get_taken (side_of role f) (history_of role f log) e p (got_fair role first p e part log m has fair) follows

-- Payload of a fair packet has room.
has_room : (side : Side) (put got : List Packet) (e : ConnectionEnd) (more : ℕ) → BothSound put got → Follows side put got e
    → e.state ≢ Ended
    → bytes got + more ≤ allowance put → more ≤ room_of e.credit
has_room side put got e more sound_is follows alive fits = grind (arith, common_steps)

overrun_by : (e : ConnectionEnd) (h : Header) → (e.state ≢ Ended → h.len ≤ room_of e.credit) → is_overrun (verdict_of e h) ≡ false
overrun_by = search rules

size_fits : (side : Side) (h : History) (p : Packet) → Allows side h (Got p) → bytes (gots h) ≤ allowance (puts h)
    → (p.header.len ≡ size p) × (bytes (gots h) + size p ≤ allowance (puts h))
size_fits = grind (arith, common_steps)

pub got_no_overrun : (role : Role) (first : ℕ) (p : Packet) (e : ConnectionEnd) (part : Ends) (log : Log) → let f = flow_got role p in
    MatchesFlows role first part log → HasEnd f e part → IsFairOn role f (GotPacket p ∷ log) → IsWithinCredit role first f log
    → is_overrun (verdict_of e p.header) ≡ false
got_no_overrun role first p e part log m has fair within =
    let f = flow_got role p in
    let h = history_of role f log in
    let heard = heard_of role first f log in
    let older = (own_got_fair role p log fair).0 in
    let own = got_fair role first p e part log m has fair in
    let follows = (got_one role first p e part log m has fair).follows in
    let sound_is = sound_heard role first f log older within in
    let less = heard_less role first f log older in
    let two = size_fits (side_of role f) h p own.0 (sound (side_of role f) h own.1).back.fits in
    let same = ap allowance (heard_puts role first f log) in
    overrun_by e p.header (λ alive. has_room (side_of role f) (puts heard) (gots heard) e p.header.len sound_is follows alive
    (omega (arith, two.0, two.1, less.bytes_more, same)))

-- Logs in which packets come in order.
begun_any : (side : Side) (h : History) → is_begun side (puts h) (gots h) ≡ true → is_empty h ≡ false
begun_any = grind (arith, common_steps)

pub fair_ordered : (side : Side) (w : History) → IsFairAll side w → IsOrdered side w
fair_ordered side [] fair = tt
fair_ordered side (Put p ∷ w) fair =
    let may = now side w (Put p) fair.1 fair.0 in
    (λ other. begun_any side (present w) ((may.goes_on other).begun other), fair_ordered side w fair.1)
fair_ordered side (Got p ∷ w) fair =
    (fair_order side (present w) p (fair_once side w fair.1) (now side w (Got p) fair.1 fair.0), fair_ordered side w fair.1)

awaiting_any : (h : History) → is_awaiting h ≡ true → is_empty h ≡ false
awaiting_any = grind (arith, common_steps)

asked_put : (w : History) (p : Packet) (b : Bool) → is_request p ≡ b → (is_request p ≡ false → is_empty (present w) ≡ false)
    → (is_empty (present w) ≡ false → has is_request (puts (present w)) ≡ true)
    → has is_request (puts (if b then Put p ∷ [] else Put p ∷ present w)) ≡ true
asked_put = grind (arith, common_steps)

asked_got : (w : History) (p : Packet) (b : Bool) → is_request p ≡ b → IsInOrder Asker (present w) p
    → (is_empty (present w) ≡ false → has is_request (puts (present w)) ≡ true)
    → has is_request (puts (if b then Got p ∷ [] else Got p ∷ present w)) ≡ true
asked_got = grind (arith, common_steps)

ordered_asked : (w : History) → IsOrdered Asker w → is_empty (present w) ≡ false → has is_request (puts (present w)) ≡ true
ordered_asked [] o some = absurd cc
ordered_asked (Put p ∷ w) o some = asked_put w p (is_request p) refl o.0 (ordered_asked w o.1)
ordered_asked (Got p ∷ w) o some = asked_got w p (is_request p) refl o.0 (ordered_asked w o.1)

pub ordered_in_order : (role : Role) (first : ℕ) (p : Packet) (log : Log) → let f = flow_got role p in IsOrderedLog role (GotPacket p ∷ log)
    → IsInOrder (side_of role f) (heard_of role first f log) p
ordered_in_order role first p log ordered =
    let f = flow_got role p in
    let w = whole_of role f log in
    let own : whole_of role f (GotPacket p ∷ log) ≡ Got p ∷ w = rw (same_self f) refl in
    let o = subst (IsOrdered (side_of role f)) own (ordered f) in
    let here = present_is role f log in
    heard_order role first f p log (subst (λ h. IsInOrder (side_of role f) h p) here o.0)
    (λ asker. subst (λ h. has is_request (puts h) ≡ true) here
    (ordered_asked w (subst (λ s. IsOrdered s w) asker o.1) (awaiting_any (present w) (o.0.asked asker))))

pub older_ordered : (role : Role) (entry : LogEntry) (log : Log) → IsOrderedLog role (entry ∷ log) → IsOrderedLog role log
older_ordered role entry log o = grind (arith, common_steps)

begun_peer : (side : Side) (h : History) → is_begun (peer side) (gots h) (puts h) ≡ true → is_empty h ≡ false
begun_peer = grind (arith, common_steps)

-- The first packet of a flow that a fair log has is a REQUEST.
pub got_first : (role : Role) (p : Packet) (log : Log) → let f = flow_got role p in IsFairOn role f (GotPacket p ∷ log)
    → is_empty (history_of role f log) ≡ true → is_request p ≡ true
got_first role p log fair none = by (is_request p) refl
  where
    by : (b : Bool) → is_request p ≡ b → is_request p ≡ true
    by true is = is
    by false is =
        let f = flow_got role p in
        let h = history_of role f log in
        let m = ((own_got_fair role p log fair).1.goes_on is) in
        let both : true ≡ false = sym none ∙ begun_peer (side_of role f) h (m.begun is) in absurd cc

-- What one more entry does where no packet of a flow was dropped.
pub all_put : (role : Role) (first : ℕ) (f : Flow) (p : Packet) (log : Log) → IsAllHeard role first f log
    → IsAllHeard role first f (PutPacket p ∷ log)
all_put role first f p log all = ap (λ (h : History). if same_flow f (flow_put role p) then and_then (Put p) h else h) all

pub all_got : (role : Role) (first : ℕ) (f : Flow) (p : Packet) (log : Log) → is_dropped role (cid_of first log) p.header ≡ false
    → IsAllHeard role first f log → IsAllHeard role first f (GotPacket p ∷ log)
all_got role first f p log kept all =
    ap (λ (b : Bool). if same_flow f (flow_got role p) then hears b p (heard_of role first f log) else heard_of role first f log) kept
    ∙ ap (λ (h : History). if same_flow f (flow_got role p) then and_then (Got p) h else h) all
