-- What an end puts keeps its log fair by the peer.
use Rattle.std.proofs.Common.{◌≡◌, ℕ, ◌≤◌, Bool, true, false, if◌then◌else◌, List, [], ◌∷◌, length, Some, refl, sym, ap, ◌∙◌, subst, subst₂, arith}
use Rattle.std.proofs.lemmas.Grind.{common_steps}
use Rattle.vs_conn.{specs.{Follows.{FitsMessage, IsTaken}, declared.end.Owed.Owed, End.{CanSend, ConnectionEnd, owes_of}}, proofs.Steps.{pay_may, send_may, taken_of}}
use Rattle.vs_flow.specs.{Flow.{is_host, same_flow}, declared.flow.Flow.Flow}
use Rattle.vs_header.specs.declared.Kind.{Kind}
use Rattle.laws_history.specs.{Again.{AllowsNow, MayPutNow, present}, Beside.{is_plain_rst, steadied, steady}, History.{Answerer, Asker, Got, History, IsFair, MayPut, Put, Side, gots, peer, puts}, declared.packet.Packet.Packet}
use Rattle.laws_history.specs.Packets.{IsFormed, has, is_clean_rst, is_request, is_rst, told_alloc}
use Rattle.laws_history.proofs.{BesidePairs.{sound_beside, steadied_fair, steady_gots, steady_present, steady_puts}, Fair.{BothSound, sound}, Present.fair_once, Steady.now_formed, Ties.{Later, may_put_later}}
use Rattle.vs_page.specs.{Fair.{AllowsTo, IsFairLog, IsFairLogByPeer, IsFairTo}, Log.{Log, Role, and_then, flow_got, flow_put, history_of, side_of, whole_of}, Open.{cid_of, is_dropped}}
use Rattle.vs_page.{specs.declared.log.LogEntry.TheVariants.{GotPacket, PutPacket}, proofs.{ByPeer.{allows_by_peer, by_peer, one_got, one_put}, Entries.present_is, Flows.same_is}}
use Rattle.vs_replies.specs.declared.Reply.{Reply}
use Rattle.laws_tables.specs.{ByPeer.IsSoundByPeer, Ends.{Ends, is_new}, Heard.{IsInOrder, IsWithin, IsWithinCredit, heard_of, hears, own_port, route_of}, Matches.{IsOwed, IsReady, Matches}}
use Rattle.laws_tables.specs.Steps.{HasEnd, owed_on, payload_on, reply_on, request_on}
use Rattle.laws_tables.proofs.Fair.{asked_first, awaiting_by, awaiting_quiet, fair_order, heard_order, heard_puts, some_by_puts, known_kind, less_both, less_more, less_none, less_same, open_within, put_keeps_within, reply_within, request_allowed}
use Rattle.laws_tables.proofs.{Keeps.{not_request, owed_no_request, silent_fair}, OnFlow.end_follows, Steps.{can_old, owed_flow, payload_flow, reply_flow, request_flow}}

-- The buffer space that a packet got tells isn't less than before.
no_rst : (p : Packet) → is_rst p ≡ false → is_plain_rst p ≡ false
no_rst = grind (arith, common_steps)

alloc_steady : (ps : List Packet) → told_alloc (steady ps) ≡ told_alloc ps
alloc_steady [] = refl
alloc_steady (p ∷ ps) = let rest = alloc_steady ps in grind (arith, common_steps)

abbrev Rises : Packet → History → Type 0
Rises p h = is_request p ≡ false → is_rst p ≡ false → told_alloc (gots h) ≤ p.header.buf_alloc

rises_to : (host : Bool) (side : Side) (h : History) (p : Packet) → AllowsTo host side h (Got p) → Rises p h
rises_to host side h p may other plain = grind (arith, common_steps, alloc_steady, no_rst)

rises_got : (role : Role) (p : Packet) (log : Log) (f : Flow) → IsFairLogByPeer role (GotPacket p ∷ log) → same_flow f (flow_got role p) ≡ true
    → Rises p (history_of role f log)
rises_got role p log f fair same =
    let g = flow_got role p in
    subst (λ x. Rises p (history_of role x log)) (sym (same_is f g same))
    (rises_to (is_host g) (side_of role g) (history_of role g log) p ((one_got role log p).0 fair).1)

-- What was heard says no more than what passed.
less_got : (h k : History) (p : Packet) (same dropped asks : Bool) → is_request p ≡ asks → (same ≡ true → Rises p h)
    → Later (gots k) (gots h)
    → Later (gots (if same then hears dropped p k else k)) (gots (if same then and_then (Got p) h else h))
less_got = grind (arith, less_none, less_more, less_same, less_both, common_steps)

less_put : (h k : History) (p : Packet) (same asks : Bool) → is_request p ≡ asks → Later (gots k) (gots h)
    → Later (gots (if same then and_then (Put p) k else k)) (gots (if same then and_then (Put p) h else h))
less_put = grind (arith, less_none, common_steps)

heard_less : (role : Role) (first : ℕ) (f : Flow) (log : Log) → IsFairLogByPeer role log
    → Later (gots (heard_of role first f log)) (gots (history_of role f log))
heard_less role first f [] fair = less_none []
heard_less role first f (PutPacket p ∷ log) fair =
    less_put (history_of role f log) (heard_of role first f log) p (same_flow f (flow_put role p)) (is_request p) refl
    (heard_less role first f log ((one_put role log p).0 fair).0)
heard_less role first f (GotPacket p ∷ log) fair =
    less_got (history_of role f log) (heard_of role first f log) p (same_flow f (flow_got role p))
    (is_dropped role (cid_of first log) p.header) (is_request p) refl (rises_got role p log f fair)
    (heard_less role first f log ((one_got role log p).0 fair).0)
heard_less role first f (_ ∷ log) fair = heard_less role first f log fair

-- Credit is sound where all that was put is within what was heard.
sound_to : (host : Bool) (side : Side) (h : History) → IsFairTo host side h → BothSound (puts (present h)) (gots (present h))
sound_to true side h fair = sound side (present h) (fair_once side h fair)
sound_to false side h fair = sound_beside side h fair

both_sound : (h heard : History) → BothSound (puts h) (gots h) → puts heard ≡ puts h → Later (gots heard) (gots h) → IsWithin heard
    → BothSound (puts heard) (gots heard)
both_sound h heard is same less within = grind (arith, common_steps)

sound_heard : (role : Role) (first : ℕ) (f : Flow) (log : Log) → IsSoundByPeer role first log
    → let h = heard_of role first f log in BothSound (puts h) (gots h)
sound_heard role first f log s =
    let h = history_of role f log in
    let is = subst (λ (k : History). BothSound (puts k) (gots k)) (present_is role f log)
    (sound_to (is_host f) (side_of role f) (whole_of role f log) (s.fair f)) in
    both_sound h (heard_of role first f log) is (heard_puts role first f log) (heard_less role first f log s.fair) (s.within f)

-- One more packet, put or got.
within_put : (role : Role) (first : ℕ) (p : Packet) (log : Log) → IsWithinCredit role first (flow_put role p) (PutPacket p ∷ log)
    → ((g : Flow) → IsWithinCredit role first g log) → (g : Flow) → IsWithinCredit role first g (PutPacket p ∷ log)
within_put role first p log own all g = grind (arith, common_steps)

sound_put : (role : Role) (first : ℕ) (f : Flow) (p : Packet) (log : Log) → flow_put role p ≡ f → IsSoundByPeer role first log
    → AllowsTo (is_host f) (side_of role f) (history_of role f log) (Put p) → IsWithinCredit role first f (PutPacket p ∷ log)
    → IsSoundByPeer role first (PutPacket p ∷ log)
sound_put role first f p log is s may own = grind (arith, common_steps, one_put, within_put)

got_within_by : (h heard : History) (p : Packet) (same dropped asks : Bool) → is_request p ≡ asks → (same ≡ true → Rises p h)
    → Later (gots heard) (gots h) → IsWithin heard → IsWithin (if same then hears dropped p heard else heard)
got_within_by = grind (arith, common_steps)

pub sound_got : (role : Role) (first : ℕ) (p : Packet) (log : Log) → IsSoundByPeer role first log → IsFairLogByPeer role (GotPacket p ∷ log)
    → IsSoundByPeer role first (GotPacket p ∷ log)
sound_got role first p log s fair = record {
  fair = fair;
  within = λ f. got_within_by (history_of role f log) (heard_of role first f log) p (same_flow f (flow_got role p))
      (is_dropped role (cid_of first log) p.header) (is_request p) refl (rises_got role p log f fair)
      (heard_less role first f log s.fair) (s.within f);
}

-- Packets that may be put by what was heard.
put_allowed : (role : Role) (first : ℕ) (f : Flow) (p : Packet) (log : Log) → is_request p ≡ false → IsSoundByPeer role first log
    → (let h = heard_of role first f log in MayPut (side_of role f) (puts h) (gots h) p)
    → AllowsTo (is_host f) (side_of role f) (history_of role f log) (Put p)
put_allowed role first f p log other s may =
    let h = heard_of role first f log in
    let all = subst (λ x. MayPut (side_of role f) x (gots (history_of role f log)) p) (heard_puts role first f log)
    (may_put_later (side_of role f) (puts h) (gots h) (gots (history_of role f log)) p (heard_less role first f log s.fair) may) in
    allows_by_peer role f log (Put p) (s.fair f)
    (record { opens = λ is. (let both : true ≡ false = sym is ∙ other in absurd cc); goes_on = λ is. all })

heard_sound : (role : Role) (first : ℕ) (f : Flow) (p : Packet) (log : Log) → flow_put role p ≡ f → is_request p ≡ false
    → IsSoundByPeer role first log
    → (let h = heard_of role first f log in MayPut (side_of role f) (puts h) (gots h) p) → IsSoundByPeer role first (PutPacket p ∷ log)
heard_sound role first f p log is other s may =
    sound_put role first f p log is s (put_allowed role first f p log other s may)
    (put_keeps_within role first f p log is other may (s.within f))

pub sends : (role : Role) (first cid : ℕ) (f : Flow) (e : ConnectionEnd) (payload : List ℕ) (part : Ends) (log : Log)
    → Matches role first part log → IsSoundByPeer role first log → HasEnd f e part → CanSend e (length payload)
    → FitsMessage e (puts (history_of role f log)) (length payload)
    → IsSoundByPeer role first (PutPacket (payload_on role cid f e payload) ∷ log)
sends role first cid f e payload part log m s has can fits =
    let h = heard_of role first f log in
    let fits' = subst (λ put. FitsMessage e put (length payload)) (sym (heard_puts role first f log)) fits in
    let o = end_follows role (side_of role f) h _ _ _ e (m.flows.on f) has (can_old e (length payload) can) in
    heard_sound role first f (payload_on role cid f e payload) log (payload_flow role cid f e payload) refl s
    (send_may (side_of role f) (puts h) (gots h) e (route_of role cid f) payload (sound_heard role first f log s) o.follows can fits')

pub pays : (role : Role) (first cid : ℕ) (f : Flow) (e : ConnectionEnd) (what : Owed) (part : Ends) (log : Log)
    → Matches role first part log → IsSoundByPeer role first log → HasEnd f e part → is_new e ≡ false → owes_of e ≡ Some what
    → IsSoundByPeer role first (PutPacket (owed_on role cid f e what) ∷ log)
pays role first cid f e what part log m s has old owes =
    let h = heard_of role first f log in
    let o = end_follows role (side_of role f) h _ _ _ e (m.flows.on f) has old in
    heard_sound role first f (owed_on role cid f e what) log (owed_flow role cid f e what)
    (owed_no_request role cid f e what (not_request e what old owes)) s
    (pay_may (side_of role f) (puts h) (gots h) e (route_of role cid f) what (sound_heard role first f log s) o.follows owes)

-- A REQUEST.
pub again : (role : Role) (first cid : ℕ) (f : Flow) (kind : Kind) (log : Log) → IsSoundByPeer role first log
    → side_of role f ≡ Asker → IsReady (history_of role f log) → IsSoundByPeer role first (PutPacket (request_on role cid f kind) ∷ log)
again role first cid f kind log s asker ready =
    sound_put role first f (request_on role cid f kind) log (request_flow role cid f kind) s
    (allows_by_peer role f log (Put (request_on role cid f kind)) (s.fair f) (request_allowed role cid f kind log asker ready))
    (open_within role first cid f kind log)

request_first : (role : Role) (cid : ℕ) (f : Flow) (kind : Kind) (side : Side) → side ≡ Asker
    → MayPutNow side [] [] (request_on role cid f kind)
request_first role cid f kind side asker = grind (arith, common_steps)

request_formed : (role : Role) (cid : ℕ) (f : Flow) (kind : Kind) → IsFormed (request_on role cid f kind)
request_formed role cid f kind = grind (arith, known_kind, common_steps)

first_to : (host : Bool) (role : Role) (cid : ℕ) (f : Flow) (kind : Kind) (side : Side) (w : History) → side ≡ Asker
    → IsFairTo host side w → puts (present w) ≡ [] → AllowsTo host side (present w) (Put (request_on role cid f kind))
first_to true role cid f kind side w asker fair none =
    let empty = silent_fair (present w) (sym none) (subst (λ s. IsFair s (present w)) asker (fair_once side w fair)) in
    subst (λ (h : History). AllowsNow side h (Put (request_on role cid f kind))) (sym empty) (request_first role cid f kind side asker)
first_to false role cid f kind side w asker fair none =
    let steady_fair = fair_once side (steadied w) (steadied_fair side w fair) in
    let is = steady_present w in
    let no_puts : puts (steadied (present w)) ≡ [] = steady_puts (present w) ∙ ap steady none in
    let empty : steadied (present w) ≡ [] =
    silent_fair (steadied (present w)) (sym no_puts)
    (subst (λ s. IsFair s (steadied (present w))) asker (subst (IsFair side) is steady_fair)) in
    let no_gots : steady (gots (present w)) ≡ [] = sym (steady_gots (present w)) ∙ ap gots empty in
    record {
      formed = request_formed role cid f kind;
      steadily = λ _. subst₂ (λ ps qs. MayPutNow side ps qs (request_on role cid f kind)) (sym (ap steady none)) (sym no_gots)
          (request_first role cid f kind side asker);
    }

pub opens : (role : Role) (first cid : ℕ) (f : Flow) (kind : Kind) (part : Ends) (log : Log) → Matches role first part log
    → IsSoundByPeer role first log → side_of role f ≡ Asker → part.next_port ≤ own_port role f
    → IsSoundByPeer role first (PutPacket (request_on role cid f kind) ∷ log)
opens role first cid f kind part log m s asker later =
    let none : puts (history_of role f log) ≡ [] = sym (heard_puts role first f log) ∙ ap puts (m.flows.unused f asker later).silent in
    let is = present_is role f log in
    sound_put role first f (request_on role cid f kind) log (request_flow role cid f kind) s
    (subst (λ (h : History). AllowsTo (is_host f) (side_of role f) h (Put (request_on role cid f kind))) is
    (first_to (is_host f) role cid f kind (side_of role f) (whole_of role f log) asker (s.fair f) (ap puts is ∙ none)))
    (open_within role first cid f kind log)

-- A reply.
reply_formed : (role : Role) (cid : ℕ) (r : Reply) → IsFormed (reply_on role cid r)
reply_formed role cid r = grind (arith, known_kind, common_steps)

reply_plain : (role : Role) (cid : ℕ) (r : Reply) → is_plain_rst (reply_on role cid r) ≡ true
reply_plain role cid r = grind (arith, common_steps)

reply_to : (role : Role) (cid : ℕ) (r : Reply) (log : Log) (host : Bool) → is_host r.flow ≡ host
    → (is_host r.flow ≡ true → IsOwed role log r)
    → AllowsTo host (side_of role r.flow) (history_of role r.flow log) (Put (reply_on role cid r))
reply_to role cid r log host is owed = grind (arith, common_steps, reply_formed, reply_plain)

pub replies : (role : Role) (first cid : ℕ) (r : Reply) (log : Log) → IsSoundByPeer role first log
    → (is_host r.flow ≡ true → IsOwed role log r) → IsSoundByPeer role first (PutPacket (reply_on role cid r) ∷ log)
replies role first cid r log s owed =
    sound_put role first r.flow (reply_on role cid r) log (reply_flow role cid r) s (reply_to role cid r log (is_host r.flow) refl owed)
    (reply_within role first cid r log (s.within r.flow))

pub of_fair : (role : Role) (first : ℕ) (part : Ends) (log : Log) → Matches role first part log → IsFairLog role log
    → IsSoundByPeer role first log
of_fair role first part log m fair = record { fair = by_peer role log fair; within = (m.fairly fair).within }

-- A packet that comes to the end that asks, no plain RST, comes in order, and its fields fit.
clean_steady : (ps : List Packet) → has is_clean_rst (steady ps) ≡ has is_clean_rst ps
clean_steady [] = refl
clean_steady (p ∷ ps) = let rest = clean_steady ps in grind (arith, common_steps)

pub request_steady : (ps : List Packet) → has is_request (steady ps) ≡ has is_request ps
request_steady [] = refl
request_steady (p ∷ ps) = let rest = request_steady ps in grind (arith, common_steps)

-- Of its present connection: it is in order, and the REQUEST was put.
record Comes (side : Side) (h : History) (p : Packet) : Type 0 where
  order : IsInOrder side h p
  begun : has is_request (puts h) ≡ true

comes_steadily : (side : Side) (h : History) (p : Packet) → side ≡ Asker → Comes side (steadied h) p → Comes side h p
comes_steadily side h p asker c =
    let begun : has is_request (puts h) ≡ true =
    sym (request_steady (puts h)) ∙ ap (has is_request) (sym (steady_puts h)) ∙ c.begun in
    let quiet : has is_clean_rst (gots h) ≡ false =
    sym (clean_steady (gots h)) ∙ ap (has is_clean_rst) (sym (steady_gots h)) ∙ awaiting_quiet (steadied h) (c.order.asked asker) in
    record {
      order = record {
        request = λ is. (let bad : Asker ≡ Answerer = sym asker ∙ (c.order.request is).0 in absurd cc);
        asked = λ _. awaiting_by h (some_by_puts h h refl begun) quiet;
      };
      begun = begun;
    }

comes_now : (side : Side) (h : History) (p : Packet) → side ≡ Asker → IsFair side h → AllowsNow side h (Got p) → Comes side h p
comes_now side h p asker fair may = record { order = fair_order side h p fair may; begun = asked_first side h p may asker }

comes_to : (host : Bool) (side : Side) (w : History) (p : Packet) → side ≡ Asker → is_plain_rst p ≡ false
    → IsFairTo host side w → AllowsTo host side (present w) (Got p) → Comes side (present w) p
comes_to true side w p asker plain fair may = comes_now side (present w) p asker (fair_once side w fair) may
comes_to false side w p asker plain fair may =
    let k = steadied (present w) in
    let fair_k = subst (IsFair side) (steady_present w) (fair_once side (steadied w) (steadied_fair side w fair)) in
    let may_k = subst₂ (λ ps qs. MayPutNow (peer side) ps qs p) (sym (steady_gots (present w))) (sym (steady_puts (present w)))
    (may.steadily plain) in
    comes_steadily side (present w) p asker (comes_now side k p asker fair_k may_k)

pub in_order : (role : Role) (first : ℕ) (p : Packet) (log : Log) → let f = flow_got role p in IsFairLogByPeer role (GotPacket p ∷ log)
    → side_of role f ≡ Asker → is_plain_rst p ≡ false → IsInOrder (side_of role f) (heard_of role first f log) p
in_order role first p log fair asker plain =
    let f = flow_got role p in
    let is = present_is role f log in
    let two = (one_got role log p).0 fair in
    let c = subst (λ h. Comes (side_of role f) h p) is
    (comes_to (is_host f) (side_of role f) (whole_of role f log) p asker plain (two.0 f)
    (subst (λ h. AllowsTo (is_host f) (side_of role f) h (Got p)) (sym is) two.1)) in
    heard_order role first f p log c.order (λ _. c.begun)

formed_to : (host : Bool) (side : Side) (h : History) (p : Packet) → AllowsTo host side h (Got p) → IsFormed p
formed_to true side h p may = now_formed (peer side) (gots h) (puts h) p may
formed_to false side h p may = may.formed

pub fits : (role : Role) (p : Packet) (log : Log) → IsFairLogByPeer role (GotPacket p ∷ log) → IsTaken p
fits role p log fair =
    let f = flow_got role p in
    taken_of p (formed_to (is_host f) (side_of role f) (history_of role f log) p ((one_got role log p).0 fair).1)
