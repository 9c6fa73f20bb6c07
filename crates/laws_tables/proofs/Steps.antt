-- Each small step keeps an end of many connections matching its log.
use Rattle.std.proofs.Common.{rules, ◌≡◌, ◌≢◌, ℕ, ◌≤◌, Bool, true, false, ◌||◌, Option, Some, List, [], ◌∷◌, ◌++◌, refl, sym, ap, ◌∙◌, subst, arith}
use Rattle.std.proofs.lemmas.{Grind.common_steps, Bool.Decides.nat_tests}
use Rattle.vs_conn.{specs.{End.{CanSend, ConnectionEnd, owes_of, paid_of}, Follows.{Follows, owed_packet}, declared.{end.Owed.Owed, route.Route.Route}}, proofs.Frames.paid_kind}
use Rattle.vs_conn.proofs.Steps.{pay_follows}
use Rattle.vs_flow.specs.{Flow.same_flow, declared.flow.Flow.Flow}
use Rattle.vs_header.specs.{Kind.kind_number, declared.Kind.Kind}
use Rattle.laws_history.specs.{History.{History, Put, Got, Side, Asker, puts, gots}, Packets.{has, is_clean_rst, is_request, is_rst}, declared.packet.Packet.Packet}
use Rattle.vs_page.specs.{Open.{cid_of, is_dropped, kind_got, kind_put, left_kind}, declared.log.LogEntry.TheVariants.{PutPacket, GotPacket}, Log.{Log, Role, Driver}}
use Rattle.vs_page.{specs.Log.{and_then, flow_put, flow_got, side_of}, proofs.Flows.same_self}
use Rattle.vs_replies.specs.declared.Reply.{Reply}
use Rattle.laws_tables.specs.{Ends.{Ends, ends_of, flows_of, is_among, is_new, replied, replies_of}, Heard.{IsInOrder, heard_of, is_awaiting, is_fresh}, Steps.HasEnd}
use Rattle.laws_tables.specs.{Steps.{IsNextFlow, is_kept, owed_on, payload_on, port_after, reply_on, request_on}, Matches.{IsAsking, IsLeftOn, MatchesFlows, MatchesOn}}
use Rattle.laws_tables.proofs.{Entries.{among_append, among_last, among_other, replied_append, replied_of}, Frame.IsUsed}
use Rattle.laws_tables.proofs.{OnFlow.{IsOne, begins_on, end_asks, end_follows, passes_on}, Opening.kind_stays}
use Rattle.vs_conn.specs.declared.end.Owed.TheVariants as owed

-- The flows of the packets that an end puts.
pub request_flow : (role : Role) (cid : ℕ) (f : Flow) (kind : Kind) → flow_put role (request_on role cid f kind) ≡ f
request_flow role cid f kind = grind (arith, common_steps)

pub owed_flow : (role : Role) (cid : ℕ) (f : Flow) (e : ConnectionEnd) (what : Owed) → flow_put role (owed_on role cid f e what) ≡ f
owed_flow role cid f e what = grind (arith, common_steps)

pub payload_flow : (role : Role) (cid : ℕ) (f : Flow) (e : ConnectionEnd) (payload : List ℕ)
    → flow_put role (payload_on role cid f e payload) ≡ f
payload_flow role cid f e payload = grind (arith, common_steps)

pub reply_flow : (role : Role) (cid : ℕ) (r : Reply) → flow_put role (reply_on role cid r) ≡ r.flow
reply_flow role cid r = grind (arith, common_steps)

-- The history with a packet more.
pub then_put : (p : Packet) (h : History) → is_request p ≡ false → and_then (Put p) h ≡ Put p ∷ h
then_put p h other = rw other refl

pub then_got : (p : Packet) (h : History) → is_request p ≡ false → and_then (Got p) h ≡ Got p ∷ h
then_got p h other = rw other refl

pub new_got : (p : Packet) (h : History) → is_request p ≡ true → and_then (Got p) h ≡ Got p ∷ []
new_got p h asks = rw asks refl

pub got_stale : (p : Packet) (h : History) → is_fresh (and_then (Got p) h) ≡ false
got_stale = grind (arith, common_steps)

-- The step's own flow, by what was heard on it.
pub own_put : (role : Role) (first : ℕ) (f : Flow) (p : Packet) (part : Ends) (log : Log) → flow_put role p ≡ f
    → IsLeftOn role (side_of role f) (and_then (Put p) (heard_of role first f log)) (kind_put p (left_kind role first f log))
    (is_among f (replied part.replies))
    (ends_of f part.entries)
    → MatchesOn role first part (PutPacket p ∷ log) f
own_put role first f p part log is own = grind (arith, common_steps)

pub own_got : (role : Role) (first : ℕ) (f : Flow) (p : Packet) (part : Ends) (log : Log) → flow_got role p ≡ f
    → is_dropped role (cid_of first log) p.header ≡ false
    → IsLeftOn role (side_of role f) (and_then (Got p) (heard_of role first f log)) (kind_got p (left_kind role first f log))
    (is_among f (replied part.replies)) (ends_of f part.entries)
    → MatchesOn role first part (GotPacket p ∷ log) f
own_got role first f p part log is heard own = grind (arith, common_steps)

pub reply_stale : (role : Role) (first : ℕ) (f : Flow) (part : Ends) (log : Log) → MatchesFlows role first part log
    → is_among f (replied part.replies) ≡ true
    → (ends_of f part.entries ≡ []) × (is_fresh (heard_of role first f log) ≡ false)
reply_stale role first f part log m owed_is = grind (arith, common_steps)

-- A flow that has an end, on which a packet comes in order, or to which a reply is owed, is not kept, and its port is given.
pub used_by_end : (role : Role) (first : ℕ) (part : Ends) (log : Log) (f : Flow) (e : ConnectionEnd) → MatchesFlows role first part log
    → HasEnd f e part → IsUsed role f part
used_by_end = grind (arith, common_steps)

pub used_by_order : (role : Role) (first : ℕ) (part : Ends) (log : Log) (f : Flow) (p : Packet) → MatchesFlows role first part log
    → IsInOrder (side_of role f) (heard_of role first f log) p → IsUsed role f part
used_by_order role first part log f p m order = grind (arith, common_steps)

pub used_by_reply : (role : Role) (first : ℕ) (part : Ends) (log : Log) (f : Flow) → MatchesFlows role first part log
    → is_among f (replied part.replies) ≡ true → IsUsed role f part
used_by_reply = grind (arith, common_steps)

pub cid_heard : (role : Role) (first : ℕ) (part : Ends) (log : Log) (p : Packet) (b : Bool) → MatchesFlows role first part log
    → is_dropped role part.cid p.header ≡ b → is_dropped role (cid_of first log) p.header ≡ b
cid_heard = grind (arith, common_steps)

-- A flow that may be asked for: it has no end, no reply is owed to it, and nothing is awaited on it.
pub record IsFree (role : Role) (first : ℕ) (part : Ends) (log : Log) (f : Flow) : Type 0 where
  pub no_end : ends_of f part.entries ≡ []
  pub no_reply : is_among f (replied part.replies) ≡ false
  pub over : is_awaiting (heard_of role first f log) ≡ false

pub next_free : (role : Role) (first : ℕ) (f : Flow) (part : Ends) (log : Log) → MatchesFlows role first part log → IsNextFlow role f part
    → IsFree role first part log f
next_free role first f part log m next = grind (arith, common_steps)

pub port_rises : (next port : ℕ) → next ≤ port_after next port
port_rises = grind (arith, nat_tests, common_steps)

pub port_given : (next port : ℕ) → port_after next port ≤ port → ⊥
port_given next port later = grind (arith, nat_tests, common_steps, later)

-- Connections put.
pub can_old : (e : ConnectionEnd) (n : ℕ) → CanSend e n → is_new e ≡ false
can_old = search rules

-- A new end owes its REQUEST.
pub pays_new : (side : Side) (e : ConnectionEnd) (what : Owed) → IsAsking side e → owes_of e ≡ Some what → what ≡ owed.Request
pays_new = grind (arith, common_steps)

pays_first : (side : Side) (e : ConnectionEnd) (route : Route) → IsAsking side e
    → Follows side (owed_packet e route owed.Request ∷ []) [] (paid_of e owed.Request)
pays_first = grind (arith, common_steps)

-- What an end that has begun owes is no REQUEST.
pub old_request : (e : ConnectionEnd) → is_new e ≡ false → owes_of e ≡ Some owed.Request → ⊥
old_request = grind (arith, common_steps)

plain_owed : (e : ConnectionEnd) (route : Route) (what : Owed) → what ≢ owed.Rst → what ≢ owed.Request
    → (is_request (owed_packet e route what) ≡ false) × (is_rst (owed_packet e route what) ≡ false)
plain_owed = grind (arith, common_steps)

pub pays_end : (role : Role) (side : Side) (h : History) (kind : Option ℕ) (reply_owed : Bool) (ends now : List ConnectionEnd)
    (e : ConnectionEnd)
    (route : Route)
    (what : Owed) (new : Bool) → is_new e ≡ new → IsLeftOn role side h kind reply_owed ends → ends ≡ e ∷ [] → owes_of e ≡ Some what
    → what ≢ owed.Rst → now ≡ paid_of e what ∷ []
    → IsLeftOn role side (and_then (Put (owed_packet e route what)) h) (kind_put (owed_packet e route what) kind) reply_owed now
pays_end role side h kind reply_owed ends now e route what true is l one owes other now_is =
    let a = end_asks role side h kind reply_owed ends e l one is in
    let req = pays_new side e what a.asking owes in
    subst (λ x. IsLeftOn role side (and_then (Put (owed_packet e route x)) h) (kind_put (owed_packet e route x) kind) reply_owed now)
    (sym req)
    (begins_on role side (Put (owed_packet e route owed.Request)) (Some (kind_number e.kind)) reply_owed now (paid_of e owed.Request)
    a.none_owed
    (subst (λ x. now ≡ paid_of e x ∷ []) req now_is) refl (pays_first side e route a.asking))
pays_end role side h kind reply_owed ends now e route what false is l one owes other now_is =
    let p = owed_packet e route what in
    let two = plain_owed e route what other (λ req. old_request e is (subst (λ x. owes_of e ≡ Some x) req owes)) in
    subst (λ x. IsLeftOn role side x (kind_put p kind) reply_owed now) (sym (then_put p h two.0))
    (passes_on role side h (Put p) kind (kind_put p kind) reply_owed ends now e (paid_of e what) l one is now_is
    (λ o. kind_stays p kind two.0 two.1 ∙ o ∙ ap (λ (k : Kind). Some (kind_number k)) (sym (paid_kind e what)))
    (λ follows. pay_follows side (puts h) (gots h) e route what follows owes other))

-- An end that owes RST has begun.
pub rst_old : (e : ConnectionEnd) → owes_of e ≡ Some owed.Rst → is_new e ≡ false
rst_old = grind (arith, common_steps)

-- A reply.
pub next_owed : (r : Reply) (rest replies : List Reply) → replies ≡ r ∷ rest → is_among r.flow (replied replies) ≡ true
next_owed r rest replies is = rw is (rw (same_self r.flow) refl)

pub rest_owed : (r : Reply) (g : Flow) (rest replies : List Reply) → replies ≡ r ∷ rest → same_flow g r.flow ≡ false
    → is_among g (replied rest) ≡ is_among g (replied replies)
rest_owed r g rest replies is other = rw is (rw other refl)

-- A packet that is got, on a flow that has an end. In order it comes to one that has begun, and is no REQUEST.
old_by : (role : Role) (side : Side) (h : History) (kind : Option ℕ) (reply_owed : Bool) (ends : List ConnectionEnd) (e : ConnectionEnd) (p : Packet)
    → IsLeftOn role side h kind reply_owed ends → ends ≡ e ∷ [] → IsInOrder side h p → (b : Bool) → is_new e ≡ b → is_new e ≡ false
old_by = grind (arith, common_steps)

pub order_old : (role : Role) (first : ℕ) (p : Packet) (e : ConnectionEnd) (part : Ends) (log : Log) → let f = flow_got role p in
    MatchesFlows role first part log → HasEnd f e part → IsInOrder (side_of role f) (heard_of role first f log) p → is_new e ≡ false
order_old role first p e part log m has order =
    let f = flow_got role p in
    old_by role (side_of role f) (heard_of role first f log) (left_kind role first f log) (is_among f (replied part.replies))
    (ends_of f part.entries) e p (m.on f) has order (is_new e) refl

pub order_one : (role : Role) (first : ℕ) (p : Packet) (e : ConnectionEnd) (part : Ends) (log : Log) → let f = flow_got role p in
    MatchesFlows role first part log → HasEnd f e part → IsInOrder (side_of role f) (heard_of role first f log) p
    → IsOne (side_of role f) (heard_of role first f log) (left_kind role first f log) (is_among f (replied part.replies)) e
order_one role first p e part log m has order =
    let f = flow_got role p in
    end_follows role (side_of role f) (heard_of role first f log) (left_kind role first f log) (is_among f (replied part.replies))
    (ends_of f part.entries) e (m.on f) has (order_old role first p e part log m has order)

pub known_goes_on : (side : Side) (h : History) (p : Packet) (e : ConnectionEnd) → IsInOrder side h p → Follows side (puts h) (gots h) e
    → is_request p ≡ false
known_goes_on = grind (arith, common_steps)

pub kept_asks : (role : Role) (f : Flow) (e : ConnectionEnd) (p : Packet) → is_kept role f e p ≡ true
    → (side_of role f ≡ Asker) × (is_clean_rst p ≡ true)
kept_asks = grind (arith, common_steps)

pub over_marked : (p : Packet) (h : History) → is_clean_rst p ≡ true → is_awaiting (Got p ∷ h) ≡ false
over_marked p h marked = rw marked refl

-- A packet of a flow that has none: it is refused, or an RST and ignored.
pub owed_last : (f : Flow) (kind : Kind) (rs : List Reply) → is_among f (replied (rs ++ record { flow = f; kind = kind } ∷ [])) ≡ true
owed_last f kind rs = ap (is_among f) (replied_append rs (record { flow = f; kind = kind } ∷ [])) ∙ among_last f (replied rs)

pub owed_other : (f g : Flow) (kind : Kind) (rs : List Reply) → same_flow g f ≡ false
    → is_among g (replied (rs ++ record { flow = f; kind = kind } ∷ [])) ≡ is_among g (replied rs)
owed_other f g kind rs other =
    ap (is_among g) (replied_append rs (record { flow = f; kind = kind } ∷ [])) ∙ among_other f g (replied rs) other

pub replied_reset : (f : Flow) (part : Ends)
    → is_among f (replied (part.replies ++ replies_of part.entries)) ≡
    (is_among f (replied part.replies) || is_among f (flows_of part.entries))
replied_reset f part =
    ap (is_among f) (replied_append part.replies (replies_of part.entries)
    ∙ ap (λ (fs : List Flow). replied part.replies ++ fs) (replied_of part.entries))
    ∙ among_append f (replied part.replies) (flows_of part.entries)

-- The driver's ends have begun, so that no REQUEST may come to their flows.
pub stale_end : (side : Side) (h : History) (kind : Option ℕ) (reply_owed among : Bool) (ends : List ConnectionEnd)
    → IsLeftOn Driver side h kind reply_owed ends → (ends ≡ [] → among ≡ false) → (reply_owed || among) ≡ true → is_fresh h ≡ false
stale_end = grind (arith, common_steps)
