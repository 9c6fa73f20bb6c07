-- Each small step keeps an end of many connections matching its log, with what a fair log gives besides.
use Rattle.std.proofs.Common.{◌≡◌, ◌≢◌, ◌≤◌, ℕ, Bool, true, false, ◌&&◌, if◌then◌else◌, is_some, ◌⊎◌, inl, inr, List, [], ◌∷◌, length, Some, refl, sym, ap, ◌∙◌, subst, arith}
use Rattle.std.proofs.{Common.◌++◌, lemmas.Grind.common_steps}
use Rattle.vs_conn.specs.{End.{CanSend, ConnectionEnd, answering, asked, end_after, is_of, owes_of, paid_of, verdict_of, with_payload_sent}, Follows.{Follows, IsTaken}}
use Rattle.vs_conn.{specs.{Follows.FitsMessage, declared.end.Owed.Owed}, proofs.{Frames.got_kind, Getting.get_follows, Steps.{answer_follows, asked_follows, send_follows}}}
use Rattle.vs_flow.specs.{CleanPairs.{kept, of_host}, Flow.same_flow, declared.flow.Flow.Flow}
use Rattle.vs_header.specs.{Kind.{kind_named, kind_number}, declared.{Header.Header, Kind.Kind}}
use Rattle.laws_history.specs.{History.{Asker, Entry, Got, History, IsFair, MayPut, Put, Side, gots, is_begun, of_asker, peer, puts}, Packets.{asked_kind, has, is_clean_rst}}
use Rattle.laws_history.{specs.{Packets.{is_request, is_rst}, declared.packet.Packet.Packet, Again.AllowsNow}, proofs.{Quiet.marked_both, Ties.Later}}
use Rattle.vs_limits.specs.declared.TheConstants.{BUF_ALLOC, CLEAN_PAIRS}
use Rattle.vs_page.specs.{Log.{Device, Driver, Log, Role, and_then, flow_got, flow_put, history_of, side_of}, Open.{Clean, Open, Phase, is_dropped, open_kind, phase_of}}
use Rattle.vs_page.specs.{Open.{phase_reset, cid_of, kind_got, kind_put, left_kind}, declared.log.LogEntry.TheVariants.{GotEvent, GotPacket, Mark, PutEvent, PutPacket}}
use Rattle.vs_page.{specs.Fair.{IsFairLog, IsFairOn}, proofs.{Entries.{one_got, one_put}, Flows.{same_is, same_self}, Phases.{phase_clean, phase_marked}}}
use Rattle.vs_replies.specs.declared.Reply.{Reply}
use Rattle.laws_tables.specs.Ends.{Ends, FlowEnd, answer_kind, ends_of, is_among, is_new, replied, replies_of, AreDistinct, flows_of, replaced, without, without_flow}
use Rattle.laws_tables.specs.Steps.{HasEnd, HasNone, IsNextFlow, accepted, asking, emptied, is_kept, is_overrun, left, opened, owed_on, paid, payload_on, refused}
use Rattle.laws_tables.specs.{Steps.{reply_on, request_on, reset, taken, with_clean, with_end, with_replies, port_after}, Matches.{AllOwed, IsFairlyLeft, IsOwed, IsReady, Matches}}
use Rattle.laws_tables.specs.{Matches.{MatchesFlows, IsKept, IsLeftOn, IsUnused, MatchesOn}, Heard.{IsInOrder, IsWithin, IsWithinCredit, heard_of, own_port, is_awaiting, is_fresh}}
use Rattle.laws_tables.{specs.Heard.route_of, proofs.OnFlow.{end_asks, end_follows, follows_old, asks_on, begins_on, changes_on, closed_on, drops_on, empties_on, fresh_closed}}
use Rattle.laws_tables.proofs.{OnFlow.{ignores_on, passes_on, refuses_on}, Entries.{added_same, host_among, replaced_same, without_own, without_same, added_other, among_flows}}
use Rattle.laws_tables.proofs.{Entries.{host_distinct, kept_among, kept_distinct, replaced_other, without_among, without_distinct, without_other}, Fair.{heard_less, fair_now}}
use Rattle.laws_tables.proofs.Fair.{got_formed, got_in_order, got_no_overrun, got_within, open_within, own_got_fair, pay_may_on, put_allowed, put_fair, put_keeps_within, reply_may}
use Rattle.laws_tables.proofs.{Fair.{reply_within, request_allowed, send_may_on, heard_puts}, Steps.{next_free, next_owed, owed_flow, payload_flow, reply_flow, reply_stale}}
use Rattle.laws_tables.proofs.{Steps.{request_flow, then_got, cid_heard, used_by_end, used_by_order, used_by_reply}, Frame.{IsAlone, IsUsed, flows_step, heard_dropped}}
use Rattle.laws_tables.proofs.{Frame.{heard_ended, heard_got, left_alone, own_or_other, phase_dropped, still_flows}, Tables.{IsOnce, driver_begun, end_begun, only_end, once_rest}}
use Rattle.laws_tables.proofs.{Tables.{own_none, reset_closed}, Owing.{IsDue, owed_of, all_put, all_got, all_same, all_append}, Opening.got_closes}
use Rattle.laws_tables.proofs.Opening.{got_none, got_opens, got_stays, rst_asks_none, rst_of}
use Rattle.vs_conn.specs.declared.end.Owed.TheVariants as owed
use Rattle.laws_tables.proofs.Steps as steps

-- What a step about a flow gives besides, over a fair log.
record GivesOn (role : Role) (first : ℕ) (xs : List FlowEnd) (rs : List Reply) (newer : Log) (f : Flow) : Type 0 where
  within : IsWithinCredit role first f newer
  ready : (e : ConnectionEnd) → ends_of f xs ≡ e ∷ [] → is_new e ≡ true → IsReady (history_of role f newer)
  replies : AllOwed role newer rs

step_matches : (role : Role) (first : ℕ) (f : Flow) (part : Ends) (older : Log) (xs : List FlowEnd) (rs : List Reply) (newer : Log)
    → let new = record part { entries = xs; replies = rs } in
    IsUsed role f part → cid_of first newer ≡ cid_of first older
    → ((g : Flow) → same_flow g f ≡ false → IsAlone role first part older xs rs newer g) → MatchesOn role first new newer f
    → (IsFairLog role newer → IsFairLog role older)
    → (IsFairLog role newer → IsFairlyLeft role first part older → GivesOn role first xs rs newer f) → Matches role first part older
    → Matches role first new newer
step_matches role first f part older xs rs newer used cid others own was gives m = record {
  flows = flows_step role first f part older xs rs newer used cid others own m.flows;
  fairly = λ fair. let left = m.fairly (was fair) in let on = gives fair left in record {
    within = λ g. own_or_other (λ x. IsWithinCredit role first x newer) f g on.within
        (λ apart. subst IsWithin (sym (others g apart).heard) (left.within g));
    kept = λ g. own_or_other (λ x. is_among x part.clean ≡ true → phase_of role first x newer ≡ Clean) f g
        (λ among. let un = used.unkept in absurd cc) (λ apart among. (others g apart).phase ∙ left.kept g among);
    ready = λ g. own_or_other (λ x. (e : ConnectionEnd) → ends_of x xs ≡ e ∷ [] → is_new e ≡ true → IsReady (history_of role x newer)) f g
        on.ready
        (λ apart e has new. let a = others g apart in subst IsReady (sym a.passed) (left.ready g e (sym a.ends ∙ has) new));
    replies = on.replies;
  };
}

-- The ends of a flow after a step have begun.
abbrev AreOld : Flow → List FlowEnd → Type 0
AreOld f xs = (e : ConnectionEnd) → ends_of f xs ≡ e ∷ [] → is_new e ≡ false

old_one : (f : Flow) (now : ConnectionEnd) (xs : List FlowEnd) → ends_of f xs ≡ now ∷ [] → is_new now ≡ false → AreOld f xs
old_one = grind (arith, common_steps)

old_none : (f : Flow) (xs : List FlowEnd) → ends_of f xs ≡ [] → AreOld f xs
old_none = grind (arith, common_steps)

-- What a step does to the ends and replies of another flow.
abbrev AreLeft : Flow → List FlowEnd → List Reply → Ends → Type 0
AreLeft f xs rs part =
    (g : Flow) → same_flow g f ≡ false
    → (ends_of g xs ≡ ends_of g part.entries) × (is_among g (replied rs) ≡ is_among g (replied part.replies))

-- A step that puts a packet on a flow.
puts_on : (role : Role) (first : ℕ) (f : Flow) (p : Packet) (xs : List FlowEnd) (rs : List Reply) (part : Ends) (log : Log)
    → flow_put role p ≡ f → IsUsed role f part
    → IsLeftOn role (side_of role f) (and_then (Put p) (heard_of role first f log)) (kind_put p (left_kind role first f log))
    (is_among f (replied rs)) (ends_of f xs)
    → AreLeft f xs rs part → AreOld f xs
    → (IsFairLog role log → IsFairlyLeft role first part log
    → IsWithinCredit role first f (PutPacket p ∷ log) × AllOwed role (PutPacket p ∷ log) rs)
    → Matches role first part log → Matches role first (record part { entries = xs; replies = rs }) (PutPacket p ∷ log)
puts_on role first f p xs rs part log is used own others old gives m =
    step_matches role first f part log xs rs (PutPacket p ∷ log) used refl
    (λ g apart. let not_own : same_flow g (flow_put role p) ≡ false = subst (λ x. same_flow g x ≡ false) (sym is) apart in
    let two = others g apart in
    record { passed = rw not_own refl; heard = rw not_own refl; phase = rw not_own refl; ends = two.0; replies = two.1 })
    (steps.own_put role first f p (record part { entries = xs; replies = rs }) log is own) (λ fair. ((one_put role log p).0 fair).0)
    (λ fair left. let two = gives ((one_put role log p).0 fair).0 left in
    record { within = two.0; ready = λ e has new. let was = old e has in absurd cc; replies = two.1 }) m

-- One on a flow that has an end.
puts_from : (role : Role) (first : ℕ) (f : Flow) (e : ConnectionEnd) (p : Packet) (xs : List FlowEnd) (part : Ends) (log : Log)
    → flow_put role p ≡ f → HasEnd f e part
    → IsLeftOn role (side_of role f) (and_then (Put p) (heard_of role first f log)) (kind_put p (left_kind role first f log))
    (is_among f (replied part.replies)) (ends_of f xs)
    → ((g : Flow) → same_flow g f ≡ false → ends_of g xs ≡ ends_of g part.entries) → AreOld f xs
    → (IsFairLog role log → IsFairlyLeft role first part log → IsWithinCredit role first f (PutPacket p ∷ log))
    → Matches role first part log → Matches role first (record part { entries = xs }) (PutPacket p ∷ log)
puts_from role first f e p xs part log is has own others old within m =
    puts_on role first f p xs part.replies part log is (used_by_end role first part log f e m.flows has) own
    (λ g apart. (others g apart, refl)) old
    (λ fair left. (
      within fair left,
      all_put role f p log part.replies is (λ owed_is.
          let both : [] ≡ e ∷ [] = sym (reply_stale role first f part log m.flows owed_is).0 ∙ has in absurd cc) left.replies,
    )) m

-- A step that takes a packet.
gets_on : (role : Role) (first : ℕ) (p : Packet) (xs : List FlowEnd) (rs : List Reply) (part : Ends) (log : Log)
    → let f = flow_got role p in
    is_dropped role part.cid p.header ≡ false → IsUsed role f part
    → IsLeftOn role (side_of role f) (and_then (Got p) (heard_of role first f log)) (kind_got p (left_kind role first f log))
    (is_among f (replied rs)) (ends_of f xs)
    → AreLeft f xs rs part → AreOld f xs
    → (IsFairLog role (GotPacket p ∷ log) → AllOwed role (GotPacket p ∷ log) part.replies → AllOwed role (GotPacket p ∷ log) rs)
    → Matches role first part log → Matches role first (record part { entries = xs; replies = rs }) (GotPacket p ∷ log)
gets_on role first p xs rs part log kept used own others old gives m =
    let f = flow_got role p in
    step_matches role first f part log xs rs (GotPacket p ∷ log) used refl
    (λ g apart. let two = others g apart in
    record { passed = rw apart refl; heard = rw apart refl; phase = rw apart refl; ends = two.0; replies = two.1 })
    (steps.own_got role first f p (record part { entries = xs; replies = rs }) log refl
    (cid_heard role first part log p false m.flows kept) own) (λ fair. ((one_got role log p).0 fair).0)
    (λ fair left. record {
      within = got_within role first f p log (fair f) (left.within f);
      ready = λ e has new. let was = old e has in absurd cc;
      replies = gives fair (all_got role p log part.replies fair left.replies);
    }) m

pub start_matches : (role : Role) (first port : ℕ)
    → Matches role first (record { entries = []; replies = []; clean = []; next_port = port; cid = first }) []
start_matches role first port = grind (arith, common_steps)

-- Fewer flows are kept, and more ports are given.
not_then : (now was : Bool) → (now ≡ true → was ≡ true) → was ≡ false → now ≡ false
not_then = grind (arith, common_steps)

fewer : (role : Role) (first port : ℕ) (clean : List Flow) (part : Ends) (log : Log) → part.next_port ≤ port
    → ((f : Flow) → is_among f clean ≡ true → is_among f part.clean ≡ true) → AreDistinct clean → Matches role first part log
    → Matches role first (record part { clean = clean; next_port = port }) log
fewer role first port clean part log rises were once m = grind (arith, common_steps)

-- One that keeps another flow.
keeps_flow : (role : Role) (first : ℕ) (f : Flow) (part : Ends) (log : Log) → IsUsed role f part → IsKept role first part log f
    → (IsFairLog role log → phase_of role first f log ≡ Clean) → Matches role first part log
    → Matches role first (record part { clean = kept CLEAN_PAIRS f part.clean }) log
keeps_flow role first f part log used own clean m =
    let new : Ends = record part { clean = kept CLEAN_PAIRS f part.clean } in
    record {
      flows = record {
        on = m.flows.on;
        unused =
            λ g. own_or_other (λ x. side_of role x ≡ Asker → part.next_port ≤ own_port role x → IsUnused role first new log x) f g
            (λ asker later. absurd (used.given asker later))
            (λ apart asker later. let u = m.flows.unused g asker later in record {
              silent = u.silent;
              no_end = u.no_end;
              not_kept = not_then _ _ (λ among. kept_among f g part.clean among apart) u.not_kept;
            });
        kept = λ g. own_or_other (λ x. is_among x new.clean ≡ true → IsKept role first new log x) f g (λ among. as_kept f own)
            (λ apart among. as_kept g (m.flows.kept g (kept_among f g part.clean among apart)));
        once = kept_distinct f part.clean used.unkept m.flows.once;
        cid = m.flows.cid;
      };
      fairly = λ fair. let l = m.fairly fair in record {
        within = l.within;
        kept = λ g. own_or_other (λ x. is_among x new.clean ≡ true → phase_of role first x log ≡ Clean) f g (λ among. clean fair)
            (λ apart among. l.kept g (kept_among f g part.clean among apart));
        ready = l.ready;
        replies = l.replies;
      };
    }
  where
    as_kept : (g : Flow) → IsKept role first part log g → IsKept role first (record part { clean = kept CLEAN_PAIRS f part.clean }) log g
    as_kept g k = record { asker = k.asker; no_end = k.no_end; no_reply = k.no_reply; over = k.over }

-- Where an asker put nothing on the present connection, nothing passed.
has_asked : (h : History) (x : Entry) → IsFair Asker (x ∷ h) → has is_request (puts (x ∷ h)) ≡ true
has_asked h x fair = grind (arith, common_steps, puts)

pub silent_fair : (h : History) → [] ≡ puts h → IsFair Asker h → h ≡ []
silent_fair [] none fair = refl
silent_fair (x ∷ h) none fair = let both : false ≡ true = ap (has is_request) none ∙ has_asked h x fair in absurd cc

-- A flow that may be asked for is ready.
silent_none : (role : Role) (first : ℕ) (f : Flow) (log : Log) → IsFairOn role f log → side_of role f ≡ Asker
    → heard_of role first f log ≡ []
    → history_of role f log ≡ []
silent_none role first f log fair asker silent =
    silent_fair (history_of role f log) (ap puts (sym silent) ∙ heard_puts role first f log)
    (subst (λ s. IsFair s (history_of role f log)) asker (fair_now role f log fair))

pub next_clean : (role : Role) (first : ℕ) (f : Flow) (part : Ends) (log : Log) → Matches role first part log → IsFairLog role log
    → IsNextFlow role f part → (history_of role f log ≡ []) ⊎ (phase_of role first f log ≡ Clean)
next_clean role first f part log m fair next = by next.port
  where
    by : (part.next_port ≤ own_port role f) ⊎ (is_among f part.clean ≡ true) → (history_of role f log ≡ []) ⊎ (phase_of role first f log ≡ Clean)
    by (inl later) = inl (silent_none role first f log (fair f) next.asker (m.flows.unused f next.asker later).silent)
    by (inr among) = inr ((m.fairly fair).kept f among)

pub next_ready : (role : Role) (first : ℕ) (f : Flow) (part : Ends) (log : Log) → Matches role first part log → IsFairLog role log
    → IsNextFlow role f part → IsReady (history_of role f log)
next_ready role first f part log m fair next = by next.port
  where
    by : (part.next_port ≤ own_port role f) ⊎ (is_among f part.clean ≡ true) → IsReady (history_of role f log)
    by (inl later) = inl (silent_none role first f log (fair f) next.asker (m.flows.unused f next.asker later).silent)
    by (inr among) = inr (phase_clean role first f log (fair f) next.asker ((m.fairly fair).kept f among))

-- The port of a flow that is asked for is given, and the flow kept no more.
abbrev given_of : Role → Flow → Ends → Ends
given_of role f part = record part { next_port = port_after part.next_port (own_port role f); clean = without f part.clean }

gives : (role : Role) (first : ℕ) (f : Flow) (part : Ends) (log : Log) → Matches role first part log
    → Matches role first (given_of role f part) log
gives role first f part log m =
    fewer role first (port_after part.next_port (own_port role f)) (without f part.clean) part log
    (steps.port_rises part.next_port (own_port role f)) (λ g. without_among f g part.clean) (without_distinct f part.clean m.flows.once) m

given_used : (role : Role) (f : Flow) (part : Ends) → IsUsed role f (given_of role f part)
given_used role f part = record {
  given = λ asker later. steps.port_given part.next_port (own_port role f) later;
  unkept = without_own f part.clean;
}

pub opens : (role : Role) (first cid : ℕ) (f : Flow) (kind : Kind) (part : Ends) (log : Log) → Matches role first part log
    → IsNextFlow role f part → Matches role first (opened role f kind part) (PutPacket (request_on role cid f kind) ∷ log)
opens role first cid f kind part log m next =
    let p = request_on role cid f kind in
    let u = next_free role first f part log m.flows next in
    let after = paid_of (asked kind BUF_ALLOC) owed.Request in
    let one = added_same f after part.entries u.no_end in
    puts_on role first f p (part.entries ++ record { flow = f; end = after } ∷ []) part.replies (given_of role f part) log
    (request_flow role cid f kind) (given_used role f part)
    (begins_on role (side_of role f) (Put p) _ _ _ after u.no_reply one refl
    (subst (λ x. Follows x (p ∷ []) [] after) (sym next.asker) (asked_follows kind BUF_ALLOC (route_of role cid f) refl)))
    (λ g apart. (added_other f g after part.entries apart, refl)) (old_one f after _ one refl)
    (λ fair left. (
      open_within role first cid f kind log,
      all_put role f p log part.replies (request_flow role cid f kind) (λ owed_is. let none = u.no_reply in absurd cc) left.replies,
    )) (gives role first f part log m)

-- A step without a packet, on a flow that is used.
changes_on_flow : (role : Role) (first : ℕ) (f : Flow) (xs : List FlowEnd) (part : Ends) (log : Log) → IsUsed role f part
    → ((g : Flow) → same_flow g f ≡ false → ends_of g xs ≡ ends_of g part.entries)
    → MatchesOn role first (record part { entries = xs }) log f
    → (IsFairLog role log → (e : ConnectionEnd) → ends_of f xs ≡ e ∷ [] → is_new e ≡ true → IsReady (history_of role f log))
    → Matches role first part log → Matches role first (record part { entries = xs }) log
changes_on_flow role first f xs part log used others own ready m =
    step_matches role first f part log xs part.replies log used refl
    (λ g apart. record { passed = refl; heard = refl; phase = refl; ends = others g apart; replies = refl }) own (λ fair. fair)
    (λ fair left. record { within = left.within f; ready = ready fair; replies = left.replies }) m

pub asks : (first : ℕ) (f : Flow) (kind : Kind) (part : Ends) (log : Log) → Matches Device first part log → IsNextFlow Device f part
    → Matches Device first (asking Device f kind part) log
asks first f kind part log m next =
    let u = next_free Device first f part log m.flows next in
    let e = asked kind BUF_ALLOC in
    changes_on_flow Device first f (part.entries ++ record { flow = f; end = e } ∷ []) (given_of Device f part) log
    (given_used Device f part) (λ g apart. added_other f g e part.entries apart)
    (asks_on (side_of Device f) (heard_of Device first f log) kind (left_kind Device first f log) (is_among f (replied part.replies))
    (ends_of f part.entries) _ (m.flows.on f) u.no_end u.no_reply u.over next.asker (added_same f e part.entries u.no_end))
    (λ fair e has new. next_ready Device first f part log m fair next) (gives Device first f part log m)

pub accepts : (role : Role) (first : ℕ) (kind : Kind) (p : Packet) (part : Ends) (log : Log) → let f = flow_got role p in
    Matches role first part log → is_dropped role part.cid p.header ≡ false → HasNone f part
    → IsInOrder (side_of role f) (heard_of role first f log) p → IsTaken p → is_request p ≡ true → p.header.kind ≡ kind_number kind
    → Matches role first (accepted f kind p.header part) (GotPacket p ∷ log)
accepts role first kind p part log m kept none order fits asks of =
    let f = flow_got role p in
    let h = heard_of role first f log in
    let two = order.request asks in
    let after = answering kind BUF_ALLOC p.header in
    let one = added_same f after part.entries none in
    let closed = fresh_closed role (side_of role f) h _ _ _ (m.flows.on f) two.1 in
    gets_on role first p (part.entries ++ record { flow = f; end = after } ∷ []) part.replies part log kept
    (used_by_order role first part log f p m.flows order)
    (subst (λ x. IsLeftOn role (side_of role f) x (kind_got p (left_kind role first f log)) (is_among f (replied part.replies))
    (ends_of f (accepted f kind p.header part).entries)) (sym (steps.new_got p h asks))
    (begins_on role (side_of role f) (Got p) _ _ _ after closed.1 one
    (got_opens p (left_kind role first f log) asks ∙ ap (λ (n : ℕ). Some n) of)
    (subst (λ x. Follows x [] (p ∷ []) after) (sym two.0) (answer_follows kind BUF_ALLOC p refl of fits asks))))
    (λ g apart. (added_other f g after part.entries apart, refl)) (old_one f after _ one refl) (λ fair all. all) m

pub sends : (role : Role) (first cid : ℕ) (f : Flow) (e : ConnectionEnd) (payload : List ℕ) (part : Ends) (log : Log)
    → Matches role first part log
    → HasEnd f e part → CanSend e (length payload) → FitsMessage e (puts (history_of role f log)) (length payload)
    → Matches role first (with_end f (with_payload_sent e (length payload)) part) (PutPacket (payload_on role cid f e payload) ∷ log)
sends role first cid f e payload part log m has can fits =
    let p = payload_on role cid f e payload in
    let is = payload_flow role cid f e payload in
    let after = with_payload_sent e (length payload) in
    let h = heard_of role first f log in
    let old = steps.can_old e (length payload) can in
    let one = replaced_same f e after part.entries has in
    puts_from role first f e p (replaced f after part.entries) part log is has
    (passes_on role (side_of role f) h (Put p) (left_kind role first f log) _ _ _ _ e after (m.flows.on f) has old one (λ o. o)
    (λ follows. send_follows (side_of role f) (puts h) (gots h) e (route_of role cid f) payload follows can))
    (λ g apart. replaced_other f g after part.entries apart) (old_one f after _ one old)
    (λ fair left. put_keeps_within role first f p log is refl
    (send_may_on role first cid f e payload part log m.flows has can fits (fair f) (left.within f)) (left.within f)) m

-- What an end owes: a new one its REQUEST.
pub not_request : (e : ConnectionEnd) (what : Owed) → is_new e ≡ false → owes_of e ≡ Some what → what ≢ owed.Request
not_request e what old owes is = steps.old_request e old (subst (λ x. owes_of e ≡ Some x) is owes)

pub owed_no_request : (role : Role) (cid : ℕ) (f : Flow) (e : ConnectionEnd) (what : Owed) → what ≢ owed.Request
    → is_request (owed_on role cid f e what) ≡ false
owed_no_request = grind (arith, common_steps)

-- The REQUEST that a new end pays.
first_is : (role : Role) (cid : ℕ) (f : Flow) (e : ConnectionEnd) → e ≡ asked e.kind BUF_ALLOC
    → owed_on role cid f e owed.Request ≡ request_on role cid f e.kind
first_is role cid f e is = ap (λ (x : ConnectionEnd). owed_on role cid f x owed.Request) is

-- It may be put, and is within credit.
pay_may : (role : Role) (first cid : ℕ) (f : Flow) (e : ConnectionEnd) (what : Owed) (part : Ends) (log : Log) (new : Bool)
    → is_new e ≡ new → Matches role first part log → IsFairLog role log → HasEnd f e part → owes_of e ≡ Some what
    → let p = owed_on role cid f e what in
    AllowsNow (side_of role f) (history_of role f log) (Put p) × IsWithinCredit role first f (PutPacket p ∷ log)
pay_may role first cid f e what part log true new m fair has owes =
    let a = end_asks role (side_of role f) (heard_of role first f log) _ _ _ e (m.flows.on f) has new in
    let is = ap (owed_on role cid f e) (steps.pays_new (side_of role f) e what a.asking owes) ∙ first_is role cid f e a.asking.asks in
    subst (λ p. AllowsNow (side_of role f) (history_of role f log) (Put p) × IsWithinCredit role first f (PutPacket p ∷ log)) (sym is)
    (request_allowed role cid f e.kind log a.asking.asker ((m.fairly fair).ready f e has new), open_within role first cid f e.kind log)
pay_may role first cid f e what part log false old m fair has owes =
    let within = (m.fairly fair).within f in
    let other = owed_no_request role cid f e what (not_request e what old owes) in
    let may = pay_may_on role first cid f e what part log m.flows has old owes (fair f) within in (
      put_allowed role first f (owed_on role cid f e what) log other (fair f) may,
      put_keeps_within role first f (owed_on role cid f e what) log (owed_flow role cid f e what) other may within,
    )

pub owed_old : (e : ConnectionEnd) (what : Owed) → owes_of e ≡ Some what → is_new (paid_of e what) ≡ false
owed_old e what owes = grind (arith, common_steps, owes)

pub pays : (role : Role) (first cid : ℕ) (f : Flow) (e : ConnectionEnd) (what : Owed) (part : Ends) (log : Log)
    → Matches role first part log
    → HasEnd f e part → owes_of e ≡ Some what → Matches role first (paid f e what part) (PutPacket (owed_on role cid f e what) ∷ log)
pays role first cid f e owed.Rst part log m has owes =
    let p = owed_on role cid f e owed.Rst in
    let h = heard_of role first f log in
    let o = end_follows role (side_of role f) h _ _ _ e (m.flows.on f) has (steps.rst_old e owes) in
    puts_from role first f e p (without_flow f part.entries) part log (owed_flow role cid f e owed.Rst) has
    (closed_on role (side_of role f) (and_then (Put p) h) (kind_put p (left_kind role first f log)) (is_among f (replied part.replies)) _
    (without_same f part.entries) refl o.none_owed)
    (λ g apart. without_other f g part.entries apart) (old_none f _ (without_same f part.entries))
    (λ fair left. (pay_may role first cid f e owed.Rst part log (is_new e) refl m fair has owes).1) m
pays role first cid f e what part log m has owes =
    let one = replaced_same f e (paid_of e what) part.entries has in
    puts_from role first f e (owed_on role cid f e what) (replaced f (paid_of e what) part.entries) part log
    (owed_flow role cid f e what) has
    (steps.pays_end role (side_of role f) (heard_of role first f log) (left_kind role first f log) (is_among f (replied part.replies))
    (ends_of f part.entries) _ e (route_of role cid f) what (is_new e) refl (m.flows.on f) has owes (λ is. absurd cc) one)
    (λ g apart. replaced_other f g (paid_of e what) part.entries apart) (old_one f (paid_of e what) _ one (owed_old e what owes))
    (λ fair left. (pay_may role first cid f e what part log (is_new e) refl m fair has owes).1) m

-- A reply.
all_rest : (role : Role) (log : Log) (r : Reply) (rest replies : List Reply) → replies ≡ r ∷ rest → AllOwed role log replies
    → IsOwed role log r × AllOwed role log rest
all_rest role log r rest replies is all = subst (AllOwed role log) is all

pub replies : (role : Role) (first cid : ℕ) (r : Reply) (rest : List Reply) (part : Ends) (log : Log) → Matches role first part log
    → part.replies ≡ r ∷ rest → Matches role first (with_replies rest part) (PutPacket (reply_on role cid r) ∷ log)
replies role first cid r rest part log m next =
    let f = r.flow in
    let p = reply_on role cid r in
    let owed_is = next_owed r rest part.replies next in
    let none = (reply_stale role first f part log m.flows owed_is).0 in
    puts_on role first f p part.entries rest part log (reply_flow role cid r) (used_by_reply role first part log f m.flows owed_is)
    (empties_on role (side_of role f) (and_then (Put p) (heard_of role first f log)) (kind_put p (left_kind role first f log))
    (is_among f (replied rest)) _ none refl (λ again. refl))
    (λ g apart. (refl, steps.rest_owed r g rest part.replies next apart)) (old_none f _ none)
    (λ fair left. (
      reply_within role first cid r log (left.within f),
      all_put role f p log rest (reply_flow role cid r) (λ again. (refl, refl)) (all_rest role log r rest part.replies next left.replies).1,
    )) m

-- A packet of a flow that has an end. With an RST of its type the connection leaves.
after_old : (e : ConnectionEnd) (h : Header) → is_new e ≡ false → is_new (end_after e h) ≡ false
after_old = grind (arith, common_steps)

leaves : (role : Role) (first : ℕ) (p : Packet) (e : ConnectionEnd) (part : Ends) (log : Log) (keeps : Bool) → let f = flow_got role p in
    is_kept role f e p ≡ keeps → (is_rst p && is_of e.kind p.header) ≡ true → Matches role first part log
    → is_dropped role part.cid p.header ≡ false
    → HasEnd f e part → IsInOrder (side_of role f) (heard_of role first f log) p
    → Matches role first (with_clean keeps f (left f part)) (GotPacket p ∷ log)
leaves role first p e part log keeps kept_is is m kept has order = by keeps kept_is
  where
    gone : Matches role first (left (flow_got role p) part) (GotPacket p ∷ log)
    gone =
        let f = flow_got role p in
        let o = steps.order_one role first p e part log m.flows has order in
        gets_on role first p (without_flow f part.entries) part.replies part log kept (used_by_end role first part log f e m.flows has)
        (closed_on role (side_of role f) (and_then (Got p) (heard_of role first f log)) (kind_got p (left_kind role first f log))
        (is_among f (replied part.replies)) _ (without_same f part.entries)
        (ap (kind_got p) o.kind_is ∙ got_closes e.kind p is) o.none_owed)
        (λ g apart. (without_other f g part.entries apart, refl)) (old_none f _ (without_same f part.entries)) (λ fair all. all) m

    phase_open : (ph : Phase) (kind : ℕ) → open_kind ph ≡ Some kind → ph ≡ Open kind
    phase_open = grind (arith, common_steps)

    by : (b : Bool) → is_kept role (flow_got role p) e p ≡ b
        → Matches role first (with_clean b (flow_got role p) (left (flow_got role p) part)) (GotPacket p ∷ log)
    by false kept_is = gone
    by true kept_is =
        let f = flow_got role p in
        let h = heard_of role first f log in
        let heard = cid_heard role first part log p false m.flows kept in
        let o = steps.order_one role first p e part log m.flows has order in
        let two = steps.kept_asks role f e p kept_is in
        let used = used_by_end role first part log f e m.flows has in
        keeps_flow role first f (left f part) (GotPacket p ∷ log) (record { given = used.given; unkept = used.unkept }) (record {
          asker = two.0;
          no_end = without_same f part.entries;
          no_reply = o.none_owed;
          over = ap is_awaiting (heard_got role first f p log refl heard ∙ then_got p h (rst_asks_none p (rst_of e.kind p is).0))
              ∙ steps.over_marked p h two.1;
        })
        (λ fair. phase_marked role first (kind_number e.kind) p log (fair f) two.0 heard two.1
        (phase_open (phase_of role first f log) (kind_number e.kind) o.kind_is)) gone

takes_by : (role : Role) (first : ℕ) (p : Packet) (e : ConnectionEnd) (part : Ends) (log : Log) (b : Bool) → let f = flow_got role p in
    (is_rst p && is_of e.kind p.header) ≡ b → Matches role first part log → is_dropped role part.cid p.header ≡ false → HasEnd f e part
    → IsInOrder (side_of role f) (heard_of role first f log) p → IsTaken p
    → Matches role first (if b then with_clean (is_kept role f e p) f (left f part) else with_end f (end_after e p.header) part)
    (GotPacket p ∷ log)
takes_by role first p e part log true is m kept has order fits =
    leaves role first p e part log (is_kept role (flow_got role p) e p) refl is m kept has order
takes_by role first p e part log false is m kept has order fits =
    let f = flow_got role p in
    let h = heard_of role first f log in
    let after = end_after e p.header in
    let old = steps.order_old role first p e part log m.flows has order in
    let o = steps.order_one role first p e part log m.flows has order in
    let other = steps.known_goes_on (side_of role f) h p e order o.follows in
    let one = replaced_same f e after part.entries has in
    gets_on role first p (replaced f after part.entries) part.replies part log kept (used_by_end role first part log f e m.flows has)
    (subst (λ x. IsLeftOn role (side_of role f) x (kind_got p (left_kind role first f log)) (is_among f (replied part.replies))
    (ends_of f (with_end f after part).entries)) (sym (then_got p h other))
    (passes_on role (side_of role f) h (Got p) (left_kind role first f log) _ _ _ _ e after (m.flows.on f) has old one
    (λ open_is. ap (kind_got p) open_is ∙ got_stays e.kind p other is ∙ ap (λ (k : Kind). Some (kind_number k)) (sym (got_kind e p.header)))
    (λ follows. get_follows (side_of role f) (puts h) (gots h) e p fits follows)))
    (λ g apart. (replaced_other f g after part.entries apart, refl)) (old_one f after _ one (after_old e p.header old)) (λ fair all. all) m

pub takes : (role : Role) (first : ℕ) (p : Packet) (e : ConnectionEnd) (part : Ends) (log : Log) → let f = flow_got role p in
    Matches role first part log → is_dropped role part.cid p.header ≡ false → HasEnd f e part
    → IsInOrder (side_of role f) (heard_of role first f log) p → IsTaken p → Matches role first (taken role f e p part) (GotPacket p ∷ log)
takes role first p e part log m kept has order fits =
    takes_by role first p e part log (is_rst p && is_of e.kind p.header) refl m kept has order fits

-- A packet that is refused: the reply that it makes owed.
pub named_kind : (n : ℕ) → is_some (kind_named n) ≡ true → kind_number (answer_kind n) ≡ n
named_kind = grind (arith, common_steps)

due_request : (side : Side) (h : History) (p : Packet) → is_request p ≡ true → AllowsNow side h (Got p)
    → IsDue side (Got p ∷ []) p.header.kind
due_request = grind (arith, common_steps)

begun_peer : (side : Side) (h : History) → is_begun (peer side) (gots h) (puts h) ≡ is_begun side (puts h) (gots h)
begun_peer = grind (arith, common_steps)

pub asker_peer : (side : Side) (h : History) → of_asker (peer side) (gots h) (puts h) ≡ of_asker side (puts h) (gots h)
asker_peer = grind (arith, common_steps)

-- Who put a marked RST gets nothing but RST.
due_quiet : (side : Side) (h : History) (p : Packet) (b : Bool) → has is_clean_rst (puts h) ≡ b → IsFair side h
    → MayPut (peer side) (gots h) (puts h) p
    → is_rst p ≡ false → has is_clean_rst (puts h) ≡ false
due_quiet side h p false is fair may plain = is
due_quiet side h p true is fair may plain =
    let both : true ≡ false = sym (marked_both side h fair is) ∙ (may.honest plain).not_closed in absurd cc

due_new : (side : Side) (h : History) (p : Packet) (b : Bool) → is_request p ≡ b → IsFair side h → AllowsNow side h (Got p)
    → is_rst p ≡ false
    → IsDue side (and_then (Got p) h) p.header.kind
due_new side h p b is fair may plain = grind (arith, common_steps, due_request, begun_peer, due_quiet, puts)

due_refused : (role : Role) (p : Packet) (log : Log) → is_rst p ≡ false → IsFairLog role (GotPacket p ∷ log)
    → IsOwed role (GotPacket p ∷ log) (record { flow = flow_got role p; kind = answer_kind p.header.kind })
due_refused role p log plain fair =
    let f = flow_got role p in
    let h = history_of role f log in
    let two = own_got_fair role p log (fair f) in
    let own : history_of role f (GotPacket p ∷ log) ≡ and_then (Got p) h = rw (same_self f) refl in
    let kind_is = named_kind p.header.kind (got_formed role p log (fair f)).kind in
    owed_of role (GotPacket p ∷ log) (record { flow = f; kind = answer_kind p.header.kind })
    (subst (λ x. IsDue (side_of role f) x (kind_number (answer_kind p.header.kind))) (sym own)
    (subst (λ (n : ℕ). IsDue (side_of role f) (and_then (Got p) h) n) (sym kind_is)
    (due_new (side_of role f) h p (is_request p) refl (fair_now role f log two.0) two.1 plain)))

pub refuses : (role : Role) (first : ℕ) (p : Packet) (part : Ends) (log : Log) → let f = flow_got role p in
    Matches role first part log → is_dropped role part.cid p.header ≡ false → HasNone f part → is_rst p ≡ false
    → IsInOrder (side_of role f) (heard_of role first f log) p
    → Matches role first (let h = p.header in refused f (answer_kind h.kind) part) (GotPacket p ∷ log)
refuses role first p part log m kept none plain order =
    let f = flow_got role p in
    let h = heard_of role first f log in
    let kind = answer_kind p.header.kind in
    let more : List Reply = record { flow = f; kind = kind } ∷ [] in
    gets_on role first p part.entries (part.replies ++ more) part log kept (used_by_order role first part log f p m.flows order)
    (refuses_on role (side_of role f) (and_then (Got p) h) (kind_got p (left_kind role first f log)) _ _ none
    (steps.owed_last f kind part.replies) (steps.got_stale p h))
    (λ g apart. (refl, steps.owed_other f g kind part.replies apart)) (old_none f _ none)
    (λ fair all. all_append role (GotPacket p ∷ log) part.replies more all (due_refused role p log plain fair, tt)) m

-- An RST that is ignored. On a flow whose port is given and that isn't kept it needn't come in order.
pub strays : (role : Role) (first : ℕ) (p : Packet) (part : Ends) (log : Log) → let f = flow_got role p in
    Matches role first part log → is_dropped role part.cid p.header ≡ false → HasNone f part → is_rst p ≡ true
    → IsUsed role f part → Matches role first part (GotPacket p ∷ log)
strays role first p part log m kept none rst used =
    let f = flow_got role p in
    let h = heard_of role first f log in
    let kind = left_kind role first f log in
    gets_on role first p part.entries part.replies part log kept used
    (subst (λ x. IsLeftOn role (side_of role f) x (kind_got p kind) (is_among f (replied part.replies)) (ends_of f part.entries))
    (sym (then_got p h (rst_asks_none p rst)))
    (ignores_on role (side_of role f) h (Got p) kind (kind_got p kind) _ _ (m.flows.on f) none
    (λ closed. ap (kind_got p) closed ∙ got_none p rst) refl))
    (λ g apart. (refl, refl)) (old_none f _ none) (λ fair all. all) m

pub ignores : (role : Role) (first : ℕ) (p : Packet) (part : Ends) (log : Log) → let f = flow_got role p in
    Matches role first part log → is_dropped role part.cid p.header ≡ false → HasNone f part → is_rst p ≡ true
    → IsInOrder (side_of role f) (heard_of role first f log) p → Matches role first part (GotPacket p ∷ log)
ignores role first p part log m kept none rst order =
    strays role first p part log m kept none rst (used_by_order role first part log (flow_got role p) p m.flows order)

-- A packet that is dropped. A REQUEST ends what was heard on its flow. Over a fair log none is got on a flow on which an end is to ask.
drop_flows : (role : Role) (first : ℕ) (p : Packet) (part : Ends) (log : Log) (asks : Bool) → let f = flow_got role p in
    is_request p ≡ asks → MatchesFlows role first part log → is_dropped role (cid_of first log) p.header ≡ true
    → (is_request p ≡ true → IsInOrder (side_of role f) (heard_of role first f log) p)
    → MatchesFlows role first part (GotPacket p ∷ log)
drop_flows role first p part log false other m is order =
    still_flows role first part log (GotPacket p ∷ log) refl (λ f. heard_dropped role first f p log is other)
    (λ f. phase_dropped role first f p log is) m
drop_flows role first p part log true asks m is order =
    let f = flow_got role p in
    let o = order asks in
    flows_step role first f part log part.entries part.replies (GotPacket p ∷ log) (used_by_order role first part log f p m o) refl
    (λ g apart. record { passed = rw apart refl; heard = rw apart refl; phase = rw apart refl; ends = refl; replies = refl })
    (left_alone role (side_of role f) _ _ _ _ _ _ _ _
    (drops_on role (side_of role f) (heard_of role first f log) (left_kind role first f log) (is_among f (replied part.replies))
    (ends_of f part.entries) (m.on f) (o.request asks).1)
    (heard_ended role first f p log refl is asks) (ap (λ x. open_kind x) (phase_dropped role first f p log is)) refl refl) m

pub drops : (role : Role) (first : ℕ) (p : Packet) (part : Ends) (log : Log) → let f = flow_got role p in
    Matches role first part log → is_dropped role part.cid p.header ≡ true
    → (is_request p ≡ true → IsInOrder (side_of role f) (heard_of role first f log) p) → Matches role first part (GotPacket p ∷ log)
drops role first p part log m dropped order =
    let f = flow_got role p in
    let is = cid_heard role first part log p true m.flows dropped in
    record {
      flows = drop_flows role first p part log (is_request p) refl m.flows is order;
      fairly = λ fair. let left = m.fairly ((one_got role log p).0 fair).0 in record {
        within = λ g. got_within role first g p log (fair g) (left.within g);
        kept = λ g among. phase_dropped role first g p log is ∙ left.kept g among;
        ready = λ g. own_or_other
            (λ x. (e : ConnectionEnd) → HasEnd x e part → is_new e ≡ true → IsReady (history_of role x (GotPacket p ∷ log))) f g
            (λ e has new. let old = steps.order_old role first p e part log m.flows has (got_in_order role first p log (fair f))
            in absurd cc)
            (λ apart. rw apart (left.ready g));
        replies = all_got role p log part.replies fair left.replies;
      };
    }

pub changes : (role : Role) (first : ℕ) (f : Flow) (e after : ConnectionEnd) (part : Ends) (log : Log) → Matches role first part log
    → HasEnd f e part → is_new e ≡ false → after.kind ≡ e.kind
    → (let h = heard_of role first f log in Follows (side_of role f) (puts h) (gots h) e → Follows (side_of role f) (puts h) (gots h) after)
    → Matches role first (with_end f after part) log
changes role first f e after part log m has old same keeps =
    let h = heard_of role first f log in
    let one = replaced_same f e after part.entries has in
    let o = end_follows role (side_of role f) h _ _ _ e (m.flows.on f) has old in
    let now = follows_old (side_of role f) h after (keeps o.follows) in
    changes_on_flow role first f (replaced f after part.entries) part log (used_by_end role first part log f e m.flows has)
    (λ g apart. replaced_other f g after part.entries apart)
    (changes_on role (side_of role f) h (left_kind role first f log) (is_among f (replied part.replies)) (ends_of f part.entries) _ e after
    (m.flows.on f) has old one same keeps)
    (λ fair x has new. let was = old_one f after _ one now x has in absurd cc) m

-- An entry that changes nothing of what passed.
event_keeps : (role : Role) (first : ℕ) (part : Ends) (log newer : Log) → cid_of first newer ≡ cid_of first log
    → ((f : Flow) → heard_of role first f newer ≡ heard_of role first f log)
    → ((f : Flow) → phase_of role first f newer ≡ phase_of role first f log)
    → ((f : Flow) → history_of role f newer ≡ history_of role f log) → (IsFairLog role newer → IsFairLog role log)
    → Matches role first part log → Matches role first part newer
event_keeps role first part log newer cid heard phase passed was m = record {
  flows = still_flows role first part log newer cid heard phase m.flows;
  fairly = λ fair. let left = m.fairly (was fair) in record {
    within = λ f. subst IsWithin (sym (heard f)) (left.within f);
    kept = λ f among. phase f ∙ left.kept f among;
    ready = λ f e has new. subst IsReady (sym (passed f)) (left.ready f e has new);
    replies = all_same role log newer part.replies passed left.replies;
  };
}

pub puts_event : (role : Role) (first id : ℕ) (part : Ends) (log : Log) → Matches role first part log
    → Matches role first part (PutEvent id ∷ log)
puts_event role first id part log m =
    event_keeps role first part log (PutEvent id ∷ log) refl (λ f. refl) (λ f. refl) (λ f. refl) (λ fair. fair) m

pub takes_event : (role : Role) (first id : ℕ) (part : Ends) (log : Log) → Matches role first part log
    → Matches role first part (GotEvent id ∷ log)
takes_event role first id part log m =
    event_keeps role first part log (GotEvent id ∷ log) refl (λ f. refl) (λ f. refl) (λ f. refl) (λ fair. fair) m

-- A flow that is clean stays so over a reset.
reset_clean : (ph : Phase) → ph ≡ Clean → phase_reset ph ≡ Clean
reset_clean ph is = rw is refl

-- The replies that the driver's connections make owed at a reset.
all_of : (role : Role) (log : Log) (xs : List FlowEnd) → IsOnce xs
    → ((f : Flow) (e : ConnectionEnd) → ends_of f xs ≡ e ∷ [] → IsDue (side_of role f) (history_of role f log) (kind_number e.kind))
    → AllOwed role log (replies_of xs)
all_of role log [] once due = tt
all_of role log (x ∷ xs) once due =
    let none = own_none x xs once in
    let head : ends_of x.flow (x ∷ xs) ≡ x.end ∷ [] = rw (same_self x.flow) (ap (λ (es : List ConnectionEnd). x.end ∷ es) none) in
    let e = x.end in (
      owed_of role log (record { flow = x.flow; kind = e.kind }) (due x.flow x.end head),
      all_of role log xs (once_rest x xs once) (λ f e is. due f e (later f e is none (same_flow f x.flow) refl)),
    )
  where
    later : (f : Flow) (e : ConnectionEnd) → ends_of f xs ≡ e ∷ [] → ends_of x.flow xs ≡ [] → (b : Bool) → same_flow f x.flow ≡ b
        → ends_of f (x ∷ xs) ≡ e ∷ []
    later f e is none true same =
        let one = same_is f x.flow same in
        let both : [] ≡ e ∷ [] = sym none ∙ ap (λ g. ends_of g xs) (sym one) ∙ is in absurd cc
    later f e is none false same = rw same is

pub no_mark : (ps : List Packet) → has is_rst ps ≡ false → has is_clean_rst ps ≡ false
no_mark [] none = refl
no_mark (p ∷ ps) none = let rest = no_mark ps (grind (arith, common_steps, none)) in grind (arith, common_steps, none, rest)

begun_by : (side : Side) (h k : History) → is_begun side (puts k) (gots k) ≡ true → puts k ≡ puts h → Later (gots k) (gots h)
    → is_begun side (puts h) (gots h) ≡ true
begun_by = grind (arith, common_steps)

pub kind_by : (side : Side) (h k : History) (e : ConnectionEnd) → Follows side (puts k) (gots k) e → puts k ≡ puts h
    → Later (gots k) (gots h)
    → kind_number e.kind ≡ asked_kind (of_asker side (puts h) (gots h))
kind_by = grind (arith, common_steps)

due_heard : (side : Side) (h k : History) (e : ConnectionEnd) → Follows side (puts k) (gots k) e → puts k ≡ puts h → Later (gots k) (gots h)
    → IsDue side h (kind_number e.kind)
due_heard side h k e f same l = record {
  begun = begun_by side h k f.begun same l;
  kind_is = kind_by side h k e f same l;
  quiet = ap (has is_clean_rst) (sym same) ∙ no_mark (puts k) f.not_reset;
}

-- Of the flows that are kept those between the guest and the host stay.
hosts : (role : Role) (first : ℕ) (part : Ends) (log : Log) → Matches role first part log
    → Matches role first (record part { clean = of_host part.clean; next_port = part.next_port }) log
hosts role first part log m =
    fewer role first part.next_port (of_host part.clean) part log (omega arith) (λ f. host_among f part.clean)
    (host_distinct part.clean m.flows.once) m

-- A transport reset leaves no connection, and these replies.
resets : (role : Role) (first cid : ℕ) (rs : List Reply) (part : Ends) (log : Log)
    → ((f : Flow) → is_among f (replied rs) ≡ true → is_fresh (heard_of role first f log) ≡ false)
    → ((f : Flow) → ends_of f part.entries ≡ [] → is_among f (replied part.replies) ≡ false → is_among f (replied rs) ≡ false)
    → (IsFairLog role log → IsFairlyLeft role first part log → AllOwed role (Mark cid ∷ log) rs) → Matches role first part log
    → Matches role first (record { entries = []; replies = rs; clean = of_host part.clean; next_port = part.next_port; cid = cid })
    (Mark cid ∷ log)
resets role first cid rs part log stale none owed_all were =
    let m = hosts role first part log were in
    record {
      flows = record {
        on = λ f. empties_on role (side_of role f) (heard_of role first f log) (left_kind role first f (Mark cid ∷ log))
            (is_among f (replied rs)) [] refl (reset_closed (phase_of role first f log)) (stale f);
        unused = λ f asker later. let u = m.flows.unused f asker later in
            record { silent = u.silent; no_end = refl; not_kept = u.not_kept };
        kept = λ f among. let k = m.flows.kept f among in
            record { asker = k.asker; no_end = refl; no_reply = none f k.no_end k.no_reply; over = k.over };
        once = m.flows.once;
        cid = refl;
      };
      fairly = λ fair. let left = m.fairly fair in record {
        within = left.within;
        kept = λ f among. reset_clean (phase_of role first f log) (left.kept f among);
        ready = λ f e has new. absurd cc;
        replies = owed_all fair (were.fairly fair);
      };
    }

pub takes_reset : (first cid : ℕ) (part : Ends) (log : Log) → Matches Driver first part log
    → Matches Driver first (reset cid part) (Mark cid ∷ log)
takes_reset first cid part log m =
    resets Driver first cid (part.replies ++ replies_of part.entries) part log
    (λ f is. steps.stale_end (side_of Driver f) (heard_of Driver first f log) (left_kind Driver first f log)
    (is_among f (replied part.replies)) (is_among f (flows_of part.entries)) (ends_of f part.entries) (m.flows.on f)
    (among_flows f part.entries) (sym (steps.replied_reset f part) ∙ is))
    (λ f no_end no_reply. steps.replied_reset f part ∙ (rw (no_reply, among_flows f part.entries no_end) refl))
    (λ fair left. all_append Driver (Mark cid ∷ log) part.replies (replies_of part.entries)
    (all_same Driver log (Mark cid ∷ log) part.replies (λ f. refl) left.replies)
    (all_same Driver log (Mark cid ∷ log) (replies_of part.entries) (λ f. refl)
    (all_of Driver log part.entries (λ f e more is. only_end Driver first part log f e more m.flows is)
    (λ f e is. due_heard (side_of Driver f) (history_of Driver f log) (heard_of Driver first f log) e
    (end_begun Driver first part log f e m.flows is (driver_begun first part log f e m.flows is))
    (heard_puts Driver first f log) (heard_less Driver first f log (fair f)))))) m

pub makes_reset : (role : Role) (first cid : ℕ) (part : Ends) (log : Log) → Matches role first part log
    → Matches role first (emptied cid part) (Mark cid ∷ log)
makes_reset role first cid part log m =
    resets role first cid [] part log (λ f is. absurd cc) (λ f no_end no_reply. refl) (λ fair left. tt) m

-- What is put keeps the log fair.
pub opens_fair : (role : Role) (first cid : ℕ) (f : Flow) (kind : Kind) (part : Ends) (log : Log) → Matches role first part log
    → IsFairLog role log → IsNextFlow role f part → IsFairLog role (PutPacket (request_on role cid f kind) ∷ log)
opens_fair role first cid f kind part log m fair next =
    put_fair role f (request_on role cid f kind) log (request_flow role cid f kind) fair
    (request_allowed role cid f kind log next.asker (next_ready role first f part log m fair next))

pub sends_fair : (role : Role) (first cid : ℕ) (f : Flow) (e : ConnectionEnd) (payload : List ℕ) (part : Ends) (log : Log)
    → Matches role first part log
    → IsFairLog role log → HasEnd f e part → CanSend e (length payload) → FitsMessage e (puts (history_of role f log)) (length payload)
    → IsFairLog role (PutPacket (payload_on role cid f e payload) ∷ log)
sends_fair role first cid f e payload part log m fair has can fits =
    put_fair role f (payload_on role cid f e payload) log (payload_flow role cid f e payload) fair
    (put_allowed role first f (payload_on role cid f e payload) log refl (fair f)
    (send_may_on role first cid f e payload part log m.flows has can fits (fair f) ((m.fairly fair).within f)))

pub pays_fair : (role : Role) (first cid : ℕ) (f : Flow) (e : ConnectionEnd) (what : Owed) (part : Ends) (log : Log)
    → Matches role first part log
    → IsFairLog role log → HasEnd f e part → owes_of e ≡ Some what → IsFairLog role (PutPacket (owed_on role cid f e what) ∷ log)
pays_fair role first cid f e what part log m fair has owes =
    put_fair role f (owed_on role cid f e what) log (owed_flow role cid f e what) fair
    (pay_may role first cid f e what part log (is_new e) refl m fair has owes).0

pub replies_fair : (role : Role) (first cid : ℕ) (r : Reply) (rest : List Reply) (part : Ends) (log : Log) → Matches role first part log
    → IsFairLog role log → part.replies ≡ r ∷ rest → IsFairLog role (PutPacket (reply_on role cid r) ∷ log)
replies_fair role first cid r rest part log m fair next =
    put_fair role r.flow (reply_on role cid r) log (reply_flow role cid r) fair
    (reply_may role cid r log (all_rest role log r rest part.replies next (m.fairly fair).replies).0)

pub has_room : (role : Role) (first : ℕ) (p : Packet) (e : ConnectionEnd) (part : Ends) (log : Log) → Matches role first part log
    → HasEnd (flow_got role p) e part → IsFairLog role (GotPacket p ∷ log) → is_overrun (verdict_of e p.header) ≡ false
has_room role first p e part log m has fair =
    let f = flow_got role p in
    got_no_overrun role first p e part log m.flows has (fair f) ((m.fairly ((one_got role log p).0 fair).0).within f)
