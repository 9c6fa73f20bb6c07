-- Nothing of a flow is under way that is kept to be used again: neither ring holds a packet of it, and the other end owes it none.
use Rattle.std.proofs.{lemmas.Grind.common_steps, Common.{arith, ◌≡◌, ℕ, ◌-◌, Bool, true, false, ◌||◌, List, [], ◌∷◌, ◌++◌, refl, sym, ap, ◌∙◌, subst}}
use Rattle.vs_conn.specs.End.{ConnectionEnd}
use Rattle.vs_flow.specs.{Flow.{host_asks, same_flow}, declared.flow.Flow.Flow}
use Rattle.laws_history.specs.{Packets.{has, is_clean_rst, is_request}, declared.packet.Packet.Packet, Again.{IsClean, IsFairAll, after, count, present}, History.{Answerer, Asker}}
use Rattle.laws_history.{specs.History.{HasGot, History, Side, gots, peer, puts}, proofs.{Present.is_present, Quiet.{IsQuiet, quiet}}}
use Rattle.vs_page.{specs.{Fair.asked_by, Log.{Log, Role, flow_got, history_of, other_role, side_of, whole_of}}, proofs.{Entries.{got_on, on_flow, present_is}, Flows.opposite_by}}
use Rattle.vs_page.proofs.{Flows.{other_twice, same_is}, Phases.phase_clean}
use Rattle.laws_tables.specs.{Ends.{Ends, ends_of, is_among, is_new, replied}, Heard.heard_of, Matches.{AllOwed, Matches}, Quiet.IsQuietOn, Steps.HasEnd, Both.{Both, IsSound, at}}
use Rattle.laws_tables.proofs.{Both.tie_back, Fair.heard_puts, Keeps.no_mark, Tables.{end_begun, end_new, only_end}}
use Rattle.vs_replies.specs.declared.Reply.{Reply}

-- The answerer put the marked RST on its present connection.
theirs : (mine other : History) → IsFairAll Asker mine → IsFairAll Answerer other → IsQuiet mine other
    → puts (present other) ≡ gots (present mine)
theirs mine other fair fair_other q =
    let i = is_present Asker mine fair in
    let o = is_present Answerer other fair_other in
    o.put ∙ ap (λ (ps : List Packet). after (count is_request ps - 1) (puts other)) (sym q.went)
    ∙ ap (after (count is_request (puts mine) - 1)) q.came ∙ sym i.got

-- A reply that is owed.
reply_quiet : (role : Role) (log : Log) (f : Flow) (rs : List Reply) → is_among f (replied rs) ≡ true → AllOwed role log rs
    → has is_clean_rst (puts (history_of role f log)) ≡ false
reply_quiet role log f [] among all = absurd cc
reply_quiet role log f (r ∷ rs) among all = by (same_flow f r.flow) refl among (λ later. reply_quiet role log f rs later all.1)
  where
    by : (b : Bool) → same_flow f r.flow ≡ b → (b || is_among f (replied rs)) ≡ true
        → (is_among f (replied rs) ≡ true → has is_clean_rst (puts (history_of role f log)) ≡ false)
        → has is_clean_rst (puts (history_of role f log)) ≡ false
    by true same among rest = subst (λ x. has is_clean_rst (puts (history_of role x log)) ≡ false) (sym (same_is f r.flow same)) all.0.quiet
    by false same among rest = rest among

not_true : (b : Bool) → (b ≡ true → ⊥) → b ≡ false
not_true = grind (arith, common_steps)

none_of : (es : List ConnectionEnd) → ((e : ConnectionEnd) (more : List ConnectionEnd) → es ≡ e ∷ more → ⊥) → es ≡ []
none_of [] never = refl
none_of (e ∷ more) never = absurd (never e more refl)

answers : (role : Role) (f : Flow) → side_of role f ≡ Asker → side_of (other_role role) f ≡ Answerer
answers role f asker = opposite_by role (host_asks f) ∙ ap peer asker

numbers_by : (side other : Side) (w v : History) → side ≡ Asker → other ≡ Answerer → puts w ≡ gots v
    → asked_by side (puts w) (gots w) ≡ asked_by other (puts v) (gots v)
numbers_by = grind (arith, common_steps)

-- An end that put a marked RST has neither connection nor reply there.
no_end_there : (role : Role) (first : ℕ) (part : Ends) (log : Log) (f : Flow) → Matches role first part log → side_of role f ≡ Answerer
    → has is_clean_rst (puts (history_of role f log)) ≡ true → (e : ConnectionEnd) → HasEnd f e part → (b : Bool) → is_new e ≡ b → ⊥
no_end_there role first part log f m answerer marked e has_it true new =
    let both : Asker ≡ Answerer = sym (end_new role first part log f e m.flows has_it new).asking.asker ∙ answerer in absurd cc
no_end_there role first part log f m answerer marked e has_it false old =
    let follows = end_begun role first part log f e m.flows has_it old in
    let none = no_mark (puts (heard_of role first f log)) follows.not_reset in
    let both : true ≡ false = sym marked ∙ ap (has is_clean_rst) (sym (heard_puts role first f log)) ∙ none in absurd cc

pub quiet_on : (first : ℕ) (role : Role) (f : Flow) (b : Both) → IsSound first b → is_among f (at role b).part.clean ≡ true
    → IsQuietOn role f b
quiet_on first role f b s among =
    let mine = at role b in
    let other = at (other_role role) b in
    let m = s.matches role in
    let n = s.matches (other_role role) in
    let k = m.flows.kept f among in
    let w = whole_of role f mine.log in
    let v = whole_of (other_role role) f other.log in
    let fair : IsFairAll Asker w = subst (λ x. IsFairAll x w) k.asker (s.fair role f) in
    let there = answers role f k.asker in
    let fair_there : IsFairAll Answerer v = subst (λ x. IsFairAll x v) there (s.fair (other_role role) f) in
    let tie = s.ties role in
    let back = tie_back role first b s in
    let came : HasGot w v = (on_flow (flow_got role) f tie.packets.0, got_on role f mine.log other.log tie.packets.0 tie.packets.1) in
    let went : HasGot v w = (
      on_flow (flow_got (other_role role)) f back.packets.0,
      subst (λ r. puts (whole_of r f mine.log) ≡ on_flow (flow_got (other_role role)) f back.packets.0 ++ gots v) (other_twice role)
          (got_on (other_role role) f other.log mine.log back.packets.0 back.packets.1),
    ) in
    let clean = phase_clean role first f mine.log (s.fair role f) k.asker ((m.fairly (s.fair role)).kept f among) in
    let here = present_is role f mine.log in
    let clean_now : IsClean (puts (present w)) (gots (present w)) = subst (λ h. IsClean (puts h) (gots h)) (sym here) clean in
    let q = quiet w v fair fair_there came went clean_now in
    let marked : has is_clean_rst (puts (history_of (other_role role) f other.log)) ≡ true =
    ap (λ (h : History). has is_clean_rst (puts h)) (sym (present_is (other_role role) f other.log))
    ∙ ap (has is_clean_rst) (theirs w v fair fair_there q) ∙ clean_now.marked in
    record {
      came = q.came;
      went = q.went;
      no_end = none_of (ends_of f other.part.entries) (λ e more is.
          let one = only_end (other_role role) first other.part other.log f e more n.flows is in
          no_end_there (other_role role) first other.part other.log f n there marked e (is ∙ ap (λ (es : List ConnectionEnd). e ∷ es) one)
          (is_new e) refl);
      no_reply = not_true (is_among f (replied other.part.replies)) (λ owed_is.
          let both : true ≡ false = sym marked
          ∙ reply_quiet (other_role role) other.log f other.part.replies owed_is (n.fairly (s.fair (other_role role))).replies in
          absurd cc);
      numbers = numbers_by (side_of role f) (side_of (other_role role) f) w v k.asker there q.went;
    }
