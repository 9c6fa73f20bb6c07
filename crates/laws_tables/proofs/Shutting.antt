-- An end that decided to send no more on a connection puts no payload there.
use Rattle.std.{specs.List.list_any, proofs.Common.{◌≡◌, ℕ, ◌+◌, ◌≤◌, ◌==◌, ◌&&◌, ◌||◌, not, Bool, true, false, cond, List, [], ◌∷◌, ◌++◌, length, Some, refl, sym, ap, subst, ◌∙◌, append-nil, arith}}
use Rattle.std.proofs.lemmas.{Bool.{Decides.nat_tests, and_parts}, Grind.common_steps}
use Rattle.vs_conn.specs.{End.{CanSend, ConnectionEnd, answering, asked, end_after, is_of, owes_of, paid_of, with_payload_sent}, declared.end.Owed.Owed}
use Rattle.vs_conn.proofs.Frames.{got_own, paid_own}
use Rattle.vs_flow.specs.{Connection.Connection, Flow.same_flow, declared.flow.Flow.Flow}
use Rattle.vs_limits.specs.declared.TheConstants.{BUF_ALLOC}
use Rattle.laws_history.specs.{History.{Asker, History, Put, puts}, Packets.{is_request, is_rst}, declared.packet.Packet.Packet}
use Rattle.vs_page.specs.{Fair.{IsFairLog, current, number_of, payload_of, payload_put}, Log.{Log, Role, flow_got, flow_put, side_of, whole_of}, Open.is_dropped}
use Rattle.vs_page.{specs.declared.log.LogEntry.{TheVariants.{GotPacket, PutPacket}}, proofs.Flows.same_is}
use Rattle.laws_tables.specs.Both.{Asks, Both, Decides, Decision, Happening, IsSound, MakesReset, MayRun, Opens, Pays, Replies, Seat, Sends, Step, Takes}
use Rattle.laws_tables.specs.Both.{TakesReset, after, after_packet, answered, at, decided, part_after, run}
use Rattle.laws_tables.specs.{Drains.{is_same, only_on, put_on}, Ends.{answer_kind, ends_of, is_new, replaced}, Later.{AsksOther, IsPast, IsShut, StillPast, StillShut, may_put, may_send_more}}
use Rattle.laws_tables.specs.{Matches.{Matches, MatchesFlows}, Steps.{HasEnd, is_kept, left, owed_on, payload_on, reply_on, request_on, with_clean, with_end}}
use Rattle.laws_tables.proofs.{Adding.{put_adds, put_nothing, put_over_got}, Both.run_keeps, Entries.replaced_other, Fair.got_in_order, Going.{Goes, MayDo, MayDoAll, done, fair_keeps, run_goes, step_fair}}
use Rattle.laws_tables.proofs.{News.{MakesNone, MakesOther, Stays, changes, comes, leaves, step_makes}, Steps.{can_old, order_old, owed_flow, payload_flow, pays_new, request_flow}}
use Rattle.laws_tables.proofs.Tables.{end_new, only_end}
use Rattle.vs_conn.specs.declared.end.Owed.TheVariants as owed

-- What an end decided it keeps, and it may send nothing.
decided_shut : (e : ConnectionEnd) (what : Decision) → may_send_more e ≡ false → may_send_more (decided e what) ≡ false
decided_shut e what shut = grind (arith, common_steps)

shut_stays : Stays may_send_more
shut_stays = grind (arith, common_steps)

cannot : (e : ConnectionEnd) (n : ℕ) → list_any may_put (e ∷ []) ≡ false → CanSend e n → ⊥
cannot = grind (arith, common_steps)

second_none : (a b : Bool) → b ≡ false → (a && b) ≡ false
second_none a b none = grind (arith, common_steps)

-- A flow, until it is asked for again.
pub is_shut : (f : Flow) (w : Seat) (e : ConnectionEnd) → HasEnd f e w.part → e.own.send ≡ true → IsShut f w
is_shut f w e has shut = ap (list_any may_send_more) has ∙ ap (λ (b : Bool). not b || false) shut

put_by : (b : Bool) (p : Packet) (h : History) → p.payload ≡ [] → payload_of (puts (cond b (Put p ∷ h) h)) ≡ payload_of (puts h)
put_by b p h none = grind (arith, common_steps)

put_none : (role : Role) (f : Flow) (p : Packet) (log : Log) → p.payload ≡ [] → put_on role f (PutPacket p ∷ log) ≡ put_on role f log
put_none role f p log none = put_by (same_flow f (flow_put role p)) p (whole_of role f log) none

put_got : (role : Role) (f : Flow) (p : Packet) (log : Log) → put_on role f (GotPacket p ∷ log) ≡ put_on role f log
put_got = grind (arith, common_steps)

module _ (role : Role) (f : Flow) (w : Seat) (shut : IsShut f w) where
  makes : (step : Step) → AsksOther role f step w → MakesOther may_send_more f step role w.part
  makes step other = grind (arith, common_steps)

  sends_other : (g : Flow) (e : ConnectionEnd) (payload : List ℕ) → HasEnd g e w.part → CanSend e (length payload) → (b : Bool) → same_flow f g ≡ b
      → b ≡ false
  sends_other g e payload has can false is = refl
  sends_other g e payload has can true is =
      let none : may_send_more e || false ≡ false = ap (list_any may_send_more) (sym has) ∙ ap (λ (h : Flow). list_any may_send_more (ends_of h w.part.entries)) (sym (same_is f g is)) ∙ shut in
      absurd (cannot e (length payload) (grind (arith, common_steps, none)) can)

  puts_none : (step : Step) → AsksOther role f step w → put_on role f (after role step w).log ≡ put_on role f w.log
  puts_none step other = grind (arith, common_steps, put_none, sends_other, puts, put_got)

  pub step_shut : (step : Step) → AsksOther role f step w → StillShut role f w (after role step w)
  step_shut step other = record {
    is = none (list_any may_send_more (ends_of f (after role step w).part.entries)) refl;
    put = puts_none step other;
  }
    where
      none : (b : Bool) → list_any may_send_more (ends_of f (after role step w).part.entries) ≡ b → b ≡ false
      none false is = refl
      none true is = absurd (let no : true ≡ false = sym (step_makes may_send_more shut_stays f step role w.part (makes step other) is) ∙ shut in cc)

-- A connection, also where its flow is used again.
pub is_past : (role : Role) (c : Connection) (w : Seat) (e : ConnectionEnd) → HasEnd c.flow e w.part → e.own.send ≡ true
    → c.number ≤ number_of role c.flow w.log → IsPast role c w
is_past role c w e has shut past = grind (arith, common_steps)

-- An end that began keeps what it decided.
keeps : (e now : ConnectionEnd) → is_new e ≡ false → (may_send_more e ≡ false → may_send_more now ≡ false) → may_put e ≡ false → may_put now ≡ false
keeps e now old stays none = grind (arith, common_steps)

-- How many connections of a flow began: no fewer by an entry more, and one more by a REQUEST.
step_more : (role : Role) (f : Flow) (step : Step) (w : Seat) → number_of role f w.log ≤ number_of role f (after role step w).log
step_more role f step w = grind (arith, common_steps)

put_asks : (role : Role) (f g : Flow) (p : Packet) (log : Log) → flow_put role p ≡ g → same_flow f g ≡ true → side_of role g ≡ Asker → is_request p ≡ true
    → number_of role f (PutPacket p ∷ log) ≡ number_of role f log + 1
put_asks role f g p log flow same own asks = grind (arith, common_steps)

module _ (role : Role) (first : ℕ) (w : Seat) (m : MatchesFlows role first w.part w.log) where
  module _ (f : Flow) where
    -- An end that comes, where no connection of the flow began.
    elsewhere : (g : Flow) (b : Bool) → (same_flow f g ≡ true → ⊥) → (same_flow f g && b) ≡ false
    elsewhere g b never = grind (arith, common_steps)

    -- What is owed is put.
    module _ (g : Flow) (e : ConnectionEnd) (what : Owed) (has : HasEnd g e w.part) (owes : owes_of e ≡ Some what)
        (same : number_of role f (PutPacket (owed_on role w.part.cid g e what) ∷ w.log) ≡ number_of role f w.log) where
      on_other : (b : Bool) → same_flow f g ≡ b → is_new e ≡ true → MakesNone may_put f w.part.entries (replaced g (paid_of e what) w.part.entries)
      on_other false other new = λ is. sym (ap (list_any may_put) (replaced_other g f (paid_of e what) w.part.entries other)) ∙ is
      on_other true is new =
          let asking = (end_new role first w.part w.log g e m has new).asking in
          let request = pays_new (side_of role g) e what asking owes in
          let more = put_asks role f g (owed_on role w.part.cid g e what) w.log (owed_flow role w.part.cid g e what) is asking.asker
          (ap (λ (x : Owed). is_request (owed_on role w.part.cid g e x)) request) in
          absurd (omega (arith, more, same))

      pays : (new : Bool) → is_new e ≡ new → MakesNone may_put f w.part.entries (replaced g (paid_of e what) w.part.entries)
      pays true new = on_other (same_flow f g) refl new
      pays false old =
          changes may_put f g e (paid_of e what) [] w.part.entries has (keeps e (paid_of e what) old (λ shut. ap (λ o. not o.send) (paid_own e what) ∙ shut))

    -- A packet is taken.
    module _ (p : Packet) (answer : Bool) (fair : IsFairLog role (GotPacket p ∷ w.log))
        (same : number_of role f (GotPacket p ∷ w.log) ≡ number_of role f w.log) where
      abbrev g : Flow
      g = flow_got role p

      asked_here : is_request p ≡ true → same_flow f g ≡ true → ⊥
      asked_here asks is = grind (arith, common_steps)

      unknown : (rst asks a : Bool) → is_request p ≡ asks → MakesNone may_put f w.part.entries (cond rst w.part (answered asks a p g w.part)).entries
      unknown true asks a is = λ one. one
      unknown false true true is = comes may_put f g (answering (answer_kind p.header.kind) BUF_ALLOC p.header) w.part.entries (elsewhere g _ (asked_here is))
      unknown false true false is = λ one. one
      unknown false false a is = λ one. one

      known : (leaves_it k : Bool) (e : ConnectionEnd) (more : List ConnectionEnd) → ends_of g w.part.entries ≡ e ∷ more
          → MakesNone may_put f w.part.entries (cond leaves_it (with_clean k g (left g w.part)) (with_end g (end_after e p.header) w.part)).entries
      known true true e more has = leaves may_put f g w.part.entries
      known true false e more has = leaves may_put f g w.part.entries
      known false k e more has =
          let one : HasEnd g e w.part = has ∙ ap (λ (es : List ConnectionEnd). e ∷ es) (only_end role first w.part w.log g e more m has) in
          let old = order_old role first p e w.part w.log m one (got_in_order role first p w.log (fair g)) in
          changes may_put f g e (end_after e p.header) more w.part.entries has
          (keeps e (end_after e p.header) old (λ shut. ap (λ o. not o.send) (got_own e p.header) ∙ shut))

      heard_by : (es : List ConnectionEnd) → ends_of g w.part.entries ≡ es → MakesNone may_put f w.part.entries (after_packet role es p g answer w.part).entries
      heard_by [] has = unknown (is_rst p) (is_request p) answer refl
      heard_by (e ∷ more) has = known (is_rst p && is_of e.kind p.header) (is_kept role g e p) e more has

      takes : (dropped : Bool) → MakesNone may_put f w.part.entries (cond dropped w.part (after_packet role (ends_of g w.part.entries) p g answer w.part)).entries
      takes true = λ one. one
      takes false = heard_by (ends_of g w.part.entries) refl

    -- Where no connection of the flow begins, no end of it comes to be one that may put.
    comes_none : (step : Step) → MayDo role step w → IsFairLog role (after role step w).log → number_of role f (after role step w).log ≡ number_of role f w.log
        → MakesNone may_put f w.part.entries (part_after role step w.part).entries
    comes_none (Opens g kind) may fair same = comes may_put f g (paid_of (asked kind BUF_ALLOC) owed.Request) w.part.entries (elsewhere g _ (λ is.
        let more = put_asks role f g (request_on role w.part.cid g kind) w.log (request_flow role w.part.cid g kind) is may.asker refl in omega (arith, more, same)))
    comes_none (Asks g kind) may fair same = comes may_put f g (asked kind BUF_ALLOC) w.part.entries (second_none (same_flow f g) _ refl)
    comes_none (Sends g e payload) may fair same =
        let now = with_payload_sent e (length payload) in
        changes may_put f g e now [] w.part.entries may.0 (keeps e now (can_old e (length payload) may.1) (λ shut. shut))
    comes_none (Pays g e owed.Rst) may fair same = leaves may_put f g w.part.entries
    comes_none (Pays g e what) may fair same = pays g e what may.0 may.1 same (is_new e) refl
    comes_none (Decides g e what) may fair same = changes may_put f g e (decided e what) [] w.part.entries may.0 (keeps e (decided e what) may.1 (decided_shut e what))
    comes_none (Takes p answer) may fair same = takes p answer fair same (is_dropped role w.part.cid p.header)
    comes_none (MakesReset cid) may fair same = λ one. absurd cc
    comes_none (TakesReset cid) may fair same = λ one. absurd cc
    comes_none step may fair same = λ one. one

  module _ (c : Connection) (x : IsPast role c w) where
    -- A send goes on another connection.
    sends_none : (g : Flow) (e : ConnectionEnd) (payload : List ℕ) → HasEnd g e w.part → CanSend e (length payload) → (b : Bool)
        → is_same c (current role g w.log) ≡ b → cond b payload [] ≡ []
    sends_none g e payload has can false other = refl
    sends_none g e payload has can true same =
        let parts = and_parts (same_flow c.flow g) (c.number == number_of role g w.log) same in
        let flow : c.flow ≡ g = same_is c.flow g parts.0 in
        let test = parts.1 in
        let number : c.number ≡ number_of role g w.log = grind (arith, nat_tests, test) in
        absurd (cannot e (length payload) (sym (ap (list_any may_put) (ap (λ (h : Flow). ends_of h w.part.entries) flow ∙ has))
        ∙ x.shut (number ∙ ap (λ (h : Flow). number_of role h w.log) (sym flow))) can)

    puts_nothing : (step : Step) → MayDo role step w → IsFairLog role (after role step w).log → payload_put role c (after role step w).log ≡ payload_put role c w.log
    puts_nothing (Opens g kind) may fair = sym (put_nothing role (request_on role w.part.cid g kind) w.log refl c)
    puts_nothing (Sends g e payload) may fair =
        let p : Packet = payload_on role w.part.cid g e payload in
        put_adds role p w.log refl (step_fair role (Sends g e payload) w fair) fair c
        ∙ ap (λ (h : Flow). payload_put role c w.log ++ only_on (current role h w.log) payload c) (payload_flow role w.part.cid g e payload)
        ∙ ap (λ (bytes : List ℕ). payload_put role c w.log ++ bytes)
        (sends_none g e payload may.0 may.1 (is_same c (current role g w.log)) refl) ∙ append-nil (payload_put role c w.log)
    puts_nothing (Pays g e what) may fair = sym (put_nothing role (owed_on role w.part.cid g e what) w.log refl c)
    puts_nothing (Replies r rest) may fair = sym (put_nothing role (reply_on role w.part.cid r) w.log refl c)
    puts_nothing (Takes p answer) may fair = put_over_got role p w.log c
    puts_nothing step may fair = refl

    pub step_past : (step : Step) → MayDo role step w → IsFairLog role (after role step w).log
        → StillPast role c w (after role step w)
    step_past step may fair = record {
      is = record {
        past = (let less = x.past in let more = step_more role c.flow step w in omega (arith, less, more));
        shut = λ same. by same (list_any may_put (ends_of c.flow (after role step w).part.entries)) refl;
      };
      put = puts_nothing step may fair;
    }
      where
        by : c.number ≡ number_of role c.flow (after role step w).log → (b : Bool)
            → list_any may_put (ends_of c.flow (after role step w).part.entries) ≡ b → b ≡ false
        by same false is = refl
        by same true is =
            let less = x.past in
            let more = step_more role c.flow step w in
            let still : number_of role c.flow (after role step w).log ≡ number_of role c.flow w.log = omega (arith, less, more, same) in
            let no : true ≡ false = sym (comes_none c.flow step may fair still is) ∙ x.shut (same ∙ still) in absurd cc

-- From its decision on, over any steps of its seat, and of both.
module _ (role : Role) (first : ℕ) (c : Connection) where
  record Past (v w : Seat) : Type 0 where
    matches : Matches role first w.part w.log
    still : StillPast role c v w

  all_past : (v : Seat) → Matches role first v.part v.log → IsPast role c v → (steps : List Step) → MayDoAll role steps v
      → IsFairLog role (done role steps v).log → Past v (done role steps v)
  all_past v m x [] may fair = record { matches = m; still = record { is = x; put = refl } }
  all_past v m x (step ∷ older) may fair =
      let w = done role older v in
      let was = all_past v m x older may.0 (step_fair role step w fair) in
      let now = step_past role first w was.matches.flows c was.still.is step may.1 fair in record {
        matches = fair_keeps role first step w may.1 was.matches fair;
        still = record { is = now.is; put = now.put ∙ was.still.put };
      }

  pub goes_past : (v w : Seat) → Goes role v w → Matches role first v.part v.log → IsFairLog role w.log → IsPast role c v → StillPast role c v w
  goes_past v w goes m fair x =
      let P : Seat → Type 0 = StillPast role c v in
      subst P goes.ends (all_past v m x goes.steps goes.may (subst (λ (u : Seat). IsFairLog role u.log) (sym goes.ends) fair)).still

  pub run_past : (xs : List Happening) (b : Both) → IsSound first b → MayRun xs b → IsPast role c (at role b)
      → StillPast role c (at role b) (at role (run xs b))
  run_past xs b s may = goes_past (at role b) (at role (run xs b)) (run_goes role xs b may) (s.matches role) ((run_keeps first xs b s may).fair role)
