-- What send comes to in each case.
use Rattle.std.proofs.Common.{◌≡◌, ℕ, ◌==◌, Bool, true, false, cond, min, List, length, take, Option, Some, None, Result, Ok, Err, is_some, refl, sym, ap, subst, ◌∙◌, ◌≤◌, IsOkAnd}
use Rattle.std.{proofs.{Common.{arith, length-take}, lemmas.List.take_min}, specs.Option.IfSome}
use Rattle.vs_contents.{specs.CallTree.{Done, bind}, proofs.{Leads.leads_of, Conditions.may_of}}
use Rattle.vs_conn.specs.{End.{CanSend, ConnectionEnd, may_send_of, state_may_send, wanting_credit, with_payload_sent}, declared.end.{State.State, Stop.Stop}}
use Rattle.vs_credit.specs.Credit.{free_of}
use Rattle.vs_flow.specs.Table.{Table, entry_under, value_under}
use Rattle.vs_ring_port.specs.Contents.{RingContents}
use Rattle.vs_driver_parts.specs.Conversations.{DriverTree, send_of, send_on, send_stopped, send_with_credit, send_with_page, no_credit, not_sent, payload_of, payload_bytes}
use Rattle.vs_driver_parts.specs.{Conversations.{post_packet, reap_all, has_page}, State.{DriverConnection, DriverEntry, DriverState, entry_known_as}, Playing.CanMake}
use Rattle.vs_driver_parts.specs.{Playing.{MayPublishAll, Plays, RingAllows}, declared.answers.Sent.Sent, Connections.with_end, Steps.{sends, sends_on, sends_with_credit}}
use Rattle.vs_driver_parts.proofs.{Ids.value_of, Known.some_inj}
use Rattle.vs_page.specs.declared.page.TheConstants.{PAYLOAD_MAX}
use Rattle.vs_driver.{specs.Outcomes.{NeedsPage, Readies}, proofs.Rest.{IsLeft, left_as, may_next, then}}
use Rattle.vs_conn.specs.declared.end.State.TheVariants as state
use Rattle.vs_conn.specs.declared.end.Stop.TheVariants as stop
use Rattle.vs_driver_parts.specs.declared.answers.Sent.TheVariants as sent

pub record IsThere {X : Type 0} (o : Option X) : Type 0 where
  pub one : X
  pub is : o ≡ Some one

pub there : {X : Type 0} (o : Option X) → is_some o ≡ true → IsThere o
there None e = absurd (cc)
there (Some x) e = record { one = x; is = refl }

pub if_there : (P : DriverConnection → Type 0) (t : Table DriverConnection) (slot : ℕ) (e : DriverEntry) → entry_under t slot ≡ Some e → P e.value
    → IfSome (value_under t slot) P
if_there P t slot e found h = let Q : Option DriverConnection → Type 0 = λ o. IfSome o P in subst Q (sym (value_of t slot e found)) h

pub record MaySend (e : ConnectionEnd) (n : ℕ) : Type 0 where
  pub live : e.state ≡ state.Live
  pub free : free_of e.credit ≡ n

by_shut : (b : Bool) (free n : ℕ) → cond b (Err stop.ShutDown) (Ok free) ≡ Ok n → free ≡ n
by_shut true free n is = absurd (cc)
by_shut false free n is = cc

by_state : (s : State) (e : ConnectionEnd) (n : ℕ) → e.state ≡ s → state_may_send s e ≡ Ok n → MaySend e n
by_state state.Live e n at is = record { live = at; free = by_shut _ (free_of e.credit) n is }
by_state _ e n at is = absurd (cc)

pub may_send_live : (e : ConnectionEnd) (n : ℕ) → may_send_of e ≡ Ok n → MaySend e n
may_send_live e n is = by_state e.state e n refl is

abbrev Sending : Type 0
Sending = DriverTree (DriverState × Sent)

abbrev after_post : DriverEntry → ℕ → DriverState → Sending
after_post e n t = Done (with_end (with_payload_sent e.value.end n) e t, sent.Took n)

module _ (e : DriverEntry) (payload : List ℕ) (s : DriverState) (c : RingContents) (free : has_page s ≡ true) where
  finds_page : IsLeft (send_with_page e payload s) c (bind (post_packet (payload_bytes e payload s) s) (after_post e (length payload))) c
  finds_page = left_as (send_with_page e payload s) (bind (post_packet (payload_bytes e payload s) s) (after_post e (length payload))) c
      (rw (free, send_with_page) refl)

  pub may_post_payload : MayPublishAll (send_with_page e payload s) c → MayPublishAll (post_packet (payload_bytes e payload s) s) c
  may_post_payload may = may_next (post_packet (payload_bytes e payload s) s) (after_post e (length payload)) finds_page may

  pub payload_posted : (t u : DriverState) (m : RingContents) → Plays (post_packet (payload_bytes e payload s) s) c t m
      → u ≡ with_end (with_payload_sent e.value.end (length payload)) e t → Plays (send_with_page e payload s) c (u, sent.Took (length payload)) m
  payload_posted t u m plays after =
      (then (post_packet (payload_bytes e payload s) s) (after_post e (length payload)) finds_page t m plays).goes_on
      (u, sent.Took (length payload)) m
      (rw after refl, refl)

-- how a send gets ready
module _ (e : DriverEntry) (credit : ℕ) (bytes : List ℕ) (s : DriverState) where
  pub sends_none : (length bytes == 0) ≡ true → Readies bytes (send_with_credit e credit bytes s) (sends_with_credit e credit bytes s) s s (Err (sent.Took 0))
  sends_none none = (rw (none, send_with_credit) refl, rw (none, sends_with_credit) refl)

  pub lacks_credit : (t : DriverState) (answer : Sent) → (length bytes == 0) ≡ false → (credit == 0) ≡ true → answer ≡ no_credit e.value.end
      → t ≡ with_end (wanting_credit e.value.end) e s
      → Readies bytes (send_with_credit e credit bytes s) (sends_with_credit e credit bytes s) s t (Err answer)
  lacks_credit t answer some none is after = (
    rw (is, after, some, none, send_with_credit) refl,
    rw (is, after, some, none, sends_with_credit) refl,
  )

  pub needs_page : (slot most : ℕ) → (length bytes == 0) ≡ false → (credit == 0) ≡ false → may_send_of e.value.end ≡ Ok credit
      → entry_under s.table slot ≡ Some e → most ≡ min (min credit PAYLOAD_MAX) (length bytes)
      → Readies bytes (send_with_credit e credit bytes s) (sends_with_credit e credit bytes s) s s (Ok (slot, most))
  needs_page slot most some has may found upto =
      let payload : take most bytes ≡ payload_of credit bytes = ap (λ (n : ℕ). take n bytes) upto ∙ take_min
      (min credit PAYLOAD_MAX) bytes in
      let P : Result ℕ Stop → Type 0 = λ r. IsOkAnd r (λ free. length (take most bytes) ≤ free) in
      let within : length (take most bytes) ≤ credit = grind (arith, length-take most bytes, upto) in
      record {
        entry = e;
        found = found;
        credit = subst P (sym may) within;
        same = refl;
        whole_is = rw (some, has, send_with_credit) (ap (λ (p : List ℕ). bind (reap_all s) (send_with_page e p)) (sym payload));
        step_is = rw (some, has, sends_with_credit) (ap (λ (p : List ℕ). send_with_page e p s) (sym payload));
      }

-- other trees that are the same
readies_of : (bytes : List ℕ) (whole whole' step step' : Sending) (s t : DriverState) (r : Result (ℕ × ℕ) Sent) → whole' ≡ whole
    → step' ≡ step
    → Readies bytes whole step s t r → Readies bytes whole' step' s t r
readies_of bytes whole whole' step step' s t r first next ready =
    let P : Sending → Type 0 = λ w. Readies bytes w step s t r in
    let Q : Sending → Type 0 = λ w. Readies bytes whole' w s t r in
    subst Q (sym next) (subst P (sym first) ready)

module _ (e : DriverEntry) (bytes : List ℕ) (s : DriverState) where
  pub ready_on : (credit : ℕ) (t : DriverState) (r : Result (ℕ × ℕ) Sent) → may_send_of e.value.end ≡ Ok credit
      → Readies bytes (send_with_credit e credit bytes s) (sends_with_credit e credit bytes s) s t r
      → Readies bytes (send_on e bytes s) (sends_on e bytes s) s t r
  ready_on credit t r is ready = readies_of bytes _ _ _ _ s t r (rw (is, send_on) refl) (rw (is, sends_on) refl) ready

  pub stops : (why : Stop) (answer : Sent) → may_send_of e.value.end ≡ Err why → answer ≡ send_stopped why
      → Readies bytes (send_on e bytes s) (sends_on e bytes s) s s (Err answer)
  stops why answer is stopped = (rw (stopped, is, send_on) refl, rw (stopped, is, sends_on) refl)

module _ (id : ℕ) (bytes : List ℕ) (s : DriverState) where
  pub ready_known : (e : DriverEntry) (t : DriverState) (r : Result (ℕ × ℕ) Sent) → entry_known_as id s ≡ Some e
      → Readies bytes (send_on e bytes s) (sends_on e bytes s) s t r → Readies bytes (send_of id bytes s) (sends id bytes s) s t r
  ready_known e t r known ready = readies_of bytes _ _ _ _ s t r (rw (known, send_of) refl) (rw (known, sends) refl) ready

  pub ready_unknown : (answer : Sent) → entry_known_as id s ≡ None → answer ≡ not_sent id s
      → Readies bytes (send_of id bytes s) (sends id bytes s) s s (Err answer)
  ready_unknown answer unknown is = (rw (is, unknown, send_of) refl, rw (is, unknown, sends) refl)

-- a send that needs a page
module _ {bytes : List ℕ} {whole step : Sending} {s t : DriverState} {slot n : ℕ} (needs : NeedsPage bytes whole step s t slot n) where
  -- where pages came back
  module _ (u : DriverState) (back : u ≡ record t { in_flight = u.in_flight }) where
    found_then : entry_under u.table slot ≡ Some needs.entry
    found_then =
        ap (λ (x : DriverState). entry_under x.table slot) back ∙
        (ap (λ (x : DriverState). entry_under x.table slot) needs.same ∙ needs.found)

    at_entry : (P : DriverEntry → Type 0) → P needs.entry → (e : DriverEntry) → entry_under u.table slot ≡ Some e → P e
    at_entry P holds e is = subst P (some_inj needs.entry e (sym found_then ∙ is)) holds

    pub held_then : is_some (entry_under u.table slot) ≡ true
    held_then = ap is_some found_then

    pub credit_then : (e : DriverEntry) → entry_under u.table slot ≡ Some e → CanSend e.value.end (length (take n bytes))
    credit_then = at_entry (λ e. CanSend e.value.end (length (take n bytes))) needs.credit

    module _ (c m : RingContents) (reaped : Plays (reap_all t) c u m) where
      from_old : Plays (reap_all s) c u m
      from_old = subst (λ (x : DriverState). Plays (reap_all x) c u m) needs.same reaped

      left : IsLeft whole c (send_with_page needs.entry (take n bytes) u) m
      left = then (reap_all s) (send_with_page needs.entry (take n bytes)) (left_as whole _ c needs.whole_is) u m from_old

      pub may_then : MayPublishAll whole c → (e : DriverEntry) → entry_under u.table slot ≡ Some e
          → MayPublishAll (send_with_page e (take n bytes) u) m
      may_then may = at_entry (λ e. MayPublishAll (send_with_page e (take n bytes) u) m) (left.may may)

      pub sent_then : (x : DriverState × Sent) (d : RingContents)
          → ((e : DriverEntry) → entry_under u.table slot ≡ Some e → Plays (send_with_page e (take n bytes) u) m x d) → Plays whole c x d
      sent_then x d plays = left.goes_on x d (plays needs.entry found_then)

  -- on the pages as they stand
  module _ (c : RingContents) where
    pub may_now : MayPublishAll step c → (e : DriverEntry) → entry_under t.table slot ≡ Some e
        → MayPublishAll (send_with_page e (take n bytes) t) c
    may_now may =
        at_entry t refl (λ e. MayPublishAll (send_with_page e (take n bytes) t) c)
        (subst (λ (x : DriverState). MayPublishAll (send_with_page needs.entry (take n bytes) x) c) (sym needs.same)
        (may_of CanMake RingAllows _ _ c needs.step_is may))

    pub sent_now : (x : DriverState × Sent) (d : RingContents)
        → ((e : DriverEntry) → entry_under t.table slot ≡ Some e → Plays (send_with_page e (take n bytes) t) c x d) → Plays step c x d
    sent_now x d plays =
        leads_of RingAllows _ _ c d x needs.step_is
        (subst (λ (y : DriverState). Plays (send_with_page needs.entry (take n bytes) y) c x d) needs.same
        (plays needs.entry (found_then t refl)))
