-- Calls and polls keep what a journal's calls were given, against the driver's next id and its listeners.
use Rattle.std.proofs.Common.{◌≡◌, ◌⊎◌, inl, inr, ℕ, ◌+◌, ◌<◌, ◌≤◌, ◌==◌, ◌||◌, nat_le, not, Bool, true, false, cond, List, [], ◌∷◌, ◌++◌, length, find, take, Option, Some}
use Rattle.std.proofs.{Common.{None, is_some, Result, Ok, Err, refl, sym, ap, subst, ◌∙◌, arith}, lemmas.{Bool.{and_parts, eq-eqb, eqb-true}}}
use Rattle.std.{proofs.lemmas.Option.same_Some, specs.{List.list_any, Option.{option_map_or}}}
use Rattle.vs_contents.{specs.CallTree.{Done, bind}, proofs.Leads.{AllEnds, end_of}}
use Rattle.vs_flow.{proofs.Entries.found_passes, specs.{Flow.{is_assigned}, declared.flow.Flow.Flow}}
use Rattle.vs_limits.specs.declared.TheConstants.{DRIVER_CONNECTIONS, HOST_CID, LAST_PORT, LISTENERS}
use Rattle.laws_tables.proofs.Slots.{found_by}
use Rattle.vs_ring_port.specs.{Contents.RingContents, EndLog.EndLog}
use Rattle.vs_driver_parts.specs.Connections.{after_close, after_leaving, after_recv, after_grow, after_shutdown, connected}
use Rattle.vs_driver_parts.specs.Connections.{flow_of, is_full, is_spent, state_of, waits_no_more}
use Rattle.vs_driver_parts.specs.{Conversations.{DriverTree, connect_of, connect_with_page, has_page, new_of, no_credit, not_sent, poll_of}}
use Rattle.vs_driver_parts.specs.{Conversations.{post_packet, reap_all, request_bytes, send_stopped}, Listening.{accept_of, is_answered, listener_on, listening, next_accepted}}
use Rattle.vs_driver_parts.specs.{Listening.{with_port, with_waiting, without_id}, Playing.{Plays, RingAllows}, Receiving.{after_packet}}
use Rattle.vs_driver_parts.specs.{State.{DriverEntry, DriverState}}
use Rattle.vs_driver_parts.specs.{State.{Listener}, declared.answers.{Accepted.Accepted, ConnectError.ConnectError}}
use Rattle.vs_driver_parts.specs.declared.answers.{ListenError.ListenError, Polled.Polled, Sent.Sent}
use Rattle.laws_driver.specs.{Honest.{IsFresh, IsHonestWith}, Carried.Calls.{Accept, Close, Connect, Grow, GuestCall, Journal, Listen, LookAt, Made, Recv, ReplyTo, Send, Shutdown}}
use Rattle.laws_driver.{specs.Carried.Calls.{Unlisten, is_right, names, whole_call}, proofs.{Calls.new_keeps, Carrying.{Carries, Fact}, Keeping.keeps_end, Polling.poll_keeps}}
use Rattle.laws_driver.proofs.Calling.{close_to, grow_to, recv_to, shutdown_to}
use Rattle.laws_driver.proofs.Sighting.{Small, poll_sees}
use Rattle.laws_driver.proofs.{Staging.Rests, Carried.{Growing.honest_stays, Making.{CarriesCall, whole_with}, Righting.told_before, Sending.begins}}
use Rattle.laws_rest.proofs.Quiet.{ends_any, ends_then}
use Rattle.vs_apps_parts.specs.{Journals.made_as, declared.journal.{Entry.Entry}}
use Rattle.laws_apps.specs.{Given.{AreGiven, AreGivenWith, ConnectTells, TellsGiven, heard_by, is_heard}, Placed.{ArePlaced, ArePlacedWith, IsAsked, IsClients, IsPlaced}}
use Rattle.laws_apps.{specs.Placed.{IsTo, accepted_as, asked_as, given_by, waits_at, was_closed, was_given}, proofs.Placed.{changed, one_of, or_first, other_listener, own_listener}}
use Rattle.laws_apps.proofs.{Placed.or_second, Placing.{IsOfApps, NamesAsked, noted}, Tracing.found_gone}
use Rattle.vs_conn.specs.declared.end.Verdict.TheVariants as verdict
use Rattle.vs_driver_parts.specs.declared.answers.Accepted.TheVariants as accepted
use Rattle.vs_driver_parts.specs.declared.answers.ConnectError.TheVariants as refused
use Rattle.vs_driver_parts.specs.declared.answers.ListenError.TheVariants as unheard
use Rattle.vs_driver_parts.specs.declared.answers.Sent.TheVariants as sent
use Rattle.std.proofs.lemmas.Grind.{common_steps}

still_heard : (p q : ℕ) (change : List ℕ → List ℕ) (ls : List Listener) → is_some (listener_on p ls) ≡ true → is_some (listener_on p (with_waiting q change ls)) ≡ true
still_heard p q change ls is = grind (arith, common_steps, changed, other_listener, eqb-true, own_listener)

-- Who waits where, before that.
module _ (i : ℕ) where
  abbrev waits_in : Option Listener → Bool
  waits_in o = list_any (λ w. w == i) (option_map_or (λ l. l.waiting) o [])

  elsewhere : (p q : ℕ) (change : List ℕ → List ℕ) (ls : List Listener) → (p == q) ≡ false → waits_at p i (with_waiting q change ls) ≡ true → waits_at p i ls ≡ true
  elsewhere p q change ls other is = sym (ap (λ (o : Option Listener). waits_in o) (other_listener p q change other ls)) ∙ is

  before : (p q : ℕ) (change : List ℕ → List ℕ) (ls : List Listener)
      → ((ws : List ℕ) → list_any (λ w. w == i) (change ws) ≡ true → list_any (λ w. w == i) ws ≡ true)
      → waits_at p i (with_waiting q change ls) ≡ true → waits_at p i ls ≡ true
  before p q change ls fewer is = grind (arith, common_steps, changed, elsewhere, eqb-true, own_listener)

  -- Without an id that waits no more, and before one that waits since.
  fewer_without : (j : ℕ) (ws : List ℕ) → list_any (λ w. w == i) (without_id j ws) ≡ true → list_any (λ w. w == i) ws ≡ true
  fewer_without j [] is = is
  fewer_without j (w ∷ ws) is = by (not (w == j)) is (fewer_without j ws)
    where
      both : (b : Bool) → (b || list_any (λ v. v == i) (without_id j ws)) ≡ true
          → (list_any (λ v. v == i) (without_id j ws) ≡ true → list_any (λ v. v == i) ws ≡ true) → (b || list_any (λ v. v == i) ws) ≡ true
      both true so rest = refl
      both false so rest = rest so

      by : (a : Bool) → list_any (λ v. v == i) (cond a (w ∷ without_id j ws) (without_id j ws)) ≡ true
          → (list_any (λ v. v == i) (without_id j ws) ≡ true → list_any (λ v. v == i) ws ≡ true) → ((w == i) || list_any (λ v. v == i) ws) ≡ true
      by false so rest = or_second (w == i) _ (rest so)
      by true so rest = both (w == i) so rest

  none_left : (ws : List ℕ) → list_any (λ w. w == i) (without_id i ws) ≡ true → ⊥
  none_left [] is = absurd cc
  none_left (w ∷ ws) is = by (w == i) refl is (none_left ws)
    where
      by : (a : Bool) → (w == i) ≡ a → list_any (λ v. v == i) (cond (not a) (w ∷ without_id i ws) (without_id i ws)) ≡ true
          → (list_any (λ v. v == i) (without_id i ws) ≡ true → ⊥) → ⊥
      by true at so rest = rest so
      by false at so rest = rest (sym (ap (λ (b : Bool). b || list_any (λ v. v == i) (without_id i ws)) at) ∙ so)

  gone_there : (q : ℕ) (ls : List Listener) → waits_at q i (with_waiting q (without_id i) ls) ≡ true → ⊥
  gone_there q ls is = grind (arith, common_steps, own_listener, changed, none_left)

  fewer_behind : (n : ℕ) → (n == i) ≡ false → (ws : List ℕ) → list_any (λ w. w == i) (ws ++ n ∷ []) ≡ true → list_any (λ w. w == i) ws ≡ true
  fewer_behind n is ws = grind (arith, common_steps)

  -- Where another port is listened on nobody waits there.
  before_listen : (p q : ℕ) (ls : List Listener) → waits_at p i (with_port q ls) ≡ true → waits_at p i ls ≡ true
  before_listen p q [] is = by (q == p) is
    where
      by : (b : Bool) → waits_in (cond b (Some (record { port = q; waiting = [] })) None) ≡ true → waits_in None ≡ true
      by true so = so
      by false so = so
  before_listen p q (l ∷ ls) is = by (l.port == p) is (before_listen p q ls)
    where
      by : (b : Bool) → waits_in (cond b (Some l) (listener_on p (with_port q ls))) ≡ true → (waits_at p i (with_port q ls) ≡ true → waits_at p i ls ≡ true)
          → waits_in (cond b (Some l) (listener_on p ls)) ≡ true
      by true so rest = so
      by false so rest = rest so

heard_before : (p q : ℕ) (ls : List Listener) → is_some (listener_on p ls) ≡ true → is_some (listener_on p (with_port q ls)) ≡ true
heard_before p q [] is = absurd cc
heard_before p q (l ∷ ls) is = by (l.port == p) is (heard_before p q ls)
  where
    by : (b : Bool) → is_some (cond b (Some l) (listener_on p ls)) ≡ true → (is_some (listener_on p ls) ≡ true → is_some (listener_on p (with_port q ls)) ≡ true)
        → is_some (cond b (Some l) (listener_on p (with_port q ls))) ≡ true
    by true so rest = refl
    by false so rest = rest so

heard_now : (p : ℕ) (ls : List Listener) → is_some (listener_on p (with_port p ls)) ≡ true
heard_now p [] = ap (λ (b : Bool). let o : Option Listener = cond b (Some (record { port = p; waiting = [] })) None in is_some o) (eq-eqb p p refl)
heard_now p (l ∷ ls) = by (l.port == p) (heard_now p ls)
  where
    by : (b : Bool) → is_some (listener_on p (with_port p ls)) ≡ true → is_some (cond b (Some l) (listener_on p (with_port p ls))) ≡ true
    by true rest = refl
    by false rest = rest

-- The next id that is accepted waits there.
found_any : (test : ℕ → Bool) (id : ℕ) (ws : List ℕ) → find test ws ≡ Some id → list_any (λ w. w == id) ws ≡ true
found_any test id [] is = absurd cc
found_any test id (w ∷ ws) is = by (test w) is (found_any test id ws)
  where
    by : (b : Bool) → cond b (Some w) (find test ws) ≡ Some id → (find test ws ≡ Some id → list_any (λ v. v == id) ws ≡ true)
        → ((w == id) || list_any (λ v. v == id) ws) ≡ true
    by true so rest = or_first (w == id) _ (eq-eqb w id (same_Some w id so))
    by false so rest = or_second (w == id) _ (rest so)

-- What is given, through each change of the listeners and each call.
module _ (journal : Journal) (next : ℕ) (ls : List Listener) (x : AreGiven journal next ls) where
  back : (q j p i : ℕ) → waits_at p i (with_waiting q (without_id j) ls) ≡ true → waits_at p i ls ≡ true
  back q j p i is = before i p q (without_id j) ls (fewer_without i j) is

  waits_less : (q j : ℕ) → AreGiven journal next (with_waiting q (without_id j) ls)
  waits_less q j = grind (arith, common_steps, back, still_heard)

  not_given : (i : ℕ) → i ≡ next → (b : Bool) → was_given i journal ≡ b → b ≡ false
  not_given i same false is = refl
  not_given i same true is = let less = x.given i is in absurd (omega (arith, less, same))

  abbrev Came : ℕ → ℕ → ℕ → Type 0
  Came q p i = (waits_at p i ls ≡ true) ⊎ ((i ≡ next) × (p ≡ q))

  came : (q p i : ℕ) → waits_at p i (with_waiting q (λ ws. ws ++ next ∷ []) ls) ≡ true → Came q p i
  came q p i is = by (next == i) refl (p == q) refl
    where
      by : (a : Bool) → (next == i) ≡ a → (b : Bool) → (p == q) ≡ b → Came q p i
      by false other b at = inl (before i p q (λ ws. ws ++ next ∷ []) ls (fewer_behind i next other) is)
      by true same false other = inl (elsewhere i p q (λ ws. ws ++ next ∷ []) ls other is)
      by true same true own = inr (sym (eqb-true next i same), eqb-true p q own)

  requested : (q : ℕ) → AreGiven journal (next + 1) (with_waiting q (λ ws. ws ++ next ∷ []) ls)
  requested q = record {
    given = λ i is. let less = x.given i is in omega (arith, less);
    waits = λ p i is. on p i (came q p i is);
    one = λ p r i a b. both p r i (came q p i a) (came q r i b);
    heard = λ p is. still_heard p q (λ ws. ws ++ next ∷ []) ls (x.heard p is);
    all = x.all;
  }
    where
      on : (p i : ℕ) → Came q p i → (i < next + 1) × (was_given i journal ≡ false)
      on p i (inl was) = let w = x.waits p i was in (let less = w.0 in omega (arith, less), w.1)
      on p i (inr new) = let same = new.0 in (omega (arith, same), not_given i same (was_given i journal) refl)

      both : (p r i : ℕ) → Came q p i → Came q r i → p ≡ r
      both p r i (inl a) (inl b) = x.one p r i a b
      both p r i (inr a) (inr b) = a.1 ∙ sym b.1
      both p r i (inl a) (inr b) = let less = (x.waits p i a).0 in let same = b.0 in absurd (omega (arith, less, same))
      both p r i (inr a) (inl b) = let less = (x.waits r i b).0 in let same = a.0 in absurd (omega (arith, less, same))

  goes_on : (m : Made) → given_by m.call m.reply ≡ None → heard_by m.call m.reply ≡ None → TellsGiven m.call m.reply journal → AreGiven (m ∷ journal) next ls
  goes_on m none unheard tells = grind (arith, common_steps)

  -- Unless it told to wait.
  silent : (call : GuestCall) (reply : ReplyTo call) → given_by call reply ≡ None → heard_by call reply ≡ None → TellsGiven call reply journal
      → AreGiven (noted call reply journal) next ls
  silent call reply none unheard tells = grind (arith, common_steps, goes_on)

  -- An id is given: the next, or one that waits.
  module _ (m : Made) (id : ℕ) (gives : given_by m.call m.reply ≡ Some id) where
    now : (i : ℕ) → was_given i (m ∷ journal) ≡ ((i == id) || was_given i journal)
    now i = ap (λ (o : Option ℕ). names i o || was_given i journal) gives

    below : (more i : ℕ) → id < more → next ≤ more → was_given i (m ∷ journal) ≡ true → i < more
    below more i less most is = grind (arith, common_steps, now, eqb-true)

    still_waits : (i : ℕ) → (i ≡ id → ⊥) → was_given i journal ≡ false → was_given i (m ∷ journal) ≡ false
    still_waits i apart none = grind (arith, common_steps, eqb-true, now)

  connects_given : (port : ℕ) → AreGiven (made_as (Connect port) (Ok next) ∷ journal) (next + 1) ls
  connects_given port = record {
    given = λ i is. below (made_as (Connect port) (Ok next)) next refl (next + 1) i (omega arith) (omega arith) is;
    waits = λ p i is. let w = x.waits p i is in let less = w.0 in (
      omega (arith, less),
      still_waits (made_as (Connect port) (Ok next)) next refl i (λ same. absurd (omega (arith, less, same))) w.1,
    );
    one = x.one;
    heard = x.heard;
    all = (not_given next refl (was_given next journal) refl, x.all);
  }

  accepts_given : (port id : ℕ) → waits_at port id ls ≡ true
      → AreGiven (made_as (Accept port) (accepted.Conn id) ∷ journal) next (with_waiting port (without_id id) ls)
  accepts_given port id there = record {
    given = λ i is. below (made_as (Accept port) (accepted.Conn id)) id refl next i (x.waits port id there).0 (omega arith) is;
    waits = λ p i is. let w = x.waits p i (back port id p i is) in (w.0, still_waits (made_as (Accept port) (accepted.Conn id)) id refl i (left p i is) w.1);
    one = (waits_less port id).one;
    heard = λ p is. still_heard p port (without_id id) ls (x.heard p is);
    all = ((x.waits port id there).1, x.all);
  }
    where
      left : (p i : ℕ) → waits_at p i (with_waiting port (without_id id) ls) ≡ true → i ≡ id → ⊥
      left p i is same =
          let own = subst (λ (n : ℕ). waits_at p n (with_waiting port (without_id id) ls) ≡ true) same is in
          gone_there id port ls (subst (λ (n : ℕ). waits_at n id (with_waiting port (without_id id) ls) ≡ true) (x.one p port id (back port id p id own) there) own)

  listens_given : (port : ℕ) → AreGiven (made_as (Listen port) (Ok tt) ∷ journal) next (with_port port ls)
  listens_given port = grind (arith, common_steps, before_listen, eqb-true, heard_now, heard_before)

  -- It is listened on already.
  heard_given : (port : ℕ) → is_some (listener_on port ls) ≡ true → AreGiven (made_as (Listen port) (Err unheard.Taken) ∷ journal) next ls
  heard_given port there = grind (arith, common_steps, eqb-true)

-- A poll.
module _ (journal : Journal) where
  abbrev At : DriverState → Type 0
  At s = AreGiven journal s.next_id s.listeners

  leaving_given : (e : DriverEntry) (s : DriverState) → At s → At (after_leaving e s)
  leaving_given e s x = on e.value.unanswered
    where
      on : (b : Bool) → At (cond b (waits_no_more e s) s)
      on true = waits_less journal s.next_id s.listeners x e.flow.guest e.value.id
      on false = x

  small_given : Small (λ port next table gone ls. AreGiven journal next ls)
  small_given = record {
    pays = λ what e s stands owes x. x;
    hears = λ v p e s stands is x. x;
    leaves = λ e s sound stands x. leaving_given e s x;
    ends = λ p e s sound stands x. leaving_given (record e { value = after_packet verdict.Peer p e.value }) s x;
    asks = λ f h s may x. requested journal s.next_id s.listeners x f.guest;
  }

abbrev gives : Journal → Fact
gives journal part s log = AreGiven journal s.next_id s.listeners

poll_gives : (first : ℕ) (journal : Journal) → Carries true true first (gives journal)
poll_gives first journal = poll_sees (λ port next table gone ls. AreGiven journal next ls) (small_given journal) first

-- Why a connect is refused, whatever the ring.
connect_ends : (port : ℕ) (s : DriverState) → AllEnds (λ (y : DriverState × Result ℕ ConnectError). ConnectTells port y.1 []) (connect_of port s)
connect_ends port s = by (is_assigned port) refl (is_full s) (is_spent HOST_CID port s)
  where
    page : (t : DriverState) (b : Bool) → AllEnds (λ (y : DriverState × Result ℕ ConnectError). ConnectTells port y.1 [])
        (cond b (bind (post_packet (request_bytes HOST_CID port t) t) (λ u. Done (connected HOST_CID port u, Ok u.next_id))) (Done (t, Err (refused.NoDescriptor t.in_flight))))
    page t true = λ a b. refl
    page t false = tt

    by : (a : Bool) → is_assigned port ≡ a → (b c : Bool) → AllEnds (λ (y : DriverState × Result ℕ ConnectError). ConnectTells port y.1 [])
        (elim (cond a (Some (refused.BadPort port)) (cond b (Some (refused.Full DRIVER_CONNECTIONS)) (cond c (Some (refused.PortsSpent s.last_port s.last_id)) None)))
        as (λ _. DriverTree (DriverState × Result ℕ ConnectError)) [ Some refusal ↦ Done (s, Err refusal) | None ↦ bind (reap_all s) (connect_with_page HOST_CID port) ])
    by true is b c = is
    by false is true c = tt
    by false is false true = tt
    by false is false false =
        ends_then (λ (y : DriverState × Result ℕ ConnectError). ConnectTells port y.1 []) (λ (t : DriverState). Unit {0}) (reap_all s) (connect_with_page HOST_CID port)
        (ends_any (λ (t : DriverState). Unit {0}) (λ t. tt) (reap_all s)) (λ t u. page t (has_page t))

-- A call of an app's, where a connect is refused so.
abbrev IsSo : (call : GuestCall) → ReplyTo call → Type 0
IsSo (Connect port) reply = ConnectTells port reply []
IsSo call reply = Unit {0}

abbrev gives_after : Journal → (call : GuestCall) → ReplyTo call → Fact
gives_after journal call reply part s log = IsSo call reply → AreGiven (noted call reply journal) s.next_id s.listeners

module _ (journal : Journal) where
  refusal : (port : ℕ) (why : ConnectError) (s : DriverState) → At journal s → ConnectTells port (Err why) [] → AreGiven (noted (Connect port) (Err why) journal) s.next_id s.listeners
  refusal port why s is was = grind (arith, common_steps, silent)

  unsent : (id : ℕ) (bytes : List ℕ) (answer : Sent) (s : DriverState) → At journal s → AreGiven (noted (Send id bytes) answer journal) s.next_id s.listeners
  unsent id bytes answer s x = silent journal s.next_id s.listeners x (Send id bytes) answer refl refl tt

  listening_given : (port : ℕ) (s : DriverState) → At journal s → (b : Bool) → is_some (listener_on port s.listeners) ≡ b → (c : Bool)
      → let r : Result (Unit {0}) ListenError = cond b (Err unheard.Taken) (cond c (Err (unheard.Full LISTENERS)) (Ok tt)) in
      let t : DriverState = elim r as (λ _. DriverState) [ Ok y ↦ listening port s | Err why ↦ s ] in AreGiven (noted (Listen port) r journal) t.next_id t.listeners
  listening_given port s x true there c = heard_given journal s.next_id s.listeners x port there
  listening_given port s x false there true = silent journal s.next_id s.listeners x (Listen port) (Err (unheard.Full LISTENERS)) refl refl tt
  listening_given port s x false there false = listens_given journal s.next_id s.listeners x port

  accepting : (port : ℕ) (s : DriverState) → At journal s → (b : Bool) → is_some (listener_on port s.listeners) ≡ b → (o : Option ℕ) → next_accepted port s ≡ o
      → let r : Accepted = cond b (elim o as (λ _. Accepted) [ None ↦ accepted.None | Some id ↦ accepted.Conn id ]) accepted.NotListening in
      let t : DriverState = elim o as (λ _. DriverState) [ None ↦ s | Some id ↦ record s { listeners = with_waiting port (without_id id) s.listeners } ] in
      AreGiven (noted (Accept port) r journal) t.next_id t.listeners
  accepting port s x b there (Some id) is = by b there
    where
      waits : (o : Option Listener) → elim o as (λ _. Option ℕ) [ None ↦ None | Some l ↦ find (is_answered s) l.waiting ] ≡ Some id → (waits_in id o ≡ true) × (is_some o ≡ true)
      waits None so = absurd cc
      waits (Some l) so = (found_any (is_answered s) id l.waiting so, refl)

      by : (b : Bool) → is_some (listener_on port s.listeners) ≡ b
          → AreGiven (noted (Accept port) (cond b (accepted.Conn id) accepted.NotListening) journal) s.next_id (with_waiting port (without_id id) s.listeners)
      by true at = accepts_given journal s.next_id s.listeners x port id (waits (listener_on port s.listeners) is).0
      by false at = let no : true ≡ false = sym (waits (listener_on port s.listeners) is).1 ∙ at in absurd cc
  accepting port s x true there None is = x
  accepting port s x false there None is = silent journal s.next_id s.listeners x (Accept port) accepted.NotListening refl refl (by (is_heard port journal) refl)
    where
      by : (b : Bool) → is_heard port journal ≡ b → b ≡ false
      by false so = refl
      by true so = let no : true ≡ false = sym (x.heard port so) ∙ there in absurd cc

  -- A call that changes no listener, and a close.
  kept : (call : GuestCall) (reply : ReplyTo call) → given_by call reply ≡ None → heard_by call reply ≡ None → TellsGiven call reply journal → (s : DriverState)
      → At journal s → At (noted call reply journal) s
  kept call reply none unheard tells s x = silent journal s.next_id s.listeners x call reply none unheard tells

call_gives : (first : ℕ) (journal : Journal) (call : GuestCall) → IsOfApps call → CarriesCall first call (gives journal) (gives_after journal call)
call_gives first journal (Connect port) apps = record {
  refused = λ why s log x is. refusal journal port why s x is;
  opens = λ s log fits free m was fair x is. connects_given journal s.next_id s.listeners x port;
}
call_gives first journal (Send id bytes) apps = record {
  stopped = λ why s log x is. unsent journal id bytes (send_stopped why) s x;
  unknown = λ s log none x is. unsent journal id bytes (not_sent id s) s x;
  empty = λ s log x is. unsent journal id bytes (sent.Took 0) s x;
  full = λ n s log x is. unsent journal id bytes (sent.NoDescriptor n) s x;
  wants = λ e s log fits stands m x is. unsent journal id bytes (no_credit e.value.end) s x;
  sends = λ e n s log fits stands known can few m was fair x is. unsent journal id bytes (sent.Took (length (take n bytes))) s x;
}
call_gives first journal (Listen port) apps = λ s log fits m x is.
    listening_given journal port s x (is_some (listener_on port s.listeners)) refl (nat_le LISTENERS (length s.listeners))
call_gives first journal (Unlisten port) apps = absurd apps
call_gives first journal (Accept port) apps = λ s log fits m x is.
    accepting journal port s x (is_some (listener_on port s.listeners)) refl (next_accepted port s) refl
call_gives first journal (Recv id n) apps = λ s log fits m x is.
    kept journal (Recv id n) _ refl refl tt (after_recv id n s) (recv_to (At journal) id s x n (λ e known. x) x)
call_gives first journal (Shutdown id bits) apps = λ s log fits m x is.
    kept journal (Shutdown id bits) _ refl refl tt (after_shutdown id bits s) (shutdown_to (At journal) id s x bits (λ e known. x))
call_gives first journal (Grow id alloc) apps = λ s log fits m x is.
    kept journal (Grow id alloc) _ refl refl tt (after_grow id alloc s) (grow_to (At journal) id s x alloc (λ e known done. x))
call_gives first journal (Close id) apps = λ s log fits m x is.
    kept journal (Close id) _ refl refl tt (after_close id s) (close_to (At journal) id s x
    (λ e known. waits_less journal s.next_id s.listeners x e.flow.guest e.value.id) (λ g. waits_less journal s.next_id s.listeners x g.flow.guest id))
call_gives first journal (LookAt id) apps = λ s log fits m x is. kept journal (LookAt id) (state_of id s) refl refl tt s x

-- The connection that an accept gave waited on its port, so it is a client's there.
module _ (journal : Journal) (s : DriverState) (placed : ArePlaced journal s) (x : AreGiven journal s.next_id s.listeners) (port id : ℕ)
    (is : accept_of port s ≡ accepted.Conn id) where
  next_is : (b : Bool) (o : Option ℕ) → cond b (elim o as (λ _. Accepted) [ None ↦ accepted.None | Some i ↦ accepted.Conn i ]) accepted.NotListening ≡ accepted.Conn id
      → o ≡ Some id
  next_is b o = grind (arith, common_steps)

  found_on : (o : Option Listener) → elim o as (λ _. Option ℕ) [ None ↦ None | Some l ↦ find (is_answered s) l.waiting ] ≡ Some id
      → (waits_in id o ≡ true) × (is_answered s id ≡ true)
  found_on None at = absurd cc
  found_on (Some l) at = (found_any (is_answered s) id l.waiting at, found_passes (is_answered s) l.waiting id at)

  there : (waits_at port id s.listeners ≡ true) × (is_answered s id ≡ true)
  there = found_on (listener_on port s.listeners) (next_is (is_some (listener_on port s.listeners)) (next_accepted port s) is)

  on_port : (i : ℕ) (f : Flow) → i ≡ id → was_closed i journal ≡ false → IsPlaced journal s.listeners i f → IsClients port f
  on_port i f same shown at = grind (arith, common_steps, there, one_of)

  pub accepted_there : IsTo (IsClients port) (flow_of id s)
  accepted_there = grind (arith, common_steps, there, found_by, and_parts, on_port, eqb-true, found_gone)

-- The flow of the connection that a call gave, by the driver after it.
abbrev pub NamesIt : (call : GuestCall) → ReplyTo call → DriverState → Type 0
NamesIt (Connect port) reply s = (id : ℕ) → asked_as reply ≡ Some id → IsTo (IsAsked port) (flow_of id s)
NamesIt (Accept port) reply s = (id : ℕ) → accepted_as reply ≡ Some id → IsTo (IsClients port) (flow_of id s)
NamesIt call reply s = Unit {0}

module _ (first : ℕ) (journal : Journal) (s : DriverState) (c d : RingContents) (honest : IsHonestWith true first s c) (was : AreGivenWith journal s c) where
  so : (call : GuestCall) (x : DriverState × ReplyTo call) → Plays (whole_call call s) c x d → IsSo call x.1
  so (Connect port) x plays =
      end_of (λ (y : DriverState × Result ℕ ConnectError). ConnectTells port y.1 []) RingAllows (connect_of port s) c d x (connect_ends port s) plays
  so call x plays = tt

  pub call_answered : (call : GuestCall) (x : DriverState × ReplyTo call) → IsOfApps call → is_right call ≡ true → Plays (whole_call call s) c x d
      → AreGivenWith (noted call x.1 journal) x.0 d
  call_answered call x apps right plays = λ on m is.
      let before = told_before (whole_call call s) c d x plays m is in
      let then = was (sym (honest_stays (whole_call call s) c d x plays) ∙ on) before.0 before.1 in
      let kept : Rests true true first (gives_after journal call x.1) x.0 d =
      keeps_end _ (whole_call call s) c d x (whole_with first s c call (gives journal) (gives_after journal call) right (call_gives first journal call apps)
      (begins first (gives journal) s c before.0 before.1 then honest)) plays in
      (kept on m is).1 (so call x plays)

  pub call_named : (n : ℕ) (entries : List Entry) → ArePlacedWith n journal entries s c → (call : GuestCall) (x : DriverState × ReplyTo call) → Plays (whole_call call s) c x d
      → (on : d.honest ≡ true) (m : EndLog) → d.log ≡ Some m → NamesAsked call x.1 x.0 → NamesIt call x.1 x.0
  call_named n entries placed (Connect port) x plays on m is named = named
  call_named n entries placed (Accept port) x plays on m is named =
      let before = told_before (whole_call (Accept port) s) c d x plays m is in
      let then = sym (honest_stays (whole_call (Accept port) s) c d x plays) ∙ on in
      subst (λ (y : DriverState × Accepted). (id : ℕ) → accepted_as y.1 ≡ Some id → IsTo (IsClients port) (flow_of id y.0)) plays.0
      (λ id given. subst (IsTo (IsClients port)) (sym (same id (next_accepted port s)))
      (accepted_there journal s (placed then before.0 before.1).0 (was then before.0 before.1) port id (conn (accept_of port s) id given)))
    where
      conn : (r : Accepted) (id : ℕ) → accepted_as r ≡ Some id → r ≡ accepted.Conn id
      conn (accepted.Conn i) id given = ap (λ (n : ℕ). accepted.Conn n) (same_Some i id given)
      conn accepted.None id given = absurd cc
      conn accepted.NotListening id given = absurd cc

      same : (id : ℕ) (o : Option ℕ)
          → flow_of id (elim o as (λ _. DriverState) [ None ↦ s | Some i ↦ record s { listeners = with_waiting port (without_id i) s.listeners } ]) ≡ flow_of id s
      same id None = refl
      same id (Some i) = refl
  call_named n entries placed call x plays on m is named = tt

  pub poll_answered : (x : DriverState × Polled) → Plays (poll_of s) c x d → AreGivenWith journal x.0 d
  poll_answered x plays = λ on m is.
      let before = told_before (poll_of s) c d x plays m is in
      let then = was (sym (honest_stays (poll_of s) c d x plays) ∙ on) before.0 before.1 in
      let kept : Rests true true first (gives journal) x.0 d =
      keeps_end _ (poll_of s) c d x (poll_keeps true true first (gives journal) (poll_gives first journal) s c
      (begins first (gives journal) s c before.0 before.1 then honest)) plays in
      (kept on m is).1

pub new_answered : (size port : ℕ) (c d : RingContents) (s : DriverState) → port ≤ LAST_PORT → IsFresh c → Plays (new_of size port 1) c s d → AreGivenWith [] s d
new_answered size port c d s fits fresh plays = λ on l is. (kept on l is).1
  where
    none : AreGiven [] 1 []
    none = record { given = λ id is. absurd cc; waits = λ p i is. absurd cc; one = λ p q i a b. absurd cc; heard = λ p is. absurd cc; all = tt }

    kept : Rests true true s.cid (gives []) s d
    kept = keeps_end (λ t e. Rests true true t.cid (gives []) t e) (new_of size port 1) c d s (new_keeps size port 1 fits true (gives []) (λ cid. none) c fresh) plays
