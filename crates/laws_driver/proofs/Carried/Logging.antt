-- The account where entries are added to the log, and where connections leave the table or open.
use Rattle.std.proofs.Common.{◌≡◌, ◌≢◌, ℕ, ◌+◌, ◌<◌, ◌≤◌, ◌==◌, ◌&&◌, ◌||◌, not, Bool, true, false, cond, List, [], ◌∷◌, ◌++◌, length, get_or, Contains, refl, sym, ap, subst, ◌∙◌, arith}
use Rattle.std.{proofs.lemmas.{Grind.common_steps, List.Elements.{All-contains, All-push}, Bool.Decides.nat_tests}, specs.List.All}
use Rattle.vs_conn.specs.{End.{ConnectionEnd, is_open}, declared.shut.Shut.Shut}
use Rattle.vs_flow.specs.{Connection.Connection, Flow.{host_asks, same_flow}, Table.{IsTable, next_entry, with_entry, without}, declared.flow.Flow.Flow}
use Rattle.vs_flow.proofs.Entries.{same_flow_false}
use Rattle.laws_history.specs.{History.{Got, History, Side, gots, puts}, declared.packet.Packet.Packet}
use Rattle.vs_page.specs.{Fair.{IsPrefixOf, asked_by, current, number_of, payload_got}, Log.{Driver, Log, flow_got, side_of, whole_of}, declared.log.LogEntry.TheVariants.GotPacket}
use Rattle.vs_page.proofs.{Flows.still, PayloadLogs.got_stays}
use Rattle.vs_driver_parts.{proofs.Numbers.{numbers_left, numbers_with_entry, numbers_without}, specs.{Connections.{gone_as, is_let_go}, Held.HeldSlots, State.{DriverConnection, DriverEntry, GoneConnection}}}
use Rattle.laws_tables.{specs.{Drains.Drains, Later.IsLater}, proofs.{Changes.{others_left, under_slot}, Logs.{all_of, nothing_more, prefix_then}}}
use Rattle.laws_driver.specs.Carried.Received.{Account, AreReceived, DrainsTo, EndsClean, GoesOn, ReceivedOn, ReceivesOn, ends_with, keeps_all, with_opened}
use Rattle.laws_driver.proofs.Carried.Receiving.{apart_by, drains_on, in_slots, number_same}

-- What more entries leave: the payload of each connection grows, and so do the numbers; on the flows of the table nothing is new.
pub record Leaves (log new : Log) (e : DriverEntry) : Type 0 where
  pub number : number_of Driver e.flow new ≡ number_of Driver e.flow log
  pub got : (k : ℕ) → let c : Connection = record { flow = e.flow; number = k } in payload_got Driver c new ≡ payload_got Driver c log

module _ (a : Account) (log new : Log) (grows : (c : Connection) → IsPrefixOf (payload_got Driver c log) (payload_got Driver c new))
    (more : (f : Flow) → number_of Driver f log ≤ number_of Driver f new) (later : IsLater log new) where
  later_on : (e : DriverEntry) → Leaves log new e → ReceivesOn a log e → ReceivesOn a new e
  later_on e leaves x = grind (arith, common_steps)

  later_gone : (g : GoneConnection) → ReceivedOn a log g → ReceivedOn a new g
  later_gone g x = record { flow = x.flow; some = x.some; drains = drains_on _ _ _ _ _ _ later x.drains }

  pub later_received : (slots : HeldSlots) → All (Leaves log new) slots.table.entries → AreReceived a log slots → AreReceived a new slots
  later_received slots leaves x = record {
    numbers = x.numbers;
    front = λ id. prefix_then _ _ _ (x.front id) (grows (a.opened id));
    held = λ i d within. later_on (get_or slots.table.entries i d) (leaves i d within) (x.held i d within);
    left = λ i d within. later_gone (get_or slots.gone i d) (x.left i d within);
    passed = λ id. let m = more (a.opened id).flow in let p = x.passed id in omega (arith, m, p);
    once = x.once;
    rising = x.rising;
    fresh = x.fresh;
  }

-- Nothing was got.
pub same_received : (a : Account) (log new : Log) (slots : HeldSlots) → IsLater log new
    → ((c : Connection) → payload_got Driver c new ≡ payload_got Driver c log) → ((f : Flow) → number_of Driver f new ≡ number_of Driver f log)
    → AreReceived a log slots → AreReceived a new slots
same_received a log new slots later got numbers x =
    later_received a log new (λ c. all_of (payload_got Driver c log) (payload_got Driver c new) (sym (got c)))
    (λ f. let same = numbers f in omega (arith, same)) later slots
    (λ i d within. let e = get_or slots.table.entries i d in record { number = numbers e.flow; got = λ k. got (record { flow = e.flow; number = k }) }) x

-- A packet is got of a flow that has no connection.
number_by : (side : Side) (p : Packet) (w : History) (b : Bool)
    → let v : History = cond b (Got p ∷ w) w in asked_by side (puts w) (gots w) ≤ asked_by side (puts v) (gots v)
number_by side p w b = grind (arith, common_steps)

pub passes_by : (a : Account) (p : Packet) (log : Log) (slots : HeldSlots) → All (λ e. e.flow ≢ flow_got Driver p) slots.table.entries
    → AreReceived a log slots → AreReceived a (GotPacket p ∷ log) slots
passes_by a p log slots apart x =
    later_received a log (GotPacket p ∷ log) (λ c. got_stays Driver (GotPacket p ∷ []) log c)
    (λ f. number_by (side_of Driver f) p (whole_of Driver f log) (same_flow f (flow_got Driver p))) (GotPacket p ∷ [], refl) slots
    (λ i d within.
    let e = get_or slots.table.entries i d in
    let alone = still Driver 0 e.flow (GotPacket p) log (same_flow_false e.flow (flow_got Driver p) (apart i d within)) in record {
      number = ap (λ (w : History). asked_by (side_of Driver e.flow) (puts w) (gots w)) alone.whole;
      got = alone.got;
    }) x

-- A connection leaves the table.
module _ (a : Account) (log : Log) (slots : HeldSlots) (x : AreReceived a log slots) (sound : IsTable slots.table) (e : DriverEntry)
    (there : Contains slots.table.entries e) where
  without_received : AreReceived a log (record slots { table = without slots.table e.slot })
  without_received =
      in_slots a log slots (record slots { table = without slots.table e.slot }) x refl
      (numbers_without a.first_id slots.next_port slots.next_id slots.table slots.gone x.numbers e.slot)
      (others_left slots.table sound e there (ReceivesOn a log) (ReceivesOn a log) x.held (λ y other z. z)) x.left

  module _ (end : ConnectionEnd) (own : end.own ≡ e.value.end.own) where
    abbrev g : GoneConnection
    g = gone_as (record e { value = record e.value { end = end } })

    pub leaves_received : (b : Bool) → is_let_go e.value ≡ b → (e.value.closed ≡ false → EndsClean e.value → ends_with e.flow log ≡ true)
        → AreReceived a log (record slots { table = without slots.table e.slot; gone = cond b slots.gone (slots.gone ++ g ∷ []) })
    leaves_received true is ends = without_received
    leaves_received false is ends =
        let old = All-contains (ReceivesOn a log) slots.table.entries e x.held there in
        let unclosed : e.value.closed ≡ false = grind (arith, common_steps, is) in
        let P : Bool → Shut → Type 0 = λ closed shut. Drains (not (closed && not (is_open e.value.end.state) || shut.receive))
        (a.received e.value.id) e.value.unread (payload_got Driver (current Driver e.flow log) log) in
        let now : DrainsTo (not end.own.receive) (a.received e.value.id) e.value.unread (current Driver e.flow log) log =
        (log, ([], refl), refl, ends unclosed old.over, subst (P false) (sym own) (subst (λ (closed : Bool). P closed e.value.end.own) unclosed old.drains)) in
        in_slots a log slots (record slots { table = without slots.table e.slot; gone = slots.gone ++ g ∷ [] }) x refl
        (numbers_left a.first_id slots.next_port slots.next_id slots.table slots.gone x.numbers e g sound (under_slot slots.table sound e there) refl)
        without_received.held
        (All-push (ReceivedOn a log) slots.gone g x.left (record {
          flow = ap (λ (c : Connection). c.flow) old.present;
          some = subst (λ (c : Connection). 1 ≤ c.number) (sym old.present) old.some;
          drains = subst (λ (c : Connection). DrainsTo (not end.own.receive) (a.received e.value.id) e.value.unread c log) (sym old.present) now;
        }))

-- A connection opens: it is the next of its flow, of which the table has none.
module _ (a : Account) (log new : Log) (slots : HeldSlots) (f : Flow) (c : DriverConnection) (port : ℕ) (x : AreReceived a log slots)
    (got : (k : Connection) → payload_got Driver k new ≡ payload_got Driver k log) (nothing : payload_got Driver (current Driver f new) new ≡ [])
    (next : number_of Driver f new ≡ number_of Driver f log + 1)
    (others : (g : Flow) → g ≢ f → number_of Driver g new ≡ number_of Driver g log) (id : c.id ≡ slots.next_id) (empty : c.unread ≡ [])
    (absent : All (λ e. e.flow ≢ f) slots.table.entries) (more : slots.next_port ≤ port) (below : host_asks f ≡ false → f.guest < port)
    (later : IsLater log new) (over : EndsClean c) where
  abbrev b : Account
  b = with_opened slots.next_id (current Driver f new) a

  opened_is : b.opened slots.next_id ≡ current Driver f new
  opened_is = ap (λ (t : Bool). cond t (current Driver f new) (a.opened slots.next_id)) (number_same slots.next_id)

  old_is : (other : ℕ) → other ≢ slots.next_id → b.opened other ≡ a.opened other
  old_is other apart = ap (λ (t : Bool). cond t (current Driver f new) (a.opened other)) (apart_by other slots.next_id apart)

  rises : (g : Flow) → number_of Driver g log ≤ number_of Driver g new
  rises g = grind (arith, common_steps)

  -- It is none that was opened before.
  is_new : (other : ℕ) → a.opened other ≡ current Driver f new → ⊥
  is_new other is = grind (arith, common_steps)

  held_still : (e : DriverEntry) → e.flow ≢ f → e.value.id ≢ slots.next_id → ReceivesOn a log e → ReceivesOn b new e
  held_still e apart other y =
      let number = others e.flow apart in
      let now : current Driver e.flow log ≡ current Driver e.flow new =
      ap (λ (n : ℕ). let k : Connection = record { flow = e.flow; number = n } in k) (sym number) in
      record {
        present = old_is e.value.id other ∙ y.present ∙ now;
        some = subst (λ (n : ℕ). 1 ≤ n) (sym number) y.some;
        drains = subst (λ (bytes : List ℕ). Drains (keeps_all e.value) (a.received e.value.id) e.value.unread bytes)
            (sym (got (current Driver e.flow log)) ∙ ap (λ (k : Connection). payload_got Driver k new) now) y.drains;
        over = y.over;
      }

  gone_still : (g : GoneConnection) → g.id ≢ slots.next_id → ReceivedOn a log g → ReceivedOn b new g
  gone_still g other y = record {
    flow = ap (λ (k : Connection). k.flow) (old_is g.id other) ∙ y.flow;
    some = subst (λ (k : Connection). 1 ≤ k.number) (sym (old_is g.id other)) y.some;
    drains = subst (λ (k : Connection). DrainsTo (not g.end.own.receive) (a.received g.id) g.unread k new) (sym (old_is g.id other))
        (drains_on _ _ _ _ _ _ later y.drains);
  }

  pub opened_received : AreReceived b new (record slots { next_port = port; next_id = slots.next_id + 1; last_id = slots.next_id; table = with_entry slots.table f c })
  opened_received = record {
    numbers = numbers_with_entry a.first_id slots.next_port slots.next_id slots.table slots.gone x.numbers f c port id more below;
    front = λ other. front_by other (other == slots.next_id) refl;
    held = All-push (ReceivesOn b new) slots.table.entries (next_entry slots.table f c)
        (λ i d within. held_still (get_or slots.table.entries i d) (absent i d within) (held_id i d within) (x.held i d within))
        (record {
          present = ap b.opened id ∙ opened_is;
          some = omega (arith, next);
          drains = record { front = all_of (a.received c.id ++ c.unread) (payload_got Driver (current Driver f new) new) none; whole = λ on. none };
          over = over;
        });
    left = λ i d within. gone_still (get_or slots.gone i d)
        (λ is. let less = x.numbers.below i d within in absurd (omega (arith, is, less))) (x.left i d within);
    passed = λ other. passed_by other (other == slots.next_id) refl;
    once = λ i j some same. once_by i j (i == slots.next_id) (j == slots.next_id) refl refl some same;
    rising = λ i j less some same. rising_by i j (i == slots.next_id) (j == slots.next_id) refl refl less some same;
    fresh = λ other less.
        let fr = x.fresh other (omega (arith, less)) in
        (ap (λ (k : Connection). k.number) (old_is other (λ is. absurd (omega (arith, is, less)))) ∙ fr.0, fr.1);
  }
    where
      none : a.received c.id ++ c.unread ≡ payload_got Driver (current Driver f new) new
      none = ap (λ (xs : List ℕ). a.received c.id ++ xs) empty ∙ sym (nothing_more (a.received c.id)) ∙ ap a.received id
          ∙ (x.fresh slots.next_id (omega arith)).1 ∙ sym nothing

      held_id : (i : ℕ) (d : DriverEntry) → i < length slots.table.entries → (get_or slots.table.entries i d).value.id ≢ slots.next_id
      held_id i d within is =
          is_new slots.next_id (absurd_by (get_or slots.table.entries i d) (x.held i d within) is)
        where
          absurd_by : (e : DriverEntry) → ReceivesOn a log e → e.value.id ≡ slots.next_id → a.opened slots.next_id ≡ current Driver f new
          absurd_by e y same =
              let zero_is = (x.fresh slots.next_id (omega arith)).0 in
              let one = subst (λ (k : Connection). 1 ≤ k.number) (sym y.present ∙ ap a.opened same) y.some in
              absurd (omega (arith, zero_is, one))

      front_by : (other : ℕ) (t : Bool) → (other == slots.next_id) ≡ t → IsPrefixOf (a.received other) (payload_got Driver (b.opened other) new)
      front_by other true is =
          let at : other ≡ slots.next_id = grind (arith, nat_tests, is) in
          let silent : a.received other ≡ [] = ap a.received at ∙ (x.fresh slots.next_id (omega arith)).1 in
          subst (λ (xs : List ℕ). IsPrefixOf xs (payload_got Driver (b.opened other) new)) (sym silent) (payload_got Driver (b.opened other) new, refl)
      front_by other false is =
          subst (λ (k : Connection). IsPrefixOf (a.received other) (payload_got Driver k new))
          (sym (ap (λ (t : Bool). cond t (current Driver f new) (a.opened other)) is))
          (subst (λ (bytes : List ℕ). IsPrefixOf (a.received other) bytes) (sym (got (a.opened other))) (x.front other))

      passed_by : (other : ℕ) (t : Bool) → (other == slots.next_id) ≡ t → (b.opened other).number ≤ number_of Driver (b.opened other).flow new
      passed_by other true is =
          subst (λ (k : Connection). k.number ≤ number_of Driver k.flow new) (sym (ap (λ (t : Bool). cond t (current Driver f new) (a.opened other)) is)) (omega arith)
      passed_by other false is =
          let past = x.passed other in
          let rise = rises (a.opened other).flow in
          let now : (a.opened other).number ≤ number_of Driver (a.opened other).flow new = omega (arith, past, rise) in
          subst (λ (k : Connection). k.number ≤ number_of Driver k.flow new) (sym (ap (λ (t : Bool). cond t (current Driver f new) (a.opened other)) is)) now

      of_new : (other : ℕ) → (other == slots.next_id) ≡ true → b.opened other ≡ current Driver f new
      of_new other is = ap (λ (t : Bool). cond t (current Driver f new) (a.opened other)) is

      of_old : (other : ℕ) → (other == slots.next_id) ≡ false → b.opened other ≡ a.opened other
      of_old other is = ap (λ (t : Bool). cond t (current Driver f new) (a.opened other)) is

      once_by : (i j : ℕ) (p q : Bool) → (i == slots.next_id) ≡ p → (j == slots.next_id) ≡ q → 1 ≤ (b.opened i).number → b.opened i ≡ b.opened j → i ≡ j
      once_by i j true true pi qj some same = grind (arith, nat_tests, pi, qj)
      once_by i j true false pi qj some same = absurd (is_new j (sym (of_old j qj) ∙ sym same ∙ of_new i pi))
      once_by i j false true pi qj some same = absurd (is_new i (sym (of_old i pi) ∙ same ∙ of_new j qj))
      once_by i j false false pi qj some same =
          x.once i j (subst (λ (k : Connection). 1 ≤ k.number) (of_old i pi) some) (sym (of_old i pi) ∙ same ∙ of_old j qj)

      zero : (id : ℕ) → slots.next_id ≤ id → 1 ≤ (a.opened id).number → ⊥
      zero id less some = let none = (x.fresh id less).0 in absurd (omega (arith, none, some))

      rising_by : (i j : ℕ) (p q : Bool) → (i == slots.next_id) ≡ p → (j == slots.next_id) ≡ q → i < j → 1 ≤ (b.opened j).number
          → (b.opened i).flow ≡ (b.opened j).flow → (b.opened i).number < (b.opened j).number
      rising_by i j true true pi qj less some same = absurd (grind (arith, nat_tests, pi, qj, less))
      rising_by i j true false pi qj less some same =
          let at : i ≡ slots.next_id = grind (arith, nat_tests, pi) in
          absurd (zero j (omega (arith, at, less)) (subst (λ (k : Connection). 1 ≤ k.number) (of_old j qj) some))
      rising_by i j false true pi qj less some same =
          let past = x.passed i in
          let flow : (a.opened i).flow ≡ f = ap (λ (k : Connection). k.flow) (sym (of_old i pi)) ∙ same ∙ ap (λ (k : Connection). k.flow) (of_new j qj) in
          let here : (a.opened i).number ≤ number_of Driver f log = subst (λ (g : Flow). (a.opened i).number ≤ number_of Driver g log) flow past in
          let old = ap (λ (k : Connection). k.number) (of_old i pi) in
          let fresh = ap (λ (k : Connection). k.number) (of_new j qj) in
          omega (arith, here, next, old, fresh)
      rising_by i j false false pi qj less some same =
          let was = x.rising i j less (subst (λ (k : Connection). 1 ≤ k.number) (of_old j qj) some)
          (ap (λ (k : Connection). k.flow) (sym (of_old i pi)) ∙ same ∙ ap (λ (k : Connection). k.flow) (of_old j qj)) in
          let one = ap (λ (k : Connection). k.number) (of_old i pi) in
          let two = ap (λ (k : Connection). k.number) (of_old j qj) in
          omega (arith, was, one, two)

  pub opened_goes_on : GoesOn a b
  opened_goes_on = grind (arith, common_steps)
