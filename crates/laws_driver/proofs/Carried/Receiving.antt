-- What an application received, through each change of a connection.
use Rattle.laws_tables.{specs.{Drains.{only_on, Drains, receives}, Later.IsLater}, proofs.{Changes.{changed, under_slot}, Later.later_then, Logs.{longer, shorter}, Goes.Goes}}
use Rattle.std.proofs.Common.{◌≡◌, ◌≢◌, ℕ, ◌<◌, ◌≤◌, ◌==◌, ◌&&◌, not, Bool, true, false, cond, List, [], ◌++◌, length, get_or, Contains, refl, sym, ap, subst, ◌∙◌, arith, append-nil}
use Rattle.std.{proofs.{Math.Path.fun_ext, lemmas.{Bool.Decides.nat_tests, Grind.common_steps, List.Elements.All-contains}}, specs.List.All}
use Rattle.vs_flow.{specs.{Connection.Connection, Table.IsTable, declared.flow.Flow.Flow}, proofs.Entries.same_flow_false}
use Rattle.vs_page.{specs.{Fair.{IsPrefixOf, current, number_of, payload_got}, Log.{Driver, Log}}, proofs.{Flows.same_self}}
use Rattle.vs_driver_parts.specs.{State.{DriverConnection, DriverEntry, GoneConnection}, Held.{HeldSlots, with_connection_in}, SlotFields.AreNumbered}
use Rattle.vs_driver_parts.proofs.{Ids.value_of, Numbers.{id_there, numbers_with_value}}
use Rattle.laws_driver.specs.Carried.Received.{Account, AreReceived, DrainsTo, EndsClean, ReceivedOn, ReceivesOn, keeps_all}

-- Other slots, of which the next one has the same id.
pub in_slots : (a : Account) (log : Log) (slots new : HeldSlots) → AreReceived a log slots → new.next_id ≡ slots.next_id
    → AreNumbered a.first_id new.next_port new.next_id new.table new.gone → All (ReceivesOn a log) new.table.entries → All (ReceivedOn a log) new.gone
    → AreReceived a log new
in_slots a log slots new x next numbers held left = grind (arith, common_steps)

-- Other flows are kept.
pub in_clean : (a : Account) (log : Log) (slots : HeldSlots) (clean : List Flow) → AreReceived a log slots
    → AreReceived a log (record slots { clean = clean })
in_clean a log slots clean x = in_slots a log slots (record slots { clean = clean }) x refl x.numbers x.held x.left

-- The same bytes, said otherwise.
pub same_account : (a : Account) (q : ℕ → List ℕ) (log : Log) (slots : HeldSlots) → ((id : ℕ) → a.received id ≡ q id) → AreReceived a log slots
    → AreReceived (record a { received = q }) log slots
same_account a q log slots same x = subst (λ (r : ℕ → List ℕ). AreReceived (record a { received = r }) log slots) (fun_ext same) x

pub apart_by : (a b : ℕ) → a ≢ b → (a == b) ≡ false
apart_by a b other = grind (arith, nat_tests, other)

pub number_same : (n : ℕ) → (n == n) ≡ true
number_same n = grind (arith, nat_tests)

-- What a step of a connection keeps.
abbrev pub Keeps : DriverConnection → DriverConnection → Type 0
Keeps c k = (keeps_all k ≡ true → keeps_all c ≡ true) × (EndsClean c → EndsClean k)

pub keeps_receiving : (c : DriverConnection) → receives c.end ≡ true → keeps_all c ≡ true
keeps_receiving c is = grind (arith, common_steps, is)

-- What was delivered to a connection that is gone stays, whatever comes besides.
pub drains_on : (all : Bool) (out held : List ℕ) (c : Connection) (log new : Log) → IsLater log new → DrainsTo all out held c log → DrainsTo all out held c new
drains_on all out held c log new later (front, older, is, ends, drains) = (front, later_then front log new older later, is, ends, drains)

-- A connection of the table changes: these bytes of it are read, and these come in.
module _ (a : Account) (q : ℕ → List ℕ) (log new : Log) (e : DriverEntry) (taken more : List ℕ)
    (out : (id : ℕ) → q id ≡ a.received id ++ cond (id == e.value.id) taken [])
    (came : (c : Connection) → payload_got Driver c new ≡ payload_got Driver c log ++ only_on (current Driver e.flow log) more c)
    (numbers : (f : Flow) → number_of Driver f new ≡ number_of Driver f log) (later : IsLater log new) where
  abbrev b : Account
  b = record a { received = q }

  abbrev at : Connection
  at = current Driver e.flow log

  now_is : (f : Flow) → current Driver f log ≡ current Driver f new
  now_is f = ap (λ (n : ℕ). let c : Connection = record { flow = f; number = n } in c) (sym (numbers f))

  out_other : (id : ℕ) → id ≢ e.value.id → a.received id ≡ q id
  out_other id other = sym (out id ∙ ap (λ (c : Bool). a.received id ++ cond c taken []) (apart_by id e.value.id other) ∙ append-nil (a.received id))

  out_here : q e.value.id ≡ a.received e.value.id ++ taken
  out_here = out e.value.id ∙ ap (λ (c : Bool). a.received e.value.id ++ cond c taken []) (number_same e.value.id)

  came_here : payload_got Driver at log ++ more ≡ payload_got Driver (current Driver e.flow new) new
  came_here =
      sym (came at ∙ ap (λ (c : Bool). payload_got Driver at log ++ cond (c && (at.number == at.number)) more []) (same_self e.flow)
      ∙ ap (λ (c : Bool). payload_got Driver at log ++ cond c more []) (number_same at.number))
      ∙ ap (λ (c : Connection). payload_got Driver c new) (now_is e.flow)

  came_other : (f : Flow) → f ≢ e.flow → payload_got Driver (current Driver f log) log ≡ payload_got Driver (current Driver f new) new
  came_other f other =
      sym (came (current Driver f log)
      ∙ ap (λ (c : Bool). payload_got Driver (current Driver f log) log ++ cond (c && (number_of Driver f log == at.number)) more []) (same_flow_false f e.flow other)
      ∙ append-nil (payload_got Driver (current Driver f log) log))
      ∙ ap (λ (c : Connection). payload_got Driver c new) (now_is f)

  comes : (xs : List ℕ) (c : Connection) → IsPrefixOf xs (payload_got Driver c log) → IsPrefixOf xs (payload_got Driver c new)
  comes xs c front = subst (λ (bytes : List ℕ). IsPrefixOf xs bytes) (sym (came c)) (longer xs (payload_got Driver c log) (only_on at more c) front)

  on_other : (y : DriverEntry) → y.flow ≢ e.flow → y.value.id ≢ e.value.id → ReceivesOn a log y → ReceivesOn b new y
  on_other y other apart x = record {
    present = x.present ∙ now_is y.flow;
    some = subst (λ (n : ℕ). 1 ≤ n) (sym (numbers y.flow)) x.some;
    drains = subst (λ (bytes : List ℕ). Drains (keeps_all y.value) bytes y.value.unread (payload_got Driver (current Driver y.flow new) new))
        (out_other y.value.id apart)
        (subst (λ (bytes : List ℕ). Drains (keeps_all y.value) (a.received y.value.id) y.value.unread bytes) (came_other y.flow other) x.drains);
    over = x.over;
  }

  gone_other : (g : GoneConnection) → g.id ≢ e.value.id → ReceivedOn a log g → ReceivedOn b new g
  gone_other g apart x = record {
    flow = x.flow;
    some = x.some;
    drains = subst (λ (bytes : List ℕ). DrainsTo (not g.end.own.receive) bytes g.unread (a.opened g.id) new) (out_other g.id apart)
        (drains_on _ _ _ _ _ _ later x.drains);
  }

  here : (c : DriverConnection) → c.id ≡ e.value.id
      → Goes (keeps_all e.value) (keeps_all c) e.value.unread c.unread taken more → (EndsClean e.value → EndsClean c) → ReceivesOn a log e
      → ReceivesOn b new (record e { value = c })
  here c same goes over x = record {
    present = ap a.opened same ∙ x.present ∙ now_is e.flow;
    some = subst (λ (n : ℕ). 1 ≤ n) (sym (numbers e.flow)) x.some;
    drains = subst (λ (bytes : List ℕ). Drains (keeps_all c) bytes c.unread (payload_got Driver (current Driver e.flow new) new))
        (sym (ap q same ∙ out_here))
        (subst (λ (bytes : List ℕ). Drains (keeps_all c) (a.received e.value.id ++ taken) c.unread bytes) came_here
        (goes (a.received e.value.id) (payload_got Driver at log) x.drains));
    over = over x.over;
  }

  module _ (slots : HeldSlots) (x : AreReceived a log slots) (sound : IsTable slots.table) (there : Contains slots.table.entries e) where
    was : ReceivesOn a log e
    was = All-contains (ReceivesOn a log) slots.table.entries e x.held there

    given : e.value.id < slots.next_id
    given = grind (arith, common_steps)

    other_id : (y : DriverEntry) → y.flow ≢ e.flow → ReceivesOn a log y → y.value.id ≢ e.value.id
    other_id y other on same = other (ap (λ (c : Connection). c.flow) (sym on.present ∙ ap a.opened same ∙ was.present))

    gone_id : (i : ℕ) (d : GoneConnection) → i < length slots.gone → (get_or slots.gone i d).id ≢ e.value.id
    gone_id i d within same =
        All-contains (λ (y : DriverEntry). y.value.id ≢ (get_or slots.gone i d).id) slots.table.entries e (x.numbers.apart i d within) there (sym same)

    pub changed_received : (c : DriverConnection) → c.id ≡ e.value.id
        → Goes (keeps_all e.value) (keeps_all c) e.value.unread c.unread taken more → (EndsClean e.value → EndsClean c)
        → AreReceived b new (with_connection_in e.slot c slots)
    changed_received c same goes over =
        let now = here c same goes over was in
        record {
          numbers = numbers_with_value a.first_id slots.next_port slots.next_id slots.table slots.gone x.numbers e.slot c
              (id_there slots.table e.slot e.value c (value_of slots.table e.slot e (under_slot slots.table sound e there)) same);
          front = λ id. front_by now id (id == e.value.id) refl;
          held = changed slots.table sound e there (ReceivesOn a log) (ReceivesOn b new) c x.held now
              (λ y other on. on_other y other (other_id y other on) on);
          left = λ i d within. gone_other (get_or slots.gone i d) (gone_id i d within) (x.left i d within);
          passed = λ id. subst (λ (n : ℕ). (a.opened id).number ≤ n) (sym (numbers (a.opened id).flow)) (x.passed id);
          once = x.once;
          rising = x.rising;
          fresh = λ id less.
              let f = x.fresh id less in
              (f.0, sym (out_other id (λ is. absurd (omega (arith, is, less, given)))) ∙ f.1);
        }
      where
        front_by : ReceivesOn b new (record e { value = c }) → (id : ℕ) (t : Bool) → (id == e.value.id) ≡ t → IsPrefixOf (q id) (payload_got Driver (a.opened id) new)
        front_by now id true is =
            let at_id : id ≡ e.value.id = grind (arith, nat_tests, is) in
            let conn : current Driver e.flow new ≡ a.opened id = sym (ap a.opened (at_id ∙ sym same) ∙ now.present) in
            subst (λ (k : Connection). IsPrefixOf (q id) (payload_got Driver k new)) conn
            (subst (λ (j : ℕ). IsPrefixOf (q j) (payload_got Driver (current Driver e.flow new) new)) (same ∙ sym at_id)
            (shorter (q c.id) c.unread (payload_got Driver (current Driver e.flow new) new) now.drains.front))
        front_by now id false is =
            subst (λ (bytes : List ℕ). IsPrefixOf bytes (payload_got Driver (a.opened id) new))
            (out_other id (λ same. let t : (id == e.value.id) ≡ true = grind (arith, nat_tests, same) in let both : true ≡ false = sym t ∙ is in absurd cc))
            (comes (a.received id) (a.opened id) (x.front id))
