-- What each change of the driver's connections and listeners leaves of what a journal's calls left.
use Rattle.std.proofs.Common.{◌≡◌, ◌≢◌, ℕ, zero, suc, ◌+◌, ◌<◌, ◌≤◌, ◌==◌, ◌||◌, not, Bool, true, false, cond, List, [], ◌∷◌, ◌++◌, length, get_or, Option, Some, None}
use Rattle.std.proofs.{Common.{is_some, refl, sym, ap, subst, ◌∙◌, arith}, lemmas.{Bool.{Decides.nat_tests, eq-eqb, eqb-true}, Grind.common_steps, List.Elements.All-cons}}
use Rattle.std.{proofs.lemmas.List.Elements.{All-contains, All-filter, All-head, All-map, All-push, All-tail, filter_passes}, specs.List.{All, filter, list_any}}
use Rattle.std.specs.Option.{option_map, option_map_or}
use Rattle.vs_conn.specs.{End.{ConnectionEnd, end_after, owes_of, with_payload_forwarded, with_shut}, declared.end.{Owed.Owed, State.{TheVariants.{Answering}}}}
use Rattle.vs_conn.{specs.declared.{end.State.TheVariants.{Live}}, proofs.Frames.{got_asked, got_answering, got_over, got_own}}
use Rattle.vs_flow.specs.{Flow.host_asks, Table.{IsTable, Table, next_entry, revalued, with_entry, with_value, without}, declared.flow.Flow.Flow}
use Rattle.vs_header.specs.declared.Header.{Header}
use Rattle.vs_driver_parts.specs.Connections.{after_leaving, all_gone_after_read, gone_after_read, gone_as, paid_connection, waits_no_more, with_connection}
use Rattle.vs_driver_parts.specs.{Listening.{listener_on, with_port, with_waiting, without_id}, SlotFields.AreNumbered, State.{DriverConnection, DriverEntry, DriverState}}
use Rattle.vs_driver_parts.{specs.State.{GoneConnection, Listener}, proofs.{Ids.{HasId, value_of}, Numbers.{id_there, numbers_gone_without, numbers_left, numbers_with_entry}}}
use Rattle.vs_driver_parts.proofs.Numbers.{numbers_with_value, numbers_without}
use Rattle.laws_driver.{proofs.Tabling.Stands, specs.Carried.Calls.{Journal, Made, names}}
use Rattle.laws_apps.specs.Placed.{ArePlaced, IsPlaced, HasPlaces, IsPlacedEntry, IsPlacedGone, IsPlacedValue, closed_by, given_by, listened_by, stands_closed, stands_unanswered}
use Rattle.laws_apps.specs.Placed.{waits_at, was_closed, was_given, was_listened}
use Rattle.vs_conn.specs.declared.end.Owed.TheVariants as owed

-- One of three tests.
pub or_first : (a b : Bool) → a ≡ true → (a || b) ≡ true
or_first true b is = refl
or_first false b is = absurd cc

pub or_second : (a b : Bool) → b ≡ true → (a || b) ≡ true
or_second true b is = refl
or_second false b is = is

pub one_of : (a b c : Bool) (P : Type 0) → (a || (b || c)) ≡ true → (a ≡ true → P) → (b ≡ true → P) → (c ≡ true → P) → P
one_of a b c P = grind (arith, common_steps)

-- The listener on a port, where the waiting of one changes.
abbrev pub changed : (List ℕ → List ℕ) → Listener → Listener
changed change l = record l { waiting = change l.waiting }

pub other_listener : (p q : ℕ) (change : List ℕ → List ℕ) → (p == q) ≡ false → (ls : List Listener) → listener_on p (with_waiting q change ls) ≡ listener_on p ls
other_listener p q change other [] = refl
other_listener p q change other (l ∷ ls) = by (other_listener p q change other ls) (l.port == q) refl
  where
    own : listener_on p (with_waiting q change ls) ≡ listener_on p ls → (x : Listener) (b : Bool) → (b ≡ true → x ≡ l)
        → cond b (Some x) (listener_on p (with_waiting q change ls)) ≡ cond b (Some l) (listener_on p ls)
    own rest x true same = ap (λ (y : Listener). Some y) (same refl)
    own rest x false same = rest

    differ : (l.port == q) ≡ true → (l.port == p) ≡ true → changed change l ≡ l
    differ at is =
        let same : p ≡ q = sym (eqb-true l.port p is) ∙ eqb-true l.port q at in
        absurd (let no : true ≡ false = sym (eq-eqb p q same) ∙ other in cc)

    by : listener_on p (with_waiting q change ls) ≡ listener_on p ls → (a : Bool) → (l.port == q) ≡ a
        → listener_on p (cond a (changed change l) l ∷ with_waiting q change ls) ≡ listener_on p (l ∷ ls)
    by rest true at = own rest (changed change l) (l.port == p) (differ at)
    by rest false at = own rest l (l.port == p) (λ is. refl)

pub own_listener : (q : ℕ) (change : List ℕ → List ℕ) (ls : List Listener)
    → listener_on q (with_waiting q change ls) ≡ option_map (changed change) (listener_on q ls)
own_listener q change [] = refl
own_listener q change (l ∷ ls) = by (own_listener q change ls) (l.port == q) refl
  where
    by : listener_on q (with_waiting q change ls) ≡ option_map (changed change) (listener_on q ls) → (a : Bool) → (l.port == q) ≡ a
        → listener_on q (cond a (changed change l) l ∷ with_waiting q change ls) ≡ option_map (changed change) (cond a (Some l) (listener_on q ls))
    by rest true at = ap (λ (b : Bool). cond b (Some (changed change l)) (listener_on q (with_waiting q change ls))) at
    by rest false at = ap (λ (b : Bool). cond b (Some l) (listener_on q (with_waiting q change ls))) at ∙ rest

-- Who waits on a port, when the listeners change.
pub stays_behind : (id x : ℕ) (ws : List ℕ) → list_any (λ w. w == id) ws ≡ true → list_any (λ w. w == id) (ws ++ x ∷ []) ≡ true
stays_behind id x ws = grind (arith, common_steps)

comes_last : (id : ℕ) (ws : List ℕ) → list_any (λ w. w == id) (ws ++ id ∷ []) ≡ true
comes_last id [] = ap (λ (b : Bool). b || false) (eq-eqb id id refl)
comes_last id (w ∷ ws) = or_second (w == id) (list_any (λ v. v == id) (ws ++ id ∷ [])) (comes_last id ws)

pub stays_among : (id other : ℕ) → id ≢ other → (ws : List ℕ) → list_any (λ w. w == id) ws ≡ true → list_any (λ w. w == id) (without_id other ws) ≡ true
stays_among id other apart [] is = absurd cc
stays_among id other apart (w ∷ ws) is = by (w == other) refl (w == id) refl is (stays_among id other apart ws)
  where
    by : (a : Bool) → (w == other) ≡ a → (b : Bool) → (w == id) ≡ b → (b || list_any (λ v. v == id) ws) ≡ true
        → (list_any (λ v. v == id) ws ≡ true → list_any (λ v. v == id) (without_id other ws) ≡ true)
        → list_any (λ v. v == id) (cond (not a) (w ∷ without_id other ws) (without_id other ws)) ≡ true
    by true gone true own is more = absurd (apart (sym (eqb-true w id own) ∙ eqb-true w other gone))
    by true gone false own is more = more is
    by false stays true own is more = ap (λ (b : Bool). b || list_any (λ v. v == id) (without_id other ws)) own
    by false stays false own is more = ap (λ (b : Bool). b || list_any (λ v. v == id) (without_id other ws)) own ∙ more is

module _ (port id : ℕ) where
  abbrev in_first : Option Listener → Bool
  in_first o = list_any (λ w. w == id) (option_map_or (λ l. l.waiting) o [])

  pub waits_kept : (q : ℕ) (change : List ℕ → List ℕ)
      → ((ws : List ℕ) → list_any (λ w. w == id) ws ≡ true → list_any (λ w. w == id) (change ws) ≡ true) → (ls : List Listener)
      → waits_at port id ls ≡ true → waits_at port id (with_waiting q change ls) ≡ true
  waits_kept q change keeps ls is = grind (arith, common_steps, other_listener, eqb-true, own_listener)

  pub waits_snoc : (l : Listener) (ls : List Listener) → waits_at port id ls ≡ true → waits_at port id (ls ++ l ∷ []) ≡ true
  waits_snoc l [] is = absurd cc
  waits_snoc l (x ∷ xs) is = by (x.port == port) is (waits_snoc l xs)
    where
      by : (c : Bool) → in_first (cond c (Some x) (listener_on port xs)) ≡ true → (waits_at port id xs ≡ true → waits_at port id (xs ++ l ∷ []) ≡ true)
          → in_first (cond c (Some x) (listener_on port (xs ++ l ∷ []))) ≡ true
      by true there rest = there
      by false there rest = rest there

pub waits_now : (port id : ℕ) (ls : List Listener) → is_some (listener_on port ls) ≡ true
    → waits_at port id (with_waiting port (λ ws. ws ++ id ∷ []) ls) ≡ true
waits_now port id ls some = grind (arith, common_steps, own_listener, comes_last)

pub ports_kept : (P : ℕ → Type 0) (q : ℕ) (change : List ℕ → List ℕ) (ls : List Listener) → All (λ l. P l.port) ls
    → All (λ l. P l.port) (with_waiting q change ls)
ports_kept P q change [] all = all
ports_kept P q change (l ∷ ls) all = All-cons (λ x. P x.port) _ (with_waiting q change ls) (one (l.port == q) (All-head (λ x. P x.port) l ls all))
    (ports_kept P q change ls (All-tail (λ x. P x.port) l ls all))
  where
    one : (b : Bool) → P l.port → P (cond b (record l { waiting = change l.waiting }) l).port
    one true is = is
    one false is = is

-- A connection that is placed stays so.
pub placed_on : (journal now : Journal) (ls ms : List Listener) (id : ℕ) (f : Flow)
    → (was_given id journal ≡ true → was_given id now ≡ true)
    → (was_closed id journal ≡ true → (was_given id now || was_closed id now) ≡ true)
    → (waits_at f.guest id ls ≡ true → (was_given id now || (was_closed id now || waits_at f.guest id ms)) ≡ true)
    → IsPlaced journal ls id f → IsPlaced now ms id f
placed_on journal now ls ms id f given closed waits placed = grind (arith, common_steps, one_of, or_first)

-- What an end's steps leave.
pub record StandsOn (e d : ConnectionEnd) : Type 0 where
  pub closed : stands_closed e.state e.own ≡ true → stands_closed d.state d.own ≡ true
  pub unanswered : stands_unanswered e.state ≡ true → stands_unanswered d.state ≡ true

got_live : (e : ConnectionEnd) (h : Header) → e.state ≡ Answering → (end_after e h).state ≢ Live
got_live e h is live = absurd (grind (arith, common_steps, is, live))

pub got_stands : (e : ConnectionEnd) (h : Header) → StandsOn e (end_after e h)
got_stands e h = grind (arith, common_steps, got_own, got_asked, got_answering, got_over, got_live)

forwarded_closed : (e : ConnectionEnd) (n : ℕ) → stands_closed e.state e.own ≡ true → stands_closed (with_payload_forwarded e n).state (with_payload_forwarded e n).own ≡ true
forwarded_closed e n is = grind (arith, common_steps, is)

forwarded_unanswered : (e : ConnectionEnd) (n : ℕ) → stands_unanswered e.state ≡ true → stands_unanswered (with_payload_forwarded e n).state ≡ true
forwarded_unanswered e n is = grind (arith, common_steps, is)

pub forwarded_stands : (e : ConnectionEnd) (n : ℕ) → StandsOn e (with_payload_forwarded e n)
forwarded_stands e n = record { closed = forwarded_closed e n; unanswered = forwarded_unanswered e n }

shut_closed : (e : ConnectionEnd) (bits : ℕ) → stands_closed e.state e.own ≡ true → stands_closed (with_shut e bits).state (with_shut e bits).own ≡ true
shut_closed e bits is = grind (arith, common_steps, is)

shut_unanswered : (e : ConnectionEnd) (bits : ℕ) → stands_unanswered e.state ≡ true → stands_unanswered (with_shut e bits).state ≡ true
shut_unanswered e bits is = grind (arith, common_steps, is)

pub shut_stands : (e : ConnectionEnd) (bits : ℕ) → StandsOn e (with_shut e bits)
shut_stands e bits = record { closed = shut_closed e bits; unanswered = shut_unanswered e bits }

-- A connection with another end.
pub value_goes : (journal : Journal) (c d : DriverConnection) → d.id ≡ c.id → d.closed ≡ c.closed → d.unanswered ≡ c.unanswered → StandsOn c.end d.end
    → IsPlacedValue journal c → IsPlacedValue journal d
value_goes journal c d id closed unanswered stands value = grind (arith, common_steps)

-- What a connection owes is put.
owes_response : (e : ConnectionEnd) → owes_of e ≡ Some owed.Response → e.state ≡ Answering
owes_response e owes = grind (arith, common_steps, owes)

pub paid_value : (journal : Journal) (c : DriverConnection) (what : Owed) → owes_of c.end ≡ Some what → IsPlacedValue journal c
    → IsPlacedValue journal (paid_connection what c)
paid_value journal c what = grind (arith, common_steps, owes_response, value_goes)

module _ (journal : Journal) (s : DriverState) (x : ArePlaced journal s) where
  -- Another connection in the place of an entry's.
  pub alters : (e : DriverEntry) (c : DriverConnection) → Stands s e → c.id ≡ e.value.id → IsPlacedValue journal c → ArePlaced journal (with_connection e.slot c s)
  alters e c stands id value = record {
    numbers = numbers_with_value 1 s.next_port s.next_id s.table s.gone x.numbers e.slot c (id_there s.table e.slot e.value c (value_of s.table e.slot e stands.under) id);
    entries = All-map (IsPlacedEntry journal s.listeners) (revalued e.slot c) s.table.entries
        (λ k d less. one (get_or s.table.entries k d) (x.numbers.slots k d less) (x.entries k d less));
    gone = x.gone;
    below = x.below;
    ports = x.ports;
  }
    where
      own : HasId 1 e
      own = All-contains (HasId 1) s.table.entries e x.numbers.slots stands.contains

      one : (y : DriverEntry) → HasId 1 y → IsPlacedEntry journal s.listeners y → IsPlacedEntry journal s.listeners (revalued e.slot c y)
      one y has was = by (y.slot == e.slot) refl
        where
          by : (b : Bool) → (y.slot == e.slot) ≡ b → IsPlacedEntry journal s.listeners (cond b (record y { value = c }) y)
          by true same =
              let at : y.slot ≡ e.slot = eqb-true y.slot e.slot same in
              let there : y.value.id ≡ c.id = has ∙ ap (λ (n : ℕ). 1 + n) at ∙ sym own ∙ sym id in
              record { placed = subst (λ (i : ℕ). IsPlaced journal s.listeners i y.flow) there was.placed; value = value }
          by false other = was

  -- One leaves the table; and one that leaves it holds its slot on.
  pub departs : (e : DriverEntry) → ArePlaced journal (record s { table = without s.table e.slot })
  departs e = record {
    numbers = numbers_without 1 s.next_port s.next_id s.table s.gone x.numbers e.slot;
    entries = All-filter (λ y. not (y.slot == e.slot)) (IsPlacedEntry journal s.listeners) s.table.entries x.entries;
    gone = x.gone;
    below = x.below;
    ports = x.ports;
  }

  pub departs_as : (e : DriverEntry) (c : DriverConnection) → IsTable s.table → Stands s e → c.id ≡ e.value.id → IsPlacedValue journal c → c.closed ≡ false
      → ArePlaced journal (record s { table = without s.table e.slot; gone = s.gone ++ gone_as (record e { value = c }) ∷ [] })
  departs_as e c sound stands id value shown = record {
    numbers = numbers_left 1 s.next_port s.next_id s.table s.gone x.numbers e (gone_as (record e { value = c })) sound stands.under id;
    entries = All-filter (λ y. not (y.slot == e.slot)) (IsPlacedEntry journal s.listeners) s.table.entries x.entries;
    gone = All-push (IsPlacedGone journal s.listeners) s.gone (gone_as (record e { value = c })) x.gone (record {
      placed = subst (λ (i : ℕ). IsPlaced journal s.listeners i e.flow) (sym id)
          (All-contains (IsPlacedEntry journal s.listeners) s.table.entries e x.entries stands.contains).placed;
      kept = sym value.closed ∙ shown;
    });
    below = x.below;
    ports = x.ports;
  }

  -- An id waits on a port no more, that was given or closed, or that holds no slot.
  pub waits_less : (port id : ℕ) → All (λ e. e.value.id ≡ id → (was_given e.value.id journal || was_closed e.value.id journal) ≡ true) s.table.entries
      → All (λ g. g.id ≡ id → (was_given g.id journal || was_closed g.id journal) ≡ true) s.gone
      → ArePlaced journal (record s { listeners = with_waiting port (without_id id) s.listeners })
  waits_less port id held left = record {
    numbers = x.numbers;
    entries = λ k d less. let y = get_or s.table.entries k d in
        record { placed = one y.value.id y.flow (held k d less) (x.entries k d less).placed; value = (x.entries k d less).value };
    gone = λ k d less. let g = get_or s.gone k d in
        record { placed = one g.id g.flow (left k d less) (x.gone k d less).placed; kept = (x.gone k d less).kept };
    below = x.below;
    ports = ports_kept (λ p. was_listened p journal ≡ true) port (without_id id) s.listeners x.ports;
  }
    where
      one : (i : ℕ) (f : Flow) → (i ≡ id → (was_given i journal || was_closed i journal) ≡ true) → IsPlaced journal s.listeners i f
          → IsPlaced journal (with_waiting port (without_id id) s.listeners) i f
      one i f known placed = placed_on journal journal s.listeners (with_waiting port (without_id id) s.listeners) i f (λ is. is) (λ is. or_second (was_given i journal) (was_closed i journal) is)
          (λ waits. by (i == id) refl waits) placed
        where
          both : (a b c : Bool) → (a || b) ≡ true → (a || (b || c)) ≡ true
          both true b c is = refl
          both false true c is = refl
          both false false c is = absurd cc

          differ : (i == id) ≡ false → i ≢ id
          differ other same = let no : true ≡ false = sym (eq-eqb i id same) ∙ other in absurd cc

          by : (b : Bool) → (i == id) ≡ b → waits_at f.guest i s.listeners ≡ true → (was_given i journal || (was_closed i journal || waits_at f.guest i (with_waiting port (without_id id) s.listeners))) ≡ true
          by true same waits =
              both (was_given i journal) (was_closed i journal) (waits_at f.guest i (with_waiting port (without_id id) s.listeners)) (known (eqb-true i id same))
          by false other waits =
              or_second (was_given i journal) _ (or_second (was_closed i journal) _
              (waits_kept f.guest i port (without_id id) (stays_among i id (λ same. differ other same)) s.listeners waits))

-- A connection leaves the table, and its port's list where its RESPONSE isn't put.
module _ (journal : Journal) (s : DriverState) (x : ArePlaced journal s) where
  pub leaving : (e : DriverEntry) (c : DriverConnection) → IsTable s.table → Stands s e → c.id ≡ e.value.id → IsPlacedValue journal c
      → ArePlaced journal (after_leaving (record e { value = c }) s)
  leaving e c sound stands id value = by c.unanswered refl c.closed refl
    where
      left : ArePlaced journal (record s { table = without s.table e.slot })
      left = departs journal s x e

      apart_slot : (a b n m : ℕ) → not (a == b) ≡ true → n ≡ 1 + a → m ≡ 1 + b → n ≢ m
      apart_slot a b n m other one two = grind (arith, nat_tests, other, one, two)

      own : e.value.id ≡ 1 + e.slot
      own = All-contains (HasId 1) s.table.entries e x.numbers.slots stands.contains

      quits : ArePlaced journal (record s { table = without s.table e.slot; listeners = with_waiting e.flow.guest (without_id c.id) s.listeners })
      quits = waits_less journal (record s { table = without s.table e.slot }) left e.flow.guest c.id
          (λ k d less same. absurd (apart_slot _ e.slot _ c.id (filter_passes (λ (y : DriverEntry). not (y.slot == e.slot)) s.table.entries k d less)
          (left.numbers.slots k d less) (id ∙ own) same))
          (λ k d less same. absurd (All-contains (λ (y : DriverEntry). y.value.id ≢ (get_or s.gone k d).id) s.table.entries e (x.numbers.apart k d less)
          stands.contains (sym id ∙ sym same)))

      by : (u : Bool) → c.unanswered ≡ u → (b : Bool) → c.closed ≡ b
          → ArePlaced journal (record (cond u (waits_no_more (record e { value = c }) s) s) {
            table = without s.table e.slot;
            gone = cond (b || u) s.gone (s.gone ++ gone_as (record e { value = c }) ∷ []);
          })
      by true ua true cl = quits
      by true ua false cl = quits
      by false ua true cl = left
      by false ua false cl = departs_as journal s x e c sound stands id value cl

-- The journal has a call more.
module _ (journal : Journal) (m : Made) (s : DriverState) (x : ArePlaced journal s) where
  -- It closed nothing.
  pub goes_on : closed_by m.call m.reply ≡ None → ArePlaced (m ∷ journal) s
  goes_on none = record {
    numbers = x.numbers;
    entries = λ k d less. let y = x.entries k d less in record {
      placed = one _ _ y.placed;
      value = record { closed = y.value.closed ∙ sym (same _); shut = y.value.shut; waits = y.value.waits };
    };
    gone = λ k d less. let g = x.gone k d less in record { placed = one _ _ g.placed; kept = same _ ∙ g.kept };
    below = λ id is. x.below id (sym (same id) ∙ is);
    ports = λ k d less. or_second (names (get_or s.listeners k d).port (listened_by m.call m.reply)) _ (x.ports k d less);
  }
    where
      same : (id : ℕ) → was_closed id (m ∷ journal) ≡ was_closed id journal
      same id = ap (λ (o : Option ℕ). names id o || was_closed id journal) none

      one : (id : ℕ) (f : Flow) → IsPlaced journal s.listeners id f → IsPlaced (m ∷ journal) s.listeners id f
      one id f placed = placed_on journal (m ∷ journal) s.listeners s.listeners id f (or_second (names id (given_by m.call m.reply)) _)
          (λ is. or_second (was_given id (m ∷ journal)) _ (same id ∙ is))
          (λ is. or_second (was_given id (m ∷ journal)) _ (or_second (was_closed id (m ∷ journal)) _ is)) placed

  -- It closed this id, of a connection that has left its slot; or of one of the table, which is closed then.
  module _ (id : ℕ) (found : closed_by m.call m.reply ≡ Some id) (left : All (λ g. g.id ≢ id) s.gone) (less : id < s.next_id) where
    now : (i : ℕ) → was_closed i (m ∷ journal) ≡ ((i == id) || was_closed i journal)
    now i = ap (λ (o : Option ℕ). names i o || was_closed i journal) found

    still : (i : ℕ) → i ≢ id → was_closed i journal ≡ was_closed i (m ∷ journal)
    still i apart = grind (arith, common_steps, now, eqb-true)

    one : (i : ℕ) (f : Flow) → IsPlaced journal s.listeners i f → IsPlaced (m ∷ journal) s.listeners i f
    one i f placed = grind (arith, common_steps, placed_on, or_second)

    was_below : (i : ℕ) → was_closed i (m ∷ journal) ≡ true → i < s.next_id
    was_below i is = grind (arith, common_steps, now, eqb-true)

    pub closes : (t : Table DriverConnection) → AreNumbered 1 s.next_port s.next_id t s.gone → All (IsPlacedEntry (m ∷ journal) s.listeners) t.entries
        → HasPlaces (m ∷ journal) s.next_port s.next_id t s.gone s.listeners
    closes t numbers entries = record {
      numbers = numbers;
      entries = entries;
      gone = λ k d within. let g = x.gone k d within in record { placed = one _ _ g.placed; kept = sym (still _ (left k d within)) ∙ g.kept };
      below = was_below;
      ports = λ k d within. or_second (names (get_or s.listeners k d).port (listened_by m.call m.reply)) _ (x.ports k d within);
    }

    pub closes_gone : All (λ e. e.value.id ≢ id) s.table.entries → ArePlaced (m ∷ journal) s
    closes_gone held = closes s.table x.numbers (λ k d within. let y = x.entries k d within in record {
      placed = one _ _ y.placed;
      value = record { closed = y.value.closed ∙ still _ (held k d within); shut = y.value.shut; waits = y.value.waits };
    })

    pub closes_entry : (e : DriverEntry) (c : DriverConnection) → Stands s e → e.value.id ≡ id → c.id ≡ e.value.id → c.closed ≡ true
        → stands_closed c.end.state c.end.own ≡ true → (c.unanswered ≡ true → stands_unanswered c.end.state ≡ true)
        → ArePlaced (m ∷ journal) (with_connection e.slot c s)
    closes_entry e c stands named same over shut waits =
        closes (with_value s.table e.slot c)
        (numbers_with_value 1 s.next_port s.next_id s.table s.gone x.numbers e.slot c (id_there s.table e.slot e.value c (value_of s.table e.slot e stands.under) same))
        (All-map (IsPlacedEntry (m ∷ journal) s.listeners) (revalued e.slot c) s.table.entries
        (λ k d within. entry (get_or s.table.entries k d) (x.numbers.slots k d within) (x.entries k d within)))
      where
        own : HasId 1 e
        own = All-contains (HasId 1) s.table.entries e x.numbers.slots stands.contains

        apart_slot : (a b n i : ℕ) → (a == b) ≡ false → n ≡ 1 + a → i ≡ 1 + b → n ≢ i
        apart_slot a b n i other first second same = absurd (grind (arith, nat_tests, other, first, second, same))

        value : IsPlacedValue (m ∷ journal) c
        value = record { closed = over ∙ sym (now c.id ∙ or_first (c.id == id) (was_closed c.id journal) (eq-eqb c.id id (same ∙ named))); shut = λ is. shut; waits = waits }

        entry : (y : DriverEntry) → HasId 1 y → IsPlacedEntry journal s.listeners y → IsPlacedEntry (m ∷ journal) s.listeners (revalued e.slot c y)
        entry y has was = by (y.slot == e.slot) refl
          where
            by : (b : Bool) → (y.slot == e.slot) ≡ b → IsPlacedEntry (m ∷ journal) s.listeners (cond b (record y { value = c }) y)
            by true at =
                let there : y.value.id ≡ c.id = has ∙ ap (λ (n : ℕ). 1 + n) (eqb-true y.slot e.slot at) ∙ sym own ∙ sym same in
                record { placed = one c.id y.flow (subst (λ (i : ℕ). IsPlaced journal s.listeners i y.flow) there was.placed); value = value }
            by false other =
                let apart : y.value.id ≢ id = apart_slot y.slot e.slot y.value.id id other has (sym named ∙ own) in
                record { placed = one y.value.id y.flow was.placed; value = record { closed = was.value.closed ∙ still y.value.id apart; shut = was.value.shut; waits = was.value.waits } }

-- A connection opens, with the next id.
module _ (journal : Journal) (s : DriverState) (x : ArePlaced journal s) (f : Flow) (c : DriverConnection) (id : c.id ≡ s.next_id) where
  pub opening : (port : ℕ) (ms : List Listener) → s.next_port ≤ port → (host_asks f ≡ false → f.guest < port)
      → ((p i : ℕ) → waits_at p i s.listeners ≡ true → waits_at p i ms ≡ true) → All (λ l. was_listened l.port journal ≡ true) ms → IsPlaced journal ms c.id f
      → c.closed ≡ false → (c.unanswered ≡ true → stands_unanswered c.end.state ≡ true)
      → HasPlaces journal port (s.next_id + 1) (with_entry s.table f c) s.gone ms
  opening port ms more below keep ports placed fresh waits = record {
    numbers = numbers_with_entry 1 s.next_port s.next_id s.table s.gone x.numbers f c port id more below;
    entries = All-push (IsPlacedEntry journal ms) s.table.entries (next_entry s.table f c)
        (λ k d less. let y = x.entries k d less in record { placed = one _ _ y.placed; value = y.value })
        (record { placed = placed; value = record { closed = fresh ∙ sym (new (was_closed c.id journal) refl); shut = λ is. absurd (let no : true ≡ false = sym is ∙ fresh in cc); waits = waits } });
    gone = λ k d less. let g = x.gone k d less in record { placed = one _ _ g.placed; kept = g.kept };
    below = λ i is. let less = x.below i is in omega (arith, less);
    ports = ports;
  }
    where
      one : (i : ℕ) (g : Flow) → IsPlaced journal s.listeners i g → IsPlaced journal ms i g
      one i g was = placed_on journal journal s.listeners ms i g (λ is. is) (λ is. or_second (was_given i journal) _ is)
          (λ is. or_second (was_given i journal) _ (or_second (was_closed i journal) _ (keep g.guest i is))) was

      new : (b : Bool) → was_closed c.id journal ≡ b → was_closed c.id journal ≡ false
      new false is = is
      new true is = let less = x.below c.id is in absurd (omega (arith, less, id))

-- Bytes of one that is gone are read; and one that is gone is closed.
read_one : (id n : ℕ) (g : GoneConnection) → ((gone_after_read id n g).id ≡ g.id) × ((gone_after_read id n g).flow ≡ g.flow)
read_one id n g = grind (arith, common_steps)

read_at : (id n : ℕ) (gone : List GoneConnection) (k : ℕ) (d : GoneConnection) → k < length (all_gone_after_read id n gone)
    → (k < length gone) × (get_or (all_gone_after_read id n gone) k d ≡ gone_after_read id n (get_or gone k d))
read_at id n [] k d less = absurd (omega (arith, less))
read_at id n (g ∷ gs) zero d less = (omega arith, refl)
read_at id n (g ∷ gs) (suc k) d less = let rest = read_at id n gs k d (omega (arith, less)) in (let lt = rest.0 in omega (arith, lt), rest.1)

module _ (journal : Journal) (s : DriverState) (x : ArePlaced journal s) where
  pub reading : (id n : ℕ) → ArePlaced journal (record s { gone = all_gone_after_read id n s.gone })
  reading id n = grind (arith, common_steps, read_at, one, read_one)

  pub gone_less : (p : GoneConnection → Bool) → ArePlaced journal (record s { gone = filter p s.gone })
  gone_less p = record {
    numbers = numbers_gone_without 1 s.next_port s.next_id s.table s.gone x.numbers p;
    entries = x.entries;
    gone = All-filter p (IsPlacedGone journal s.listeners) s.gone x.gone;
    below = x.below;
    ports = x.ports;
  }

  -- A port more is listened on.
  pub listens : (port : ℕ) → was_listened port journal ≡ true → ArePlaced journal (record s { listeners = with_port port s.listeners })
  listens port is = grind (arith, common_steps, one, placed_on, or_second, waits_snoc)
