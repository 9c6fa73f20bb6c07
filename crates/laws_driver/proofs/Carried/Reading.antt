-- A receive: the bytes that it gives are of the unread ones the first.
use Rattle.laws_tables.{specs.Drains.{only_on, Drains}, proofs.{Slots.found_by, Logs.{nothing_more, prefix_then, shorter}, Goes.comes_out}}
use Rattle.std.proofs.Common.{◌≡◌, ◌≢◌, ℕ, zero, suc, ◌<◌, ◌==◌, nat_lt, not, Bool, true, false, cond, List, [], ◌∷◌, ◌++◌, length, take, drop, get_or, Option, Some, None, refl}
use Rattle.std.proofs.{Common.{sym, ap, subst, ◌∙◌, arith, append-nil}, lemmas.{List.get_or_default, Option.get_or_from_slice_get}}
use Rattle.std.{proofs.{lemmas.{Grind.common_steps, Option.slice_get_within, Bool.Decides.nat_tests}, Math.Seq.take-nil}, specs.List.All}
use Rattle.vs_flow.{specs.{Connection.Connection, Table.IsTable}, proofs.{Entries.found_passes, Lookups.find_place}}
use Rattle.vs_page.{specs.{Fair.{IsPrefixOf, current, payload_got}, Log.{Driver, Log}}, proofs.PayloadLogs.got_stays}
use Rattle.vs_driver_parts.specs.Connections.{after_read, after_recv, all_gone_after_read, entry_read, gone_answer, recv_of}
use Rattle.vs_driver_parts.specs.{Connections.{unread_of_id, with_connection}, State.{DriverConnection, DriverEntry, DriverState, GoneConnection, entry_known_as, gone_known_as, is_known_as}}
use Rattle.vs_driver_parts.{specs.{declared.answers.Received.Received, Held.HeldSlots, SlotFields.AreNumbered}, proofs.{GoneChanges.read_none, Known.after_recv_gone}}
use Rattle.vs_driver_parts.proofs.Known.{after_recv_known, recv_gone_some, unread_gone_some}
use Rattle.laws_driver.{specs.{Honest.slots_of, Carried.Received.{Account, AreReceived, ReceivedOn, after_receive, bytes_got}}}
use Rattle.laws_driver.{specs.Carried.Received.{DrainsTo, keeps_all, with_received}, proofs.Carried.Receiving.{Keeps, apart_by}}
use Rattle.laws_driver.proofs.Carried.Receiving.{changed_received, same_account}

gone_bytes : (n : ℕ) (g : GoneConnection) → bytes_got (gone_answer n g) g.unread ≡ take n g.unread
gone_bytes n g = grind (arith, common_steps)

read_keeps : (n : ℕ) (c : DriverConnection) → Keeps c (after_read n c)
read_keeps n c = (λ is. grind (arith, common_steps, is), λ over unclosed is. grind (arith, common_steps, over, unclosed, is))

-- Nothing is given.
pub given_none : (b : Bool) (xs : List ℕ) → xs ≡ xs ++ cond b [] []
given_none true xs = nothing_more xs
given_none false xs = nothing_more xs

module _ (a : Account) (log : Log) (id n : ℕ) (s : DriverState) (x : AreReceived a log (slots_of s)) where
  no_bytes : (bytes : List ℕ) → bytes ≡ [] → AreReceived (with_received id bytes a) log (slots_of s)
  no_bytes bytes none = same_account a _ log (slots_of s)
      (λ other. given_none (other == id) (a.received other) ∙ ap (λ (ys : List ℕ). a.received other ++ cond (other == id) ys []) (sym none)) x

  -- A connection of the table.
  module _ (e : DriverEntry) (sound : IsTable s.table) (known : entry_known_as id s ≡ Some e) where
    bytes_are : bytes_got (recv_of id n s) (unread_of_id id s) ≡ take n e.value.unread
    bytes_are = grind (arith, common_steps)

    id_is : e.value.id ≡ id
    id_is = let passes = found_passes (is_known_as id) s.table.entries e known in grind (arith, nat_tests, passes)

    read : (b : Bool) → (length e.value.unread == 0) ≡ b
        → AreReceived (with_received id (take n e.value.unread) a) log (slots_of (cond b s (with_connection e.slot (after_read n e.value) s)))
    read true empty = no_bytes (take n e.value.unread) (none_of e.value.unread empty)
      where
        none_of : (unread : List ℕ) → (length unread == 0) ≡ true → take n unread ≡ []
        none_of [] is = take-nil n
        none_of (y ∷ ys) is = absurd (grind (arith, nat_tests, is))
    read false some =
        changed_received a _ log log e (take n e.value.unread) []
        (λ other. ap (λ (k : ℕ). a.received other ++ cond (other == k) (take n e.value.unread) []) (sym id_is))
        (λ c. none_more c) (λ f. refl) ([], refl) (slots_of s) x sound (found_by (is_known_as id) s.table.entries e known).0
        (after_read n e.value) refl
        (comes_out (keeps_all e.value) (keeps_all (after_read n e.value)) e.value.unread n (read_keeps n e.value).0) (read_keeps n e.value).1
      where
        none_more : (c : Connection) → payload_got Driver c log ≡ payload_got Driver c log ++ only_on (current Driver e.flow log) [] c
        none_more c = given_none _ (payload_got Driver c log)

    pub known_received : AreReceived (after_receive id n s a) log (slots_of (after_recv id n s))
    known_received =
        let P : List ℕ → Type 0 = λ bytes. AreReceived (with_received id bytes a) log (slots_of (entry_read n e s)) in
        let Q : DriverState → Type 0 = λ t. AreReceived (after_receive id n s a) log (slots_of t) in
        subst Q (sym (after_recv_known id s e known n)) (subst P (sym bytes_are) (read (length e.value.unread == 0) refl))

-- Connections that are gone.
abbrev read_as : ℕ → ℕ → GoneConnection → GoneConnection
read_as id n g = cond (g.id == id) (record g { unread = drop n g.unread }) g

read_length : (id n : ℕ) (gone : List GoneConnection) → length (all_gone_after_read id n gone) ≡ length gone
read_length id n [] = refl
read_length id n (g ∷ gs) = ap suc (read_length id n gs)

read_get : (id n : ℕ) (gone : List GoneConnection) (i : ℕ) (d : GoneConnection) → i < length gone
    → get_or (all_gone_after_read id n gone) i d ≡ read_as id n (get_or gone i d)
read_get id n [] i d within = absurd (omega (arith, within))
read_get id n (g ∷ gs) zero d within = refl
read_get id n (g ∷ gs) (suc i) d within = read_get id n gs i d (omega (arith, within))

read_id : (id n : ℕ) (g : GoneConnection) → (read_as id n g).id ≡ g.id
read_id id n g = grind (arith, common_steps)

module _ (a : Account) (log : Log) (id n : ℕ) (slots : HeldSlots) (x : AreReceived a log slots) where
  abbrev after : List GoneConnection
  after = all_gone_after_read id n slots.gone

  within_old : (i : ℕ) → i < length after → i < length slots.gone
  within_old i less = omega (arith, less, read_length id n slots.gone)

  id_at : (i : ℕ) (d : GoneConnection) → i < length after → (get_or after i d).id ≡ (get_or slots.gone i d).id
  id_at i d less = ap (λ (g : GoneConnection). g.id) (read_get id n slots.gone i d (within_old i less)) ∙ read_id id n (get_or slots.gone i d)

  numbers_read : AreNumbered a.first_id slots.next_port slots.next_id slots.table after
  numbers_read = record {
    given = x.numbers.given;
    slots = x.numbers.slots;
    below = λ i d less. subst (λ (k : ℕ). k < slots.next_id) (sym (id_at i d less)) (x.numbers.below i d (within_old i less));
    apart = λ i d less. subst (λ (k : ℕ). All (λ (e : DriverEntry). e.value.id ≢ k) slots.table.entries) (sym (id_at i d less)) (x.numbers.apart i d (within_old i less));
    distinct = λ i j d less within is. x.numbers.distinct i j d less (within_old j within)
        (sym (id_at i d (omega (arith, less, within))) ∙ is ∙ id_at j d within);
    ports = x.numbers.ports;
  }

  -- The one with the id, of which bytes are read.
  module _ (k : ℕ) (g : GoneConnection) (here : k < length slots.gone) (is : get_or slots.gone k g ≡ g) (named : g.id ≡ id) where
    abbrev q : ℕ → List ℕ
    q other = a.received other ++ cond (other == id) (take n g.unread) []

    q_other : (other : ℕ) → other ≢ id → a.received other ≡ q other
    q_other other apart = sym (ap (λ (c : Bool). a.received other ++ cond c (take n g.unread) []) (apart_by other id apart) ∙ append-nil (a.received other))

    here_at : (d : GoneConnection) → get_or slots.gone k d ≡ g
    here_at d = get_or_default slots.gone k d g here ∙ is

    other_gone : (i : ℕ) (d : GoneConnection) → i < length slots.gone → (i == k) ≡ false → (get_or slots.gone i d).id ≢ g.id
    other_gone i d within other = by (nat_lt i k) refl
      where
        by : (b : Bool) → nat_lt i k ≡ b → (get_or slots.gone i d).id ≢ g.id
        by true less = subst (λ (h : GoneConnection). (get_or slots.gone i d).id ≢ h.id) (here_at d) (x.numbers.distinct i k d (grind (arith, nat_tests, less)) here)
        by false more = λ on. x.numbers.distinct k i d (grind (arith, nat_tests, more, other)) within
            (ap (λ (h : GoneConnection). h.id) (here_at d) ∙ sym on)

    old : ReceivedOn a log g
    old = subst (ReceivedOn a log) is (x.left k g here)

    all_there : q g.id ++ drop n g.unread ≡ a.received g.id ++ g.unread
    all_there = grind (arith, common_steps)

    now_drains : DrainsTo (not g.end.own.receive) (q g.id) (drop n g.unread) (a.opened g.id) log
    now_drains =
        let (front, later, is, ends, drains) = old.drains in
        let first = subst (λ (bytes : List ℕ). IsPrefixOf bytes (payload_got Driver (a.opened g.id) front)) (sym all_there) drains.front in
        (front, later, is, ends, record { front = first; whole = λ on. all_there ∙ drains.whole on })

    at : (i : ℕ) (d : GoneConnection) → i < length slots.gone → (b : Bool) → (i == k) ≡ b
        → ReceivedOn (with_received id (take n g.unread) a) log (read_as id n (get_or slots.gone i d))
    at i d within true same =
        let place : i ≡ k = grind (arith, nat_tests, same) in
        let there : get_or slots.gone i d ≡ g = ap (λ (j : ℕ). get_or slots.gone j d) place ∙ here_at d in
        let passes : (g.id == id) ≡ true = grind (arith, nat_tests, named) in
        subst (λ (h : GoneConnection). ReceivedOn (with_received id (take n g.unread) a) log (read_as id n h)) (sym there)
        (subst (λ (c : Bool). ReceivedOn (with_received id (take n g.unread) a) log (cond c (record g { unread = drop n g.unread }) g)) (sym passes)
        (record { flow = old.flow; some = old.some; drains = now_drains }))
    at i d within false other =
        let h = get_or slots.gone i d in
        let apart : h.id ≢ id = subst (λ (j : ℕ). h.id ≢ j) named (other_gone i d within other) in
        let was = x.left i d within in
        subst (λ (c : Bool). ReceivedOn (with_received id (take n g.unread) a) log (cond c (record h { unread = drop n h.unread }) h)) (sym (apart_by h.id id apart))
        (record {
          flow = was.flow;
          some = was.some;
          drains = subst (λ (bytes : List ℕ). DrainsTo (not h.end.own.receive) bytes h.unread (a.opened h.id) log) (q_other h.id apart) was.drains;
        })

    front_by : (other : ℕ) (b : Bool) → (other == id) ≡ b → IsPrefixOf (q other) (payload_got Driver (a.opened other) log)
    front_by other true same =
        let is_g : g.id ≡ other = grind (arith, nat_tests, same, named) in
        let (front, later, is, ends, drains) = now_drains in
        subst (λ (j : ℕ). IsPrefixOf (q j) (payload_got Driver (a.opened j) log)) is_g
        (subst (λ (l : Log). IsPrefixOf (q g.id) (payload_got Driver (a.opened g.id) l)) (sym later.1)
        (prefix_then _ _ _ (shorter (q g.id) (drop n g.unread) _ drains.front) (got_stays Driver later.0 front (a.opened g.id))))
    front_by other false apart =
        subst (λ (bytes : List ℕ). IsPrefixOf bytes (payload_got Driver (a.opened other) log))
        (sym (ap (λ (c : Bool). a.received other ++ cond c (take n g.unread) []) apart ∙ append-nil (a.received other))) (x.front other)

    held_other : (i : ℕ) (e : DriverEntry) → i < length slots.table.entries → (get_or slots.table.entries i e).value.id ≢ id
    held_other i e within =
        subst (λ (j : ℕ). (get_or slots.table.entries i e).value.id ≢ j) (ap (λ (h : GoneConnection). h.id) is ∙ named) (x.numbers.apart k g here i e within)

    pub read_received : AreReceived (with_received id (take n g.unread) a) log (record slots { gone = after })
    read_received = record {
      numbers = numbers_read;
      front = λ other. front_by other (other == id) refl;
      held = λ i e within.
          let y = get_or slots.table.entries i e in
          let was = x.held i e within in
          record {
            present = was.present;
            some = was.some;
            drains = subst (λ (bytes : List ℕ). Drains (keeps_all y.value) bytes y.value.unread (payload_got Driver (current Driver y.flow log) log))
                (q_other y.value.id (held_other i e within)) was.drains;
            over = was.over;
          };
      left = λ i d less. subst (ReceivedOn (with_received id (take n g.unread) a) log) (sym (read_get id n slots.gone i d (within_old i less)))
          (at i d (within_old i less) (i == k) refl);
      passed = x.passed;
      once = x.once;
      rising = x.rising;
      fresh = λ other less.
          let f = x.fresh other less in
          let below : g.id < slots.next_id = subst (λ (h : GoneConnection). h.id < slots.next_id) is (x.numbers.below k g here) in
          (f.0, sym (q_other other (λ same. absurd (omega (arith, same, less, named, below)))) ∙ f.1);
    }

-- recv.
pub recv_received : (a : Account) (log : Log) (id n : ℕ) (s : DriverState) → IsTable s.table → AreReceived a log (slots_of s)
    → AreReceived (after_receive id n s a) log (slots_of (after_recv id n s))
recv_received a log id n s sound x = by (entry_known_as id s) refl
  where
    gone_by : (o : Option GoneConnection) → entry_known_as id s ≡ None → gone_known_as id s ≡ o
        → AreReceived (after_receive id n s a) log (slots_of (record s { gone = all_gone_after_read id n s.gone }))
    gone_by None unknown none =
        let bytes : bytes_got (recv_of id n s) (unread_of_id id s) ≡ [] = rw (unknown, none, recv_of) refl in
        subst (λ (gone : List GoneConnection). AreReceived (after_receive id n s a) log (slots_of (record s { gone = gone }))) (sym (read_none id s.gone n none))
        (no_bytes a log id n s x (bytes_got (recv_of id n s) (unread_of_id id s)) bytes)
    gone_by (Some g) unknown found =
        let place = find_place (λ (h : GoneConnection). h.id == id) s.gone g found in
        let named = found_passes (λ (h : GoneConnection). h.id == id) s.gone g found in
        let bytes : bytes_got (recv_of id n s) (unread_of_id id s) ≡ take n g.unread =
        ap (λ (y : Received). bytes_got y (unread_of_id id s)) (recv_gone_some id s unknown n g found)
        ∙ ap (λ (bytes : List ℕ). bytes_got (gone_answer n g) bytes) (unread_gone_some id s unknown g found) ∙ gone_bytes n g in
        subst (λ (bytes : List ℕ). AreReceived (with_received id bytes a) log (slots_of (record s { gone = all_gone_after_read id n s.gone }))) (sym bytes)
        (read_received a log id n (slots_of s) x place.0 g (slice_get_within s.gone place.0 g place.1)
        (get_or_from_slice_get s.gone place.0 g g place.1) (grind (arith, nat_tests, named)))

    by : (o : Option DriverEntry) → entry_known_as id s ≡ o → AreReceived (after_receive id n s a) log (slots_of (after_recv id n s))
    by None unknown =
        subst (λ (t : DriverState). AreReceived (after_receive id n s a) log (slots_of t)) (sym (after_recv_gone id s unknown n))
        (gone_by (gone_known_as id s) unknown refl)
    by (Some e) known = known_received a log id n s x e sound known
