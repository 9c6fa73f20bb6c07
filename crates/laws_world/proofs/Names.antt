-- What is known of an id, and who waits on ports, through each change of the driver.
use Rattle.std.proofs.lemmas.Grind.{common_steps}
use Rattle.std.proofs.Common.{◌≡◌, ◌≢◌, ℕ, suc, ◌+◌, ◌-◌, ◌<◌, ◌≤◌, ◌==◌, ◌&&◌, ◌||◌, ◌⊎◌, inl, inr, Bool, true, false, not, cond, List, [], ◌∷◌, ◌++◌, find, drop}
use Rattle.std.proofs.{Common.{Contains, get_or, Option, Some, None, refl, sym, ap, subst, ◌∙◌, arith}, lemmas.List.Elements.{All-contains, All-filter, All-map, All-push}}
use Rattle.std.{proofs.lemmas.{List.{Elements.filter_passes, Folds.find-append}, Bool.Decides.nat_tests, Option.{get_or_from_slice_get, slice_get_within}}, specs.List.All}
use Rattle.std.specs.Option.{option_map, option_or}
use Rattle.vs_flow.{specs.{Table.{IsTable, Table, entry_under, next_entry, revalued, without}, declared.flow.Flow.Flow, Connection.Connection}, proofs.Entries.find_none}
use Rattle.vs_flow.proofs.{Entries.{found_passes, none_found}, Lookups.{entry_under-with_entry, entry_under-with_value, entry_under-without, find_place}}
use Rattle.vs_driver_parts.specs.{State.{DriverConnection, DriverEntry, DriverState, GoneConnection, Listener, entry_known_as, gone_known_as, is_known_as}, Connections.after_close}
use Rattle.vs_driver_parts.specs.Connections.{after_closing, all_gone_after_read, close_of, flow_of, gone_as, is_let_go, waiting_on}
use Rattle.vs_driver_parts.specs.{Connections.{with_connection, with_opened, without_gone}, Listening.{is_answered, with_waiting}, SlotFields.AreNumbered}
use Rattle.vs_driver_parts.proofs.{Ids.{HasId, entry_has, found_under, has_slot}, Known.{flow_gone, flow_known}, SameIds.{closing_closed, closing_id}}
use Rattle.laws_driver.specs.{Honest.slots_of, Carried.{Received.{Account, AreReceived, ReceivedOn, ReceivesOn}, Calls.{GuestCall, Journal, LookAt, ReplyTo, with_call}}}
use Rattle.laws_driver.proofs.Carrying.{Fact}
use Rattle.vs_conn.specs.End.{ConnectionEnd, answering}
use Rattle.vs_header.specs.declared.Kind.TheVariants.{Stream}
use Rattle.vs_limits.specs.declared.TheConstants.{BUF_ALLOC}
use Rattle.laws_tables.{proofs.Slots.found_by, specs.Ends.Ends}
use Rattle.vs_page.specs.Log.{Log}
use Rattle.laws_world.proofs.Listeners.{AllIds, AllWait, IsOfPort, IsOther, any_ids, ids_weaker, wait_less, wait_listened, wait_more, wait_unlistened, wait_weaker, waiting_all}
use Rattle.laws_world.{proofs.Keeping.{AllKept, IsKept, MayMake, Sees, Sight, StaysSame, gone_with}, specs.Names.{is_close, times_closed}}
use Rattle.vs_driver_parts.specs.declared.answers.Closed.TheVariants as closed

-- Each id waits on one port.
abbrev pub WaitsApart : Sight
WaitsApart next table gone listeners = (port_of : ℕ → ℕ) × AllWait (IsOfPort next port_of) listeners

further_on : (next : ℕ) (port_of : ℕ → ℕ) (ls : List Listener) → AllWait (IsOfPort next port_of) ls → AllWait (IsOfPort (next + 1) port_of) ls
further_on next port_of ls all =
    wait_weaker (IsOfPort next port_of) (IsOfPort (next + 1) port_of) (λ port id of. let less = of.0 in (omega (arith, less), of.1)) ls all

asked_too : (next port : ℕ) (port_of : ℕ → ℕ) (ls : List Listener) → AllWait (IsOfPort next port_of) ls
    → (now : ℕ → ℕ) × AllWait (IsOfPort (next + 1) now) (with_waiting port (λ ids. ids ++ next ∷ []) ls)
asked_too next port port_of ls all = (
  now,
  wait_more (IsOfPort (next + 1) now) port next (omega arith, here) ls (wait_weaker (IsOfPort next port_of) (IsOfPort (next + 1) now) older ls all),
)
  where
    now : ℕ → ℕ
    now id = cond (id == next) port (port_of id)

    here : now next ≡ port
    here = let same : (next == next) ≡ true = grind (arith, nat_tests) in ap (λ (b : Bool). cond b port (port_of next)) same

    older : (at id : ℕ) → IsOfPort next port_of at id → IsOfPort (next + 1) now at id
    older at id of =
        let less = of.0 in
        let other : (id == next) ≡ false = grind (arith, nat_tests, less) in
        (omega (arith, less), ap (λ (b : Bool). cond b port (port_of id)) other ∙ of.1)

waits_kept : IsKept (λ id. Unit {0}) WaitsApart
waits_kept = record {
  changes = λ s e c under same w. w;
  leaves = λ s e c under same w. w;
  opens = λ s f end w. (w.0, further_on s.next_id w.0 s.listeners w.1);
  asks = λ s f h w. asked_too s.next_id f.guest w.0 s.listeners w.1;
  reads = λ id n s w. w;
  less = λ port id s w. (w.0, wait_less (IsOfPort s.next_id w.0) port id s.listeners w.1);
  listens = λ port s w. (w.0, wait_listened (IsOfPort s.next_id w.0) port s.listeners w.1);
  unlistens = λ port s w. (w.0, wait_unlistened (IsOfPort s.next_id w.0) port s.listeners w.1);
  closes = λ id may s e sound is w. w;
  forgets = λ id may s w. w;
  waiting = λ port s w. any_ids (λ id. Unit {0}) (λ id. tt) (waiting_on port s);
}

-- Whether the connection of an id is answered, and its flow: of one that is gone, or of the table.
abbrev gone_in : ℕ → List GoneConnection → Option GoneConnection
gone_in id gone = find (λ g. g.id == id) gone

abbrev entry_seen : ℕ → Option DriverEntry → Option (Bool × Flow)
entry_seen id None = None
entry_seen id (Some e) = cond (is_known_as id e) (Some (not e.value.unanswered, e.flow)) None

abbrev seen_in : Option GoneConnection → Option (Bool × Flow) → Option (Bool × Flow)
seen_in None o = o
seen_in (Some g) o = Some (true, g.flow)

abbrev pub seen : ℕ → Table DriverConnection → List GoneConnection → Option (Bool × Flow)
seen id t gone = seen_in (gone_in id gone) (entry_seen id (entry_under t (id - 1)))

-- Nothing is known of an id, or its connection is answered and has this flow.
abbrev pub shown : Option Flow → Option (Bool × Flow)
shown None = None
shown (Some f) = Some (true, f)

-- So it is of an id that was given, and where it has a flow it waits on no port.
pub record Stands (id : ℕ) (o : Option Flow) (next : ℕ) (t : Table DriverConnection) (gone : List GoneConnection) (listeners : List Listener) : Type 0 where
  pub given : id < next
  pub next_is : next ≡ 1 + t.given
  pub ids : All (HasId 1) t.entries
  pub is : seen id t gone ≡ shown o
  pub waits : (o ≡ None) ⊎ AllWait (IsOther id) listeners

found_gone : (id : ℕ) (gone : List GoneConnection) (g : GoneConnection) → gone_in id gone ≡ Some g → Contains gone g × ((g.id == id) ≡ true)
found_gone id gone g is = grind (arith, common_steps, find_place, slice_get_within, get_or_from_slice_get, found_passes)

never : (o : Option Flow) (f : Flow) → Some (false, f) ≡ shown o → ⊥
never o f is = grind (arith, common_steps)

closed_none : (known closed : Bool) (x : Bool × Flow) → closed ≡ true → cond (known && not closed) (Some x) None ≡ None
closed_none known closed x is = grind (arith, common_steps)

option_same : {X : Type 0} (x : Option X) → x ≡ option_or x None
option_same None = refl
option_same (Some x) = refl

module _ (id : ℕ) (o : Option Flow) where
  abbrev Is : Sight
  Is next t gone listeners = Stands id o next t gone listeners

  -- An id that may be closed.
  abbrev pub MayClose : ℕ → Type 0
  MayClose other = (o ≡ None) ⊎ (other ≢ id)

  through : (g : Option GoneConnection) (a b : Option (Bool × Flow)) → (a ≡ shown o → b ≡ shown o) → seen_in g a ≡ shown o → seen_in g b ≡ shown o
  through None a b then_ is = then_ is
  through (Some g) a b then_ is = is

  -- A connection of the table changes.
  module _ (s : DriverState) (e : DriverEntry) (c : DriverConnection) (under : entry_under s.table e.slot ≡ Some e) (id_is : c.id ≡ e.value.id)
      (stays : entry_seen id (Some e) ≡ shown o → entry_seen id (Some (record e { value = c })) ≡ shown o) (x : Sees Is s) where
    at_slot : (y : Option DriverEntry) → entry_under s.table (id - 1) ≡ y → entry_seen id y ≡ shown o → entry_seen id (option_map (revalued e.slot c) y) ≡ shown o
    at_slot None there is = is
    at_slot (Some y) there is = by (y.slot == e.slot) refl
      where
        by : (b : Bool) → (y.slot == e.slot) ≡ b → entry_seen id (Some (cond b (record y { value = c }) y)) ≡ shown o
        by false apart = is
        by true at =
            let slot = has_slot s.table (id - 1) y there in
            let here : e.slot ≡ id - 1 = grind (arith, nat_tests, at, slot) in
            let both : Some y ≡ Some e = sym there ∙ ap (entry_under s.table) (sym here) ∙ under in
            let same : y ≡ e = cc in
            subst (λ (z : DriverEntry). entry_seen id (Some (record z { value = c })) ≡ shown o) (sym same)
            (stays (subst (λ (z : DriverEntry). entry_seen id (Some z) ≡ shown o) same is))

    has_id : (y : DriverEntry) → HasId 1 y → HasId 1 (revalued e.slot c y)
    has_id y own = by (y.slot == e.slot) refl
      where
        by : (b : Bool) → (y.slot == e.slot) ≡ b → HasId 1 (cond b (record y { value = c }) y)
        by false apart = own
        by true at =
            let mine = entry_has (HasId 1) (λ (z : DriverEntry). z.slot == e.slot) s.table.entries e x.ids under in
            let slot : y.slot ≡ e.slot = grind (arith, nat_tests, at) in
            omega (arith, mine, slot, id_is)

    value_stands : Sees Is (with_connection e.slot c s)
    value_stands = record {
      given = x.given;
      next_is = x.next_is;
      ids = All-map (HasId 1) (revalued e.slot c) s.table.entries (λ k d less. has_id (get_or s.table.entries k d) (x.ids k d less));
      is = through (gone_in id s.gone) _ _
          (λ is. ap (entry_seen id) (entry_under-with_value s.table e.slot c (id - 1)) ∙ at_slot (entry_under s.table (id - 1)) refl is) x.is;
      waits = x.waits;
    }

  -- It changes, and nothing that is known of it.
  known_same : (e : DriverEntry) (c : DriverConnection) → StaysSame e.value c → is_known_as id (record e { value = c }) ≡ is_known_as id e
  known_same e c same = ap (λ (n : ℕ). (n == id) && not c.closed) same.id_is ∙ ap (λ (b : Bool). (e.value.id == id) && not b) same.closed_is

  here_seen : (known was now : Bool) (f : Flow) → (was ≡ false → now ≡ false) → cond known (Some (not was, f)) None ≡ shown o
      → cond known (Some (not now, f)) None ≡ shown o
  here_seen known was now f stays is = grind (arith, common_steps, never)

  changed_here : (e : DriverEntry) (c : DriverConnection) → StaysSame e.value c → entry_seen id (Some e) ≡ shown o
      → entry_seen id (Some (record e { value = c })) ≡ shown o
  changed_here e c same is = grind (arith, common_steps, known_same, here_seen)

  -- It leaves the table.
  module _ (s : DriverState) (e : DriverEntry) (c : DriverConnection) (under : entry_under s.table e.slot ≡ Some e) (same : StaysSame e.value c)
      (x : Sees Is s) where
    abbrev left : DriverEntry
    left = record e { value = c }

    abbrev Added : Option GoneConnection
    Added = cond (is_let_go c) None (cond (c.id == id) (Some (gone_as left)) None)

    added : (b : Bool) → gone_in id (cond b s.gone (s.gone ++ gone_as left ∷ []))
        ≡ option_or (gone_in id s.gone) (cond b None (cond (c.id == id) (Some (gone_as left)) None))
    added true = option_same (gone_in id s.gone)
    added false = find-append (λ (g : GoneConnection). g.id == id) s.gone (gone_as left ∷ [])

    not_added : (a b : Bool) (y : Option (Bool × Flow)) → b ≡ false → y ≡ shown o → seen_in (cond a None (cond b (Some (gone_as left)) None)) y ≡ shown o
    not_added true b y other is = is
    not_added false false y other is = is
    not_added false true y other is = absurd cc

    goes : (known cl un : Bool) → cond (known && not cl) (Some (not un, e.flow)) None ≡ shown o
        → seen_in (cond (cl || un) None (cond known (Some (gone_as left)) None)) None ≡ shown o
    goes true false false is = is
    goes true false true is = absurd (never o e.flow is)
    goes true true un is = is
    goes false true un is = is
    goes false false true is = is
    goes false false false is = is

    at_none : (b : Bool) → (id - 1 == e.slot) ≡ b → entry_seen id (entry_under s.table (id - 1)) ≡ shown o
        → seen_in Added (entry_seen id (cond b None (entry_under s.table (id - 1)))) ≡ shown o
    at_none false apart is =
        let mine = entry_has (HasId 1) (λ (z : DriverEntry). z.slot == e.slot) s.table.entries e x.ids under in
        let id_is = same.id_is in
        not_added (is_let_go c) (c.id == id) _ (grind (arith, nat_tests, apart, mine, id_is)) is
    at_none true at is =
        let here : id - 1 ≡ e.slot = grind (arith, nat_tests, at) in
        let there : entry_under s.table (id - 1) ≡ Some e = ap (entry_under s.table) here ∙ under in
        goes (c.id == id) c.closed c.unanswered (changed_here e c same (sym (ap (entry_seen id) there) ∙ is))

    leaves_is : (g : Option GoneConnection) → seen_in g (entry_seen id (entry_under s.table (id - 1))) ≡ shown o
        → seen_in (option_or g Added) (entry_seen id (cond (id - 1 == e.slot) None (entry_under s.table (id - 1)))) ≡ shown o
    leaves_is (Some g) is = is
    leaves_is None is = at_none (id - 1 == e.slot) refl is

    leaves_stands : Is s.next_id (without s.table e.slot) (gone_with left s.gone) s.listeners
    leaves_stands = record {
      given = x.given;
      next_is = x.next_is;
      ids = All-filter (λ (y : DriverEntry). not (y.slot == e.slot)) (HasId 1) s.table.entries x.ids;
      is =
          ap (λ (g : Option GoneConnection). seen_in g (entry_seen id (entry_under (without s.table e.slot) (id - 1)))) (added (is_let_go c))
          ∙ ap (λ (y : Option DriverEntry). seen_in (option_or (gone_in id s.gone) Added) (entry_seen id y)) (entry_under-without s.table e.slot (id - 1))
          ∙ leaves_is (gone_in id s.gone) x.is;
      waits = x.waits;
    }

  -- Another one opens.
  module _ (s : DriverState) (f : Flow) (end : ConnectionEnd) (unanswered : Bool) (x : Sees Is s) where
    abbrev new : DriverEntry
    new = next_entry s.table f (record { id = s.next_id; end = end; unread = []; unanswered = unanswered; closed = false })

    new_other : (b : Bool) (y : Option DriverEntry) → entry_seen id y ≡ shown o → entry_seen id (option_or y (cond b (Some new) None)) ≡ shown o
    new_other b (Some y) is = is
    new_other false None is = is
    new_other true None is =
        let less = x.given in
        let apart : (s.next_id == id) ≡ false = grind (arith, nat_tests, less) in
        ap (λ (b : Bool). cond (b && true) (Some (not unanswered, f)) None) apart ∙ is

    opens_stands : Sees Is (with_opened f end unanswered s)
    opens_stands = record {
      given = (let less = x.given in omega (arith, less));
      next_is = (let next = x.next_is in omega (arith, next));
      ids = All-push (HasId 1) s.table.entries new x.ids x.next_is;
      is = through (gone_in id s.gone) _ _
          (λ is. ap (entry_seen id) (entry_under-with_entry s.table f new.value (id - 1)) ∙ new_other (s.table.given == id - 1) (entry_under s.table (id - 1)) is) x.is;
      waits = x.waits;
    }

  waits_by : (ls ms : List Listener) → (AllWait (IsOther id) ls → AllWait (IsOther id) ms) → (o ≡ None) ⊎ AllWait (IsOther id) ls
      → (o ≡ None) ⊎ AllWait (IsOther id) ms
  waits_by ls ms then_ (inl none) = inl none
  waits_by ls ms then_ (inr all) = inr (then_ all)

  listed : (s : DriverState) (ms : List Listener) → (AllWait (IsOther id) s.listeners → AllWait (IsOther id) ms) → Sees Is s → Is s.next_id s.table s.gone ms
  listed s ms then_ x = record { given = x.given; next_is = x.next_is; ids = x.ids; is = x.is; waits = waits_by s.listeners ms then_ x.waits }

  -- Those that are gone change.
  gone_stands : (s : DriverState) (gone : List GoneConnection) → (seen id s.table s.gone ≡ shown o → seen id s.table gone ≡ shown o) → Sees Is s
      → Is s.next_id s.table gone s.listeners
  gone_stands s gone then_ x = record { given = x.given; next_is = x.next_is; ids = x.ids; is = then_ x.is; waits = x.waits }

  read_seen : (other n : ℕ) (y : Option (Bool × Flow)) (gone : List GoneConnection)
      → seen_in (gone_in id (all_gone_after_read other n gone)) y ≡ seen_in (gone_in id gone) y
  read_seen other n y [] = refl
  read_seen other n y (g ∷ gs) = by (g.id == other) (read_seen other n y gs)
    where
      here : (b : Bool) (h : GoneConnection) → h.flow ≡ g.flow → seen_in (gone_in id (all_gone_after_read other n gs)) y ≡ seen_in (gone_in id gs) y
          → seen_in (cond b (Some h) (gone_in id (all_gone_after_read other n gs))) y ≡ seen_in (cond b (Some g) (gone_in id gs)) y
      here true h flow rest = ap (λ (f : Flow). Some (true, f)) flow
      here false h flow rest = rest

      by : (b : Bool) → seen_in (gone_in id (all_gone_after_read other n gs)) y ≡ seen_in (gone_in id gs) y
          → let h : GoneConnection = cond b (record g { unread = drop n g.unread }) g in
          seen_in (cond (h.id == id) (Some h) (gone_in id (all_gone_after_read other n gs))) y ≡ seen_in (cond (g.id == id) (Some g) (gone_in id gs)) y
      by true rest = here (g.id == id) (record g { unread = drop n g.unread }) refl rest
      by false rest = here (g.id == id) g refl rest

  gone_shown : (f : Flow) → o ≡ None → Some (true, f) ≡ shown o → ⊥
  gone_shown f none is = let both = is ∙ ap shown none in cc

  forgets_seen : (other : ℕ) → MayClose other → (y : Option (Bool × Flow)) (gone : List GoneConnection) → seen_in (gone_in id gone) y ≡ shown o
      → seen_in (gone_in id (without_gone other gone)) y ≡ shown o
  forgets_seen other may y [] is = is
  forgets_seen other may y (g ∷ gs) is = by (g.id == other) (g.id == id) refl refl is (forgets_seen other may y gs)
    where
      rest : List GoneConnection
      rest = without_gone other gs

      taken : MayClose other → (g.id == other) ≡ true → (g.id == id) ≡ true → Some (true, g.flow) ≡ shown o → seen_in (gone_in id rest) y ≡ shown o
      taken (inl none) one two is = absurd (gone_shown g.flow none is)
      taken (inr apart) one two is = absurd (apart (grind (arith, nat_tests, one, two)))

      by : (b i : Bool) → (g.id == other) ≡ b → (g.id == id) ≡ i → seen_in (cond i (Some g) (gone_in id gs)) y ≡ shown o
          → (seen_in (gone_in id gs) y ≡ shown o → seen_in (gone_in id rest) y ≡ shown o) → seen_in (gone_in id (cond (not b) (g ∷ rest) rest)) y ≡ shown o
      by true true one two is then_ = taken may one two is
      by true false one two is then_ = then_ is
      by false true one two is then_ = ap (λ (b : Bool). seen_in (cond b (Some g) (gone_in id rest)) y) two ∙ is
      by false false one two is then_ = ap (λ (b : Bool). seen_in (cond b (Some g) (gone_in id rest)) y) two ∙ then_ is

  -- A connection of the table is closed.
  closed_here : (other : ℕ) → MayClose other → (e : DriverEntry) → is_known_as other e ≡ true → entry_seen id (Some e) ≡ shown o
      → entry_seen id (Some (record e { value = after_closing e.value.end.state e.value })) ≡ shown o
  closed_here other may e known is = grind (arith, common_steps, closed_none, closing_closed)

  pub stands_kept : IsKept MayClose Is
  stands_kept = record {
    changes = λ s e c under same x. value_stands s e c under same.id_is (changed_here e c same) x;
    leaves = leaves_stands;
    opens = λ s f end x. opens_stands s f end false x;
    asks = λ s f h x.
        let less = x.given in
        listed (with_opened f (answering Stream BUF_ALLOC h) true s) _
        (λ all. wait_more (IsOther id) f.guest s.next_id (λ same. absurd (omega (arith, same, less))) s.listeners all) (opens_stands s f _ true x);
    reads = λ other n s x. gone_stands s _ (λ is. read_seen other n _ s.gone ∙ is) x;
    less = λ port other s x. listed s _ (wait_less (IsOther id) port other s.listeners) x;
    listens = λ port s x. listed s _ (wait_listened (IsOther id) port s.listeners) x;
    unlistens = λ port s x. listed s _ (wait_unlistened (IsOther id) port s.listeners) x;
    closes = λ other may s e sound is x.
        value_stands s e _ (found_under (is_known_as other) s.table e sound is) (closing_id e.value.end.state e.value)
        (closed_here other may e (found_passes (is_known_as other) s.table.entries e is)) x;
    forgets = λ other may s x. gone_stands s _ (forgets_seen other may _ s.gone) x;
    waiting = λ port s x. by port s x.waits;
  }
    where
      by : (port : ℕ) (s : DriverState) → (o ≡ None) ⊎ AllWait (IsOther id) s.listeners → AllIds MayClose (waiting_on port s)
      by port s (inl none) = any_ids MayClose (λ other. inl none) (waiting_on port s)
      by port s (inr all) = ids_weaker (λ other. other ≢ id) MayClose (λ other apart. inr apart) (waiting_on port s) (waiting_all (IsOther id) port s all)

-- Both: who waits, and what is known of an id.
abbrev pub Names : Option (ℕ × Option Flow) → Sight
Names None = WaitsApart
Names (Some x) = Stands x.0 x.1

abbrev pub NamesMay : Option (ℕ × Option Flow) → ℕ → Type 0
NamesMay None other = Unit {0}
NamesMay (Some x) other = MayClose x.0 x.1 other

pub names_kept : (i : Option (ℕ × Option Flow)) → IsKept (NamesMay i) (Names i)
names_kept None = waits_kept
names_kept (Some x) = stands_kept x.0 x.1

-- Where a call begins.
abbrev pub NamesFrom : DriverState → GuestCall → Option (ℕ × Option Flow) → Type 0
NamesFrom s call None = Unit {0}
NamesFrom s call (Some x) = Sees (Stands x.0 x.1) s × MayMake (MayClose x.0 x.1) call

pub names_may : (s : DriverState) (call : GuestCall) (i : Option (ℕ × Option Flow)) → NamesFrom s call i → MayMake (NamesMay i) call
names_may s call i from = grind (arith, common_steps)

-- It was given, and nothing is known of it.
abbrev pub IsOver : ℕ → DriverState → Type 0
IsOver id s = (id < s.next_id) × (seen id s.table s.gone ≡ None)

-- What the driver tells of an id, by its lists.
abbrev known_of : Option DriverEntry → Option GoneConnection → Option (Bool × Flow)
known_of (Some e) g = Some (not e.value.unanswered, e.flow)
known_of None g = option_map (λ h. (true, h.flow)) g

module _ (port : ℕ) (id : ℕ) (s : DriverState) (sound : IsTable s.table) (numbers : AreNumbered 1 port s.next_id s.table s.gone) where
  gone_none : (e : DriverEntry) → entry_known_as id s ≡ Some e → gone_in id s.gone ≡ None
  gone_none e is =
      let found = found_by (is_known_as id) s.table.entries e is in
      let passes = found.1 in
      find_none (λ (g : GoneConnection). g.id == id) s.gone (λ k d less.
      let apart = All-contains (λ (x : DriverEntry). x.value.id ≢ (get_or s.gone k d).id) s.table.entries e (numbers.apart k d less) found.0 in
      grind (arith, nat_tests, passes, apart))

  unseen : entry_known_as id s ≡ None → entry_seen id (entry_under s.table (id - 1)) ≡ None
  unseen none = by (entry_under s.table (id - 1)) refl
    where
      by : (y : Option DriverEntry) → entry_under s.table (id - 1) ≡ y → entry_seen id y ≡ None
      by None there = refl
      by (Some y) there = ap (λ (b : Bool). cond b (Some (not y.value.unanswered, y.flow)) None)
          (entry_has (λ (x : DriverEntry). is_known_as id x ≡ false) (λ (x : DriverEntry). x.slot == id - 1) s.table.entries y
          (none_found (is_known_as id) s.table.entries none) there)

  under : (e : DriverEntry) → entry_known_as id s ≡ Some e → entry_under s.table (id - 1) ≡ Some e
  under e is =
      let found = found_by (is_known_as id) s.table.entries e is in
      let passes = found.1 in
      let mine = All-contains (HasId 1) s.table.entries e numbers.slots found.0 in
      let here : e.slot ≡ id - 1 = grind (arith, nat_tests, passes, mine) in
      sym (ap (entry_under s.table) here) ∙ found_under (is_known_as id) s.table e sound is

  pub seen_is : seen id s.table s.gone ≡ known_of (entry_known_as id s) (gone_known_as id s)
  seen_is = grind (arith, common_steps, unseen, gone_none, under, found_passes)

  -- So its flow is that of what is known of it.
  pub flow_seen : flow_of id s ≡ option_map (λ (x : Bool × Flow). x.1) (seen id s.table s.gone)
  flow_seen = grind (arith, common_steps, seen_is)

  -- One that is answered has a flow.
  pub answered_seen : is_answered s id ≡ true → (f : Flow) × (seen id s.table s.gone ≡ Some (true, f))
  answered_seen is = grind (arith, common_steps, seen_is)

  -- A close that knew it leaves nothing known of it.
  pub closed_unknown : close_of id s ≡ closed.Done → IsOver id (after_close id s)
  closed_unknown is = grind (arith, common_steps, found_gone, All-contains, find_none, filter_passes, unseen, found_by, HasId, gone_none, entry_under-with_value, under, closed_none, closing_closed)

-- An id that is known is that of a connection of its flow.
module _ (a : Account) (log : Log) (s : DriverState) (x : AreReceived a log (slots_of s)) (id : ℕ) where
  pub flows : ((entry_known_as id s ≡ None) × (gone_known_as id s ≡ None)) ⊎ ((flow_of id s ≡ Some (a.opened id).flow) × (1 ≤ (a.opened id).number))
  flows = by (entry_known_as id s) refl
    where
      gone_by : (o : Option GoneConnection) → entry_known_as id s ≡ None → gone_known_as id s ≡ o
          → ((entry_known_as id s ≡ None) × (gone_known_as id s ≡ None)) ⊎ ((flow_of id s ≡ Some (a.opened id).flow) × (1 ≤ (a.opened id).number))
      gone_by None unknown none = inl (unknown, none)
      gone_by (Some g) unknown is =
          let found = found_gone id s.gone g is in
          let on = All-contains (ReceivedOn a log) s.gone g x.left found.0 in
          let passes = found.1 in
          let at : g.id ≡ id = grind (arith, nat_tests, passes) in
          inr (
            flow_gone id s unknown g is ∙ ap (λ (f : Flow). Some f) (sym on.flow ∙ ap (λ (k : ℕ). (a.opened k).flow) at),
            subst (λ (k : ℕ). 1 ≤ (a.opened k).number) at on.some,
          )

      by : (o : Option DriverEntry) → entry_known_as id s ≡ o
          → ((entry_known_as id s ≡ None) × (gone_known_as id s ≡ None)) ⊎ ((flow_of id s ≡ Some (a.opened id).flow) × (1 ≤ (a.opened id).number))
      by None unknown = gone_by (gone_known_as id s) unknown refl
      by (Some e) is =
          let found = found_by (is_known_as id) s.table.entries e is in
          let on = All-contains (ReceivesOn a log) s.table.entries e x.held found.0 in
          let passes = found.1 in
          let at : e.value.id ≡ id = grind (arith, nat_tests, passes) in
          let now = ap a.opened (sym at) ∙ on.present in
          inr (flow_known id s e is ∙ ap (λ (c : Connection). Some c.flow) (sym now), subst (λ (c : Connection). 1 ≤ c.number) (sym now) on.some)

  pub flow_opened : (f : Flow) → flow_of id s ≡ Some f → ((a.opened id).flow ≡ f) × (1 ≤ (a.opened id).number)
  flow_opened f is = grind (arith, common_steps, flows)

-- From one driver and journal to another: where an id wasn't closed, or nothing is known of it, all that is known of it stays.
pub record StaysNamed (s : DriverState) (was : Journal) (t : DriverState) (now : Journal) : Type 0 where
  pub closed : (id : ℕ) → times_closed id was ≤ times_closed id now
  pub stays : (id : ℕ) (o : Option Flow) → (o ≡ None) ⊎ (times_closed id now ≡ times_closed id was) → Sees (Stands id o) s → Sees (Stands id o) t

pub named_still : (s : DriverState) (was : Journal) → StaysNamed s was s was
named_still s was = record { closed = λ id. omega arith; stays = λ id o on x. x }

pub named_then : (s t u : DriverState) (was now next : Journal) → StaysNamed s was t now → StaysNamed t now u next → StaysNamed s was u next
named_then s t u was now next one two = record {
  closed = λ id. let first = one.closed id in let then_ = two.closed id in omega (arith, first, then_);
  stays = λ id o on x. let both = parts id o on in two.stays id o both.1 (one.stays id o both.0 x);
}
  where
    parts : (id : ℕ) (o : Option Flow) → (o ≡ None) ⊎ (times_closed id next ≡ times_closed id was)
        → ((o ≡ None) ⊎ (times_closed id now ≡ times_closed id was)) × ((o ≡ None) ⊎ (times_closed id next ≡ times_closed id now))
    parts id o (inl none) = (inl none, inl none)
    parts id o (inr same) =
        let first = one.closed id in let then_ = two.closed id in (inr (omega (arith, first, then_, same)), inr (omega (arith, first, then_, same)))

-- What a walk of the driver's carries of names, from where a call begins.
abbrev pub named_from : DriverState → GuestCall → Fact
named_from s call = AllKept Names NamesMay names_kept (NamesFrom s call)

pub step_named : (s : DriverState) (was : Journal) (part : Ends) (t : DriverState) (log : Log) → named_from s (LookAt 0) part t log → StaysNamed s was t was
step_named s was part t log held = record { closed = λ id. omega arith; stays = λ id o on x. held (Some (id, o)) (x, tt) }

at_most : (b : Bool) (n : ℕ) → n ≤ cond b (suc n) n
at_most true n = omega arith
at_most false n = omega arith

closes_none : (o : Option Flow) (id n : ℕ) (call : GuestCall) → (o ≡ None) ⊎ (cond (is_close id call) (suc n) n ≡ n) → MayMake (MayClose id o) call
closes_none o id n call on = grind (arith, common_steps)

pub call_named : (call : GuestCall) (reply : ReplyTo call) (s : DriverState) (was : Journal) (part : Ends) (t : DriverState) (log : Log)
    → named_from s call part t log → StaysNamed s was t (with_call call s reply was)
call_named call reply s was part t log held = record {
  closed = λ id. at_most (is_close id call) (times_closed id was);
  stays = λ id o on x. held (Some (id, o)) (x, closes_none o id (times_closed id was) call on);
}
