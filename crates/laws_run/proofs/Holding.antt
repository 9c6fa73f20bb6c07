-- At rest a connect that waits finds all slots held, and an accept that waits finds each connection of its port whose stream is open with a line; and the report.
use Rattle.std.proofs.lemmas.Grind.{common_steps}
use Rattle.std.proofs.Common.{◌≡◌, ◌≢◌, ℕ, zero, suc, ◌+◌, ◌-◌, ◌<◌, ◌≤◌, ◌==◌, ◌||◌, ◌&&◌, nat_le, not, Bool, true, false, cond, List, [], ◌∷◌, ◌++◌, Option, Some, None, Contains}
use Rattle.std.proofs.Common.{find, filter, is_some, length, map, slice_get, slice_index_or, refl, sym, ap, subst, ◌∙◌, arith, inl, inr, length-append}
use Rattle.std.proofs.lemmas.{Bool.{Decides.nat_tests, and_parts, eq-eqb, eqb-true}, List.Elements.{All-append, All-contains, All-head, All-map, All-tail, Contains-append_left}}
use Rattle.std.proofs.lemmas.List.{Elements.{Contains-append_right, Contains-get_or}, Folds.Any-from_list_any, FromFn.{get_or-range_with_len, length-range_with_len}, length-map}
use Rattle.std.{proofs.lemmas.{Map.Made.{IsDistinct-from_AllPairs, is_member-Decides, length-le_from_is_member}, Option.{same_Some, slice_get_within}}, specs.Bool.Decides}
use Rattle.std.specs.{List.{All, AllPairs, cons_option, filter_map, list_any, range_with_len}, Option.{option_map, option_map_or}}
use Rattle.vs_conn.specs.declared.end.State.{State, TheVariants.Live}
use Rattle.vs_flow.{specs.{Connection.Connection, Flow.host_asks, declared.flow.Flow.Flow}, proofs.Entries.none_found}
use Rattle.vs_limits.specs.declared.TheConstants.{DRIVER_CONNECTIONS, FIRST_CID}
use Rattle.vs_outside.specs.{Faults.one_more, Host.{HostContents, Stream, stream_at}, HostBytes.{connection_at, stream_of}}
use Rattle.vs_ring_shared.specs.Sights.{DeviceSight, Sight, device_contents, driver_contents, driver_log}
use Rattle.vs_script.specs.App.{Act, Accept}
use Rattle.vs_driver_parts.specs.{Connections.{is_full, table_shown as guest_shown}, Listening.{is_answered, listener_on, next_accepted}, State.{DriverEntry, DriverState}}
use Rattle.vs_driver_parts.specs.{State.{GoneConnection, Listener, entry_known_as, gone_known_as, is_known_as}, declared.answers.{ConnectionState.ConnectionState, Polled.Polled}}
use Rattle.vs_driver_parts.specs.declared.answers.Received.{Received}
use Rattle.vs_device_parts.specs.{Playing.situation, State.counters_of, Turns.table_shown as device_shown}
use Rattle.vs_proxy_parts.specs.State.{ProxyState}
use Rattle.laws_tables.{specs.Drains.is_same, proofs.Logs.same_connection}
use Rattle.laws_driver.specs.{Honest.slots_of, Carried.{Calls.{GuestCall, Journal, account_of}, Received.ReceivedOn}}
use Rattle.laws_device.{specs.{Streams.is_open_in, Carried.Streamed.{lasting, ports_of, seen as seen_in}}, proofs.Carried.Hosts.label_there}
use Rattle.laws_rest.proofs.Hosts.{stream_seen}
use Rattle.laws_proxy.specs.Honest.{IsProxyStreamed}
use Rattle.laws_settled.specs.Settled.{IsSettled, IsSteady}
use Rattle.vs_apps_parts.specs.{Journals.calls_of, Scripts.{RunScript, acts_of, calls_next}, Told.{told_look, told_recv, wait_of}, declared.journal.Entry.Entry}
use Rattle.vs_apps_parts.specs.declared.{journal.WaitsFor.WaitsFor, progress.{AppState.AppState, Progress.Progress}}
use Rattle.laws_apps.specs.{Accounts.IsAccount, Calls.run_with, Rounds.AllStand, Runs.{IsRunOf, PollsTo, Run, poll_moved}, Placed.{AreOwned, ArePlaced, IsPlaced, IsPlacedEntry}}
use Rattle.laws_apps.{specs.Placed.{IsPlacedGone, IsPlacedValue, stands_closed, stands_unanswered, waits_at, was_closed, was_given, was_listened}, proofs.Naming.self_same}
use Rattle.laws_apps.proofs.Placed.{one_of, or_first, or_second}
use Rattle.vs_report.specs.declared.giving.Totals.{Totals}
use Rattle.vs_run_report.specs.{Connections.opened_all, Endings.{ending_at, state_at, why_at}, Report.ended_at, Right.IsRightReport, declared.connection.Opened.Opened}
use Rattle.vs_run_report.specs.declared.ending.Ending.{Ending}
use Rattle.laws_run.specs.{Complete.IsCompleteRun, Dry.{AreIdle, stream_open}, Places.{ArePlaceWaits, IsPlaceEnding, IsPlaceWait, LacksClient, LacksPlace, has_line, holds_slot}}
use Rattle.laws_run.{specs.Places.{is_unaccepted, takes_none}, proofs.{Alike.HasApart, Completing.{apart, client_there, closing_full, complete_run, contained, ends, entry_for}}}
use Rattle.laws_run.proofs.{Completing.{flow_known, id_open, id_some, live, on, some_known}, Endings.Ends, Halting.{Halts, Stops, last_of}, Lines.{closed_was_given, given_line}}
use Rattle.laws_run.proofs.{Lines.listened_in, Open.{equivalence, open_stream, pairs_map, pairs_of}, Reporting.{accounted, right_with}}
use Rattle.vs_driver_parts.specs.declared.answers.ConnectionState.TheVariants as seen
use Rattle.vs_driver_parts.specs.declared.answers.Received.TheVariants as got
use Rattle.laws_driver.specs.Carried.Calls as call
use Rattle.vs_apps_parts.specs.declared.journal.WaitsFor.TheVariants as waits
use Rattle.vs_run_report.specs.declared.ending.Ending.TheVariants as ending

-- Which calls wait so.
recv_waits : (r : Received) (why : WaitsFor) → wait_of (told_recv r) ≡ Some why → (why ≢ waits.Full) × (why ≢ waits.NoneWaiting)
recv_waits r why is = grind (arith, common_steps, same_Some)

look_waits : (r : ConnectionState) (why : WaitsFor) → wait_of (told_look r) ≡ Some why → why ≢ waits.Full
look_waits r why is = grind (arith, common_steps, same_Some)

full_call : (c : GuestCall) (s : DriverState) → Stops c waits.Full s → is_full s ≡ true
full_call c s stops = grind (arith, common_steps, recv_waits, look_waits)

-- Connections: one is itself; where all of one list, which differ, are in another, those are no fewer; and what is kept of a list, seen as connections.
same_or_not : (c d : Connection) → Decides (is_same c d) (c ≡ d)
same_or_not c d = (same_connection c d, λ is. ap (is_same c) (sym is) ∙ self_same c)

few : (xs ys : List Connection) → AllPairs (λ c d. c ≢ d) xs → All (Contains ys) xs → length xs ≤ length ys
few xs ys differ all =
    length-le_from_is_member (equivalence same_or_not) xs ys (IsDistinct-from_AllPairs same_or_not xs differ)
    (λ c is. (is_member-Decides same_or_not ys c).1 (All-contains (Contains ys) xs c all ((is_member-Decides same_or_not xs c).0 is)))

seen_more : (c : Connection) (o : Option Connection) (cs : List Connection) → Contains cs c → Contains (cons_option o cs) c
seen_more c None cs within = within
seen_more c (Some d) cs within = Contains-append_right (d ∷ []) cs c within

module _ {A : Type 0} where
  within_seen : (f : A → Option Connection) (keep : A → Bool) (xs : List A) (x : A) (c : Connection) → Contains xs x → keep x ≡ true → f x ≡ Some c
      → Contains (filter_map f (filter keep xs)) c
  within_seen f keep [] x c (k, less, at) kept is = absurd (omega (arith, less))
  within_seen f keep (y ∷ ys) x c (zero, less, at) kept is =
      subst (λ (b : Bool). Contains (filter_map f (cond b (y ∷ filter keep ys) (filter keep ys))) c) (sym (ap keep at ∙ kept))
      (subst (λ (o : Option Connection). Contains (cons_option o (filter_map f (filter keep ys))) c) (sym (ap f at ∙ is)) (0, omega arith, refl))
  within_seen f keep (y ∷ ys) x c (suc k, less, at) kept is = by (keep y) (within_seen f keep ys x c (k, omega (arith, less), at) kept is)
    where
      by : (b : Bool) → Contains (filter_map f (filter keep ys)) c → Contains (filter_map f (cond b (y ∷ filter keep ys) (filter keep ys))) c
      by true rest = seen_more c (f y) (filter_map f (filter keep ys)) rest
      by false rest = rest

  few_seen : (f : A → Option Connection) (xs : List A) → length (filter_map f xs) ≤ length xs
  few_seen f [] = omega arith
  few_seen f (x ∷ xs) = by (f x) (few_seen f xs)
    where
      by : (o : Option Connection) → length (filter_map f xs) ≤ length xs → length (cons_option o (filter_map f xs)) ≤ suc (length xs)
      by None less = omega (arith, less)
      by (Some c) less = omega (arith, less)

-- The id of a stream is one of those of its host; and a stream that is seen as a connection is that one.
in_range : (id : ℕ) (st : Stream) (h : HostContents) → stream_at id h ≡ Some st → Contains (range_with_len 1 (length h.streams)) id
in_range id st h at = by (id == 0) refl at
  where
    by : (b : Bool) → (id == 0) ≡ b → cond b None (slice_get h.streams (id - 1)) ≡ Some st → Contains (range_with_len 1 (length h.streams)) id
    by true none is = absurd cc
    by false none is =
        let some : 1 ≤ id = grind (arith, nat_tests, none) in
        let less = slice_get_within h.streams (id - 1) st is in
        let long = length-range_with_len 1 (length h.streams) in
        let back : 1 + (id - 1) ≡ id = omega (arith, some) in
        (id - 1, omega (arith, less, long), get_or-range_with_len 1 (length h.streams) (id - 1) id less ∙ back)

numbered : (o : Option ℕ) (c : Connection) → 1 ≤ c.number → c ≡ record { flow = c.flow; number = option_map_or (λ place. place + 1) o 0 }
    → option_map (λ place. let d : Connection = record { flow = c.flow; number = place + 1 } in d) o ≡ Some c
numbered None c some is = let none = ap (λ (d : Connection). d.number) is in absurd (omega (arith, none, some))
numbered (Some k) c some is = ap (λ (d : Connection). let o : Option Connection = Some d in o) (sym is)

connection_seen : (id : ℕ) (st : Stream) (c : Connection) (h : HostContents) → 1 ≤ c.number → stream_at id h ≡ Some st → (seen_in h id st).label ≡ Some c
    → connection_at id h ≡ Some c
connection_seen id st c h some at label = grind (arith, common_steps, numbered)

-- An id that waits, of whose list nobody is answered, isn't.
none_answered : (test : ℕ → Bool) (id : ℕ) (ws : List ℕ) → find test ws ≡ None → list_any (λ w. w == id) ws ≡ true → test id ≡ true → ⊥
none_answered test id [] none waits is = absurd cc
none_answered test id (w ∷ ws) none waits is = by (test w) refl (w == id) refl none waits (none_answered test id ws)
  where
    by : (a : Bool) → test w ≡ a → (b : Bool) → (w == id) ≡ b → cond a (Some w) (find test ws) ≡ None → (b || list_any (λ v. v == id) ws) ≡ true
        → (find test ws ≡ None → list_any (λ v. v == id) ws ≡ true → test id ≡ true → ⊥) → ⊥
    by true one b two no_one so rest = absurd cc
    by false one true two no_one so rest = let both : true ≡ false = sym is ∙ ap test (sym (eqb-true w id two)) ∙ one in absurd cc
    by false one false two no_one so rest = rest no_one so is

module _ (script : RunScript) (driver : DriverState) (end : Sight) (apps : List AppState) (entries : List Entry) (bytes : List ℕ) (p : ProxyState)
    (e : DeviceSight) (h : HostContents) (faults : ℕ)
    (run : IsRunOf FIRST_CID script (run_with driver (driver_contents end) apps entries bytes)) (settled : IsSettled driver end p e)
    (steady : IsSteady p (situation (device_contents e) (Some h) faults)) (old stood : Run) (all : AllStand script (length script) old stood)
    (room : old.driver.in_flight < old.driver.size) (same_apps : apps ≡ stood.apps) (same_entries : entries ≡ stood.entries) (polled : Polled) (told past : Run) (heard : told.driver ≡ stood.driver)
    (polls : PollsTo polled told past) (still : poll_moved polled ≡ false) (same_driver : driver ≡ past.driver)
    (streams : IsProxyStreamed FIRST_CID p (situation (device_contents e) (Some h) faults))
    (idle : AreIdle p.device.table (Some h)) where
  abbrev journal : Journal
  journal = calls_of script bytes entries

  abbrev lines : List Opened
  lines = opened_all (length script) entries

  placed : ArePlaced journal driver
  placed = (run.kept.places refl (driver_log end) refl).0

  owned : AreOwned (length script) entries
  owned = (run.kept.places refl (driver_log end) refl).1

  joined : HasApart driver
  joined =
      apart script driver end apps entries bytes p e h faults run settled steady old stood all
      room same_apps same_entries polled told past heard polls still same_driver streams idle

  alive : (x : DriverEntry) → Contains driver.table.entries x → x.value.end.state ≡ Live
  alive =
      live script driver end apps entries bytes p e h faults run settled steady old stood all
      room same_apps same_entries polled told past heard polls still same_driver streams idle

  module _ (opened : ℕ → Connection) (account : IsAccount 1 opened journal entries end.log (slots_of driver)) where
    its_own : (x : DriverEntry) → Contains driver.table.entries x → (s : Stream) × (stream_of (opened x.value.id) h ≡ Some s) × (is_open_in s.state ≡ true)
    its_own x within = open_stream (opened x.value.id) h
        (id_open script driver end apps entries bytes p e h faults run settled steady old stood all
        room same_apps same_entries polled told past heard polls still same_driver streams idle
        opened account x.value.id x within refl)

    -- A connection whose id was closed is shut both ways, so its stream takes nothing.
    shut_full : (x : DriverEntry) → Contains driver.table.entries x → x.value.closed ≡ true → takes_none (opened x.value.id) h ≡ true
    shut_full x within closed =
        let over : (x.value.end.own.send && x.value.end.own.receive) ≡ true =
        ap (λ (st : State). stands_closed st x.value.end.own) (sym (alive x within))
        ∙ (All-contains (IsPlacedEntry journal driver.listeners) driver.table.entries x placed.entries within).value.shut closed in
        let shut = and_parts x.value.end.own.send x.value.end.own.receive over in
        let full = closing_full script driver end apps entries bytes p e h faults run settled steady old stood all
        room same_apps same_entries polled told past heard polls still same_driver streams idle
        opened account x.value.id x within refl shut.0 shut.1 in
        let s = its_own x within in
        ap (λ (o : Option Stream). option_map_or (λ y. is_open_in y.state && option_map_or (λ n. n == 0) y.room false) o false) s.1
        ∙ ap (λ (b : Bool). b && option_map_or (λ n. n == 0) s.0.room false) s.2 ∙ ap (λ (o : Option ℕ). option_map_or (λ n. n == 0) o false) (full s.0 s.1 s.2)

    given_has : (id : ℕ) → was_given id journal ≡ true → has_line opened lines (opened id) ≡ true
    given_has id given = given_line script bytes opened (length script) id (λ o. is_same (opened id) (opened o.id))
        (λ o has named. ap (λ (i : ℕ). is_same (opened id) (opened i)) named ∙ self_same (opened id)) entries owned account.flows given

    -- An id that was closed was given.
    closed_has : (id : ℕ) → 1 ≤ id → was_closed id journal ≡ true → was_given id journal ≡ true
    closed_has = closed_was_given FIRST_CID script (run_with driver (driver_contents end) apps entries bytes) run owned

    in_table : (x : DriverEntry) → Contains driver.table.entries x → 1 ≤ (opened x.value.id).number
    in_table =
        some_known script driver end apps entries bytes p e h faults run settled steady old stood all
        room same_apps same_entries polled told past heard polls still same_driver streams idle
        opened account

    flow_of : (x : DriverEntry) → Contains driver.table.entries x → (opened x.value.id).flow ≡ x.flow
    flow_of =
        flow_known script driver end apps entries bytes p e h faults run settled steady old stood all
        room same_apps same_entries polled told past heard polls still same_driver streams idle
        opened account

    some_id : (x : DriverEntry) → Contains driver.table.entries x → 1 ≤ x.value.id
    some_id =
        id_some script driver end apps entries bytes p e h faults run settled steady old stood all
        room same_apps same_entries polled told past heard polls still same_driver streams idle
        opened account

    in_gone : (g : GoneConnection) → Contains driver.gone g → (1 ≤ (opened g.id).number) × ((opened g.id).flow ≡ g.flow)
    in_gone g within =
        let on = All-contains (ReceivedOn (account_of 1 opened journal) end.log) driver.gone g account.right.received.left within in (on.some, on.flow)

    -- An accept that waits.
    answered : (x : DriverEntry) → Contains driver.table.entries x → was_closed x.value.id journal ≡ false → is_answered driver x.value.id ≡ true
    answered x within shown = by (entry_known_as x.value.id driver) refl
      where
        value : IsPlacedValue journal x.value
        value = (All-contains (IsPlacedEntry journal driver.listeners) driver.table.entries x placed.entries within).value

        passes : is_known_as x.value.id x ≡ true
        passes = ap (λ (b : Bool). b && not x.value.closed) (eq-eqb x.value.id x.value.id refl) ∙ ap (λ (b : Bool). not b) (value.closed ∙ shown)

        settled_one : (y : DriverEntry) → Contains driver.table.entries y → not y.value.unanswered ≡ true
        settled_one y there = at y.value.unanswered refl
          where
            at : (b : Bool) → y.value.unanswered ≡ b → not b ≡ true
            at false is = refl
            at true is =
                let so = (All-contains (IsPlacedEntry journal driver.listeners) driver.table.entries y placed.entries there).value.waits is in
                let no_way : true ≡ false = sym so ∙ ap stands_unanswered (alive y there) in absurd cc

        by : (o : Option DriverEntry) → entry_known_as x.value.id driver ≡ o
            → elim o as (λ _. Bool) [ None ↦ is_some (gone_known_as x.value.id driver) | Some y ↦ not y.value.unanswered ] ≡ true
        by None is =
            let fails = All-contains (λ (y : DriverEntry). is_known_as x.value.id y ≡ false) driver.table.entries x
            (none_found (is_known_as x.value.id) driver.table.entries is) within in
            let no_way : true ≡ false = sym passes ∙ fails in absurd cc
        by (Some y) is =
            settled_one y (contained script driver end apps entries bytes p e h faults run settled steady old stood all
            room same_apps same_entries polled told past heard polls still same_driver streams idle x.value.id y is).0

    lined : (port : ℕ) → next_accepted port driver ≡ None → (c : Connection) → c.flow.guest ≡ port → 1 ≤ c.number → stream_open c h ≡ true
        → has_line opened lines c ≡ true
    lined port none c guest some opens =
        subst (λ (d : Connection). has_line opened lines d ≡ true) r.2 (is_lined (was_closed x.value.id journal) refl)
      where
        r : (y : DriverEntry) × Contains driver.table.entries y × (opened y.value.id ≡ c)
        r =
            entry_for script driver end apps entries bytes p e h faults run settled steady old stood all
            room same_apps same_entries polled told past heard polls still same_driver streams idle
            opened account c some opens

        x : DriverEntry
        x = r.0

        at : IsPlaced journal driver.listeners x.value.id x.flow
        at = (All-contains (IsPlacedEntry journal driver.listeners) driver.table.entries x placed.entries r.1).placed

        waits_none : was_closed x.value.id journal ≡ false → waits_at x.flow.guest x.value.id driver.listeners ≡ true → ⊥
        waits_none shown waiting = found (listener_on port driver.listeners) none
            (subst (λ (n : ℕ). waits_at n x.value.id driver.listeners ≡ true)
            (ap (λ (g : Flow). g.guest) (sym (flow_of x r.1)) ∙ ap (λ (d : Connection). d.flow.guest) r.2 ∙ guest) waiting)
          where
            found : (o : Option Listener) → elim o as (λ _. Option ℕ) [ None ↦ None | Some l ↦ find (is_answered driver) l.waiting ] ≡ None
                → list_any (λ w. w == x.value.id) (option_map_or (λ l. l.waiting) o []) ≡ true → ⊥
            found None is so = absurd cc
            found (Some l) is so = none_answered (is_answered driver) x.value.id l.waiting is so (answered x r.1 shown)

        is_lined : (b : Bool) → was_closed x.value.id journal ≡ b → has_line opened lines (opened x.value.id) ≡ true
        is_lined true closed = given_has x.value.id (closed_has x.value.id (some_id x r.1) closed)
        is_lined false shown =
            one_of (was_given x.value.id journal) (was_closed x.value.id journal) (waits_at x.flow.guest x.value.id driver.listeners) _ at.known
            (given_has x.value.id)
            (λ closed. let no_way : true ≡ false = sym closed ∙ shown in absurd cc) (λ waiting. absurd (waits_none shown waiting))

    lacks_client : (port : ℕ) → is_some (listener_on port driver.listeners) ≡ true → next_accepted port driver ≡ None → LacksClient script opened lines h port
    lacks_client port listens none = record {
      listens = listened_in FIRST_CID script (run_with driver (driver_contents end) apps entries bytes) run owned port (is_listened driver.listeners placed.ports listens);
      lined = lined port none;
    }
      where
        is_listened : (ls : List Listener) → All (λ l. was_listened l.port journal ≡ true) ls → is_some (listener_on port ls) ≡ true → was_listened port journal ≡ true
        is_listened [] each is = absurd cc
        is_listened (l ∷ ls) each is = by (l.port == port) refl is (is_listened ls (All-tail (λ x. was_listened x.port journal ≡ true) l ls each))
          where
            by : (b : Bool) → (l.port == port) ≡ b → is_some (cond b (Some l) (listener_on port ls)) ≡ true
                → (is_some (listener_on port ls) ≡ true → was_listened port journal ≡ true) → was_listened port journal ≡ true
            by true same so rest =
                subst (λ (n : ℕ). was_listened n journal ≡ true) (eqb-true l.port port same) (All-head (λ x. was_listened x.port journal ≡ true) l ls each)
            by false other so rest = rest so

    -- A connect that waits. Each connection that holds a slot is among those that are counted.
    abbrev line_of : Opened → Option Connection
    line_of o = Some (opened o.id)

    abbrev its_stream_of : ℕ → Option Connection
    its_stream_of id = connection_at id h

    abbrev lined_ones : List Opened
    lined_ones = filter (holds_slot opened journal h) lines

    abbrev unaccepted_ones : List ℕ
    unaccepted_ones = filter (is_unaccepted opened lines h) (range_with_len 1 (length h.streams))

    abbrev counted : List Connection
    counted = filter_map line_of lined_ones ++ filter_map its_stream_of unaccepted_ones

    -- One with a line, which holds its slot if that isn't closed, or takes nothing.
    line_counts : (id : ℕ) → 1 ≤ (opened id).number → (not (was_closed id journal) || takes_none (opened id) h) ≡ true
        → has_line opened lines (opened id) ≡ true → Contains counted (opened id)
    line_counts id some holds has =
        let one = Any-from_list_any (λ o. is_same (opened id) (opened o.id)) lines has in
        let o : Opened = one.1 in
        let same : opened id ≡ opened o.id = same_connection (opened id) (opened o.id) one.4 in
        let named : id ≡ o.id = account.right.received.once id o.id some same in
        Contains-append_left (filter_map line_of lined_ones) _ (opened id)
        (within_seen line_of (holds_slot opened journal h) lines o (opened id) (one.0, one.2, one.3)
        (subst (λ (i : ℕ). (not (was_closed i journal) || takes_none (opened i) h) ≡ true) named holds)
        (ap (λ (c : Connection). let p : Option Connection = Some c in p) (sym same)))

    -- One without, which has a stream.
    stream_counts : (c : Connection) → 1 ≤ c.number → host_asks c.flow ≡ true → has_line opened lines c ≡ false → (s : Stream) → stream_of c h ≡ Some s
        → Contains counted c
    stream_counts c some assigned none s is =
        let it = stream_seen h e.sight.log (ports_of (lasting false) p.next_port p.device) p.device.table p.handshakes
        (on script driver end apps entries bytes p e h faults run settled steady old stood all
        room same_apps same_entries polled told past heard polls still same_driver streams idle)
        c some s is in
        let here = connection_seen it.id s c h some it.at it.label in
        Contains-append_right (filter_map line_of lined_ones) _ c
        (within_seen its_stream_of (is_unaccepted opened lines h) (range_with_len 1 (length h.streams)) it.id c (in_range it.id s h it.at)
        (ap (λ (o : Option Stream). option_map_or (λ y. y.by_client) o false && option_map_or (λ d. not (has_line opened lines d)) (connection_at it.id h) false) it.at
        ∙ ap (λ (b : Bool). b && option_map_or (λ d. not (has_line opened lines d)) (connection_at it.id h) false) (it.own.client ∙ assigned)
        ∙ ap (λ (o : Option Connection). option_map_or (λ d. not (has_line opened lines d)) o false) here ∙ ap (λ (b : Bool). not b) none) here)

    -- Where it wasn't given: it waits, so it is a client's.
    of_client : (id : ℕ) (f : Flow) → IsPlaced journal driver.listeners id f → has_line opened lines (opened id) ≡ false → host_asks f ≡ true
    of_client id f at none = by (host_asks f) refl
      where
        by : (b : Bool) → host_asks f ≡ b → host_asks f ≡ true
        by true is = is
        by false is = let no_way : true ≡ false = sym (given_has id (at.own is)) ∙ none in absurd cc

    entry_counts : (x : DriverEntry) → Contains driver.table.entries x → Contains counted (opened x.value.id)
    entry_counts x within = by (has_line opened lines (opened x.value.id)) refl
      where
        at : IsPlacedEntry journal driver.listeners x
        at = All-contains (IsPlacedEntry journal driver.listeners) driver.table.entries x placed.entries within

        holds : (b : Bool) → was_closed x.value.id journal ≡ b → (not (was_closed x.value.id journal) || takes_none (opened x.value.id) h) ≡ true
        holds true closed = or_second (not (was_closed x.value.id journal)) _ (shut_full x within (at.value.closed ∙ closed))
        holds false shown = or_first (not (was_closed x.value.id journal)) _ (ap (λ (b : Bool). not b) shown)

        by : (b : Bool) → has_line opened lines (opened x.value.id) ≡ b → Contains counted (opened x.value.id)
        by true has = line_counts x.value.id (in_table x within) (holds (was_closed x.value.id journal) refl) has
        by false none =
            let s = its_own x within in
            stream_counts (opened x.value.id) (in_table x within)
            (ap (λ (f : Flow). host_asks f) (flow_of x within) ∙ of_client x.value.id x.flow at.placed none) none s.0 s.1

    left_counts : (g : GoneConnection) → Contains driver.gone g → Contains counted (opened g.id)
    left_counts g within = by (has_line opened lines (opened g.id)) refl
      where
        at : IsPlacedGone journal driver.listeners g
        at = All-contains (IsPlacedGone journal driver.listeners) driver.gone g placed.gone within

        by : (b : Bool) → has_line opened lines (opened g.id) ≡ b → Contains counted (opened g.id)
        by true has = line_counts g.id (in_gone g within).0 (or_first (not (was_closed g.id journal)) _ (ap (λ (b : Bool). not b) at.kept)) has
        by false none =
            let asks = ap (λ (f : Flow). host_asks f) (in_gone g within).1 ∙ of_client g.id g.flow at.placed none in
            let s = client_there script driver end apps entries bytes p e h faults run settled steady old stood all
            room same_apps same_entries polled told past heard polls still same_driver streams idle
            opened account g.id (in_gone g within).0 asks in stream_counts (opened g.id) (in_gone g within).0 asks none s.0 s.1

    -- They differ.
    abbrev holders : List Connection
    holders = map (λ x. opened x.value.id) driver.table.entries ++ map (λ g. opened g.id) driver.gone

    holders_differ : AllPairs (λ c d. c ≢ d) holders
    holders_differ =
        pairs_of (λ x. opened x.value.id) driver.table.entries (map (λ g. opened g.id) driver.gone)
        (λ i j d before less same. (run.kept.honest refl (driver_log end) refl).fits.sound.distinct i j d before less
        (sym (flow_of _ (Contains-get_or driver.table.entries i d (omega (arith, before, less)))) ∙ ap (λ (c : Connection). c.flow) same
        ∙ flow_of _ (Contains-get_or driver.table.entries j d less)))
        (pairs_map (λ g. opened g.id) driver.gone (λ i j d before less same. placed.numbers.distinct i j d before less
        (account.right.received.once _ _ (in_gone _ (Contains-get_or driver.gone i d (omega (arith, before, less)))).0 same)))
        (λ k d less. All-map (λ c. opened (slice_index_or driver.table.entries k d).value.id ≢ c) (λ g. opened g.id) driver.gone
        (λ i g within same. placed.numbers.apart i g within k d less
        (account.right.received.once _ _ (in_table _ (Contains-get_or driver.table.entries k d less)) same)))

    holders_count : All (Contains counted) holders
    holders_count =
        All-append (Contains counted) (map (λ x. opened x.value.id) driver.table.entries) _
        (All-map (Contains counted) (λ x. opened x.value.id) driver.table.entries (λ k d less. entry_counts _ (Contains-get_or driver.table.entries k d less)))
        (All-map (Contains counted) (λ g. opened g.id) driver.gone (λ k d less. left_counts _ (Contains-get_or driver.gone k d less)))

    lacks_place : is_full driver ≡ true → LacksPlace opened journal lines h
    lacks_place full =
        let all_held = few holders counted holders_differ holders_count in
        let held = length-append (map (λ x. opened x.value.id) driver.table.entries) (map (λ g. opened g.id) driver.gone) in
        let first = length-map driver.table.entries (λ x. opened x.value.id) in
        let second = length-map driver.gone (λ g. opened g.id) in
        let many = length-append (filter_map line_of lined_ones) (filter_map its_stream_of unaccepted_ones) in
        let own = few_seen line_of lined_ones in
        let its = few_seen its_stream_of unaccepted_ones in
        most (length driver.table.entries + length driver.gone) full (omega (arith, all_held, held, first, second, many, own, its))
      where
        most : (n : ℕ) → nat_le DRIVER_CONNECTIONS n ≡ true → n ≤ length lined_ones + length unaccepted_ones
            → LacksPlace opened journal lines h
        most n is fits = let least : DRIVER_CONNECTIONS ≤ n = grind (arith, nat_tests, is) in omega (arith, least, fits)

    -- Each app.
    halts_so : (k : ℕ) (why : WaitsFor) → Halts old.driver (acts_of k script) (state_at k apps).progress why driver
        → IsPlaceWait script opened journal lines h (acts_of k script) (state_at k apps).progress why
    halts_so k waits.Full halts = lacks_place (full_call halts.call driver (halts.stops joined))
    halts_so k waits.NoneWaiting halts = λ port at.
        let q : Progress = (state_at k apps).progress in
        let act : halts.act ≡ Accept port = same_Some halts.act (Accept port) (sym halts.next ∙ at) in
        let own : halts.call ≡ call.Accept port =
        same_Some halts.call (call.Accept port) (sym halts.last ∙ ap (λ (a : Act). last_of (calls_next a q)) act) in
        let stops : Stops (call.Accept port) waits.NoneWaiting driver = subst (λ (c : GuestCall). Stops c waits.NoneWaiting driver) own (halts.stops joined) in
        lacks_client port stops.0 stops.1
    halts_so k (waits.NoDescriptor n) halts = tt
    halts_so k (waits.NoCredit tx alloc fwd) halts = tt
    halts_so k waits.Empty halts = tt
    halts_so k waits.NotOpen halts = tt

    ends_so : (k : ℕ) → Ends old.driver script k apps entries driver
        → IsPlaceEnding script opened journal lines h (acts_of k script) (state_at k apps).progress (ended_at script apps entries k)
    ends_so k (inl done) =
        subst (λ (b : Bool). IsPlaceEnding script opened journal lines h (acts_of k script) (state_at k apps).progress
        (cond b (ending_at ((state_at k apps).progress.at + 1) (why_at (state_at k apps).waiting entries)) ending.Done)) (sym done) tt
    ends_so k (inr rests) =
        subst (λ (x : Ending). IsPlaceEnding script opened journal lines h (acts_of k script) (state_at k apps).progress x) (sym rests.ended)
        (halts_so k rests.why rests.halts)

  -- The report, with all that is so of it.
  pub complete_report : (opened : ℕ → Connection)
      × ((t : Totals) (before after : ℕ) → t.broken ≡ driver.broken → t.counters.overrun ≡ p.device.overrun → t.counters.dropped ≡ 0
      → (1 ≤ t.counters.faults → one_more before ≤ after) → IsRightReport script apps entries bytes t opened end.log h before after)
      × ((t : Totals) → t.guest_open ≡ length (guest_shown driver) → t.device_open ≡ length (device_shown p.device) → t.counters ≡ counters_of p.device
      → IsCompleteRun script apps entries bytes t p.device.base opened h)
      × ArePlaceWaits script apps entries bytes opened h
  complete_report =
      let of = accounted script driver end apps entries bytes p e h faults run settled steady old stood all same_apps same_entries streams in (
        of.0,
        right_with script driver end apps entries bytes p e h faults run settled steady old stood all same_apps same_entries streams of.0 of.1,
        complete_run script driver end apps entries bytes p e h faults run settled steady old stood all
            room same_apps same_entries polled told past heard polls still same_driver streams idle of.0 of.1,
        λ k less. ends_so of.0 of.1 k
            (ends script driver end apps entries bytes p e h faults run settled steady old stood all
            room same_apps same_entries polled told past heard polls still same_driver streams idle k less),
      )
