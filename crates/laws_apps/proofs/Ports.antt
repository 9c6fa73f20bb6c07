-- A step of an app keeps which guest ports connects gave.
use Rattle.std.proofs.Common.{◌≡◌, ◌⊎◌, ℕ, ◌+◌, ◌<◌, ◌≤◌, nat_le, Bool, true, false, List, [], ◌∷◌, length, min, Option, Some, None}
use Rattle.std.proofs.{Common.{Result, Ok, Err, refl, sym, ap, subst, ◌∙◌, arith}, lemmas.{Bool.Decides.nat_tests}}
use Rattle.vs_flow.specs.{declared.flow.Flow.Flow}
use Rattle.vs_limits.specs.declared.TheConstants.{HOST_CID, LAST_PORT}
use Rattle.vs_ring_port.specs.{Contents.RingContents}
use Rattle.laws_tables.specs.Steps.{port_after}
use Rattle.vs_driver_parts.specs.Connections.{after_leaving, all_gone_after_read, connected, entry_closed, entry_grow_answer}
use Rattle.vs_driver_parts.specs.Connections.{entry_read, flow_of, free_flow, grown_by, next_flow, shut_in, without_gone}
use Rattle.vs_driver_parts.specs.{Conversations.{new_of, poll_of}, Listening.{listen_of, listening, next_accepted, with_waiting, without_id}, Playing.Plays}
use Rattle.vs_driver_parts.specs.{Receiving.{after_packet}}
use Rattle.vs_driver_parts.specs.State.{DriverEntry, DriverState, GoneConnection, entry_known_as, gone_known_as}
use Rattle.vs_driver_parts.specs.declared.answers.{ConnectError.ConnectError, ListenError.ListenError, Polled.Polled}
use Rattle.vs_driver_parts.proofs.Clean.{fresh_is, given_to, given_within, may_connect, port_rises}
use Rattle.laws_driver.specs.{Honest.{IsFitState, IsFresh}, Carried.Calls.{Accept, Close, Connect, Grow, GuestCall, Journal, Listen, LookAt, Made, Recv, ReplyTo, Send, Shutdown}}
use Rattle.laws_driver.{specs.Carried.Calls.{Unlisten, flow_opened, whole_call}, proofs.{Calls.new_keeps, Carrying.{Carries, Fact}, Keeping.keeps_end, Polling.poll_keeps}}
use Rattle.laws_driver.proofs.{Staging.Rests, Carried.{Growing.honest_stays, Making.{CarriesCall, whole_with}, Righting.told_before, Sending.begins}}
use Rattle.vs_apps_parts.specs.{Journals.{entry_called, made_of}, Scripts.RunScript, Told.{told_by, told_of, wait_of}, declared.{journal.{Called.Called, Entry.Entry, WaitsFor.WaitsFor}, progress.Stepped.Stepped}}
use Rattle.vs_apps_parts.specs.Scripts.{calls_in, id_of}
use Rattle.laws_driver.proofs.Sighting.{poll_sees}
use Rattle.laws_apps.specs.{Placed.{ArePlaced, HasPlaces, was_given}, Ports.{ArePortsFrom, GivesPorts, GivesPortsWith, IsPort, next_port, port_behind, port_called, port_opened}}
use Rattle.laws_apps.specs.Runs.{CallsNext, HasFlow, IsKept, IsRunOf, MakesCall, MakesCalls, Moves, NotesCall, PollsTo, Run, Steps, Waits, app_at, journal_of}
use Rattle.laws_apps.proofs.{Entries.{behind_snoc, ports_snoc, wait_same}, Giving.AreApps, Keeping.{apps_next, call_keeps, of_apps, own_given, polls_keep, still_given}}
use Rattle.laws_apps.proofs.Placing.{IsOfApps, opened_flow, small_places}
use Rattle.vs_conn.specs.declared.end.Verdict.TheVariants as verdict
use Rattle.vs_apps_parts.specs.declared.journal.Called.TheVariants as called
use Rattle.vs_apps_parts.specs.declared.progress.Stepped.TheVariants as stepped
use Rattle.std.proofs.lemmas.Grind.{common_steps}

-- A poll leaves the driver's next port, and so do all calls but a connect.
leaving_port : (e : DriverEntry) (s : DriverState) → (after_leaving e s).next_port ≡ s.next_port
leaving_port e s = grind (arith, common_steps)

-- The ids of the driver's connections are those that the journal left, and its next port is this one.
abbrev at_port : ℕ → Journal → Fact
at_port n journal part s log = ArePlaced journal s × (s.next_port ≡ n)

poll_ports : (first n : ℕ) (journal : Journal) → Carries true true first (at_port n journal)
poll_ports first n journal =
    let was = small_places journal in
    poll_sees (λ port next table gone ls. HasPlaces journal port next table gone ls × (port ≡ n)) (record {
      pays = λ what e s stands owes x. (was.pays what e s stands owes x.0, x.1);
      hears = λ v p e s stands is x. (was.hears v p e s stands is x.0, x.1);
      leaves = λ e s sound stands x. (was.leaves e s sound stands x.0, leaving_port e s ∙ x.1);
      ends = λ p e s sound stands x. (was.ends p e s sound stands x.0, leaving_port (record e { value = after_packet verdict.Peer p e.value }) s ∙ x.1);
      asks = λ f h s may x. (was.asks f h s may x.0, x.1);
    }) first

-- A connect that opens a connection gives this port, if one is left, and the next one is that behind it.
pub record Opens (n id : ℕ) (s : DriverState) : Type 0 where
  pub flow : Flow
  pub there : flow_of id s ≡ Some flow
  pub guest : n ≤ LAST_PORT → flow.guest ≡ n
  pub next : s.next_port ≡ min (n + 1) (LAST_PORT + 1)

abbrev pub Asks : ℕ → Result ℕ ConnectError → DriverState → Type 0
Asks n (Ok id) s = Opens n id s
Asks n (Err why) s = s.next_port ≡ n

abbrev pub TakesPort : ℕ → (call : GuestCall) → ReplyTo call → DriverState → Type 0
TakesPort n (Connect port) reply s = Asks n reply s
TakesPort n call reply s = s.next_port ≡ n

abbrev takes_port : ℕ → (call : GuestCall) → ReplyTo call → Fact
takes_port n call reply part s log = TakesPort n call reply s

opens_port : (n host : ℕ) (journal : Journal) (s : DriverState) → IsFitState true s → (let f = next_flow HOST_CID host s in
    free_flow HOST_CID host s.next_port s.clean ≡ Some f) → ArePlaced journal s → s.next_port ≡ n → Opens n s.next_id (connected HOST_CID host s)
opens_port n host journal s fits free x at = record {
  flow = f;
  there = opened_flow journal host s fits x;
  guest = λ left.
      let less : nat_le s.next_port LAST_PORT ≡ true = grind (arith, nat_tests, left, at) in
      ap (λ (g : Flow). g.guest) (fresh_is HOST_CID host s.next_port s.clean f less free) ∙ at;
  next = by (nat_le s.next_port LAST_PORT) refl;
}
  where
    f : Flow
    f = next_flow HOST_CID host s

    given : free_flow f.peer f.host s.next_port s.clean ≡ Some f
    given =
        let goes = given_to HOST_CID host s.next_port s.clean f free in
        ap (λ (m : ℕ). free_flow m f.host s.next_port s.clean) goes.peer_is ∙ ap (λ (m : ℕ). free_flow HOST_CID m s.next_port s.clean) goes.port_is ∙ free

    within : port_after s.next_port f.guest ≤ LAST_PORT + 1
    within = given_within s.next_port s.table s.clean fits.clean_sound f given fits.port_left

    by : (b : Bool) → nat_le s.next_port LAST_PORT ≡ b → port_after s.next_port f.guest ≡ min (n + 1) (LAST_PORT + 1)
    by true left =
        let guest = ap (λ (g : Flow). g.guest) (fresh_is HOST_CID host s.next_port s.clean f left free) in
        grind (arith, nat_tests, left, guest, at)
    by false spent = let rises = port_rises s.next_port f.guest in grind (arith, nat_tests, spent, rises, within, at)

-- What calls leave.
module _ (n : ℕ) where
  listened_port : (port : ℕ) (s : DriverState) → s.next_port ≡ n → (r : Result (Unit {0}) ListenError)
      → (elim r as (λ _. DriverState) [ Ok y ↦ listening port s | Err why ↦ s ]).next_port ≡ n
  listened_port port s at (Ok y) = at
  listened_port port s at (Err why) = at

  accepted_port : (port : ℕ) (s : DriverState) → s.next_port ≡ n → (o : Option ℕ)
      → (elim o as (λ _. DriverState) [ None ↦ s | Some id ↦ record s { listeners = with_waiting port (without_id id) s.listeners } ]).next_port ≡ n
  accepted_port port s at None = at
  accepted_port port s at (Some id) = at

  received_port : (id len : ℕ) (s : DriverState) → s.next_port ≡ n → (o : Option DriverEntry)
      → (elim o as (λ _. DriverState) [ Some e ↦ entry_read len e s | None ↦ record s { gone = all_gone_after_read id len s.gone } ]).next_port ≡ n
  received_port id len s is o = grind (arith, common_steps)

  shut_port : (bits : ℕ) (s : DriverState) → s.next_port ≡ n → (o : Option DriverEntry)
      → (elim o as (λ _. DriverState) [ Some e ↦ shut_in e.value.end.state bits e s | None ↦ s ]).next_port ≡ n
  shut_port bits s is o = grind (arith, common_steps)

  grown_port : (alloc : ℕ) (s : DriverState) → s.next_port ≡ n → (o : Option DriverEntry)
      → (elim o as (λ _. DriverState) [ Some e ↦ grown_by (entry_grow_answer alloc e) alloc e s | None ↦ s ]).next_port ≡ n
  grown_port alloc s is o = grind (arith, common_steps)

  closed_port : (id : ℕ) (s : DriverState) → s.next_port ≡ n → (o : Option DriverEntry) (q : Option GoneConnection)
      → (elim o as (λ _. DriverState) [
        | Some e ↦ entry_closed e s
        | None ↦ elim q as (λ _. DriverState) [
          | None ↦ s
          | Some g ↦ record s { gone = without_gone id s.gone; listeners = with_waiting g.flow.guest (without_id id) s.listeners }
        ]
      ]).next_port ≡ n
  closed_port id s is o q = grind (arith, common_steps)

  call_ports : (first : ℕ) (journal : Journal) (call : GuestCall) → IsOfApps call → CarriesCall first call (at_port n journal) (takes_port n call)
  call_ports first journal (Connect port) apps = record {
    refused = λ why s log x. x.1;
    opens = λ s log fits free m was fair x. let o = opens_port n port journal s fits (may_connect HOST_CID port s free).flow x.0 x.1 in
        record { flow = o.flow; there = o.there; guest = o.guest; next = o.next };
  }
  call_ports first journal (Send id bytes) apps = record {
    stopped = λ why s log x. x.1;
    unknown = λ s log none x. x.1;
    empty = λ s log x. x.1;
    full = λ len s log x. x.1;
    wants = λ e s log fits stands m x. x.1;
    sends = λ e len s log fits stands known can few m was fair x. x.1;
  }
  call_ports first journal (Listen port) apps = λ s log fits m x. listened_port port s x.1 (listen_of port s)
  call_ports first journal (Unlisten port) apps = absurd apps
  call_ports first journal (Accept port) apps = λ s log fits m x. accepted_port port s x.1 (next_accepted port s)
  call_ports first journal (Recv id len) apps = λ s log fits m x. received_port id len s x.1 (entry_known_as id s)
  call_ports first journal (Shutdown id bits) apps = λ s log fits m x. shut_port bits s x.1 (entry_known_as id s)
  call_ports first journal (Grow id alloc) apps = λ s log fits m x. grown_port alloc s x.1 (entry_known_as id s)
  call_ports first journal (Close id) apps = λ s log fits m x. closed_port id s x.1 (entry_known_as id s) (gone_known_as id s)
  call_ports first journal (LookAt id) apps = λ s log fits m x. x.1

-- An entry that is noted has the port of the connection that its connect opened.
asked_port : (n b : ℕ) (r : Result ℕ ConnectError) (flow : Option Flow) (s : DriverState) → n ≡ min b (LAST_PORT + 1) → flow ≡ flow_opened r s → Asks n r s
    → IsPort b (port_opened r flow) × (s.next_port ≡ min (next_port b (port_opened r flow)) (LAST_PORT + 1))
asked_port n b r flow s = grind (arith, common_steps)

noted_port : (script : RunScript) (bytes : List ℕ) (k n b : ℕ) (c : Called) (s : DriverState) → n ≡ min b (LAST_PORT + 1) → HasFlow c s
    → (let m = made_of script bytes k c in TakesPort n m.call m.reply s)
    → IsPort b (port_called c) × (s.next_port ≡ min (next_port b (port_called c)) (LAST_PORT + 1))
noted_port script bytes k n b (called.Connect port answer flow) s is has takes = asked_port n b answer flow s is has takes
noted_port script bytes k n b c s is has takes = (tt, takes ∙ is)

-- A call that told to wait opened no connection.
waited_port : (n : ℕ) (call : GuestCall) (reply : ReplyTo call) (s : DriverState) (why : WaitsFor) → wait_of (told_by call reply) ≡ Some why
    → TakesPort n call reply s → s.next_port ≡ n
waited_port n (Connect port) (Ok id) s why is takes = absurd cc
waited_port n (Connect port) (Err e) s why is takes = takes
waited_port n call reply s why is takes = takes

call_notes : (script : RunScript) (k port : ℕ) (m : Made) (old new : Run) (o : Option WaitsFor) → wait_of (told_of m) ≡ o → NotesCall script k m o old new
    → ArePortsFrom port old.entries → TakesPort (min (port_behind port old.entries) (LAST_PORT + 1)) m.call m.reply new.driver
    → GivesPorts port new.entries new.driver
call_notes script k port m old new (Some why) is notes are takes =
    subst (λ (es : List Entry). GivesPorts port es new.driver) (sym notes.0)
    (record { are = are; next = waited_port (min (port_behind port old.entries) (LAST_PORT + 1)) m.call m.reply new.driver why is takes })
call_notes script k port m old new None is notes are takes =
    let b : ℕ = port_behind port old.entries in
    let n : ℕ = min b (LAST_PORT + 1) in
    let noted = noted_port script new.bytes k n b notes.0 new.driver refl notes.5
    (subst (λ (x : Made). TakesPort n x.call x.reply new.driver) (sym notes.1) takes) in
    subst (λ (es : List Entry). GivesPorts port es new.driver) (sym notes.3) (record {
      are = ports_snoc port old.entries (entry_called k notes.0) are noted.0;
      next = noted.1 ∙ ap (λ (x : ℕ). min x (LAST_PORT + 1)) (sym (behind_snoc port old.entries (entry_called k notes.0)));
    })

-- A call, and a poll.
named : (n : ℕ) (call : GuestCall) (reply : ReplyTo call) (t : DriverState) → TakesPort n call reply (record t { in_flight = 0; staged = 0 })
    → TakesPort n call reply t
named n (Connect port) (Ok id) t o = record { flow = o.flow; there = o.there; guest = o.guest; next = o.next }
named n (Connect port) (Err why) t at = at
named n call reply t at = at

module _ (port first : ℕ) (script : RunScript) (k : ℕ) (less : k < length script) where
  abbrev pub Gives : Run → Type 0
  Gives run = GivesPortsWith port run.entries run.driver run.ring

  call_gives : (m : Made) (old new : Run) → MakesCall script k m old new → IsKept first script old → Gives old → Gives new
  call_gives m old new makes kept gives on l is =
      let call = m.call in
      let s = old.driver in
      let x : DriverState × ReplyTo m.call = (new.driver, m.reply) in
      let journal = journal_of script old in
      let n : ℕ = min (port_behind port old.entries) (LAST_PORT + 1) in
      let apps = of_apps script k m.call m.reply old new
      (subst (λ (y : Made). NotesCall script k y (wait_of (told_of y)) old new) makes.plain makes.notes) in
      let before = told_before (whole_call m.call s) old.ring new.ring x makes.plays l is in
      let then = sym (honest_stays (whole_call m.call s) old.ring new.ring x makes.plays) ∙ on in
      let was = gives then before.0 before.1 in
      let rests : Rests true true first (takes_port n m.call m.reply) new.driver new.ring =
      keeps_end _ (whole_call m.call s) old.ring new.ring x
      (whole_with first s old.ring m.call (at_port n journal) (takes_port n m.call) makes.right (call_ports n first journal m.call apps)
      (begins first (at_port n journal) s old.ring before.0 before.1 ((kept.places then before.0 before.1).0, was.next) kept.honest)) makes.plays in
      call_notes script k port m old new (wait_of (told_of m)) refl makes.notes was.are (named n m.call m.reply new.driver (rests on l is).1)

  calls_give : (n : ℕ) (made : List Made) (old new : Run) → AreApps n (calls_in made) → (n ≡ 0) ⊎ (was_given n (journal_of script old) ≡ true)
      → MakesCalls script k made old new → IsKept first script old → Gives old → Gives new
  calls_give n [] old new apps names makes kept gives = subst Gives (sym makes) gives
  calls_give n (m ∷ ms) old new apps names makes kept gives =
      calls_give n ms makes.0 new apps.1 (still_given first script k less n m old makes.0 kept makes.1 names) makes.2
      (call_keeps first script k less n m old makes.0 apps.0 names makes.1 kept) (call_gives m old makes.0 makes.1 kept gives)

-- A poll, and a step of an app.
module _ (port first : ℕ) (script : RunScript) where
  abbrev pub Has : Run → Type 0
  Has run = GivesPortsWith port run.entries run.driver run.ring

  pub polls_give : (old mid : Run) → IsRunOf first script old → (polled : Polled) → PollsTo polled old mid → Has old → Has mid
  polls_give old mid run polled polls gives = subst Has (sym polls.rest) (λ on l is.
      let journal = journal_of script old in
      let n : ℕ = min (port_behind port old.entries) (LAST_PORT + 1) in
      let x : DriverState × Polled = (mid.driver, polled) in
      let before = told_before (poll_of old.driver) old.ring mid.ring x polls.polls l is in
      let then = sym (honest_stays (poll_of old.driver) old.ring mid.ring x polls.polls) ∙ on in
      let was = gives then before.0 before.1 in
      let rests : Rests true true first (at_port n journal) mid.driver mid.ring =
      keeps_end _ (poll_of old.driver) old.ring mid.ring x (poll_keeps true true first (at_port n journal) (poll_ports first n journal) old.driver old.ring
      (begins first (at_port n journal) old.driver old.ring before.0 before.1 ((run.kept.places then before.0 before.1).0, was.next) run.kept.honest)) polls.polls in
      record { are = was.are; next = (rests on l is).1.1 })

  module _ (k : ℕ) (less : k < length script) (mid new : Run) (run : IsRunOf first script mid) (there : Has mid) where
    over_gives : (calls : CallsNext script k mid) → Has calls.over
    over_gives calls =
        calls_give port first script k less (id_of (app_at k mid).progress) calls.made mid calls.over (apps_next first script k mid new less run calls)
        (own_given first script k mid new less run) calls.makes run.kept there

    moves_give : Moves script k mid new → Has new
    moves_give m = subst Has (sym m.moves) (over_gives m.calls)

    waits_give : (why : WaitsFor) → Waits script k why mid new → Has new
    waits_give why w = subst Has (sym w.notes) (λ on l is.
        let same = wait_same script w.calls.over.bytes k why (app_at k mid).waiting w.calls.over.entries in
        let was = over_gives w.calls on l is in record {
          are = same.ports port was.are;
          next = was.next ∙ ap (λ (x : ℕ). min x (LAST_PORT + 1)) (sym (same.behind port));
        })

  pub steps_give : (k : ℕ) → k < length script → (s : Stepped) (moved : Bool) (old new : Run) → IsRunOf first script old → Steps script k s moved old new
      → Has old → Has new
  steps_give k less stepped.OutOfMemory moved old new run steps gives = subst Has (sym steps.1) gives
  steps_give k less stepped.Moved moved old new run steps gives =
      moves_give k less steps.1 new (polls_keep first script old run steps.0 steps.1 steps.2) (polls_give old steps.1 run steps.0 steps.2 gives) steps.4
  steps_give k less (stepped.Waiting why) moved old new run steps gives =
      waits_give k less steps.1 new (polls_keep first script old run steps.0 steps.1 steps.2) (polls_give old steps.1 run steps.0 steps.2 gives) why steps.4
  steps_give k less stepped.Done moved old new run steps gives = subst Has (sym steps.4.1) (polls_give old steps.1 run steps.0 steps.2 gives)

pub new_ports : (size port : ℕ) (c d : RingContents) (s : DriverState) → port ≤ LAST_PORT → IsFresh c → Plays (new_of size port 1) c s d
    → GivesPortsWith port [] s d
new_ports size port c d s fits fresh plays = λ on l is. let at = (kept on l is).1 in record { are = tt; next = omega (arith, at, fits) }
  where
    begins_at : Fact
    begins_at part t log = t.next_port ≡ port

    kept : Rests true true s.cid begins_at s d
    kept = keeps_end (λ t e. Rests true true t.cid begins_at t e) (new_of size port 1) c d s (new_keeps size port 1 fits true begins_at (λ cid. refl) c fresh) plays
