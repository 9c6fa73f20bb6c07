-- From a round that moved nothing to ends at rest.
use Rattle.std.proofs.Common.{◌≡◌, ◌≤◌, ◌<◌, ◌+◌, ◌-◌, ◌||◌, ◌⊎◌, inl, inr, ℕ, nat_lt, Bool, true, false, List, [], ◌∷◌, length, Option, Some, None, Result, Ok, Err, IfOk, refl}
use Rattle.std.proofs.{Common.{sym, ap, subst, ◌∙◌, arith}, lemmas.{Bool.Decides.nat_tests, Grind.common_steps, Option.same_Some}}
use Rattle.vs_flow.specs.Table.{IsTable}
use Rattle.vs_limits.specs.declared.TheConstants.{FIRST_CID}
use Rattle.vs_outside.specs.Host.{HostContents}
use Rattle.vs_page.specs.Log.{events_put}
use Rattle.vs_ring_port.specs.{Chains.{Held, chains_of, held_of}, Contents.{Given, RingContents}, Counts.Counts, EndLog.EndLog, DeviceCalls.DeviceAllows}
use Rattle.vs_ring_port.specs.{Known.Known, declared.queue.Queue.{Queue, TheVariants.{Event, Rx, Tx}}}
use Rattle.vs_ring_rule.specs.{Rule.IsFront, declared.view.Past.Past}
use Rattle.vs_ring_shared.specs.{Meetings.{AreOneTable, SawNoMore, TookFirst, after_hearing, what_it_did}, Sights.{DeviceSight, QueueSight, Sight, device_contents, device_log}}
use Rattle.vs_ring_shared.specs.Sights.{driver_contents, driver_log, flight_of, known_of, sight_in, staged_of}
use Rattle.vs_driver_parts.specs.{Playing.IsRingOf, State.DriverState, declared.answers.Polled.Polled}
use Rattle.vs_device_parts.specs.{Playing.{IsItsRing, Runs, held_by, situation}, State.DeviceState}
use Rattle.laws_driver.specs.Honest.{AgreesWith, ends_of_state as driver_ends}
use Rattle.laws_device.specs.Honest.{AgreesWith as DeviceAgreesWith, ends_of_state}
use Rattle.laws_rest.{specs.{Calm.resets_in, Rest.{OwesNothing, has_no_mark}}, proofs.Polls.poll_owes_none}
use Rattle.vs_proxy_parts.specs.{State.ProxyState, Turns.turn_of, declared.answers.{Turn.Turn, Turned.Turned}}
use Rattle.vs_apps_parts.specs.{Scripts.RunScript, declared.progress.Stepped.Stepped}
use Rattle.laws_apps.specs.{Runs.{IsRunOf, PollsTo, Run, Steps, poll_moved}, Rounds.{AllStand, Stands, StandsOnce}}
use Rattle.laws_settled.{specs.{Begun.{IsBegun, Start, StaysBegun}, Settled.{AreOver, IsSettled, IsSteady, LacksPages}}, proofs.Quieting.{turn_owes_none, turn_sound}}
use Rattle.laws_settled.proofs.{Resting.settled, Steady.told_runs, Taking.poll_takes_none}
use Rattle.vs_apps.specs.Guests.{GuestsState, run_in}
use Rattle.vs_settle.specs.Rounds.{IsCounted, IsSameEnd, LastRound, no_turn, turn_moved}
use Rattle.vs_proxy_parts.specs.declared.answers.Turn.TheVariants as turn

-- None of several.
pub neither : (a b : Bool) → (a || b) ≡ false → (a ≡ false) × (b ≡ false)
neither = grind (arith, common_steps)

none : (n : ℕ) (b : Bool) → (nat_lt 0 n || b) ≡ false → (n ≡ 0) × (b ≡ false)
none n b is = let two = neither (nat_lt 0 n) b is in let no = two.0 in (grind (arith, nat_tests, no), two.1)

pub turn_stands : (x : Turn) → turn_moved x ≡ false → x ≡ turn.Turned no_turn
turn_stands (turn.Failed f) is = absurd cc
turn_stands (turn.Turned t) is =
    let took = none t.took _ is in
    let put = none t.put _ took.1 in
    let read = none t.read _ put.1 in
    let wrote = none t.wrote _ read.1 in
    let opened = none t.opened _ wrote.1 in
    let closed = none t.closed _ opened.1 in
    let hands = none t.hands _ closed.1 in
    λ i. turn.Turned (record {
      took = took.0 i;
      put = put.0 i;
      read = read.0 i;
      wrote = wrote.0 i;
      opened = opened.0 i;
      closed = closed.0 i;
      hands = hands.0 i;
      event = hands.1 i;
    })

poll_none : (p : Polled) → poll_moved p ≡ false → (p.took ≡ 0) × (p.posted ≡ 0)
poll_none p is = let took = none p.took _ is in let posted = none p.posted _ took.1 in (took.0, posted.0)

-- A step of an app.
pub step_stands : {E : Type 0} (script : RunScript) (k : ℕ) (s : Stepped) (polled : Bool) (old new : Run) (r : Result Bool E)
    → IfOk r (λ moved. moved ≡ false → Stands s × (polled ≡ false)) → Steps script k s polled old new
    → IfOk r (λ moved. moved ≡ false → StandsOnce script k old new)
step_stands script k s polled old new (Ok moved) stands steps = λ is.
    let both = stands is in (s, both.0, subst (λ (b : Bool). Steps script k s b old new) both.1 steps)
step_stands script k s polled old new (Err e) stands steps = tt

-- What an end is told, and looks up, leaves a proxy steady.
pub steady_log : (s : ProxyState) (c d : RingContents) (host : Option HostContents) (faults : ℕ) → d.log ≡ c.log → d.honest ≡ c.honest
    → IsSteady s (situation c host faults) → IsSteady s (situation d host faults)
steady_log s c d host faults log honest steady = record {
  order = record {
    streams = steady.order.streams;
    ring = (
      steady.order.ring.0,
      (
        steady.order.ring.1.0,
        λ l is. let was = steady.order.ring.1.1 l (sym log ∙ is) in (was.0, λ on. was.1 (sym honest ∙ on)),
      ),
    );
  };
  no_reset = ap resets_in log ∙ steady.no_reset;
  no_event = steady.no_event;
  hosts = λ on l is. steady.hosts (sym honest ∙ on) l (sym log ∙ is);
  exact = steady.exact;
  shut = steady.shut;
}

pub steady_hears : (s : ProxyState) (e d : DeviceSight) (past : Past) (host : Option HostContents) (faults : ℕ)
    → d ≡ record e { sight = after_hearing past e.sight } → IsSteady s (situation (device_contents e) host faults)
    → IsSteady s (situation (device_contents d) host faults)
steady_hears s e d past host faults is =
    steady_log s (device_contents e) (device_contents d) host faults (ap (λ (x : DeviceSight). Some (device_log x)) is) refl

-- So it does of what a run began with.
begun_log : (start : Start) (s : ProxyState) (c d : RingContents) (host : Option HostContents) (faults : ℕ) → d.log ≡ c.log → d.honest ≡ c.honest
    → IsBegun start s (situation c host faults) → IsBegun start s (situation d host faults)
begun_log start s c d host faults log honest begun = record {
  based = begun.based;
  drops = λ on l is. begun.drops (sym honest ∙ on) l (sym log ∙ is);
  streamed = λ unlabelled on l is. begun.streamed unlabelled (sym honest ∙ on) l (sym log ∙ is);
  shaken = λ unlabelled unaccepted on l is. begun.shaken unlabelled unaccepted (sym honest ∙ on) l (sym log ∙ is);
  failed = begun.failed;
}

pub stays_log : (s : ProxyState) (c d : RingContents) (host : Option HostContents) (faults : ℕ) → d.log ≡ c.log → d.honest ≡ c.honest
    → StaysBegun s (situation c host faults) s (situation d host faults)
stays_log s c d host faults log honest = λ start. begun_log start s c d host faults log honest

pub stays_hears : (s : ProxyState) (e d : DeviceSight) (past : Past) (host : Option HostContents) (faults : ℕ)
    → d ≡ record e { sight = after_hearing past e.sight }
    → StaysBegun s (situation (device_contents e) host faults) s (situation (device_contents d) host faults)
stays_hears s e d past host faults is =
    stays_log s (device_contents e) (device_contents d) host faults (ap (λ (x : DeviceSight). Some (device_log x)) is) refl

pub its_ring : (s : DeviceState) (e d : DeviceSight) → d.held ≡ e.held → IsItsRing (chains_of e.held) s → IsItsRing (chains_of d.held) s
its_ring s e d same its = subst (λ (held : List Held). IsItsRing (chains_of held) s) (sym same) its

-- One table, whatever its ends were told.
hears : (queue : Queue) (past : Past) (s : Sight) → sight_in queue (after_hearing past s) ≡ sight_in queue s
hears Rx past s = refl
hears Tx past s = refl
hears Event past s = refl

abbrev SameQueues : Sight → Sight → Type 0
SameQueues s t = (queue : Queue) → sight_in queue s ≡ sight_in queue t

took : (a b c d : Sight) → SameQueues a b → SameQueues d c → TookFirst b c → TookFirst a d
took a b c d one two first = λ queue.
    subst (λ (q : QueueSight). IsFront q.got (sight_in queue d).put) (sym (one queue))
    (subst (λ (q : QueueSight). IsFront (sight_in queue b).got q.put) (sym (two queue)) (first queue))

saw : (a b c d : Sight) → SameQueues a b → SameQueues d c → SawNoMore b c → SawNoMore a d
saw a b c d one two no_more = λ queue.
    subst (λ (q : QueueSight). q.seen ≤ length (sight_in queue d).put) (sym (one queue))
    (subst (λ (q : QueueSight). (sight_in queue b).seen ≤ length q.put) (sym (two queue)) (no_more queue))

pub table_hears : (d e : Sight) (p q : Past) → AreOneTable d e → AreOneTable (after_hearing p d) (after_hearing q e)
table_hears d e p q one = record {
  size = one.size;
  driver_fair = one.driver_fair;
  device_fair = one.device_fair;
  driver_log = record { put = one.driver_log.put; got = one.driver_log.got; events = one.driver_log.events; no_event = one.driver_log.no_event };
  device_log = record { put = one.device_log.put; got = one.device_log.got; events = one.device_log.events; no_event = one.device_log.no_event };
  device_got = one.device_got;
  driver_got = one.driver_got;
  there = took (after_hearing q e) e d (after_hearing p d) (λ queue. hears queue q e) (λ queue. hears queue p d) one.there;
  back = took (after_hearing p d) d e (after_hearing q e) (λ queue. hears queue p d) (λ queue. hears queue q e) one.back;
  saw_there = saw (after_hearing q e) e d (after_hearing p d) (λ queue. hears queue q e) (λ queue. hears queue p d) one.saw_there;
  saw_back = saw (after_hearing p d) d e (after_hearing q e) (λ queue. hears queue p d) (λ queue. hears queue q e) one.saw_back;
  saw_cid = one.saw_cid;
}

pub same_end : (e d : DeviceSight) (past : Past) → d ≡ record e { sight = after_hearing past e.sight } → IsSameEnd e d
same_end e d past is = record {
  size = ap (λ (x : DeviceSight). x.sight.size) is;
  log = ap (λ (x : DeviceSight). x.sight.log) is;
  held = ap (λ (x : DeviceSight). x.held) is;
  taken = ap (λ (x : DeviceSight). length x.sight.rx.got) is;
}

same_then : (a b c : DeviceSight) → IsSameEnd a b → IsSameEnd b c → IsSameEnd a c
same_then a b c one two = record {
  size = two.size ∙ one.size;
  log = two.log ∙ one.log;
  held = two.held ∙ one.held;
  taken = two.taken ∙ one.taken;
}

-- The pages of rx that the driver keeps in flight.
pub rx_flown : (d : DriverState) (s : Sight) → IsRingOf s.size (flight_of s) (staged_of s) d → length s.rx.got ≤ length s.rx.put
    → length s.rx.put ≡ length s.rx.got + s.size
rx_flown d s ring took =
    let staged : length s.rx.staged ≡ 0 = ap (λ (c : Counts). c.rx) ring.staged in
    let flight : length s.rx.put + length s.rx.staged - length s.rx.got ≡ s.size = ap (λ (c : Counts). c.rx) ring.flight in
    omega (arith, took, staged, flight)

-- Where no transmit page is in flight one may be put.
pub has_room : (d : DriverState) (s : Sight) (flying : ℕ) → IsRingOf s.size (flight_of s) (staged_of s) d → 0 < s.size → flying ≡ (flight_of s).tx
    → nat_lt 0 flying ≡ false → d.in_flight < d.size
has_room d s flying ring some flight none =
    let flown : (flight_of s).tx ≡ d.in_flight = ap (λ (c : Counts). c.tx) ring.flight in
    let size = ring.size in
    let zero : flying ≡ 0 = grind (arith, nat_tests, none) in omega (arith, flown, size, some, flight, zero)

-- A round that moved nothing.
pub makes_last : (script : RunScript) (g1 g2 g3 g4 g5 : GuestsState) (e1 e2 e3 e4 : DeviceSight) (was p : ProxyState) (now : ℕ) (a b : Option HostContents)
    (m n : ℕ) (x y : Past) (polled : Polled) → AllStand script (length script) (run_in g1) (run_in g2) → g1.driver.in_flight < g1.driver.size
    → length g2.end.rx.put ≡ length g2.end.rx.got + g2.end.size
    → g3 ≡ record g2 { end = after_hearing x g2.end } → e2 ≡ record e1 { sight = after_hearing (what_it_did g2.end) e1.sight }
    → Runs (turn_of e2.sight.size now was) (situation (device_contents e2) a m) (p, turn.Turned no_turn) (situation (device_contents e3) b n)
    → AreOneTable g3.end e3.sight → g4 ≡ record g3 { end = after_hearing (what_it_did e3.sight) g3.end }
    → e4 ≡ record e3 { sight = after_hearing y e3.sight } → PollsTo polled (run_in g4) (run_in g5) → poll_moved polled ≡ false
    → LastRound script g5 p e4 b n
makes_last script g1 g2 g3 g4 g5 e1 e2 e3 e4 was p now a b m n x y polled steps room flown g3_is e2_is turns fits g4_is e4_is polls still = record {
  first = g1;
  room = room;
  stood = g2;
  steps = steps;
  flown = flown;
  was = was;
  now = now;
  before = e2;
  over = e3;
  host_was = a;
  faults_were = m;
  told = ap (λ (d : DeviceSight). d.sight.heard) e2_is;
  turn = turns;
  size = ap (λ (g : GuestsState). g.end.size) (sym g3_is) ∙ fits.size;
  same = same_end e3 e4 y e4_is;
  heard = what_it_did e3.sight;
  polled = polled;
  still = still;
  past = g5;
  polls = subst (λ (g : GuestsState). PollsTo polled (run_in g) (run_in g5))
      (g4_is ∙ ap (λ (g : GuestsState). let h : GuestsState = record g { end = after_hearing (what_it_did e3.sight) g.end } in h) g3_is) polls;
  later = g5.end.heard;
  ends = refl;
}

pub last_stays : (script : RunScript) (g h : GuestsState) (p : ProxyState) (d e : DeviceSight) (host : Option HostContents) (faults : ℕ) (past : Past)
    → LastRound script g p d host faults → h ≡ record g { end = after_hearing past g.end } → IsSameEnd d e → LastRound script h p e host faults
last_stays script g h p d e host faults past last is same = record {
  first = last.first;
  room = last.room;
  stood = last.stood;
  steps = last.steps;
  flown = last.flown;
  was = last.was;
  now = last.now;
  before = last.before;
  over = last.over;
  host_was = last.host_was;
  faults_were = last.faults_were;
  told = last.told;
  turn = last.turn;
  size = last.size;
  same = same_then last.over d e last.same same;
  heard = last.heard;
  polled = last.polled;
  still = last.still;
  past = last.past;
  polls = last.polls;
  later = past;
  ends = is ∙ ap (λ (x : GuestsState). let y : GuestsState = record x { end = after_hearing past x.end } in y) last.ends;
}

-- What the count of the pages given tells.
none_held : (held : List Held) → chains_of held ≡ [] → held_of Rx held ≡ 0
none_held [] is = refl
none_held (h ∷ held) is = absurd cc

module _ (e d : DeviceSight) (count : ℕ) (size : d.sight.size ≡ e.sight.size) (made : DeviceAllows (Given Rx) count (device_contents e) (device_contents d)) where
  log_is : device_log d ≡ device_log e
  log_is = same_Some (device_log d) (device_log e) made.1.log.1

  pub given_log : Some (device_log d) ≡ Some (device_log e)
  given_log = made.1.log.1

  pub given_same : IsSameEnd e d
  given_same = record {
    size = size;
    log = ap (λ (l : EndLog). l.entries) log_is;
    held = ap (λ (l : EndLog). l.held) log_is;
    taken = (let is = ap (λ (k : Known). k.rx.taken) made.1.known.2.1.is in omega (arith, is));
  }

  pub given_seen : (n : ℕ) → n ≤ count → length d.sight.rx.put + held_of Rx d.held ≡ length d.sight.rx.got → length d.sight.rx.put + n ≤ d.sight.rx.seen
  given_seen n least held =
      let known = made.1.known in
      let shown = ap (λ (k : Known). k.rx.shown) known.2.1.is in
      let within = known.2.0 in
      let holds : known.0 ≡ held_of Rx d.held = known.1 (device_log e) refl ∙ ap (λ (l : EndLog). held_of Rx l.held) (sym log_is) in
      let taken = given_same.taken in
      omega (arith, shown, within, holds, taken, least, held)

-- Both ends when the last round is over.
module _ (script : RunScript) (g : GuestsState) (p : ProxyState) (e : DeviceSight) (host : Option HostContents) (faults : ℕ)
    (last : LastRound script g p e host faults) (run : IsRunOf FIRST_CID script (run_in g))
    (ring : IsRingOf g.end.size (flight_of g.end) (staged_of g.end) g.driver) (some : 0 < g.end.size)
    (took : (queue : Queue) → length (sight_in queue g.end).got ≤ length (sight_in queue g.end).put)
    (steady : IsSteady p (situation (device_contents e) host faults))
    (held : (queue : Queue) → length (sight_in queue e.sight).put + held_of queue e.held ≡ length (sight_in queue e.sight).got)
    (its : IsItsRing (chains_of e.held) p.device) (tied : AreOneTable g.end e.sight) (none_flies : (flight_of g.end).tx ≡ 0)
    (seen : length e.sight.rx.put + g.end.size ≤ e.sight.rx.seen) where
  agrees : AgreesWith true FIRST_CID g.driver (driver_log g.end)
  agrees = run.kept.honest refl (driver_log g.end) refl

  device_agrees : DeviceAgreesWith FIRST_CID p.next_port p.device (device_log e)
  device_agrees = (steady.order.ring.1.1 (device_log e) refl).1 refl

  resets : ◌≡◌ {A = Bool × List ℕ} (has_no_mark e.sight.log, events_put e.sight.log) (true, [])
  resets = same_Some (has_no_mark e.sight.log, events_put e.sight.log) (true, []) steady.no_reset

  quiet : (last.polled.took ≡ 0) × (last.polled.posted ≡ 0)
  quiet = poll_none last.polled last.still

  driver_owes : OwesNothing (driver_ends g.driver)
  driver_owes =
      let same : g.driver ≡ last.past.driver = ap (λ (x : GuestsState). x.driver) last.ends in
      let none : g.driver.in_flight ≡ 0 = ap (λ (c : Counts). c.tx) (sym ring.flight) ∙ none_flies in
      let less : g.driver.in_flight < g.driver.size = omega (arith, none, ring.size, some) in
      subst (λ (d : DriverState). OwesNothing (driver_ends d)) (sym same)
      (poll_owes_none last.stood.driver last.past.driver (driver_contents (after_hearing last.heard last.stood.end)) (driver_contents last.past.end)
      last.polled last.polls.polls quiet.1
      (subst (λ (d : DriverState). d.in_flight < d.size) same less) (subst (λ (d : DriverState). IsTable d.table) same agrees.fits.sound))

  none_back : length last.past.end.rx.got ≡ length last.stood.end.rx.got
  none_back =
      poll_takes_none last.stood.driver last.past.driver (driver_contents (after_hearing last.heard last.stood.end)) (driver_contents last.past.end)
      last.polled last.polls.polls quiet.0

  none_left : LacksPages p.device (device_contents last.over) → length g.end.rx.put ≤ length e.sight.rx.put
  none_left lacks =
      let taken = lacks.taken (known_of last.over.sight) refl in
      let told : length last.over.sight.heard.rx.put ≡ length last.before.sight.heard.rx.put =
      told_runs (turn_of last.before.sight.size last.now last.was) (situation (device_contents last.before) last.host_was last.faults_were)
      (situation (device_contents last.over) host faults) (p, turn.Turned no_turn) last.turn in
      let heard : length last.before.sight.heard.rx.put ≡ length last.stood.end.rx.put = ap (λ (x : Past). length x.rx.put) last.told in
      let same = last.same.taken in
      let holds = held Rx in
      let sound : p.device.failed ≡ None =
      turn_sound last.before.sight.size last.now last.was (situation (device_contents last.before) last.host_was last.faults_were)
      (situation (device_contents last.over) host faults) (p, turn.Turned no_turn) no_turn last.turn refl in
      let zero : held_of Rx e.held ≡ 0 = none_held e.held ((its sound).chains ∙ ap held_by lacks.chain) in
      let flown = last.flown in
      let flies = rx_flown g.driver g.end ring (took Rx) in
      let back : length g.end.rx.got ≡ length last.past.end.rx.got = ap (λ (x : GuestsState). length x.end.rx.got) last.ends in
      let size : last.stood.end.size ≡ g.end.size = last.size ∙ sym last.same.size ∙ sym tied.size in
      omega (arith, taken, told, heard, same, holds, zero, flown, flies, back, none_back, size)

  device_owes : OwesNothing (ends_of_state p.next_port p.device) ⊎ (length g.end.rx.put ≤ length e.sight.rx.put)
  device_owes =
      by (turn_owes_none p.next_port last.before.sight.size last.now last.was (situation (device_contents last.before) last.host_was last.faults_were)
      (situation (device_contents last.over) host faults) (p, turn.Turned no_turn) no_turn last.turn refl refl device_agrees.fits.sound)
    where
      by : OwesNothing (ends_of_state p.next_port p.device) ⊎ LacksPages p.device (device_contents last.over)
          → OwesNothing (ends_of_state p.next_port p.device) ⊎ (length g.end.rx.put ≤ length e.sight.rx.put)
      by (inl owes) = inl owes
      by (inr lacks) = inr (none_left lacks)

  over : AreOver g.end.size g.driver g.end p e
  over = record {
    some = some;
    ring = ring;
    driver_agrees = agrees;
    routed = run.kept.routed refl (driver_log g.end) refl;
    device_agrees = device_agrees;
    no_mark = ap (λ (x : Bool × List ℕ). x.0) resets;
    no_event = ap (λ (x : Bool × List ℕ). x.1) resets;
    hosts = steady.hosts refl (device_log e) refl;
    tied = tied;
    driver_took = took;
    device_took = held;
    none_in_flight = none_flies;
    all_given = (let shown = tied.saw_there Rx in omega (arith, seen, shown));
    driver_owes = driver_owes;
    device_owes = device_owes;
  }

  pub comes_to_rest : IsSettled g.driver g.end p e
  comes_to_rest = settled g.end.size g.driver g.end p e over

-- The same once both ends were told of each other.
module _ (script : RunScript) (g : GuestsState) (p : ProxyState) (e : DeviceSight) (host : Option HostContents) (faults : ℕ) (x y : Past)
    (last : LastRound script g p e host faults) (counted : IsCounted g e) (tied : AreOneTable g.end e.sight)
    (steady : IsSteady p (situation (device_contents e) host faults)) (its : IsItsRing (chains_of e.held) p.device) where
  abbrev told_guests : GuestsState
  told_guests = record g { end = after_hearing x g.end }

  abbrev told_device : DeviceSight
  told_device = record e { sight = after_hearing y e.sight }

  abbrev Rests : GuestsState → DeviceSight → Type 0
  Rests h d = IsRunOf FIRST_CID script (run_in h) → IsRingOf h.end.size (flight_of h.end) (staged_of h.end) h.driver → 0 < h.end.size
      → ((queue : Queue) → length (sight_in queue h.end).got ≤ length (sight_in queue h.end).put)
      → ((queue : Queue) → length (sight_in queue d.sight).put + held_of queue d.held ≡ length (sight_in queue d.sight).got)
      → IsSettled h.driver h.end p d × LastRound script h p d host faults

  told_rests : Rests told_guests told_device
  told_rests run ring some took held =
      let later = last_stays script g told_guests p e told_device host faults x last refl (same_end e told_device y refl) in
      let seen = counted.all_given (held Rx) in
      let size = tied.size in (
        comes_to_rest script told_guests p told_device host faults later run ring some took (steady_hears p e told_device y host faults refl steady) held its
            (table_hears g.end e.sight x y tied) counted.none_in_flight (omega (arith, seen, size)),
        later,
      )

  pub rests_told : (h : GuestsState) (d : DeviceSight) → h ≡ told_guests → d ≡ told_device → Rests h d
  rests_told h d h_is d_is =
      subst (λ (a : GuestsState). Rests a d) (sym h_is) (subst (λ (b : DeviceSight). Rests told_guests b) (sym d_is) told_rests)

-- A round, and then the count of the pages given.
pub counts_last : (script : RunScript) (g : GuestsState) (p : ProxyState) (e d : DeviceSight) (host : Option HostContents) (faults count flying : ℕ)
    (size : d.sight.size ≡ e.sight.size) (made : DeviceAllows (Given Rx) count (device_contents e) (device_contents d))
    → LastRound script g p e host faults → flying ≡ (flight_of g.end).tx → flying ≡ 0 → e.sight.size ≤ count
    → LastRound script g p d host faults × IsCounted g d
counts_last script g p e d host faults count flying size made last flight none least = (
  last_stays script g g p e d host faults g.end.heard last refl (given_same e d count size made),
  record {
    none_in_flight = sym flight ∙ none;
    all_given = given_seen e d count size made d.sight.size (omega (arith, size, least));
  },
)
