-- What an event leads to, and that the next one may happen.
use Rattle.std.proofs.Common.{◌≡◌, ℕ, ◌<◌, ◌^◌, ◌&&◌, ◌↔◌, nat_lt, Bool, true, false, List, [], ◌∷◌, ◌++◌, is_some, Result, Ok, Err, OnOk, OnErr, IsOk, IsTrue, is_ok, refl, sym}
use Rattle.std.proofs.{Common.{ap, subst, ◌∙◌, arith, rules}, lemmas.Bool.Decides.nat_tests}
use Rattle.vs_contents.specs.CallTree.{Done}
use Rattle.vs_outside.specs.Host.{HostContents}
use Rattle.vs_ring_port.specs.{Chains.chains_of, Contents.RingContents, EndLog.EndLog, declared.queue.Queue.Queue}
use Rattle.vs_ring_list.specs.Ends.{Ends, driver_contents, flight_of, staged_of}
use Rattle.vs_driver_parts.specs.{Playing.{IsAtWork, IsRingOf, Plays, SamePages}, Conversations.{DriverTree, publish_of}, Connections.after_unlisten, Listening.listen_of}
use Rattle.vs_driver_parts.specs.{Listening.{listener_on, listening}, State.DriverState, Steps.{stages_owed, stages_reply, takes_page}, declared.answers.ListenError.ListenError}
use Rattle.vs_driver_parts.specs.declared.answers.NotListening.{NotListening}
use Rattle.laws_driver.specs.{Honest.IsHonestWith, Staged.IsWorkingWith, Carried.Calls.{GuestCall, ReplyTo, is_right, makes_call}}
use Rattle.vs_device_parts.specs.{Steps.{takes_chain, returns, puts_event, puts_reply, puts_owed, puts_payload, writes, shuts_write}, Calls.DeviceTree, Playing.IsAmong}
use Rattle.vs_device_parts.specs.{State.DeviceState, Streams.tick_slot}
use Rattle.vs_proxy_parts.specs.{Handshakes.{accept_one, tick_handshake}, State.ProxyState}
use Rattle.laws_world.specs.Events.{Event, call_made, device_step, driver_step, happens, has_failed, holds, is_at_rest, is_guest_cid, line_read, proxy_step, reset_made, run}
use Rattle.laws_world.{specs.{Events.{unless_failed, where_possible, works_on}, World.{World, first_cid, opening}, Over.over_lists}, proofs.OverLists.over}
use Rattle.vs_core.{proofs.Driven.{driven_stays, honest_rest, rested, stepped, works_with}, specs.Ready.{Happens, IsDrivenAtWork, IsReached, IsReady, IsServedAtWork, WorldState}}
use Rattle.vs_core.specs.{Ready.{shown, with_journal}, Views.{Steps, Tells, TellsWhere}, declared.event.Reply.Reply}
use Rattle.vs_ring_port.specs.declared.queue.Queue.TheVariants as q
use Rattle.laws_driver.specs.Carried.Calls as call
use Rattle.laws_world.specs.Events as event

-- What happens doesn't look at the journal.
abbrev plain : World → World
plain w = with_journal [] (shown w)

abbrev IsBlind : (World → World) → World → Type 0
IsBlind f w = shown (f w) ≡ shown (f (plain w))

where_blind : (b : Bool) (f : World → World) (w : World) → IsBlind f w → shown (where_possible b f w) ≡ shown (where_possible b f (plain w))
where_blind true f w blind = blind
where_blind false f w blind = refl

unless_blind : (b : Bool) (f : World → World) (w : World) → has_failed w ≡ b → IsBlind f w → IsBlind (unless_failed f) w
unless_blind true f w is blind = rw is refl
unless_blind false f w is blind = rw is blind

module _ (w : World) where
  works_blind : (queue : Queue) (step : DriverState → DriverTree DriverState)
      → IsBlind (λ v. where_possible (works_on queue v.rings.driver.staged) (driver_step step) v) w
  works_blind queue step = where_blind (works_on queue w.rings.driver.staged) (driver_step step) w refl

  device_blind : (step : DeviceState → DeviceTree DeviceState) → IsBlind (unless_failed (device_step step)) w
  device_blind step = unless_blind (has_failed w) (device_step step) w refl refl

  pub blind : (e : Event) → IsBlind (happens e) w
  blind (event.GuestCalls call) = where_blind (is_at_rest w.rings.driver.staged && is_right call) (λ v. (call_made call v).0) w refl
  blind (event.GuestTakes queue) = works_blind queue (takes_page queue)
  blind event.GuestReplies = works_blind q.Tx stages_reply
  blind (event.GuestPays slot) = works_blind q.Tx (stages_owed slot)
  blind (event.GuestPublishes queue) = works_blind queue (publish_of queue)
  blind (event.DeviceTakes queue) = device_blind (takes_chain queue)
  blind (event.DeviceReturns chain) = where_blind (holds q.Tx chain w) (device_step (returns chain)) w refl
  blind (event.DevicePutsEvent chain) = where_blind (event.holds_event chain w) (device_step (puts_event chain)) w refl
  blind event.DeviceReplies = device_blind puts_reply
  blind (event.DeviceReads slot) = device_blind (puts_payload slot)
  blind (event.DevicePays slot) = device_blind (puts_owed slot)
  blind (event.DeviceWrites slot) = device_blind (writes slot)
  blind (event.DeviceShutsWrite slot) = device_blind (shuts_write slot)
  blind (event.DeviceGrows flow alloc) = refl
  blind event.ProxyAccepts = unless_blind (has_failed w) (proxy_step accept_one) w refl refl
  blind (event.ProxyReads stream) = unless_blind (has_failed w) (proxy_step (line_read stream)) w refl refl
  blind (event.Moment now) = refl
  blind (event.TimesOut slot) = device_blind (tick_slot slot)
  blind (event.HandshakeTimesOut stream) = unless_blind (has_failed w) (proxy_step (tick_handshake stream)) w refl refl
  blind (event.Reset cid) = where_blind (is_guest_cid cid) (reset_made cid) w refl
  blind (event.HostListens port) = refl
  blind (event.HostUnlistens port) = refl
  blind event.ClientConnects = refl
  blind (event.HostWrites stream bytes) = refl
  blind (event.HostTakes stream n) = refl
  blind (event.HostEnds stream) = refl
  blind (event.HostCloses stream) = refl
  blind (event.HostFails n) = refl

-- Nor does a run.
pub run_blind : (es : List Event) (w : World) → shown (run es w) ≡ shown (run es (plain w))
run_blind [] w = refl
run_blind (e ∷ es) w =
    run_blind es (happens e w)
    ∙ (ap (λ (s : WorldState). shown (run es (with_journal [] s))) (blind w e) ∙ sym (run_blind es (happens e (plain w))))

-- One more event.
run_more : (es : List Event) (e : Event) (w : World) → run (es ++ e ∷ []) w ≡ happens e (run es w)
run_more [] e w = refl
run_more (x ∷ es) e w = run_more es e (happens x w)

reached_next : (e : Event) (s : WorldState) → IsReached s → IsReached (shown (happens e (with_journal [] s)))
reached_next e s (how, host, es, is) =
    let w = run es (opening how host) in (
      how,
      host,
      es ++ e ∷ [],
      ap (λ (x : WorldState). shown (happens e (with_journal [] x))) is
          ∙ (sym (blind w e) ∙ ap shown (sym (run_more es e (opening how host)))),
    )

-- An event happened, and what it left is ready.
pub happened : (e : Event) (old new : WorldState) → new ≡ shown (happens e (with_journal [] old)) → IsReady old → IsDrivenAtWork new.driver new.rings
    → IsServedAtWork new.proxy new.rings new.host → Happens e old new
happened e old new is ready driven served = record {
  world = is;
  ready = record { reached = subst IsReached (sym is) (reached_next e old ready.reached); driven = driven; served = served };
}

-- An event that leaves the world as it is.
pub nothing_happened : (e : Event) (old : WorldState) → old ≡ shown (happens e (with_journal [] old)) → IsReady old → Happens e old old
nothing_happened e old is ready = happened e old old is ready ready.driven ready.served

-- What is possible, and what isn't.
pub where_is : (b : Bool) (f : World → World) (w : World) → b ≡ true → where_possible b f w ≡ f w
where_is b f w is = rw is refl

pub where_not : (b : Bool) (f : World → World) (w : World) → b ≡ false → where_possible b f w ≡ w
where_not b f w is = rw is refl

-- What the driver does leaves the device's log.
pub device_stays : {A : Type 0} (tree : DriverTree A) (v w : Ends) (x : A) → over_lists tree v ≡ (x, w) → w.device ≡ v.device
device_stays {A} tree v w x played = sym (ap (λ (r : A × Ends). r.1.device) played)

pub served_rings : (s : ProxyState) (v w : Ends) (h : HostContents) → w.device ≡ v.device → IsServedAtWork s v h → IsServedAtWork s w h
served_rings s v w h same served = record {
  chain = subst (λ (l : EndLog). IsAmong (chains_of l.held) s.device) (sym same) served.chain;
  streams = served.streams;
}

abbrev pub with_driver : WorldState → DriverState → Ends → WorldState
with_driver old s w = record old { driver = s; rings = w }

-- A step of the driver on a queue.
module _ (e : Event) (queue : Queue) (step : DriverState → DriverTree DriverState) (old : WorldState)
    (means : happens e (with_journal [] old) ≡ where_possible (works_on queue old.rings.driver.staged) (driver_step step) (with_journal [] old))
    (ready : IsReady old) where
  steps_on : (s : DriverState) (w : Ends) → works_on queue old.rings.driver.staged ≡ true → over_lists (step old.driver) old.rings ≡ (s, w) → IsDrivenAtWork s w
      → Happens e old (with_driver old s w)
  steps_on s w works played driven =
      let is : shown (driver_step step (with_journal [] old)) ≡ with_driver old s w = ap (λ (r : DriverState × Ends). with_driver old r.0 r.1) played in
      happened e old (with_driver old s w)
      (sym (ap shown (means ∙ where_is _ (driver_step step) (with_journal [] old) works) ∙ is))
      ready driven (served_rings old.proxy old.rings w old.host (device_stays (step old.driver) old.rings w s played) ready.served)

  -- After one the pages that it stages, or those staged before, are the driver's; after a publish none is staged.
  module _ (works : works_on queue old.rings.driver.staged ≡ true) (s : DriverState) (w : Ends)
      (played : Plays (step old.driver) (driver_contents old.rings) s (driver_contents w)) where
    pub stages_on : IsAtWork queue w.lists.size (flight_of w) (staged_of w) s
        → ((hosts : Bool) (first : ℕ) → IsWorkingWith queue hosts first old.driver (driver_contents old.rings) → IsWorkingWith queue hosts first s (driver_contents w))
        → Happens e old (with_driver old s w)
    stages_on ring honest =
        steps_on s w works (over (step old.driver) old.rings w s played)
        (stepped queue s w ring (honest true first_cid (works_with queue old.driver old.rings works ready.driven)))

    pub publishes_on : IsRingOf w.lists.size (flight_of w) (staged_of w) s
        → ((hosts : Bool) (first : ℕ) → IsWorkingWith queue hosts first old.driver (driver_contents old.rings) → IsHonestWith hosts first s (driver_contents w))
        → Happens e old (with_driver old s w)
    publishes_on ring honest =
        steps_on s w works (over (step old.driver) old.rings w s played)
        (rested s w ring (honest true first_cid (works_with queue old.driver old.rings works ready.driven)))

  pub works_elsewhere : works_on queue old.rings.driver.staged ≡ false → Happens e old old
  works_elsewhere works =
      nothing_happened e old (sym (ap shown (means ∙ where_not _ (driver_step step) (with_journal [] old) works))) ready

-- A port has 32 bits.
pub right_port : (port : ℕ) → port < 2 ^ 32 → nat_lt port (2 ^ 32) ≡ true
right_port port fits = grind (arith, nat_tests, fits)

-- A call of the guest's.
module _ (c : GuestCall) (old : WorldState) (ready : IsReady old) where
  abbrev possible : Bool
  possible = is_at_rest old.rings.driver.staged && is_right c

  calls_on : (s : DriverState) (answer : ReplyTo c) (w : Ends) (told : Reply) → is_at_rest old.rings.driver.staged ≡ true → is_right c ≡ true
      → over_lists (makes_call c old.driver) old.rings ≡ ((s, answer), w) → IsDrivenAtWork s w → Tells c answer told
      → Steps (event.GuestCalls c) old (with_driver old s w) told
  calls_on s answer w told rest right played driven tells =
      let may : possible ≡ true = rw (rest, right) refl in
      let after : World → World = λ v. (call_made c v).0 in
      let is : shown (after (with_journal [] old)) ≡ with_driver old s w =
      ap (λ (r : (DriverState × ReplyTo c) × Ends). with_driver old r.0.0 r.1) played in
      let same : (call_made c (with_journal [] old)).1 ≡ answer = ap (λ (r : (DriverState × ReplyTo c) × Ends). r.0.1) played in
      record {
        happened =
            happened (event.GuestCalls c) old (with_driver old s w)
            (sym (ap shown (where_is possible after (with_journal [] old) may) ∙ is))
            ready driven (served_rings old.proxy old.rings w old.host (device_stays (makes_call c old.driver) old.rings w (s, answer) played) ready.served);
        answer =
            subst (λ b. TellsWhere b c (call_made c (with_journal [] old)).1 told) (sym may)
            (subst (λ a. Tells c a told) (sym same) tells);
      }

  -- One that puts a page.
  pub sends_on : (s : DriverState) (answer : ReplyTo c) (w : Ends) (told : Reply) → is_at_rest old.rings.driver.staged ≡ true → is_right c ≡ true
      → Plays (makes_call c old.driver) (driver_contents old.rings) (s, answer) (driver_contents w)
      → IsRingOf w.lists.size (flight_of w) (staged_of w) s
      → ((hosts : Bool) (first : ℕ) → IsHonestWith hosts first old.driver (driver_contents old.rings) → IsHonestWith hosts first s (driver_contents w))
      → Tells c answer told → Steps (event.GuestCalls c) old (with_driver old s w) told
  sends_on s answer w told rest right played ring honest tells =
      calls_on s answer w told rest right (over (makes_call c old.driver) old.rings w (s, answer) played)
      (rested s w ring (honest true first_cid (honest_rest old.driver old.rings rest ready.driven))) tells

  -- One that leaves the rings.
  pub calls : (s : DriverState) (answer : ReplyTo c) (told : Reply) → is_at_rest old.rings.driver.staged ≡ true → is_right c ≡ true
      → makes_call c old.driver ≡ Done (s, answer) → IsDrivenAtWork s old.rings → Tells c answer told
      → Steps (event.GuestCalls c) old (with_driver old s old.rings) told
  calls s answer told rest right made driven tells =
      calls_on s answer old.rings told rest right (ap (λ t. over_lists t old.rings) made) driven tells

  -- And the driver's pages.
  pub calls_in : (s : DriverState) (answer : ReplyTo c) (told : Reply) → is_at_rest old.rings.driver.staged ≡ true → is_right c ≡ true
      → makes_call c old.driver ≡ Done (s, answer) → SamePages old.driver s
      → ((hosts : Bool) (first : ℕ) (ring : RingContents) → IsHonestWith hosts first old.driver ring → IsHonestWith hosts first s ring)
      → Tells c answer told → Steps (event.GuestCalls c) old (with_driver old s old.rings) told
  calls_in s answer told rest right made same honest tells =
      calls s answer told rest right made (driven_stays old.driver s same honest old.rings rest ready.driven) tells

-- What a listen made, and an unlisten.
abbrev listened : ℕ → DriverState → Result (Unit {0}) ListenError → DriverTree (DriverState × Result (Unit {0}) ListenError)
listened port s q = Done (elim q [ Ok x ↦ listening port s | Err why ↦ s ], q)

pub listen_made : (port : ℕ) (s t : DriverState) (r : Result (Unit {0}) ListenError) → r ≡ listen_of port s → OnOk r (t ≡ listening port s)
    → OnErr r (t ≡ s) → makes_call (call.Listen port) s ≡ Done (t, r)
listen_made port s t (Ok x) is ok err = subst (λ q. listened port s q ≡ Done (t, Ok x)) is (ap (λ v. Done (v, Ok x)) (sym ok))
listen_made port s t (Err why) is ok err = subst (λ q. listened port s q ≡ Done (t, Err why)) is (ap (λ v. Done (v, Err why)) (sym err))

found_is : (found : Bool) (r : Result (Unit {0}) NotListening) → IsOk r ↔ IsTrue found → found ≡ is_ok r
found_is true (Ok x) answer = refl
found_is true (Err why) answer = search rules
found_is false (Ok x) answer = search rules
found_is false (Err why) answer = refl

abbrev unlistened : ℕ → DriverState → Bool → DriverTree (DriverState × Bool)
unlistened port s found = Done (elim found [ true ↦ after_unlisten port s | false ↦ s ], found)

pub unlisten_made : (port : ℕ) (s t : DriverState) (r : Result (Unit {0}) NotListening) (b : Bool) → b ≡ is_ok r
    → IsOk r ↔ IsTrue (is_some (listener_on port s.listeners)) → OnOk r (t ≡ after_unlisten port s) → OnErr r (t ≡ s)
    → makes_call (call.Unlisten port) s ≡ Done (t, b)
unlisten_made port s t (Ok x) b is answer ok err =
    subst (λ q. unlistened port s q ≡ Done (t, b)) (sym (found_is _ (Ok x) answer))
    (subst (λ k. unlistened port s true ≡ Done (t, k)) (sym is) (ap (λ v. Done (v, true)) (sym ok)))
unlisten_made port s t (Err why) b is answer ok err =
    subst (λ q. unlistened port s q ≡ Done (t, b)) (sym (found_is _ (Err why) answer))
    (subst (λ k. unlistened port s false ≡ Done (t, k)) (sym is) (ap (λ v. Done (v, false)) (sym err)))
