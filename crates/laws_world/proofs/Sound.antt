-- Each event is some of the steps of the two ends.
use Rattle.std.proofs.lemmas.Grind.{common_steps}
use Rattle.std.proofs.Common.{◌≡◌, ℕ, ◌^◌, ◌<◌, ◌≤◌, ◌&&◌, nat_le, Bool, true, false, List, [], ◌∷◌, refl, sym, subst, arith, Some, IfSome, None, Option, is_some, cond}
use Rattle.std.{proofs.lemmas.Bool.{Decides.nat_tests, and_parts}, specs.Option.ForSome}
use Rattle.vs_contents.specs.CallTree.{played, Done}
use Rattle.vs_outside.specs.{HostProgram.{after_fail, after_host_write, after_listen, after_unlisten, allowed, closed, ended, host_write_answer, with_bytes}, Host.HostContents}
use Rattle.vs_outside.specs.{Host.with_stream, declared.mem_stream.HostWritten.HostWritten}
use Rattle.vs_page.specs.Log.{Device, Driver, Log}
use Rattle.vs_ring_port.specs.{DriverCalls.driver_answer, declared.{queue.Queue.Queue, device_ring.Chain.Chain}, Contents.RingContents, EndLog.{EndLog, Pages, all_put}}
use Rattle.vs_ring_port.specs.{Lists.Rings, Chains.Held}
use Rattle.laws_tables.{specs.{Both.{IsSound, Seat}, Ends.Ends}, proofs.Voices.AreVoiced}
use Rattle.vs_driver_parts.specs.{Conversations.{DriverTree, publish_of}, Playing.Plays, State.DriverState, Steps.{takes_page, stages_reply, stages_owed}}
use Rattle.vs_device_parts.specs.{Steps.{takes_chain, returns, puts_event, puts_reply, puts_owed, puts_payload, writes, shuts_write}, Playing.{IsRxChain, situation}}
use Rattle.vs_device_parts.specs.{Calls.{DeviceTree, Situation}, State.{DeviceState, DeviceConnection}, Streams.tick_slot}
use Rattle.vs_proxy_parts.specs.{State.{ProxyState, Turning, start, with_device, Handshake}, Turns.proxy_reset_of, Handshakes.{accept_one, tick_handshake, read_byte}}
use Rattle.vs_proxy_parts.specs.Growing.{after_flow_grow}
use Rattle.laws_world.specs.Events.{Event, GuestCalls, GuestTakes, GuestReplies, GuestPays, GuestPublishes, DeviceTakes, DeviceReturns, DevicePutsEvent, DeviceReplies, DeviceReads}
use Rattle.laws_world.specs.Events.{DevicePays, DeviceWrites, DeviceShutsWrite, DeviceGrows, ProxyAccepts, ProxyReads, Moment, TimesOut, HandshakeTimesOut, Reset, HostListens}
use Rattle.laws_world.specs.Events.{HostUnlistens, ClientConnects, HostWrites, HostTakes, HostEnds, HostCloses, HostFails, at_moment, call_made, device_step, driver_step, happens}
use Rattle.laws_world.specs.Events.{has_failed, holds, holds_event, is_at_rest, is_guest_cid, line_read, none_staged, proxy_step, reset_made, unless_failed, where_possible}
use Rattle.laws_world.specs.{Events.works_on, World.{World, around, device_plays, driver_plays, first_cid}, Answers.answer_around, Pages.TxHolds, Sides.{Runs, both_of}}
use Rattle.laws_world.{specs.Sides.log_with_staged, proofs.{DriverGoes.{After, Before, Left, Walks, call_left, call_walks, poll_left, poll_walks}, DeviceGoes.{carried, cids_kept}}}
use Rattle.laws_world.proofs.{DeviceWalks.{AllHeads, walk as device_walk}, DriverWalks.{Ties, shown, walk}, Runs.{goes_run, keeps_sound, stays}}
use Rattle.laws_world.proofs.{Wire.first_fit, Keeping.Sees, Names.{StaysNamed, WaitsApart, named_from, named_still}}
use Rattle.laws_driver.specs.Carried.{Calls.{Journal, LookAt, is_right, makes_call, GuestCall, ReplyTo, account_of, with_call}, Received.Account, Senders.IsRightJournal}
use Rattle.laws_driver.{specs.{Honest.{IsFitState, ends_of_state, slots_of}, Resets.MarksResets, Staged.IsLeft}, proofs.Carried.{Making.made_with, Polling.IsFurther}}
use Rattle.laws_driver.proofs.{Carried.Sending.puts_as, Carrying.{Carries, Fact, Holds, IsTiedBy, RestsWith}, Stepping.{Works, owed_with, publish_with, reply_with, takes_with}}
use Rattle.laws_driver.proofs.{Keeping.{Keeps, keeps_end, keeps_weaker}, Staging.{Rests, rests_tied, Ties as DriverTies}}
use Rattle.vs_flow.specs.{Connection.Connection, Table.Table}
use Rattle.laws_device.{specs.{Carried.Streamed.{IsStreamed, Ports, changing, ports_of}, Honest.{is_held, IsFitState as IsFitDevice}, Dropped.IsCounted}, proofs.Carried.Changing.StreamedIf}
use Rattle.laws_device.proofs.{Carried.{Changing.listened_host, HostCalls.{client_host, same_host}, Hosts.{counts_still, unseen}}, Carrying.{IsToldBy, StreamedOver, With}, Chains.Among, Seats.Carried}
use Rattle.laws_device.proofs.{Seats.PutsFit, Keeping.{keeps_then, Keeps as DeviceKeeps, keeps_weaker as device_weaker}, Turning.tick_slot_keeps, Dropping.{P, alone, calls}}
use Rattle.laws_device.proofs.{Dropping.{keeps_both, moving, publishes, tx_calls}, Walk.Fields.fields}
use Rattle.vs_limits.specs.declared.TheConstants.{ASSIGNED_FIRST}
use Rattle.vs_ring_list.{proofs.{Held.same_queue_is, Ties.{device_got, driver_got, tied-publish}}, specs.{Ends.device_contents, Sound.IsTied}}
use Rattle.laws_tables.proofs.Going.{stays as seat_stays}
use Rattle.laws_proxy.proofs.{Growing.{flow_grow_proxied, flow_grow_stays}, Shaking.{Goes-on, Turns, accepts, reads_byte, ticks}, Turning.{Proxied, proxy_reset_keeps}}
use Rattle.laws_device.proofs.Walk.Keeping as moved
use Rattle.laws_device.proofs.Walk.Single as one
use Rattle.laws_device.proofs.Stepping as device_steps
use Rattle.vs_ring_port.specs.declared.queue.Queue.TheVariants as q
use Rattle.vs_header.specs.declared.Kind.TheVariants as kind
use Rattle.vs_outside.specs.declared.mem_stream.HostWritten.TheVariants as written

-- The host's program writes.
host_written : (id : ℕ) (bytes : List ℕ) (answer : HostWritten) (c : HostContents) (log : Log) (port : Ports) (t : Table DeviceConnection) (hands : List Handshake)
    → IsStreamed c log port t hands → IsStreamed (after_host_write id bytes answer c) log port t hands
host_written id bytes written.Ok c log port t hands x = same_host c (with_stream id (with_bytes bytes) c) log port t hands
    (unseen id (with_bytes bytes) c (λ st. refl) (λ o st. refl)) refl refl (counts_still id (with_bytes bytes) c (λ st. refl)) x
host_written id bytes written.Ended c log port t hands x = x
host_written id bytes written.NoStream c log port t hands x = x

-- What the device has for REQUESTs, while the host's listeners come and go.
abbrev pub ports_in : World → Ports
ports_in w = ports_of changing w.proxy.next_port w.proxy.device

-- What is true of the device between any two events.
pub record DeviceHolds (next : ℕ) (s : DeviceState) : Type 0 where
  pub fits : IsFitDevice s
  pub port : ASSIGNED_FIRST ≤ next

-- What is true of the world after any list of events.
pub record IsWell (fresh : Type 0) (w : World) : Type 0 where
  pub tied : IsTied w.rings.lists w.rings.driver.entries w.rings.device.entries
  pub sound : IsSound first_cid (both_of w)
  pub driver : IsFitState true w.driver
  pub device : DeviceHolds w.proxy.next_port w.proxy.device
  pub driver_puts : PutsFit (log_with_staged w.rings.driver)
  pub device_puts : PutsFit w.rings.device.entries
  pub pages : TxHolds w.rings.lists w.rings.driver
  -- The receive chain that the device holds is one that it took, and nothing is written into it.
  pub chain : IfSome w.proxy.device.chain IsRxChain
      × (w.proxy.device.failed ≡ None → Among (λ others. Unit {0}) w.proxy.device.chain w.rings.device.held)
  pub heads : AllHeads w.rings.device.held
  pub known : w.rings.lists.cid < 2 ^ 64
  pub broken : w.driver.broken ≡ 0
  pub marks : MarksResets (log_with_staged w.rings.driver)
  -- Ids were given to these connections.
  pub opened : ℕ → Connection
  pub right : IsRightJournal 1 opened w.journal (log_with_staged w.rings.driver) (slots_of w.driver)
  -- Each id waits on one port.
  pub waiting : Sees WaitsApart w.driver
  pub overrun : w.proxy.device.overrun ≡ 0
  pub counted : IsCounted first_cid w.proxy.device.cid w.proxy.device.dropped w.proxy.device.failed w.rings.device.entries
  pub cids : AreVoiced first_cid (both_of w)
  -- Of a host that had no streams at first.
  pub streams : StreamedIf fresh w.host w.rings.device.entries (ports_in w) w.proxy.device.table w.proxy.handshakes

-- From such a world to another: ids keep their connections.
pub record Goes {fresh : Type 0} {w : World} (was : IsWell fresh w) (v : World) : Type 0 where
  pub well : IsWell fresh v
  pub runs : Runs (both_of w) (both_of v)
  pub named : StaysNamed w.driver w.journal v.driver v.journal
  pub on : (id : ℕ) → 1 ≤ (was.opened id).number → well.opened id ≡ was.opened id

pub goes_still : (fresh : Type 0) (w : World) (well : IsWell fresh w) → Goes well w
goes_still fresh w well = record { well = well; runs = stays _ _ refl; named = named_still w.driver w.journal; on = λ id some. refl }

-- Nothing is staged.
pub nothing_staged : (pages : List (List ℕ)) → none_staged pages ≡ true → pages ≡ []
nothing_staged [] is = refl
nothing_staged (page ∷ pages) is = absurd cc

pub tx_at_rest : (staged : Pages) → is_at_rest staged ≡ true → staged.tx ≡ []
tx_at_rest staged is = grind (arith, common_steps)

-- The driver plays a conversation.
module _ (fresh : Type 0) (w : World) (well : IsWell fresh w) where
  abbrev guest : Seat
  guest = (both_of w).driver

  abbrev rings : Rings × EndLog
  rings = (w.rings.lists, w.rings.driver)

  abbrev exposed : Rings × EndLog → RingContents
  exposed r = shown w.rings.device well.device_puts r

  tie : Ties w.rings.device well.device_puts rings
  tie = record { tied = well.tied; cid = well.known; pages = well.pages }

  same_told : {l m : EndLog} → Some l ≡ Some m → l ≡ m
  same_told is = cc

  -- Where nothing is staged, and where packets may be.
  ties_at : (fact : Fact) → Holds fact w.driver (log_with_staged w.rings.driver) → DriverTies true true first_cid fact w.driver (exposed rings)
  ties_at fact held = λ on l is. subst (IsTiedBy true true first_cid fact w.driver) (same_told is) (
    (well.driver, record { none_refused = λ hosts. well.broken; matches = well.sound.matches Driver; fair = well.sound.fair Driver; marks = well.marks }),
    held,
  )

  rests_at : (fact : Fact) → w.rings.driver.staged.tx ≡ [] → Holds fact w.driver (log_with_staged w.rings.driver) → Rests true true first_cid fact w.driver (exposed rings)
  rests_at fact none held = λ on l is. subst (RestsWith true true first_cid fact w.driver) (same_told is) (
    (
      well.driver,
      subst (λ (pages : List (List ℕ)). IsLeft true first_cid w.driver.broken (ends_of_state w.driver) pages w.rings.driver.entries) none
          (record { none_refused = λ hosts. well.broken; matches = well.sound.matches Driver; fair = well.sound.fair Driver; marks = well.marks }),
      none,
    ),
    subst (λ (pages : List (List ℕ)). Holds fact w.driver (all_put pages w.rings.driver.entries)) none held,
  )

  driver_goes : {A : Type 0} (tree : DriverTree A) (state_of : A → DriverState) (fact : A → Fact) (journal : Journal)
      → Keeps (λ x d. DriverTies true true first_cid (fact x) (state_of x) d) tree (exposed rings)
      → (let r = played driver_answer tree rings in Plays tree (exposed rings) r.0 (exposed r.1) → (part : Ends) (s : DriverState) (log : Log)
      → fact r.0 part s log → Left guest well.opened w.driver w.journal journal part s log)
      → Goes well (record (driver_plays tree w).1 { driver = state_of (driver_plays tree w).0; journal = journal })
  driver_goes tree state_of fact journal keeps left =
      let r = played driver_answer tree rings in
      let ends = walk w.rings.device well.device_puts (λ x d. DriverTies true true first_cid (fact x) (state_of x) d) tree rings tie keeps in
      let now = keeps_end _ tree _ _ _ keeps ends.0 refl r.1.1 refl in
      let after = left ends.0 _ _ _ now.1 in
      let runs = goes_run (both_of w).device guest _ after.goes
      (driver_got _ _ _ (tied-publish q.Tx r.1.1.staged.tx r.1.0 r.1.1.entries w.rings.device.entries ends.1.tied now.0.1.fair)) in
      record {
        well = record {
          tied = ends.1.tied;
          sound = keeps_sound first_cid _ _ runs well.sound;
          driver = now.0.0;
          device = well.device;
          driver_puts = after.fits;
          device_puts = well.device_puts;
          pages = ends.1.pages;
          chain = well.chain;
          heads = well.heads;
          known = ends.1.cid;
          broken = now.0.1.none_refused refl;
          marks = now.0.1.marks;
          opened = after.opened;
          right = after.right;
          waiting = after.waiting;
          overrun = well.overrun;
          counted = well.counted;
          cids = cids_kept first_cid _ _ runs well.sound well.cids;
          streams = well.streams;
        };
        runs = runs;
        named = record { closed = after.named.closed; stays = after.named.stays };
        on = after.on;
      }

  -- What a conversation carries from a driver of which no packet is staged.
  pub rests_on : {A : Type 0} (tree : DriverTree A) (state_of : A → DriverState) (before : Fact) (after : A → Fact) → w.rings.driver.staged.tx ≡ []
      → Holds before w.driver (log_with_staged w.rings.driver)
      → (Rests true true first_cid before w.driver (exposed rings) → Keeps (λ x d. Rests true true first_cid (after x) (state_of x) d) tree (exposed rings))
      → let r = played driver_answer tree rings in Holds (after r.0) (state_of r.0) r.1.1.entries
  rests_on tree state_of before after none held keeps =
      let kept = keeps (rests_at before none held) in (keeps_end _ tree _ _ _ kept (walk w.rings.device well.device_puts _ tree rings tie kept).0 refl _ refl).1

  abbrev account : Account
  account = account_of 1 well.opened w.journal

  further : IsFurther account (slots_of w.driver) (log_with_staged w.rings.driver)
  further = (account, record { first_id = refl; opened = λ id some. refl; received = λ id. refl }, well.right.received)

  -- A step that makes no call of the guest's.
  abbrev step_fact : Fact
  step_fact = Walks first_cid guest account (named_from w.driver (LookAt 0)) (puts_as guest.log)

  from_here : (call : GuestCall) → Holds (named_from w.driver call) w.driver guest.log
  from_here call None from = well.waiting
  from_here call (Some x) from = from.0

  at_step : Holds step_fact w.driver guest.log
  at_step = (seat_stays Driver guest guest refl, well.driver_puts, further, from_here (LookAt 0), λ c. refl)

  steps : Carries true true first_cid step_fact
  steps = poll_walks first_cid guest account w.driver guest.log

  step_goes : (step : DriverState → DriverTree DriverState) → Keeps (DriverTies true true first_cid step_fact) (step w.driver) (exposed rings)
      → Goes well (driver_step step w)
  step_goes step keeps = driver_goes (step w.driver) (λ s. s) (λ s. step_fact) w.journal keeps
      (λ plays. poll_left first_cid guest well.opened w.journal w.driver guest.log well.right)

  works_at : (queue : Queue) → works_on queue w.rings.driver.staged ≡ true → Works queue true true first_cid step_fact w.driver (exposed rings)
  works_at q.Tx may = ties_at step_fact at_step
  works_at q.Rx may = rests_at step_fact (nothing_staged w.rings.driver.staged.tx (and_parts _ _ may).0) at_step
  works_at q.Event may = rests_at step_fact (nothing_staged w.rings.driver.staged.tx (and_parts _ _ may).1) at_step

  works_ties : (queue : Queue) (s : DriverState) (c : RingContents) → Works queue true true first_cid step_fact s c → DriverTies true true first_cid step_fact s c
  works_ties q.Tx s c works = works
  works_ties x s c works = rests_tied true true first_cid step_fact s c works

  takes_goes : (queue : Queue) → works_on queue w.rings.driver.staged ≡ true → Goes well (driver_step (takes_page queue) w)
  takes_goes queue may = step_goes (takes_page queue)
      (keeps_weaker (Works queue true true first_cid step_fact) (DriverTies true true first_cid step_fact) (works_ties queue) (takes_page queue w.driver) (exposed rings)
      (takes_with true true first_cid step_fact steps queue w.driver (exposed rings) (works_at queue may)))

  publishes_goes : (queue : Queue) → works_on queue w.rings.driver.staged ≡ true → Goes well (driver_step (publish_of queue) w)
  publishes_goes queue may = step_goes (publish_of queue)
      (keeps_weaker (Rests true true first_cid step_fact) (DriverTies true true first_cid step_fact) (rests_tied true true first_cid step_fact) (publish_of queue w.driver) (exposed rings)
      (publish_with true true first_cid step_fact steps queue w.driver (exposed rings) (works_at queue may)))

  replies_goes : Goes well (driver_step stages_reply w)
  replies_goes = step_goes stages_reply (reply_with true true first_cid step_fact steps w.driver (exposed rings) (ties_at step_fact at_step))

  pays_goes : (slot : ℕ) → Goes well (driver_step (stages_owed slot) w)
  pays_goes slot = step_goes (stages_owed slot) (owed_with true true first_cid step_fact steps slot w.driver (exposed rings) (ties_at step_fact at_step))

  -- A call of the guest's.
  calls_goes : (call : GuestCall) → is_right call ≡ true → w.rings.driver.staged.tx ≡ [] → Goes well (call_made call w).0
  calls_goes call right none =
      let before : Fact = Before first_cid guest account w.driver guest.log call in
      let after : ReplyTo call → Fact = After first_cid guest account w.driver guest.log call in
      driver_goes (makes_call call w.driver) (λ x. x.0) (λ x. after x.1) (with_call call w.driver (call_made call w).1 w.journal)
      (keeps_weaker (λ x d. Rests true true first_cid (after x.1) x.0 d) (λ x d. DriverTies true true first_cid (after x.1) x.0 d) (λ x d rests. rests_tied true true first_cid (after x.1) x.0 d rests)
      (makes_call call w.driver) (exposed rings)
      (made_with first_cid w.driver (exposed rings) call before after right (call_walks first_cid guest account w.driver guest.log call right)
      (rests_at before none (seat_stays Driver guest guest refl, well.driver_puts, further, from_here call, (refl, refl)))))
      (call_left first_cid guest well.opened w.journal w.driver guest.log well.right rings call _ _)

-- The device plays one, and so does the proxy.
module _ (fresh : Type 0) (w : World) (well : IsWell fresh w) where
  abbrev pub carry : Carried
  carry = carried fresh (both_of w) well.sound well.cids

  driver_fit : PutsFit w.rings.driver.entries
  driver_fit = first_fit w.rings.driver.staged.tx w.rings.driver.entries well.driver_puts

  -- What the device finds, where n calls of the host failed so far.
  abbrev pub around_it : ℕ → Situation
  around_it n = situation (device_contents w.rings) (Some w.host) n

  one_told : {A : Type 0} {x y : A} → Some x ≡ Some y → x ≡ y
  one_told is = cc

  pub proxied : (n : ℕ) → Proxied carry first_cid w.proxy (around_it n)
  proxied n = (
    well.device.port,
    (
      well.chain.0,
      record {
        sure = tt;
        told = λ l is. subst (IsToldBy carry (StreamedOver carry w.proxy.handshakes first_cid w.proxy.next_port w.proxy.device)
            first_cid w.proxy.next_port w.proxy.device true (Some w.host))
            (one_told is) (
              well.chain.1,
              λ honest. (
                record {
                  fits = well.device.fits;
                  none_overrun = well.overrun;
                  matches = well.sound.matches Device;
                  fair = well.sound.fair Device;
                  seated = (well.device_puts, λ got. stays _ _ refl);
                },
                λ ok plain h there. subst (λ (c : HostContents). IsStreamed c w.rings.device.entries (ports_in w)
                    w.proxy.device.table w.proxy.handshakes)
                    (one_told there) (well.streams ok),
              ),
            );
      },
    ),
  )

  -- What it counted so far.
  pub counted_now : (n : ℕ) → P first_cid None (fields w.proxy.device) (around_it n)
  counted_now n = grind (arith, common_steps, one_told)

  device_goes : {A : Type 0} (tree : DeviceTree A) (state_of : A → ProxyState) → DeviceKeeps (λ x d. Proxied carry first_cid (state_of x) d) tree (around_it 0)
      → moved.Keeps moving (λ x d. P first_cid None (fields (state_of x).device) d) tree (around_it 0)
      → Goes well (record (device_plays tree w).1 { proxy = state_of (device_plays tree w).0 })
  device_goes {A} tree state_of keeps counting =
      let r = played answer_around tree (around w) in
      let Both_kept : A → Situation → Type 0 = λ x d. Proxied carry first_cid (state_of x) d × P first_cid None (fields (state_of x).device) d in
      let ends = device_walk w.rings driver_fit Both_kept tree (around w) 0 (record {
        tied = well.tied;
        cid = well.known;
        given = (well.pages.0, well.pages.2);
        heads = well.heads;
      }) (keeps_both (λ x d. P first_cid None (fields (state_of x).device) d) (λ x d. Proxied carry first_cid (state_of x) d) tree (around_it 0) keeps counting) in
      let kept_so = ends.1.0 in
      let told = kept_so.1.1.told r.1.log refl in
      let now = told.1 refl in
      let got = device_got _ _ _
      (tied-publish q.Tx w.rings.driver.staged.tx r.1.lists w.rings.driver.entries r.1.log.entries ends.2.tied (well.sound.fair Driver)) in
      let runs = now.0.seated.1 got in
      record {
        well = record {
          tied = ends.2.tied;
          sound = keeps_sound first_cid _ _ runs well.sound;
          driver = well.driver;
          device = record { fits = now.0.fits; port = kept_so.0 };
          driver_puts = well.driver_puts;
          device_puts = now.0.seated.0;
          pages = (ends.2.given.0, well.pages.1, ends.2.given.1);
          chain = (kept_so.1.0, told.0);
          heads = ends.2.heads;
          known = ends.2.cid;
          broken = well.broken;
          marks = well.marks;
          opened = well.opened;
          right = well.right;
          waiting = well.waiting;
          overrun = now.0.none_overrun;
          counted = ends.1.1.told r.1.log refl refl;
          cids = cids_kept first_cid _ _ runs well.sound well.cids;
          streams = λ ok. now.1 ok got r.1.host refl;
        };
        runs = runs;
        named = named_still w.driver w.journal;
        on = λ id some. refl;
      }

  pub all : (held : List Held) → Unit {0}
  all held = tt

  abbrev pub device_with : DeviceState → Situation → Type 0
  device_with = With carry w.proxy.handshakes first_cid w.proxy.next_port

  device_step_goes : (step : DeviceState → DeviceTree DeviceState) → one.Keeping moving (P first_cid) step
      → DeviceKeeps device_with (step w.proxy.device) (around_it 0) → Goes well (device_step step w)
  device_step_goes step counting keeps = device_goes (step w.proxy.device) (λ s. with_device s w.proxy)
      (device_weaker device_with (λ x d. Proxied carry first_cid (with_device x w.proxy) d) (λ x d kept. (well.device.port, kept)) (step w.proxy.device) (around_it 0) keeps)
      (counting w.proxy.device (around_it 0) (counted_now 0))

  proxy_step_goes : (step : Turning → DeviceTree Turning) → one.Turns moving (P first_cid) step
      → DeviceKeeps (Turns carry first_cid) (step (start w.proxy)) (around_it 0) → Goes well (proxy_step step w)
  proxy_step_goes step counting keeps = device_goes (step (start w.proxy)) (λ t. t.state) keeps (counting (start w.proxy) (around_it 0) (counted_now 0))

possible : (fresh : Type 0) (b : Bool) (step : World → World) (w : World) (well : IsWell fresh w) → (b ≡ true → Goes well (step w)) → Goes well (where_possible b step w)
possible fresh true step w well goes = goes refl
possible fresh false step w well goes = goes_still fresh w well

pub none_failed : {A : Type 0} (o : Option A) → is_some o ≡ false → o ≡ None
none_failed None is = refl
none_failed (Some x) is = absurd cc

unfailed : (fresh : Type 0) (step : World → World) (w : World) (well : IsWell fresh w) → (w.proxy.device.failed ≡ None → Goes well (step w))
    → Goes well (unless_failed step w)
unfailed fresh step w well goes = by (has_failed w) refl
  where
    by : (b : Bool) → has_failed w ≡ b → Goes well (cond b w (step w))
    by true is = goes_still fresh w well
    by false is = goes (none_failed w.proxy.device.failed is)

module _ (fresh : Type 0) (w : World) (well : IsWell fresh w) where
  abbrev here : Situation
  here = around_it fresh w well 0

  abbrev kept : Carried
  kept = carry fresh w well

  held_now : device_with fresh w well w.proxy.device here
  held_now = (proxied fresh w well 0).1

  device_goes_on : (step : DeviceState → DeviceTree DeviceState) → one.Keeping moving (P first_cid) step
      → (w.proxy.device.failed ≡ None → DeviceKeeps (device_with fresh w well) (step w.proxy.device) here)
      → Goes well (unless_failed (device_step step) w)
  device_goes_on step counting keeps = unfailed fresh (device_step step) w well (λ going. device_step_goes fresh w well step counting (keeps going))

  proxy_goes_on : (step : Turning → DeviceTree Turning) → one.Turns moving (P first_cid) step
      → DeviceKeeps (Turns kept first_cid) (step (start w.proxy)) here → Goes well (unless_failed (proxy_step step) w)
  proxy_goes_on step counting keeps = unfailed fresh (proxy_step step) w well (λ going. proxy_step_goes fresh w well step counting keeps)

  pub held_there : (chain : Chain) → is_held chain w.rings.device.held ≡ true → ForSome (Some w.rings.device) (λ l. is_held chain l.held ≡ true)
  held_there chain is l there = subst (λ (k : EndLog). is_held chain k.held ≡ true) (one_told fresh w well there) is

  -- The moment and the host change.
  outside_goes : (now : ℕ) (host : HostContents)
      → StreamedIf fresh host w.rings.device.entries (ports_in w) w.proxy.device.table w.proxy.handshakes
      → Goes well (at_moment now (record w { host = host }))
  outside_goes now host streams = record {
    well = record {
      tied = well.tied;
      sound = well.sound;
      driver = well.driver;
      device = record { fits = well.device.fits; port = well.device.port };
      driver_puts = well.driver_puts;
      device_puts = well.device_puts;
      pages = well.pages;
      chain = well.chain;
      heads = well.heads;
      known = well.known;
      broken = well.broken;
      marks = well.marks;
      opened = well.opened;
      right = well.right;
      waiting = well.waiting;
      overrun = well.overrun;
      counted = well.counted;
      cids = well.cids;
      streams = streams;
    };
    runs = stays _ _ refl;
    named = named_still w.driver w.journal;
    on = λ id some. refl;
  }

  host_goes : (host : HostContents)
      → StreamedIf fresh host w.rings.device.entries (ports_in w) w.proxy.device.table w.proxy.handshakes → Goes well (record w { host = host })
  host_goes host streams = outside_goes w.proxy.device.now host streams

  guest_cid_fits : (cid : ℕ) → is_guest_cid cid ≡ true → cid < 2 ^ 64
  guest_cid_fits cid is = grind (arith, common_steps, and_parts)

  pub happens_goes : (e : Event) → Goes well (happens e w)
  happens_goes (GuestCalls call) =
      possible fresh (is_at_rest w.rings.driver.staged && is_right call) (λ v. (call_made call v).0) w well
      (λ may. let parts = and_parts _ _ may in calls_goes fresh w well call parts.1 (tx_at_rest w.rings.driver.staged parts.0))
  happens_goes (GuestTakes queue) = possible fresh (works_on queue w.rings.driver.staged) (driver_step (takes_page queue)) w well (takes_goes fresh w well queue)
  happens_goes GuestReplies =
      possible fresh (works_on q.Tx w.rings.driver.staged) (driver_step stages_reply) w well (λ may. replies_goes fresh w well)
  happens_goes (GuestPays slot) =
      possible fresh (works_on q.Tx w.rings.driver.staged) (driver_step (stages_owed slot)) w well (λ may. pays_goes fresh w well slot)
  happens_goes (GuestPublishes queue) =
      possible fresh (works_on queue w.rings.driver.staged) (driver_step (publish_of queue)) w well (publishes_goes fresh w well queue)
  happens_goes (DeviceTakes queue) = device_goes_on (takes_chain queue)
      (one.takes_keeps moving (P first_cid) (calls first_cid) (tx_calls first_cid) (alone first_cid) queue) (λ going.
      device_steps.takes_keeps kept (all fresh w well) w.proxy.handshakes first_cid w.proxy.next_port w.proxy.device here going held_now queue)
  happens_goes (DeviceReturns chain) = possible fresh (holds q.Tx chain w) (device_step (returns chain)) w well (λ may.
      let parts = and_parts _ _ may in
      device_step_goes fresh w well (returns chain) (one.returns_keeps moving (P first_cid) (calls first_cid) (tx_calls first_cid) (alone first_cid) chain)
      (device_steps.returns_keeps kept (all fresh w well) w.proxy.handshakes first_cid w.proxy.next_port w.proxy.device here held_now
      chain (sym (same_queue_is q.Tx chain.queue parts.0)) (held_there chain parts.1)))
  happens_goes (DevicePutsEvent chain) = possible fresh (holds_event chain w) (device_step (puts_event chain)) w well (λ may.
      let room = and_parts (holds q.Event chain w) (nat_le 4 chain.writable) may in
      let parts = and_parts _ _ room.0 in
      device_step_goes fresh w well (puts_event chain) (one.puts_event_keeps moving (P first_cid) (calls first_cid) (tx_calls first_cid) (alone first_cid) chain)
      (device_steps.puts_event_keeps kept (all fresh w well) w.proxy.handshakes first_cid w.proxy.next_port w.proxy.device here held_now
      chain (sym (same_queue_is q.Event chain.queue parts.0)) (grind (arith, nat_tests, room.1)) (held_there chain parts.1)))
  happens_goes DeviceReplies = device_goes_on puts_reply (one.puts_reply_keeps moving (P first_cid) (calls first_cid)) (λ going.
      device_steps.puts_reply_keeps kept (all fresh w well) w.proxy.handshakes first_cid w.proxy.next_port w.proxy.device here going held_now)
  happens_goes (DeviceReads slot) = device_goes_on (puts_payload slot) (one.puts_payload_keeps moving (P first_cid) (calls first_cid) slot) (λ going.
      device_steps.puts_payload_keeps kept (all fresh w well) w.proxy.handshakes first_cid w.proxy.next_port w.proxy.device here going held_now slot)
  happens_goes (DevicePays slot) = device_goes_on (puts_owed slot) (one.puts_owed_keeps moving (P first_cid) (calls first_cid) slot) (λ going.
      device_steps.puts_owed_keeps kept (all fresh w well) w.proxy.handshakes first_cid w.proxy.next_port w.proxy.device here going held_now slot)
  happens_goes (DeviceWrites slot) = device_goes_on (writes slot) (one.writes_keeps moving (P first_cid) (calls first_cid) slot) (λ going.
      device_steps.writes_keeps kept (all fresh w well) w.proxy.handshakes first_cid w.proxy.next_port w.proxy.device here held_now slot)
  happens_goes (DeviceShutsWrite slot) = device_goes_on (shuts_write slot) (one.shuts_keeps moving (P first_cid) (calls first_cid) slot) (λ going.
      device_steps.shuts_keeps kept (all fresh w well) w.proxy.handshakes first_cid w.proxy.next_port w.proxy.device here held_now slot)
  happens_goes (DeviceGrows flow alloc) =
      device_goes fresh w well (Done (after_flow_grow flow alloc w.proxy)) (λ s. s) (flow_grow_proxied flow alloc w.proxy kept first_cid here (proxied fresh w well 0))
      (flow_grow_stays flow alloc w.proxy (λ d. P first_cid None (fields d) here) (counted_now fresh w well 0) (λ e. counted_now fresh w well 0))
  happens_goes ProxyAccepts = proxy_goes_on accept_one (one.accepts_keeps moving (P first_cid) (calls first_cid))
      (accepts kept first_cid (start w.proxy) here (proxied fresh w well 0))
  happens_goes (ProxyReads stream) = proxy_goes_on (line_read stream)
      (λ t c at. moved.keeps_then moving (λ u d. P first_cid None (fields u.state.device) d)
      (λ r d. P first_cid None (fields r.0.state.device) d) (read_byte stream t) (λ r. Done r.0) c
      (one.line_keeps moving (P first_cid) (calls first_cid) stream t c at) (λ r d now. now))
      (keeps_then (Goes-on kept first_cid) (Turns kept first_cid) (read_byte stream (start w.proxy)) (λ r. Done r.0) here
      (reads_byte kept first_cid stream (start w.proxy) here (proxied fresh w well 0)) line_kept)
    where
      line_kept : (r : Turning × Bool) (d : Situation) → Goes-on kept first_cid r d → Turns kept first_cid r.0 d
      line_kept (t, true) d turns = turns
      line_kept (t, false) d turns = turns
  happens_goes (Moment now) = outside_goes now w.host well.streams
  happens_goes (TimesOut slot) = device_goes_on (tick_slot slot) (one.ticks_keeps moving (P first_cid) (calls first_cid) slot) (λ going.
      tick_slot_keeps kept w.proxy.handshakes first_cid w.proxy.next_port slot w.proxy.device here held_now)
  happens_goes (HandshakeTimesOut stream) = proxy_goes_on (tick_handshake stream) (one.hand_ticks_keeps moving (P first_cid) (calls first_cid) stream)
      (ticks kept first_cid stream (start w.proxy) here (proxied fresh w well 0))
  happens_goes (Reset cid) = possible fresh (is_guest_cid cid) (reset_made cid) w well (λ may.
      device_goes fresh w well (proxy_reset_of cid w.proxy) (λ r. r.0) (proxy_reset_keeps kept first_cid cid w.proxy here (guest_cid_fits cid may) (proxied fresh w well 0))
      (one.reset_keeps moving (P first_cid) (calls first_cid) cid (publishes first_cid cid) w.proxy here (counted_now fresh w well 0)))
  happens_goes (HostListens port) = host_goes _ (λ ok. listened_host w.host (after_listen port kind.Stream w.host).listening _ (ports_in w) _ _ refl (well.streams ok))
  happens_goes (HostUnlistens port) = host_goes _ (λ ok. listened_host w.host (after_unlisten port kind.Stream w.host).listening _ (ports_in w) _ _ refl (well.streams ok))
  happens_goes ClientConnects = host_goes _ (λ ok. client_host w.host _ (ports_in w) _ _ (well.streams ok))
  happens_goes (HostWrites stream bytes) = host_goes _ (λ ok. host_written stream bytes (host_write_answer stream w.host) w.host _ (ports_in w) _ _ (well.streams ok))
  happens_goes (HostTakes stream n) = host_goes _ (λ ok. same_host w.host (with_stream stream (allowed 18446744073709551615 n) w.host) _ (ports_in w) _ _
      (unseen stream (allowed 18446744073709551615 n) w.host (λ st. refl) (λ o st. refl)) refl refl
      (counts_still stream (allowed 18446744073709551615 n) w.host (λ st. refl)) (well.streams ok))
  happens_goes (HostEnds stream) = host_goes _ (λ ok. same_host w.host (with_stream stream ended w.host) _ (ports_in w) _ _ (unseen stream ended w.host (λ st. refl) (λ o st. refl)) refl refl
      (counts_still stream ended w.host (λ st. refl)) (well.streams ok))
  happens_goes (HostCloses stream) = host_goes _ (λ ok. same_host w.host (with_stream stream closed w.host) _ (ports_in w) _ _ (unseen stream closed w.host (λ st. refl) (λ o st. refl)) refl refl
      (counts_still stream closed w.host (λ st. refl)) (well.streams ok))
  happens_goes (HostFails n) = host_goes _ (λ ok. same_host w.host (after_fail n w.host) _ (ports_in w) _ _ (λ j. refl) refl refl (λ f. refl) (well.streams ok))
