-- The last round of a run that settles: each app's step, the device's turn and the driver's poll moved nothing.
use Rattle.std.specs.Prelude.{◌≡◌, ◌≤◌, ◌<◌, ◌+◌, ◌||◌, nat_lt, ℕ, Bool, true, false, length, Option}
use Rattle.vs_outside.specs.Host.{HostContents}
use Rattle.vs_ring_port.specs.{Chains.held_of, declared.queue.Queue.TheVariants.Rx}
use Rattle.vs_ring_rule.specs.declared.view.Past.{Past}
use Rattle.vs_ring_shared.specs.{Meetings.{after_hearing, what_it_did}, Sights.{DeviceSight, device_contents, flight_of}}
use Rattle.vs_driver_parts.specs.declared.answers.Polled.{Polled}
use Rattle.vs_device_parts.specs.Playing.{Runs, situation}
use Rattle.vs_proxy_parts.specs.{State.ProxyState, Turns.turn_of, declared.answers.Turn.Turn, declared.answers.Turned.Turned}
use Rattle.vs_proxy_parts.specs.declared.answers.Turn.TheVariants as turn
use Rattle.vs_apps_parts.specs.Scripts.{RunScript}
use Rattle.laws_apps.specs.{Rounds.AllStand, Runs.PollsTo, Runs.poll_moved}
use Rattle.vs_apps.specs.Guests.{GuestsState, run_in}

-- A turn that did nothing, and whether one did anything. A ring that failed did.
abbrev pub no_turn : Turned
no_turn = record { took = 0; put = 0; read = 0; wrote = 0; opened = 0; closed = 0; hands = 0; event = false }

abbrev pub turn_moved : Turn → Bool
turn_moved (turn.Turned t) =
    nat_lt 0 t.took || (nat_lt 0 t.put || (nat_lt 0 t.read || (nat_lt 0 t.wrote || (nat_lt 0 t.opened || (nat_lt 0 t.closed || (nat_lt 0 t.hands || t.event))))))
turn_moved (turn.Failed f) = true

-- The device's end, but for what it was told and looked up of the driver's.
pub record IsSameEnd (old new : DeviceSight) : Type 0 where
  pub size : new.sight.size ≡ old.sight.size
  pub log : new.sight.log ≡ old.sight.log
  pub held : new.held ≡ old.held
  pub taken : length new.sight.rx.got ≡ length old.sight.rx.got

pub record LastRound (script : RunScript) (g : GuestsState) (p : ProxyState) (e : DeviceSight) (host : Option HostContents) (faults : ℕ)
    : Type 0 where
  -- A step of each app; a page could be put when it began. After it all receive pages of the driver are in flight.
  pub first : GuestsState
  pub room : first.driver.in_flight < first.driver.size
  pub stood : GuestsState
  pub steps : AllStand script (length script) (run_in first) (run_in stood)
  pub flown : length stood.end.rx.put ≡ length stood.end.rx.got + stood.end.size
  -- The device's end was told of all that the driver did, and then made a turn.
  pub was : ProxyState
  pub now : ℕ
  pub before : DeviceSight
  pub over : DeviceSight
  pub host_was : Option HostContents
  pub faults_were : ℕ
  pub told : before.sight.heard ≡ what_it_did stood.end
  pub turn : Runs (turn_of before.sight.size now was) (situation (device_contents before) host_was faults_were) (p, turn.Turned no_turn)
      (situation (device_contents over) host faults)
  pub size : stood.end.size ≡ over.sight.size
  pub same : IsSameEnd over e
  -- The driver's end was told of all that the device did, and then it made a poll.
  pub heard : Past
  pub polled : Polled
  pub still : poll_moved polled ≡ false
  pub past : GuestsState
  pub polls : PollsTo polled (run_in (record stood { end = after_hearing heard stood.end })) (run_in past)
  pub later : Past
  pub ends : g ≡ record past { end = after_hearing later past.end }

-- No transmit page is in flight; and the device loaded an index that shows as many receive pages behind those that it gave back as the queue
-- has descriptors.
pub record IsCounted (g : GuestsState) (e : DeviceSight) : Type 0 where
  pub none_in_flight : (flight_of g.end).tx ≡ 0
  pub all_given : length e.sight.rx.put + held_of Rx e.held ≡ length e.sight.rx.got
      → length e.sight.rx.put + e.sight.size ≤ e.sight.rx.seen
