-- A driver and a device that settled, as plain data: what the last round tells of both ends.
use Rattle.std.specs.{Prelude.{◌≡◌, ◌≤◌, ◌<◌, ◌+◌, ◌⊎◌, ℕ, true, [], length, Some, None}, Option.ForSome}
use Rattle.vs_conn.specs.End.{ConnectionEnd}
use Rattle.vs_flow.specs.declared.flow.Flow.{Flow}
use Rattle.vs_limits.specs.declared.TheConstants.{FIRST_CID, HOST_CID}
use Rattle.vs_page.specs.Log.{Role, events_put, other_role}
use Rattle.vs_ring_port.specs.{Chains.held_of, Contents.RingContents, declared.queue.Queue.Queue}
use Rattle.vs_ring_shared.specs.{Meetings.AreOneTable, Sights.{DeviceSight, Sight, device_log, driver_log, flight_of, sight_in, staged_of}}
use Rattle.laws_tables.specs.{Both.{Both, at}, Ends.{flows_of, is_among}, Steps.HasEnd}
use Rattle.vs_driver_parts.specs.{Playing.IsRingOf, State.DriverState}
use Rattle.laws_driver.specs.Honest.{AgreesWith, ends_of_state as driver_ends}
use Rattle.vs_device_parts.specs.{Calls.Situation, State.DeviceState}
use Rattle.laws_device.specs.Honest.{AgreesWith as DeviceAgreesWith, ends_of_state as device_ends}
use Rattle.laws_rest.specs.{Calm.{OwesNoEvent, resets_in}, Rest.{ArePaired, IsAtRest, IsRoutedLog, IsWithHost, OwesNothing, has_no_mark}}
use Rattle.vs_proxy_parts.specs.State.{ProxyState}
use Rattle.laws_proxy.specs.Order.{IsInOrder}
use Rattle.laws_settled.specs.{Exact.AreExact, Hosts.{IsHosts, IsHostsWith}, Shut.AreShutBy}

-- A device that stopped for want of a page: it holds none, and took all that it was told of.
pub record LacksPages (s : DeviceState) (ring : RingContents) : Type 0 where
  pub chain : s.chain ≡ None
  pub taken : ForSome ring.known (λ k. k.rx.told ≤ k.rx.taken)

-- A proxy that is in order, whose guest keeps the CID of shared rings, whose packets come from the host, which holds of each connection just the
-- bytes that its end counts as unread, and shuts a direction only where the host's program closed or ended the stream.
pub record IsSteady (s : ProxyState) (a : Situation) : Type 0 where
  pub order : IsInOrder FIRST_CID s a
  pub no_reset : resets_in a.ring.log ≡ Some (true, [])
  pub no_event : OwesNoEvent s.device
  pub hosts : IsHostsWith s a.ring
  pub exact : AreExact s.device.table
  pub shut : AreShutBy s.device.table a.host

-- Both ends, as the laws of rest see them.
abbrev pub ends_at_rest : DriverState → Sight → ProxyState → DeviceSight → Both
ends_at_rest d driver p device = record {
  driver = record { part = driver_ends d; log = driver.log };
  device = record { part = device_ends p.next_port p.device; log = device.sight.log };
}

-- The two ends when the last round is over: they are what their logs left; no transmit page is in flight; the device has all n pages of rx that
-- the driver keeps in flight; the driver owes nothing; and the device owes nothing, or took as many pages as the driver gave, which are
-- n more than it gave back.
pub record AreOver (n : ℕ) (d : DriverState) (driver : Sight) (p : ProxyState) (device : DeviceSight) : Type 0 where
  pub some : 0 < n
  pub ring : IsRingOf n (flight_of driver) (staged_of driver) d
  pub driver_agrees : AgreesWith true FIRST_CID d (driver_log driver)
  pub routed : IsRoutedLog FIRST_CID driver.log
  pub device_agrees : DeviceAgreesWith FIRST_CID p.next_port p.device (device_log device)
  pub no_mark : has_no_mark device.sight.log ≡ true
  pub no_event : events_put device.sight.log ≡ []
  pub hosts : IsHosts (device_ends p.next_port p.device) device.sight.log
  pub tied : AreOneTable driver device.sight
  pub driver_took : (queue : Queue) → length (sight_in queue driver).got ≤ length (sight_in queue driver).put
  pub device_took : (queue : Queue) → length (sight_in queue device.sight).put + held_of queue device.held ≡ length (sight_in queue device.sight).got
  pub none_in_flight : (flight_of driver).tx ≡ 0
  pub all_given : length device.sight.rx.put + n ≤ length driver.rx.put
  pub driver_owes : OwesNothing (driver_ends d)
  pub device_owes : OwesNothing (device_ends p.next_port p.device) ⊎ (length driver.rx.put ≤ length device.sight.rx.put)

-- What holds of them then. Each end took all pages that the other gave, and all packets that it put; neither owes anything. All connections
-- are with the host, both tables hold the same ones, and each is Live at both ends, which know of each other what each told.
pub record IsSettled (d : DriverState) (driver : Sight) (p : ProxyState) (device : DeviceSight) : Type 0 where
  pub at_rest : IsAtRest FIRST_CID (ends_at_rest d driver p device)
  pub with_host : (role : Role) → IsWithHost (at role (ends_at_rest d driver p device)).part
  pub same_flows : (f : Flow) → f.peer ≡ HOST_CID → let b = ends_at_rest d driver p device in
      is_among f (flows_of b.driver.part.entries) ≡ is_among f (flows_of b.device.part.entries)
  pub paired : (role : Role) (f : Flow) (e : ConnectionEnd) → f.peer ≡ HOST_CID → let b = ends_at_rest d driver p device in
      HasEnd f e (at role b).part → (other : ConnectionEnd) × HasEnd f other (at (other_role role) b).part × ArePaired e other
  pub as_many : length (driver_ends d).entries ≡ length (device_ends p.next_port p.device).entries
  pub tx_pages : driver.tx.put ≡ device.sight.tx.got
  pub rx_pages : device.sight.rx.put ≡ driver.rx.got
