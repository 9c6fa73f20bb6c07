-- The two ends of the world as their connections and their logs, and what it is for one to come of another by their small steps.
use Rattle.std.specs.Prelude.{◌≡◌, List}
use Rattle.laws_tables.specs.{Ends.{Ends, entries_of}, Both.{Both, Happening, MayRun, run}}
use Rattle.vs_page.specs.Log.{Log}
use Rattle.vs_ring_port.specs.EndLog.{EndLog, all_put}
use Rattle.vs_driver_parts.specs.State.{DriverState}
use Rattle.vs_proxy_parts.specs.State.{ProxyState}
use Rattle.laws_world.specs.World.{World}

abbrev pub driver_ends : DriverState → Ends
driver_ends s = record {
  entries = entries_of (λ c. c.end) s.table;
  replies = s.replies;
  clean = s.clean;
  next_port = s.next_port;
  cid = s.cid;
}

abbrev pub device_ends : ProxyState → Ends
device_ends s = record {
  entries = entries_of (λ c. c.end) s.device.table;
  replies = s.device.replies;
  clean = s.device.clean;
  next_port = s.next_port;
  cid = s.device.cid;
}

-- The driver's log with the packets that it staged: they are put already, though not published.
abbrev pub log_with_staged : EndLog → Log
log_with_staged log = all_put log.staged.tx log.entries

abbrev pub both_of : World → Both
both_of w = record {
  driver = record { part = driver_ends w.driver; log = log_with_staged w.rings.driver };
  device = record { part = device_ends w.proxy; log = w.rings.device.entries };
}

-- Small steps, each where it may happen, lead from one to the other.
pub record Runs (b c : Both) : Type 0 where
  pub steps : List Happening
  pub may : MayRun steps b
  pub ends : run steps b ≡ c
