-- The world of one thread: a driver, a device with its proxy, what is in flight between them, the host, and the calls that the guest made.
use Rattle.std.specs.Prelude.{◌≡◌, refl, ℕ, nat_le, true, List, []}
use Rattle.vs_contents.specs.CallTree.{played}
use Rattle.vs_ring_port.specs.DriverCalls.{driver_answer}
use Rattle.vs_ring_list.specs.Ends.{Ends, empty_ends}
use Rattle.vs_outside.specs.{Host.HostContents, HostProgram.new_host, HostProgram.plain}
use Rattle.vs_driver_parts.specs.{State.DriverState, Conversations.DriverTree, Conversations.new_of}
use Rattle.vs_limits.specs.declared.TheConstants.{FIRST_CID, FIRST_PORT, LAST_PORT}
use Rattle.vs_device_parts.specs.Calls.{DeviceTree}
use Rattle.vs_proxy_parts.specs.{State.ProxyState, Turns.new_proxy}
use Rattle.laws_world.specs.Answers.{Around, answer_around}
use Rattle.laws_driver.specs.Carried.Calls.{Journal}

pub record World : Type 0 where
  pub driver : DriverState
  -- It has the device and the moment.
  pub proxy : ProxyState
  -- The pages in flight, and the log of each end.
  pub rings : Ends
  pub host : HostContents
  pub journal : Journal

-- A conversation of the driver over the world's rings.
abbrev pub driver_plays : {A : Type 0} → DriverTree A → World → A × World
driver_plays tree w =
    let r = played driver_answer tree (w.rings.lists, w.rings.driver) in
    (r.0, record w { rings = record w.rings { lists = r.1.0; driver = r.1.1 } })

-- A conversation of the device or the proxy over the world's rings and its host.
abbrev pub around : World → Around
around w = record { lists = w.rings.lists; log = w.rings.device; host = w.host }

abbrev pub device_plays : {A : Type 0} → DeviceTree A → World → A × World
device_plays tree w =
    let r = played answer_around tree (around w) in
    (r.0, record w { rings = record w.rings { lists = r.1.lists; device = r.1.log }; host = r.1.host })

-- The guest's CID before the first transport reset.
abbrev pub first_cid : ℕ
first_cid = FIRST_CID

-- A host at which nobody listens, with this base path.
abbrev pub opened_host : List ℕ → HostContents
opened_host base = (new_host base [] plain).contents

-- The world in which nothing has happened yet: a driver and a proxy just made over empty rings of n pages each, where this is the guest's
-- first port.
abbrev pub opened : ℕ → ℕ → HostContents → World
opened n first host =
    let made = played driver_answer (new_of n first 1) ((empty_ends n).lists, (empty_ends n).driver) in
    record {
      driver = made.0;
      proxy = new_proxy first_cid host.base;
      rings = record (empty_ends n) { lists = made.1.0; driver = made.1.1 };
      host = host;
      journal = [];
    }

-- How a world begins: with so many pages of each queue, and the guest's first port, none above its last one.
pub record Beginning : Type 0 where
  pub pages : ℕ
  pub first : ℕ
  pub within : nat_le first LAST_PORT ≡ true

-- The guest has all of its ports to give.
abbrev pub from_lowest : ℕ → Beginning
from_lowest n = record { pages = n; first = FIRST_PORT; within = refl }

abbrev pub opening : Beginning → HostContents → World
opening how host = opened how.pages how.first host
