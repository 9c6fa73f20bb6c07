-- How the driver's end of a queue is seen, and what is true of it.
use Rattle.std.specs.{Prelude.{◌≡◌, ◌+◌, ◌*◌, ◌<◌, ◌≤◌, ◌^◌, ℕ, length, All, IfSome}, VecDeque.deque_capacity}
use Rattle.vs_guest_mem.specs.Memory.{Memory}
use Rattle.vs_page.specs.declared.page.TheConstants.{PAGE_LEN}
use Rattle.vs_ring_port.specs.declared.queue.TheConstants.{QUEUE_SIZE_MAX}
use Rattle.vs_plain_driver.specs.{declared.driver_queue.DriverQueue.TheInside.Inside, Queue.DriverQueueState}

abbrev pub queue_in : Inside → DriverQueueState
queue_in q = record {
  n = q.n;
  pages_at = q.pages_at;
  pages = q.pages.items;
  free = q.free.items;
  published = q.published;
  staged = q.staged;
  reaped = q.reaped;
}

-- There is a place for the page of each descriptor, those that have none are descriptors, and the pages staged have theirs.
pub record IsSound (q : DriverQueueState) : Type 0 where
  pub nonzero : 0 < q.n
  pub limit : q.n ≤ QUEUE_SIZE_MAX
  pub pages : length q.pages ≡ q.n
  pub free : All (λ (id : ℕ). id < q.n) q.free
  pub within : q.staged + length q.free ≤ q.n
  pub published : q.published < 2 ^ 16
  pub reaped : q.reaped < 2 ^ 16

pub record IsInOrder (q : Inside) : Type 0 where
  pub room : q.n ≤ deque_capacity q.free
  pub sound : IsSound (queue_in q)

-- The n pages lie in a memory, where they have places there at all.
abbrev pub ArePagesIn : DriverQueueState → Memory → Type 0
ArePagesIn q m = IfSome q.pages_at (λ at. (m.base ≤ at) × (at + PAGE_LEN * q.n ≤ m.base + length m.bytes))
