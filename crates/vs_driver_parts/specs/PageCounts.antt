-- The driver's transmit pages, as counts.
use Rattle.std.specs.Prelude.{ℕ}

-- The size of the ring's queues; transmit pages staged and not reaped; pages staged on the queue in work and not published.
pub record PageCounts : Type 0 where
  pub size : ℕ
  pub in_flight : ℕ
  pub staged : ℕ
