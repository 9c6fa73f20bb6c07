-- What a contract sees of a `ByteFifo`.
use Rattle.std.specs.Prelude.{◌≤◌, ◌+◌, ℕ, List, length}

-- the bytes, the oldest first, and how many there may be
pub record Fifo : Type 0 where
  pub bytes : List ℕ
  pub capacity : ℕ

-- How a `ByteFifo` holds its bytes: from `start` to `end`, in a vector that has room for twice as many as there may be. No public clause cites it.
pub record IsSound (items : List ℕ) (start end capacity room : ℕ) : Type 0 where
  pub dropped : start ≤ end
  pub held : end ≤ length items
  pub few : end ≤ start + capacity
  pub doubled : capacity + capacity ≤ room
