-- Buffers for what comes in on connections.
use Rattle.std.specs.Prelude.{◌≡◌, ◌^◌, ◌<◌, ◌≤◌, [], length}
use Rattle.vs_buffer.specs.Fifo.{Fifo}
use Rattle.vs_credit.specs.{Credit.unread_of, declared.Credit.Credit}
use Rattle.vs_limits.specs.declared.TheConstants.{BUF_ALLOC_MAX}

-- A buffer that no connection has.
abbrev pub IsSpare : Fifo → Type 0
IsSpare b = (b.bytes ≡ []) × (BUF_ALLOC_MAX ≤ b.capacity)

-- The buffer of a connection holds the bytes that its end counts as unread, no more than its buffer space, and has room for all that the end
-- may take, also once its buffer space was raised.
pub record HasRoom (c : Credit) (b : Fifo) : Type 0 where
  pub unread : length b.bytes ≡ unread_of c
  pub fits : length b.bytes ≤ c.alloc
  pub space : c.alloc ≤ b.capacity
  pub least : BUF_ALLOC_MAX ≤ b.capacity
  pub alloc : c.alloc < 2 ^ 32
  pub rx_cnt : c.rx_cnt < 2 ^ 32
  pub fwd_cnt : c.fwd_cnt < 2 ^ 32
