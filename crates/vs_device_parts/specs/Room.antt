-- The buffers of a connection: its OK line, and the bytes that are pending for the host's stream.
use Rattle.std.specs.Prelude.{◌≡◌, ◌+◌, ◌^◌, ◌<◌, ◌≤◌, true, [], length}
use Rattle.vs_conn.specs.End.{ConnectionEnd, may_shut}
use Rattle.vs_credit.specs.Credit.{unread_of}
use Rattle.vs_limits.specs.declared.TheConstants.{BUF_ALLOC_MAX}
use Rattle.vs_uds.specs.declared.ok.TheConstants.{OK_MAX}
use Rattle.vs_device_parts.specs.declared.connection.Buffers.{Buffers}

-- Buffers that no connection has.
pub record IsSpare (b : Buffers) : Type 0 where
  pub no_line : b.ok_line.bytes ≡ []
  pub line_room : OK_MAX ≤ b.ok_line.capacity
  pub none_pending : b.pending.bytes ≡ []
  pub room : BUF_ALLOC_MAX ≤ b.pending.capacity

-- The bytes that are pending are unread ones of the end, and there is room for all that it may take, also once its buffer space was raised.
-- Before the connection stands nothing is to be written.
pub record HasRoom (e : ConnectionEnd) (b : Buffers) : Type 0 where
  pub pending : length b.pending.bytes ≤ unread_of e.credit
  pub stands : 0 < length b.ok_line.bytes + length b.pending.bytes → may_shut e.state ≡ true
  pub line_room : OK_MAX ≤ b.ok_line.capacity
  pub line_fits : length b.ok_line.bytes ≤ OK_MAX
  pub room : BUF_ALLOC_MAX ≤ b.pending.capacity
  pub space : e.credit.alloc ≤ BUF_ALLOC_MAX
  pub within : unread_of e.credit ≤ e.credit.alloc
  pub alloc : e.credit.alloc < 2 ^ 32
  pub rx_cnt : e.credit.rx_cnt < 2 ^ 32
  pub fwd_cnt : e.credit.fwd_cnt < 2 ^ 32
