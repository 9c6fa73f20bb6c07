-- All are computed.
use Rattle.std.{proofs.Common.refl, specs.Fmt.digits}
use Rattle.hex.specs.Hex.{encode_with}
use Rattle.vs_hostile.proofs.worked.worked_failures.Goals as goal

pub returns-clause-avail_jump : goal.returns-clause-avail_jump
unfolding digits encode_with
returns-clause-avail_jump c = refl

pub returns-clause-head_range : goal.returns-clause-head_range
unfolding digits encode_with
returns-clause-head_range c = refl

pub returns-clause-indirect : goal.returns-clause-indirect
unfolding digits encode_with
returns-clause-indirect c = refl

pub returns-clause-tx_writable : goal.returns-clause-tx_writable
unfolding digits encode_with
returns-clause-tx_writable c = refl

pub returns-clause-event_readable : goal.returns-clause-event_readable
unfolding digits encode_with
returns-clause-event_readable c = refl

pub returns-clause-rx_readable : goal.returns-clause-rx_readable
unfolding digits encode_with
returns-clause-rx_readable c = refl

pub returns-clause-addr_range : goal.returns-clause-addr_range
unfolding digits encode_with
returns-clause-addr_range c = refl

pub returns-clause-chain_long : goal.returns-clause-chain_long
unfolding digits encode_with
returns-clause-chain_long c = refl

pub returns-clause-next_range : goal.returns-clause-next_range
unfolding digits encode_with
returns-clause-next_range c = refl

pub returns-clause-tx_short : goal.returns-clause-tx_short
unfolding digits encode_with
returns-clause-tx_short c = refl

pub returns-clause-rx_small : goal.returns-clause-rx_small
unfolding digits encode_with
returns-clause-rx_small c = refl

pub returns-clause-event_small : goal.returns-clause-event_small
unfolding digits encode_with
returns-clause-event_small c = refl

pub returns-clause-payload_short : goal.returns-clause-payload_short
unfolding digits encode_with
returns-clause-payload_short c = refl

pub returns-clause-indirect_first : goal.returns-clause-indirect_first
unfolding digits encode_with
returns-clause-indirect_first c = refl

pub returns-clause-writable_before_range : goal.returns-clause-writable_before_range
unfolding digits encode_with
returns-clause-writable_before_range c = refl

pub returns-clause-range_before_next : goal.returns-clause-range_before_next
unfolding digits encode_with
returns-clause-range_before_next c = refl
