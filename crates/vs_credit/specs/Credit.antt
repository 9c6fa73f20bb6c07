-- Credit of one end of a connection (Virtio 1.2, section 5.10.6.3). Its counters run modulo 2^32.
use Rattle.std.specs.Prelude.{ℕ, ◌-◌}
use Rattle.vs_wrap.specs.Wrap.{difference32, sum32}
use Rattle.vs_credit.specs.declared.Credit.{Credit}

-- Bytes that this end sent and that the peer has not said to have forwarded.
abbrev pub in_transit_of : Credit → ℕ
in_transit_of c = difference32 c.tx_cnt c.peer_fwd

-- Bytes that this end may send: 0 also where more is in transit than the peer has buffer space for.
abbrev pub free_of : Credit → ℕ
free_of c = c.peer_alloc - in_transit_of c

-- Bytes that came in and were not forwarded yet.
abbrev pub unread_of : Credit → ℕ
unread_of c = difference32 c.rx_cnt c.fwd_cnt

-- Bytes of room that this end has for payload.
abbrev pub room_of : Credit → ℕ
room_of c = c.alloc - unread_of c

-- A new credit with this much buffer space, of a peer that told none.
abbrev pub new_credit : ℕ → Credit
new_credit alloc =
    record { tx_cnt = 0; peer_alloc = 0; peer_fwd = 0; alloc = alloc; fwd_cnt = 0; rx_cnt = 0 }

-- The credit after n bytes were sent.
abbrev pub with_sent : Credit → ℕ → Credit
with_sent c n = record c { tx_cnt = sum32 c.tx_cnt n }

-- The credit after the peer told its buffer space and what it forwarded.
abbrev pub with_heard : Credit → ℕ → ℕ → Credit
with_heard c alloc fwd = record c { peer_alloc = alloc; peer_fwd = fwd }

-- The credit after n bytes came in.
abbrev pub with_taken : Credit → ℕ → Credit
with_taken c n = record c { rx_cnt = sum32 c.rx_cnt n }

-- The credit after n bytes were forwarded.
abbrev pub with_forwarded : Credit → ℕ → Credit
with_forwarded c n = record c { fwd_cnt = sum32 c.fwd_cnt n }
