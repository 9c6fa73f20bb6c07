-- Worked runs: a length that is changed once it was read, and a hostile guest with two connections.
use Rattle.std.specs.Prelude.{ℕ, List, [], ◌∷◌, ◌++◌}
use Rattle.vs_limits.specs.declared.TheConstants.{BUF_ALLOC}
use Rattle.vs_header.specs.declared.Header.{Header}
use Rattle.vs_ring_port.specs.declared.queue.Queue.TheVariants.{Rx, Tx}
use Rattle.vs_script.specs.{Data.Given, Outside.{HostListen, OfHost, Turn}, Hostile.{Hostile, Memory, Rings, WriteDesc, Give, Index, Packet, Before, Around}}

-- The length in the header of an RW is 1, and 2 once the device has read it. What it read decides: one byte is delivered.
abbrev pub changed_lines : List Hostile
changed_lines =
    Memory (record { at = 4096; len = 4096 })
    ∷ Rings 8
    ∷ Around (OfHost (HostListen 52))
    ∷ Packet 5120 (record { src_cid = 3; dst_cid = 2; src_port = 1024; dst_port = 52; len = 0; kind = 1; op = 1; flags = 0; buf_alloc = BUF_ALLOC; fwd_cnt = 0 }) (Given [])
    ∷ WriteDesc Tx 0 (record { addr = 5120; len = 44; flags = 0; next = 0 })
    ∷ Give Tx 0 0
    ∷ Index Tx 1
    ∷ WriteDesc Rx 0 (record { addr = 7168; len = 512; flags = 2; next = 0 })
    ∷ Give Rx 0 0
    ∷ Index Rx 1
    ∷ Around Turn
    ∷ Packet 6144 (record { src_cid = 3; dst_cid = 2; src_port = 1024; dst_port = 52; len = 1; kind = 1; op = 5; flags = 0; buf_alloc = BUF_ALLOC; fwd_cnt = 0 }) (Given (120 ∷ 121 ∷ []))
    ∷ WriteDesc Tx 1 (record { addr = 6144; len = 46; flags = 0; next = 0 })
    ∷ Give Tx 1 1
    ∷ Index Tx 2
    ∷ Before 5 6168 (Given (2 ∷ 0 ∷ 0 ∷ 0 ∷ []))
    ∷ Around Turn
    ∷ []

-- A packet of the guest with this CID, these ports and this operation, written at an address and given as the tx chain of a number.
abbrev pub packet_of : ℕ → ℕ → ℕ → ℕ → Header
packet_of cid guest host op = record {
  src_cid = cid;
  dst_cid = 2;
  src_port = guest;
  dst_port = host;
  len = 1;
  kind = 1;
  op = op;
  flags = 0;
  buf_alloc = BUF_ALLOC;
  fwd_cnt = 0;
}

abbrev pub sending : ℕ → ℕ → Header → List ℕ → List Hostile
sending number addr header bytes =
    Packet addr header (Given bytes)
    ∷ WriteDesc Tx number (record { addr = addr; len = 45; flags = 0; next = 0 })
    ∷ Give Tx number number
    ∷ []

-- Connections on ports 52 and 53. Then a byte on each of them, one on a flow that isn't open, and one from another CID.
abbrev pub two_lines : List Hostile
two_lines =
    Memory (record { at = 4096; len = 4096 })
    ∷ Rings 8
    ∷ Around (OfHost (HostListen 52))
    ∷ Around (OfHost (HostListen 53))
    ∷ WriteDesc Rx 0 (record { addr = 7168; len = 256; flags = 2; next = 0 })
    ∷ Give Rx 0 0
    ∷ WriteDesc Rx 1 (record { addr = 7424; len = 256; flags = 2; next = 0 })
    ∷ Give Rx 1 1
    ∷ Index Rx 2
    ∷ (sending 0 5120 (packet_of 3 1024 52 1) (0 ∷ [])
    ++ sending 1 5184 (packet_of 3 1025 53 1) (0 ∷ [])
    ++ Index Tx 2 ∷ Around Turn
    ∷ (sending 2 5248 (packet_of 3 1024 52 5) (97 ∷ [])
    ++ sending 3 5312 (packet_of 3 1025 53 5) (98 ∷ [])
    ++ sending 4 5376 (packet_of 3 1024 53 5) (99 ∷ [])
    ++ sending 5 5440 (packet_of 4 1024 52 5) (100 ∷ [])
    ++ Index Tx 6 ∷ Around Turn ∷ []))
