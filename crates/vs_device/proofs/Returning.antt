-- A chain of tx may be returned with nothing.
use Rattle.std.proofs.Common.{◌≡◌, take, sym, subst, arith}
use Rattle.vs_ring_port.specs.declared.{device_ring.Chain.Chain, queue.Queue.Queue, queue.Queue.TheVariants.Tx}
use Rattle.vs_ring_port.specs.{Chains.bytes_in, Contents.RingContents, DeviceCalls.CanReturn, DeviceCalls.IsWholePacket}

pub returned_unread : (chain : Chain) (c : RingContents) → chain.queue ≡ Tx → CanReturn chain 0 c
returned_unread chain c tx = record {
  room = omega arith;
  written = λ l is. omega arith;
  whole = λ honest l is. let P : Queue → Type 0 = λ q. IsWholePacket q (take 0 (bytes_in chain l.held)) l in subst P (sym tx) tt;
}
