-- How the device's end is seen: its memory, its queues, and the chains held with their pieces.
use Rattle.std.specs.Prelude.{◌≡◌, ◌<◌, ◌≤◌, All, IsTrue}
use Rattle.vs_guest_mem.specs.Memory.{Memory, is_inside}
use Rattle.vs_layout.specs.Layout.{AreInside}
use Rattle.vs_ring_port.specs.declared.queue.{Queue.Queue, TheConstants.QUEUE_SIZE_MAX}
use Rattle.vs_ring_plain.specs.{declared.{device.DeviceSide.TheInside.Inside, piece.Piece.Piece}, Device.{DeviceState, HeldChain, areas_at, readable_in, writable_in}, Take.whole}

abbrev pub state_in : Inside → DeviceState
state_in d = record {
  memory = d.mem;
  size = d.size;
  areas = d.areas;
  indirect = d.indirect;
  turns = d.turns;
  held = d.held.chains;
}

-- A chain's pieces lie in the memory, and are what may be read or written.
pub record IsSoundHold (m : Memory) (h : HeldChain) : Type 0 where
  pub inside : All (λ (p : Piece). IsTrue (is_inside m p.addr p.len)) h.pieces
  pub readable : h.chain.readable ≡ readable_in h.chain.queue h.pieces
  pub writable : h.chain.writable ≡ writable_in h.chain.queue h.pieces

-- The queues lie in the memory, and the chains that are held do.
pub record IsInOrder (d : Inside) : Type 0 where
  pub nonzero : 0 < d.size
  pub limit : d.size ≤ QUEUE_SIZE_MAX
  pub inside : (queue : Queue) → AreInside (areas_at queue d.areas) d.size (whole d.mem)
  pub room : d.held.size ≡ d.size
  pub held : All (IsSoundHold d.mem) d.held.chains
