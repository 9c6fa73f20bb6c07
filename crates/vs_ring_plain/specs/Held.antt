-- How the device's end keeps the chains that it holds.
use Rattle.std.specs.{Prelude.{◌≡◌, ℕ, ◌≤◌, ◌*◌, All, map, Bool, ◌&&◌, ◌||◌, ◌==◌, not, nat_le, nat_lt, List, count_by, length}, VecDeque.deque_capacity}
use Rattle.vs_ring_port.specs.{Chains.same_queue, declared.queue.Queue.Queue}
use Rattle.vs_ring_plain.specs.{declared.holds.{HeldChains.TheInside.Inside, Hold.Hold}, Device.HeldChain, PieceTable.{HeldState, PieceTable, is_listed, list_at, pieces_in}}

-- Either n chains of a queue are held, or one whose pieces are in its list.
abbrev pub is_busy_with : Queue → ℕ → List Hold → Bool
is_busy_with queue n holds =
    nat_le n (count_by (λ (h : Hold). same_queue queue h.chain.queue) holds)
    || nat_lt 0 (count_by (λ (h : Hold). same_queue queue h.chain.queue && is_listed h.pieces) holds)

-- A chain that is held, as it is seen.
abbrev pub held_as : PieceTable → Hold → HeldChain
held_as lists h = record { chain = h.chain; head = h.head; pieces = pieces_in h.pieces (list_at h.chain.queue lists) }

-- A chain has its pieces in the list exactly where these are several.
abbrev pub IsKept : PieceTable → Hold → Type 0
IsKept lists h = is_listed h.pieces ≡ not (length (held_as lists h).pieces == 1)

abbrev pub all_held : PieceTable → List Hold → List HeldChain
all_held lists holds = map (held_as lists) holds

abbrev pub held_in : Inside → HeldState
held_in h = record { size = h.size; chains = all_held h.lists h.holds.items }

-- Of each queue no more chains are held than it has places, their pieces are where they are looked for, and there is room for all.
pub record KeepsAll (h : Inside) : Type 0 where
  pub pieces_room : h.lists.room ≡ h.size
  pub room : 3 * h.size ≤ deque_capacity h.holds
  pub few : (queue : Queue) → count_by (λ (x : Hold). same_queue queue x.chain.queue) h.holds.items ≤ h.size
  pub kept : All (IsKept h.lists) h.holds.items
