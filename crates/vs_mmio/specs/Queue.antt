-- A queue (Virtio 1.2, sections 2.7 and 4.2.2): what the driver writes of it, and where its three areas may lie.
use Rattle.std.specs.Prelude.{ℕ, ◌+◌, ◌*◌, ◌/◌, ◌%◌, ◌^◌, ◌==◌, ◌&&◌, ◌||◌, not, nat_le, min, Bool, if◌then◌else◌, List, [], ◌∷◌}
use Rattle.std.specs.{Int.is_power_of_two, Map.lookup, Option.unwrap_or}
use Rattle.vs_mmio.specs.declared.queue.{Limits.Limits, QueueRegs.QueueRegs, ReadyQueue.ReadyQueue, TheConstants.READY_AT}

-- A number with another half of 32 bits, low (0) or high (1).
abbrev pub with_half : ℕ → ℕ → ℕ → ℕ
with_half half v x = if half == 0 then x / 2 ^ 32 * 2 ^ 32 + v else if half == 1 then v * 2 ^ 32 + x % 2 ^ 32 else x

-- Bytes from an address on are aligned and lie inside the guest's memory.
abbrev pub is_fit : Limits → ℕ → ℕ → ℕ → Bool
is_fit l at len align = (at % align == 0) && nat_le l.base at && nat_le (at + len) (l.base + l.size)

-- One of two areas ends where the other begins, or before.
abbrev pub is_apart : ℕ → ℕ → ℕ → ℕ → Bool
is_apart a a_len b b_len = nat_le (a + a_len) b || nat_le (b + b_len) a

-- The areas: descriptors of 16 bytes; flags, index, n entries and used_event of 2 bytes each; flags, index and avail_event of 2 bytes
-- and n elements of 8. They are aligned and inside, and no two have a byte in common.
unfoldable pub is_placed : Limits → ReadyQueue → Bool
is_placed l q =
    let desc = 16 * q.size in
    let driver = 6 + 2 * q.size in
    let device = 6 + 8 * q.size in
    is_fit l q.desc desc 16 && is_fit l q.driver driver 2 && is_fit l q.device device 4 && is_apart q.desc desc q.driver driver
    && is_apart q.driver driver q.device device && is_apart q.desc desc q.device device

-- A queue may be ready: its size is a power of two up to the largest, and its areas are placed.
abbrev pub may_be_ready : Limits → ReadyQueue → Bool
may_be_ready l q = is_power_of_two q.size && nat_le q.size l.max && is_placed l q

-- The table (section 4.2.2): what a write leaves of a queue's size, of 16 bits, and of its addresses.
abbrev pub fields : List (ℕ × (ℕ → ReadyQueue → ReadyQueue))
fields = (0x038, λ v q. record q { size = min v 0xffff })
    ∷ (0x080, λ v q. record q { desc = with_half 0 v q.desc })
    ∷ (0x084, λ v q. record q { desc = with_half 1 v q.desc })
    ∷ (0x090, λ v q. record q { driver = with_half 0 v q.driver })
    ∷ (0x094, λ v q. record q { driver = with_half 1 v q.driver })
    ∷ (0x0a0, λ v q. record q { device = with_half 0 v q.device })
    ∷ (0x0a4, λ v q. record q { device = with_half 1 v q.device })
    ∷ []

abbrev pub written : ℕ → ℕ → ReadyQueue → ReadyQueue
written offset = unwrap_or (lookup (λ at. offset == at) fields) (λ v q. q)

-- After a write of one of its registers. 1 makes it ready where it may be, 0 ends that, and no other value changes it; a queue that is
-- ready keeps its size and its addresses.
abbrev pub queue_after : ℕ → ℕ → Limits → Bool → QueueRegs → QueueRegs
queue_after offset v l features_ok q =
    if offset == READY_AT then
    record q { ready = not (v == 0) && (q.ready || ((v == 1) && features_ok && may_be_ready l q.place)) }
    else if q.ready then q
    else record q { place = written offset v q.place }
