-- The memory of standard rings that nobody else changes.
use Rattle.std.specs.{Prelude.ℕ, Prelude.◌+◌, Prelude.◌-◌, Prelude.◌*◌, Int.next_multiple_of}
use Rattle.vs_layout.specs.Layout.{queue_areas_of}
use Rattle.vs_page.specs.declared.page.TheConstants.{PAGE_LEN}
use Rattle.vs_both_ends.specs.declared.standard_rings.TheConstants.{MEMORY_BASE}

-- It holds the areas of three queues of n places, and behind them, from the next multiple of 4,096 on, a page for each descriptor.
abbrev pub memory_size : ℕ → ℕ
memory_size n = next_multiple_of (queue_areas_of MEMORY_BASE n).event.end PAGE_LEN + 3 * (PAGE_LEN * n) - MEMORY_BASE
