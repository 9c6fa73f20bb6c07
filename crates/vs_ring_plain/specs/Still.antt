-- A chain of one descriptor, as it lies in a memory that nobody else changes.
use Rattle.std.specs.Prelude.{◌≡◌, ℕ, ◌%◌, ◌<◌, ◌≤◌, true, false, [], ◌∷◌}
use Rattle.byteorder.specs.Endian.{little_number}
use Rattle.vs_guest_mem.specs.Memory.{Memory, bytes_at, is_within}
use Rattle.vs_layout.specs.{Entry.desc_of, Layout.{avail_entry, avail_idx, desc_entry}, declared.entry.{Desc.Desc, TheConstants.{DESC_LEN, INDIRECT, NEXT}}}
use Rattle.vs_ring_plain.specs.Chain.{Ring, ahead, has, piece_of, too_small, total_len, wrong_way}

-- Nobody else writes into the memory before an access to come.
abbrev pub IsStill : Memory → Type 0
IsStill m = m.changes ≡ []

-- The index of the available ring.
abbrev pub index_in : Ring → Memory → ℕ
index_in r m = little_number 2 (bytes_at m (avail_idx r.areas).at 2)

-- After `taken` chains were taken, the next one has a single descriptor: the index lies above, by no more than the queue has places; the
-- entry names a descriptor of the queue; that stands there as d, which breaks no rule and is the chain's last.
pub record IsGiven (r : Ring) (taken head : ℕ) (d : Desc) (m : Memory) : Type 0 where
  pub some : 1 ≤ ahead (index_in r m) taken
  pub few : ahead (index_in r m) taken ≤ r.n
  pub entry : little_number 2 (bytes_at m (avail_entry r.areas (taken % r.n)).at 2) ≡ head
  pub within : head < r.n
  pub desc : desc_of (bytes_at m (desc_entry r.areas head).at DESC_LEN) ≡ d
  pub direct : has d INDIRECT ≡ false
  pub last : has d NEXT ≡ false
  pub way : (wrong_way r.queue head d).0 ≡ false
  pub inside : is_within r.base r.size d.addr d.len ≡ true
  pub long : (too_small r.queue (total_len (piece_of d ∷ []))).0 ≡ false
