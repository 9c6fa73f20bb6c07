-- What the device counts of packets that it drops, and that its ring never fails.
use Rattle.std.specs.{Option.ForSome, Prelude.{◌≡◌, ℕ, ◌+◌, ◌-◌, ◌^◌, min, if◌then◌else◌, true, [], ◌∷◌, Option, None}}
use Rattle.vs_page.specs.{Log.Device, Log.Log, Open.cid_of, Open.is_dropped, declared.log.LogEntry.TheVariants.GotPacket}
use Rattle.vs_ring_port.specs.{Contents.RingContents, declared.failure.Failure.Failure}
use Rattle.vs_device_parts.specs.State.{DeviceState}

-- How many packets of a log the device drops, each by the guest's CID of then.
abbrev pub dropped_in : ℕ → Log → ℕ
dropped_in first [] = 0
dropped_in first (GotPacket p ∷ log) = (if is_dropped Device (cid_of first log) p.header then 1 else 0) + dropped_in first log
dropped_in first (_ ∷ log) = dropped_in first log

-- The device knows the guest's CID, it counted just those, and its ring didn't fail. The count stands still at the last number of 64 bits.
pub record IsCounted (first cid dropped : ℕ) (failed : Option Failure) (log : Log) : Type 0 where
  pub cid_is : cid ≡ cid_of first log
  pub dropped_is : dropped ≡ min (dropped_in first log) (2 ^ 64 - 1)
  pub unfailed : failed ≡ None

-- So it is where an honest ring tells its log.
abbrev pub IsCountedWith : ℕ → DeviceState → RingContents → Type 0
IsCountedWith first s c = c.honest ≡ true → ForSome c.log (λ l. IsCounted first s.cid s.dropped s.failed l.entries)
