-- What the calls made so far come to in a device's counts: packets dropped for their CIDs, and the host's calls that failed.
use Rattle.std.specs.Prelude.{◌≡◌, ℕ, ◌<◌, ◌^◌, ◌==◌, ◌&&◌, not, nat_lt, if◌then◌else◌, List, [], ◌∷◌}
use Rattle.vs_header.specs.Packet.{header_of}
use Rattle.vs_outside.specs.Host.{accept_failed, dial_failed, read_failed, write_failed}
use Rattle.vs_page.specs.{Log.Device, Open.is_dropped}
use Rattle.vs_ring_port.specs.{Contents.PublishCid, Contents.Read}
use Rattle.vs_wrap.specs.Wrap.{counted}
use Rattle.vs_device_parts.specs.{Calls.{Accept, Answer, Call, Dial, ReadStream, Ring, WriteStream}, State.DeviceState}
use Rattle.laws_proxy.specs.Account.{Judged.held_in, Made.Made}

pub record DeviceCounts : Type 0 where
  -- The guest's CID, as it was published last.
  pub cid : ℕ
  pub dropped : ℕ
  pub faults : ℕ

abbrev pub counts_shown : DeviceState → DeviceCounts
counts_shown s = record { cid = s.cid; dropped = s.dropped; faults = s.faults }

-- One call more: a header that was read, at place 0, of a packet that isn't from the guest's CID to the host's, of which the chain holds all;
-- or a call of the host that failed.
abbrev pub count_made : (call : Call) → Answer call → DeviceCounts → DeviceCounts
count_made (Ring (PublishCid cid)) answer n = record n { cid = cid }
count_made (Ring (Read chain place count)) bytes n = record n {
  dropped =
      if (place == 0) && (not (nat_lt (held_in chain) (header_of bytes).len) && is_dropped Device n.cid (header_of bytes)) then counted n.dropped
      else n.dropped;
}
count_made Accept answer n = record n { faults = if accept_failed answer then counted n.faults else n.faults }
count_made (Dial path flow) answer n = record n { faults = if dial_failed answer then counted n.faults else n.faults }
count_made (ReadStream stream count) answer n = record n { faults = if read_failed answer.0 then counted n.faults else n.faults }
count_made (WriteStream stream bytes) answer n = record n { faults = if write_failed answer then counted n.faults else n.faults }
count_made call answer n = n

-- All calls, from these counts on.
abbrev pub counts_of : DeviceCounts → List Made → DeviceCounts
counts_of first [] = first
counts_of first (m ∷ calls) = count_made m.call m.answer (counts_of first calls)

-- A device's count of faults is its host's, which has 64 bits.
abbrev pub CountsFaults : ℕ → ℕ → Type 0
CountsFaults faults hosts = (faults ≡ hosts) × (hosts < 2 ^ 64)
