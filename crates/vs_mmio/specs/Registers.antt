-- The registers of the socket device as a plain machine (Virtio 1.2, sections 2.1, 2.2, 4.2.2 and 5.10.4): what each call of the
-- device's monitor answers, and what it leaves.
use Rattle.std.specs.Prelude.{◌≡◌, ℕ, ◌+◌, ◌-◌, ◌*◌, ◌/◌, ◌%◌, ◌^◌, ◌==◌, ◌&&◌, ◌||◌, not, nat_le, nat_lt, Bool, true, false, IsTrue, List, [], ◌∷◌, Option, None, Some, bit_and}
use Rattle.std.specs.{Prelude.{bit_or, if◌then◌else◌}, Map.lookup, Option.unwrap_or}
use Rattle.vs_mmio.specs.{Queue.{may_be_ready, queue_after, with_half}, declared.queue.{Limits.Limits, QueueRegs.QueueRegs, ReadyQueue.ReadyQueue, Virtqueue.Virtqueue}}
use Rattle.vs_mmio.specs.declared.{queue.{Virtqueue.TheVariants.{Rx, Tx, Event}, TheConstants.READY_AT}, regs.{RegisterState.RegisterState, Wrote.{Wrote, TheVariants.Done}}}
use Rattle.vs_mmio.specs.declared.regs.{Wrote.TheVariants.Renew, TheConstants.{CONFIG_AT, CONFIG_LEN, DEVICE_ID, MAGIC, QUEUES, STATUS_AT, VENDOR_ID, VERSION}}
use Rattle.vs_mmio.specs.declared.status.{Status.Status, TheConstants.{ACKNOWLEDGE, DRIVER, DRIVER_OK, FEATURES_OK, DEVICE_NEEDS_RESET, FAILED, CONFIGURATION_CHANGE, OFFERED}}
use Rattle.vs_mmio.specs.declared.status.TheConstants.{USED_BUFFER, VERSION_1}

abbrev pub has : ℕ → ℕ → Bool
has value bit = not (bit_and value bit == 0)

abbrev pub value_where : Bool → ℕ → ℕ
value_where holds value = if holds then value else 0

abbrev pub status_number : Status → ℕ
status_number s = value_where s.acknowledge ACKNOWLEDGE + value_where s.driver DRIVER + value_where s.driver_ok DRIVER_OK
    + value_where s.features_ok FEATURES_OK + value_where s.needs_reset DEVICE_NEEDS_RESET + value_where s.failed FAILED

-- The driver's features are offered, and VERSION_1 is among them.
abbrev pub are_accepted : ℕ → Bool
are_accepted features = (bit_and features OFFERED == features) && has features VERSION_1

-- The status after a write of a value that isn't 0: its bits are added, FEATURES_OK only where the features are accepted, and
-- DRIVER_OK only where FEATURES_OK stands then. The bit of the device's failure is the device's own.
abbrev pub status_after : ℕ → ℕ → Status → Status
status_after v features s =
    let features_ok = s.features_ok || (has v FEATURES_OK && are_accepted features) in
    let added : Status =
    record s { acknowledge = s.acknowledge || has v ACKNOWLEDGE; driver = s.driver || has v DRIVER; failed = s.failed || has v FAILED } in
    record added { features_ok = features_ok; driver_ok = s.driver_ok || (has v DRIVER_OK && features_ok) }

abbrev pub no_queue : QueueRegs
no_queue = record { ready = false; place = record { size = 0; desc = 0; driver = 0; device = 0 } }

-- Registers to which the driver wrote nothing.
abbrev pub fresh : ℕ → Limits → RegisterState
fresh cid limits =
    record {
      cid = cid;
      limits = limits;
      device_features_sel = 0;
      driver_features_sel = 0;
      queue_sel = 0;
      features = 0;
      status =
          record { acknowledge = false; driver = false; driver_ok = false; features_ok = false; needs_reset = false; failed = false };
      interrupt = 0;
      generation = 0;
      notified = 0;
      rx = no_queue;
      tx = no_queue;
      event = no_queue;
    }

abbrev pub queue_in : RegisterState → Virtqueue → QueueRegs
queue_in r Rx = r.rx
queue_in r Tx = r.tx
queue_in r Event = r.event

-- A queue by its number (section 5.10.2); one that there isn't has nothing written.
abbrev pub queue_at : ℕ → RegisterState → QueueRegs
queue_at number r = if number == 0 then r.rx else if number == 1 then r.tx else if number == 2 then r.event else no_queue

-- The queue that QueueSel names changes, where there is one.
abbrev pub at_selected : (QueueRegs → QueueRegs) → RegisterState → RegisterState
at_selected f r =
    let at : ℕ → QueueRegs → QueueRegs = λ number q. if r.queue_sel == number then f q else q in
    record r { rx = at 0 r.rx; tx = at 1 r.tx; event = at 2 r.event }

-- The standard's table, but for shared memory and the reset of one queue: what a read of four bytes answers, by offset. A register
-- that is only written, and an offset that has none, reads 0.
abbrev pub reads : List (ℕ × (RegisterState → ℕ))
reads = (0x000, λ r. MAGIC)
    ∷ (0x004, λ r. VERSION)
    ∷ (0x008, λ r. DEVICE_ID)
    ∷ (0x00c, λ r. VENDOR_ID)
    ∷ (0x010, λ r. if r.device_features_sel == 0 then OFFERED % 2 ^ 32 else if r.device_features_sel == 1 then OFFERED / 2 ^ 32 else 0)
    ∷ (0x034, λ r. value_where (nat_lt r.queue_sel QUEUES) r.limits.max)
    ∷ (READY_AT, λ r. value_where (queue_at r.queue_sel r).ready 1)
    ∷ (0x060, λ r. r.interrupt)
    ∷ (STATUS_AT, λ r. status_number r.status)
    ∷ (0x0fc, λ r. r.generation)
    ∷ []

-- The same table: what a write leaves of registers that aren't a queue's. The driver's features stay once FEATURES_OK stands, 0 in
-- the status makes the registers anew, and the bits of an acknowledge are taken away.
abbrev pub writes : List (ℕ × (ℕ → RegisterState → RegisterState))
writes = (0x014, λ v r. record r { device_features_sel = v })
    ∷ (0x020, λ v r. if r.status.features_ok then r else record r { features = with_half r.driver_features_sel v r.features })
    ∷ (0x024, λ v r. if r.status.features_ok then r else record r { driver_features_sel = v })
    ∷ (0x030, λ v r. record r { queue_sel = v })
    ∷ (0x050, λ v r. record r { notified = v })
    ∷ (0x064, λ v r. record r { interrupt = bit_and r.interrupt (2 ^ 32 - 1 - v) })
    ∷ (STATUS_AT, λ v r. if v == 0 then fresh r.cid r.limits else record r { status = status_after v r.features r.status })
    ∷ []

-- What a read answers: 1, 2 or 4 bytes of the configuration, aligned, which is the guest's CID, little-endian; a register at its
-- offset, four bytes wide; else 0.
abbrev pub read_of : RegisterState → ℕ → ℕ → ℕ
read_of r offset width =
    if ((width == 1) || (width == 2) || (width == 4)) && (offset % width == 0) && nat_le CONFIG_AT offset
    && nat_lt offset (CONFIG_AT + CONFIG_LEN) then r.cid / 2 ^ (8 * (offset - CONFIG_AT)) % 2 ^ (8 * width)
    else if width == 4 then unwrap_or (lookup (λ at. offset == at) reads) (λ r. 0) r
    else 0

-- What a write leaves. A register that is only read, and an offset that has none, stays.
abbrev pub after_write : ℕ → ℕ → RegisterState → RegisterState
after_write offset =
    unwrap_or (lookup (λ at. offset == at) writes) (λ v r. at_selected (queue_after offset v r.limits r.status.features_ok) r)

-- A write of 0 to the status renews the device.
abbrev pub wrote_of : ℕ → ℕ → Wrote
wrote_of offset v = if (offset == STATUS_AT) && (v == 0) then Renew else Done

-- An access of the driver (a read of a width at an offset, a write of a value), or what the monitor tells: a new CID, a failure, a
-- used index that was stored. Questions of the monitor leave all as it is.
pub data Call : Type 0 where
  Read : (offset width : ℕ) → Call
  Write : (offset value : ℕ) → Call
  SetCid : (cid : ℕ) → Call
  Failed : Call
  Used : Call

-- What a call leaves. Of a failure the driver is told once.
abbrev pub after : Call → RegisterState → RegisterState
after (Read offset width) r = r
after (Write offset value) r = after_write offset value r
after (SetCid cid) r =
    record r { cid = cid; generation = (r.generation + 1) % 2 ^ 32; interrupt = bit_or r.interrupt CONFIGURATION_CHANGE }
after Failed r =
    if r.status.needs_reset then r
    else record r { status = record r.status { needs_reset = true }; interrupt = bit_or r.interrupt CONFIGURATION_CHANGE }
after Used r = record r { interrupt = bit_or r.interrupt USED_BUFFER }

-- Where calls lead, the last one first, from new registers on.
abbrev pub led_to : ℕ → Limits → List Call → RegisterState
led_to cid limits [] = fresh cid limits
led_to cid limits (call ∷ calls) = after call (led_to cid limits calls)

-- Offsets by the standard's columns: W, R, and both W and RW.
abbrev pub write_only : List ℕ
write_only = 0x014 ∷ 0x020 ∷ 0x024 ∷ 0x030 ∷ 0x038 ∷ 0x050 ∷ 0x064 ∷ 0x080 ∷ 0x084 ∷ 0x090 ∷ 0x094 ∷ 0x0a0 ∷ 0x0a4 ∷ []

abbrev pub read_only : List ℕ
read_only = 0x000 ∷ 0x004 ∷ 0x008 ∷ 0x00c ∷ 0x010 ∷ 0x034 ∷ 0x060 ∷ 0x0fc ∷ 0x100 ∷ 0x104 ∷ []

abbrev pub writable : List ℕ
writable = STATUS_AT ∷ READY_AT ∷ write_only

-- Size and addresses of a queue that is ready.
abbrev pub shown : QueueRegs → Option ReadyQueue
shown q = if q.ready then Some q.place else None

-- The device may run: DRIVER_OK stands, and all three queues are ready.
abbrev pub may_run_of : RegisterState → Bool
may_run_of r = r.status.driver_ok && r.rx.ready && r.tx.ready && r.event.ready

-- The features that driver and device agreed on: none before FEATURES_OK.
abbrev pub features_of : RegisterState → ℕ
features_of r = if r.status.features_ok then r.features else 0

-- A queue is ready only where FEATURES_OK stands, and only with a size and areas that it may have.
abbrev pub IsReadyRightly : Limits → Bool → QueueRegs → Type 0
IsReadyRightly l features_ok q = q.ready ≡ true → (features_ok ≡ true) × IsTrue (may_be_ready l q.place)

-- What holds of registers after any calls.
pub record IsInOrder (r : RegisterState) : Type 0 where
  pub accepted : r.status.features_ok ≡ true → are_accepted r.features ≡ true
  pub driver_ok : r.status.driver_ok ≡ true → r.status.features_ok ≡ true
  pub rx : IsReadyRightly r.limits r.status.features_ok r.rx
  pub tx : IsReadyRightly r.limits r.status.features_ok r.tx
  pub event : IsReadyRightly r.limits r.status.features_ok r.event
