-- What the device does with the host's streams: closing them, and writing what is pending.
use Rattle.std.specs.Prelude.{ℕ, ◌+◌, ◌==◌, ◌&&◌, not, Bool, true, if◌then◌else◌, List, ◌++◌, length, take, Some, None}
use Rattle.vs_contents.specs.CallTree.{Done, Ask, bind, for_each}
use Rattle.vs_flow.specs.Table.{entry_under, slots}
use Rattle.vs_outside.specs.declared.host_net.StreamWrite.{StreamWrite}
use Rattle.vs_device_parts.specs.Connections.{with_connection, with_fault, stream_closed, cut_off, after_shut, after_written, is_timed_out, after_leaving, keeping}
use Rattle.vs_device_parts.specs.{Calls.{DeviceTree, WriteStream, ShutWrite, CloseStream}, State.{DeviceConnection, DeviceState, DeviceEntry}}
use Rattle.vs_limits.specs.declared.TheConstants.{WRITE_MAX}
use Rattle.vs_outside.specs.declared.host_net.StreamWrite.TheVariants as write

-- A connection's stream is closed, where it isn't yet; the connection is as f says then.
abbrev pub closing : DeviceEntry → (DeviceConnection → DeviceConnection) → DeviceState → DeviceTree DeviceState
closing e f s =
    if e.value.closed then Done (with_connection e.slot (f e.value) s)
    else Ask (CloseStream e.value.stream) (λ _. Done (with_connection e.slot (f e.value) s))

-- A connection leaves the table, and its stream is closed. Its flow may be used again, or not.
abbrev pub leaving : Bool → DeviceEntry → DeviceState → DeviceTree DeviceState
leaving keep e s = bind (closing e stream_closed s) (λ t. Done (keeping keep e.flow (after_leaving e.slot t)))

-- Timeouts, by rising slot.
abbrev pub tick_slot : ℕ → DeviceState → DeviceTree DeviceState
tick_slot slot s = elim (entry_under s.table slot) [
  | None ↦ Done s
  | Some e ↦ if is_timed_out s.now e.value then closing e cut_off s else Done s
]

abbrev pub tick_of : ℕ → DeviceState → DeviceTree DeviceState
tick_of now s = for_each tick_slot (slots s.table) (record s { now = now })

-- A round of writing: bytes written so far.
pub record Writing : Type 0 where
  pub state : DeviceState
  pub wrote : ℕ

-- One write of the first pending bytes, the OK line before all payload.
abbrev pub to_write : DeviceConnection → List ℕ
to_write c = take WRITE_MAX (c.ok_line ++ c.pending)

abbrev pub write_answered : DeviceEntry → StreamWrite → Writing → DeviceTree Writing
write_answered e (write.Took n) w = Done (record w { state = with_connection e.slot (after_written n e.value) w.state; wrote = w.wrote + n })
write_answered e write.Again w = Done w
write_answered e write.Closed w = Done (record w { state = with_connection e.slot (after_shut 1 w.state.now e.value) w.state })
write_answered e write.Failed w = bind (closing e cut_off (with_fault w.state)) (λ s. Done (record w { state = s }))

abbrev pub write_pending : DeviceEntry → Writing → DeviceTree Writing
write_pending e w =
    if length (to_write e.value) == 0 then Done w
    else Ask (WriteStream e.value.stream (to_write e.value)) (λ answer. write_answered e answer w)

-- The write side is shut once, when the guest sends no more and all that it sent is written.
abbrev pub is_written_out : DeviceConnection → Bool
is_written_out c = not c.closed && c.end.peer.send && (length c.ok_line == 0) && (length c.pending == 0) && not c.write_shut

abbrev pub shut_write : ℕ → Writing → DeviceTree Writing
shut_write slot w = elim (entry_under w.state.table slot) [
  | None ↦ Done w
  | Some e ↦
      if is_written_out e.value then Ask (ShutWrite e.value.stream) (λ _.
      Done (record w { state = with_connection slot (record e.value { write_shut = true }) w.state }))
      else Done w
]

abbrev pub pump_slot : ℕ → Writing → DeviceTree Writing
pump_slot slot w = elim (entry_under w.state.table slot) [
  | None ↦ Done w
  | Some e ↦ if e.value.closed then Done w else bind (write_pending e w) (shut_write slot)
]

abbrev pub pump_of : DeviceState → DeviceTree Writing
pump_of s = for_each pump_slot (slots s.table) (record { state = s; wrote = 0 })
