-- What rings in a guest's memory and a host in memory answer to the device: each answer, and what both are after it.
use Rattle.std.specs.Prelude.{ℕ, List, [], length}
use Rattle.vs_outside.specs.Host.{HostContents, accept_answer, after_accept, dial_answer, after_dial, after_label, read_answer, after_read, next_bytes, write_answer, after_write}
use Rattle.vs_outside.specs.{Host.{after_shut_write, after_close}, declared.host_net.StreamRead.StreamRead}
use Rattle.vs_ring_plain.specs.Device.{DeviceState, answer_to}
use Rattle.vs_device_parts.specs.Calls.{Call, Answer, Ring, Accept, Dial, Label, ReadStream, WriteStream, ShutWrite, CloseStream}
use Rattle.vs_outside.specs.declared.host_net.StreamRead.TheVariants as read

pub record Around : Type 0 where
  pub ring : DeviceState
  pub host : HostContents

abbrev pub with_host : HostContents → Around → Around
with_host host s = record s { host = host }

-- The bytes that come with a read's answer.
abbrev pub bytes_with : ℕ → StreamRead → HostContents → List ℕ
bytes_with stream (read.Got n) c = next_bytes stream n c
bytes_with stream _ c = []

abbrev pub ring_answer : (call : Call) → Answer call × DeviceState → Around → Answer call × Around
ring_answer call r s = (r.0, record s { ring = r.1 })

abbrev pub answer_around : (call : Call) → Around → Answer call × Around
answer_around (Ring call) s = ring_answer (Ring call) (answer_to call s.ring) s
answer_around Accept s = let a = accept_answer s.host in (a, with_host (after_accept a s.host) s)
answer_around (Dial path flow) s = let a = dial_answer path s.host in (a, with_host (after_dial flow a s.host) s)
answer_around (Label stream flow) s = (tt, with_host (after_label stream flow s.host) s)
answer_around (ReadStream stream n) s =
    let a = read_answer stream n s.host in ((a, bytes_with stream a s.host), with_host (after_read stream a s.host) s)
answer_around (WriteStream stream bytes) s =
    let a = write_answer stream (length bytes) s.host in (a, with_host (after_write stream bytes a s.host) s)
answer_around (ShutWrite stream) s = (tt, with_host (after_shut_write stream s.host) s)
answer_around (CloseStream stream) s = (tt, with_host (after_close stream s.host) s)
