-- A hostile guest's run, with the calls that the proxy makes on the rings in its memory and on the host, newest first.
use Rattle.std.specs.Prelude.{◌&&◌, nat_le, if◌then◌else◌, List, [], ◌∷◌}
use Rattle.vs_limits.specs.declared.TheConstants.{GUEST_CID_MIN, GUEST_CID_MAX}
use Rattle.vs_contents.specs.CallTree.{played}
use Rattle.vs_outside.specs.Host.{HostContents}
use Rattle.vs_ring_plain.specs.Device.{DeviceState}
use Rattle.vs_device_parts.specs.Calls.{Answer, Call, DeviceTree}
use Rattle.vs_hostile.specs.{Answers.{Around, answer_around}, Run.{GuestState, HasRings, HostileState, hostile_does}}
use Rattle.vs_proxy_parts.specs.Turns.{proxy_reset_of, turn_of}
use Rattle.laws_proxy.specs.Account.Made.{Made}
use Rattle.vs_script.specs.{Hostile.{Hostile, Around as OfOutside}, Outside.{Outside, Reset, Turn as TakeTurn}}

-- What surrounds the device, and the calls that it made so far. A call is answered as before, and recorded.
pub record Recorded : Type 0 where
  pub around : Around
  pub calls : List Made

abbrev pub recording : (call : Call) → Recorded → Answer call × Recorded
recording call r =
    let a = answer_around call r.around in
    (a.0, record { around = a.1; calls = record { call = call; answer = a.0 } ∷ r.calls })

-- The calls once a conversation was played over rings in the guest's memory and the host.
abbrev pub recorded : {A : Type 0} → DeviceTree A → DeviceState → HostContents → List Made → List Made
recorded tree ring host calls = (played recording tree (record { around = record { ring = ring; host = host }; calls = calls })).1.calls

-- Those of a line: of a turn and of a reset. No other line of a script makes a call of the proxy.
abbrev pub outside_made : Outside → DeviceState → HostileState → List Made → List Made
outside_made TakeTurn ring s calls = recorded (turn_of ring.size s.now s.proxy) ring s.host calls
outside_made (Reset cid) ring s calls =
    if nat_le GUEST_CID_MIN cid && nat_le cid GUEST_CID_MAX then recorded (proxy_reset_of cid s.proxy) ring s.host calls else calls
outside_made line ring s calls = calls

abbrev pub made_over : Hostile → DeviceState → HostileState → List Made → List Made
made_over (OfOutside line) ring s calls = outside_made line ring s calls
made_over line ring s calls = calls

abbrev pub made_in : GuestState → Hostile → HostileState → List Made → List Made
made_in (HasRings ring) line s calls = made_over line ring s calls
made_in guest line s calls = calls

-- Those of lines, from a state on.
abbrev pub calls_of : List Hostile → HostileState → List Made → List Made
calls_of [] s calls = calls
calls_of (line ∷ lines) s calls = calls_of lines (hostile_does line s).0 (made_in s.guest line s calls)
