-- A hostile guest's run: each line of its script, and what it answers.
use Rattle.std.specs.Prelude.{ℕ, ◌+◌, ◌&&◌, nat_le, min, if◌then◌else◌, List, [], length, Option, None, Some, Result, codes}
use Rattle.vs_limits.specs.declared.TheConstants.{FIRST_CID, GUEST_CID_MIN, GUEST_CID_MAX}
use Rattle.vs_contents.specs.CallTree.{played}
use Rattle.vs_layout.specs.declared.span.Span.{Span}
use Rattle.vs_outside.specs.{Host.HostContents, HostProgram.{after_client, new_host, plain}}
use Rattle.vs_ring_port.specs.declared.failure.Failure.{Failure}
use Rattle.vs_ring_plain.specs.Device.{DeviceState}
use Rattle.vs_device_parts.specs.Calls.{DeviceTree}
use Rattle.vs_proxy_parts.specs.{State.ProxyState, Turns.{new_proxy, turn_of, proxy_reset_of}, declared.answers.Turn.Turn, Growing.{after_label_grow, label_at, label_grow_of}}
use Rattle.vs_report.specs.{DeviceLines.growth_text, HostLines.host_played}
use Rattle.vs_script.specs.{Hostile.{Hostile, Look, Memory as SetMemory, Rings as SetRings, Around as OfOutside}, Outside.{Outside, Reset, Tick, Grow, Client, OfHost}}
use Rattle.vs_script.specs.Outside.{Turn as TakeTurn}
use Rattle.vs_hostile.specs.{Answers.answer_around, Guest.{guest_writes, looked}, Rings.rings_of}

-- The guest's memory as far as the script has set it up: nothing, where it lies, or the rings in it.
pub data GuestState : Type 0 where
  Nothing : GuestState
  HasMemory : Span → GuestState
  HasRings : DeviceState → GuestState

pub record HostileState : Type 0 where
  pub guest : GuestState
  pub proxy : ProxyState
  pub host : HostContents
  -- The moment, in milliseconds. It stands still at the last of its type.
  pub now : ℕ

-- What a line answers.
pub data Said : Type 0 where
  Done : Said
  Bytes : List ℕ → Said
  HasTurned : Turn → Said
  WasReset : Result (Unit {0}) Failure → Said
  StreamIs : ℕ → Said
  HostPrints : List ℕ → Said

abbrev pub with_guest : GuestState → HostileState → HostileState
with_guest guest s = record s { guest = guest }

-- A conversation of the proxy over rings in the guest's memory and the host.
abbrev pub over : {A : Type 0} → DeviceTree (ProxyState × A) → (A → Said) → DeviceState → HostileState → HostileState × Said
over tree said ring s =
    let r = played answer_around tree (record { ring = ring; host = s.host }) in
    (record s { guest = HasRings r.1.ring; proxy = r.0.0; host = r.1.host }, said r.0.1)

-- A line on what surrounds the guest. The moment stands still at the last of its type. A CID is 3 to 4,294,967,294 in all scripts.
abbrev pub outside_does : Outside → DeviceState → HostileState → HostileState × Said
outside_does TakeTurn ring s = over (turn_of ring.size s.now s.proxy) (λ t. HasTurned t) ring s
outside_does (Reset cid) ring s = if nat_le GUEST_CID_MIN cid && nat_le cid GUEST_CID_MAX then over (proxy_reset_of cid s.proxy) (λ r. WasReset r) ring s else (s, Done)
outside_does (Tick ms) ring s = (record s { now = min 18446744073709551615 (s.now + ms) }, Done)
outside_does (Grow stream alloc) ring s =
    let label = label_at stream s.host in
    (record s { proxy = after_label_grow label alloc s.proxy }, HostPrints (growth_text (label_grow_of label alloc s.proxy)))
outside_does Client ring s = (record s { host = after_client s.host }, StreamIs (length s.host.streams + 1))
outside_does (OfHost line) ring s = let r = host_played line s.host in (record s { host = r.0 }, HostPrints r.1)

-- A line once the rings are there.
abbrev pub over_rings : Hostile → DeviceState → HostileState → HostileState × Said
over_rings (Look addr len) ring s = (s, Bytes (looked addr len ring))
over_rings (OfOutside line) ring s = outside_does line ring s
over_rings line ring s = (with_guest (HasRings (guest_writes line ring)) s, Done)

-- `memory` says where the memory lies; no other line comes before it in a script.
abbrev pub first_set_up : Hostile → GuestState
first_set_up (SetMemory span) = HasMemory span
first_set_up _ = Nothing

-- `rings` makes the memory and the rings in it, where they fit; no other line comes before it in a script.
abbrev pub rings_in : Span → Option DeviceState → GuestState
rings_in memory (Some ring) = HasRings ring
rings_in memory None = HasMemory memory

abbrev pub second_set_up : Hostile → Span → GuestState
second_set_up (SetRings n) memory = rings_in memory (rings_of memory n)
second_set_up _ memory = HasMemory memory

-- `memory`, then `rings`, then all other lines.
abbrev pub line_in : GuestState → Hostile → HostileState → HostileState × Said
line_in Nothing line s = (with_guest (first_set_up line) s, Done)
line_in (HasMemory memory) line s = (with_guest (second_set_up line memory) s, Done)
line_in (HasRings ring) line s = over_rings line ring s

abbrev pub hostile_does : Hostile → HostileState → HostileState × Said
hostile_does line s = line_in s.guest line s

-- Before the first line: a device just made, with the guest's first CID, at moment 0, and a host at whose base path `v.sock` clients may
-- connect.
abbrev pub base_path : List ℕ
base_path = codes "v.sock"

abbrev pub beginning : HostileState
beginning = record { guest = Nothing; proxy = new_proxy FIRST_CID base_path; host = (new_host base_path [] plain).contents; now = 0 }
