-- Worked examples: what the laws say of scripts, computed.
use Rattle.std.specs.Prelude.{ℕ, Bool, true, false, List, [], map, codes, Option, Result, Ok}
use Rattle.vs_limits.specs.declared.TheConstants.{ASSIGNED_FIRST, FIRST_PORT}
use Rattle.vs_flow.specs.{declared.flow.Flow.Flow, Connection.{Connection, first_of}, Flow.host_flow}
use Rattle.vs_outside.specs.HostBytes.{host_read, host_wrote}
use Rattle.vs_page.specs.{Fair.{payload_got, payload_put}, Log.{Device, Driver}, Open.is_open}
use Rattle.laws_tables.specs.Ends.{is_among}
use Rattle.vs_driver_parts.specs.{Connections.{flow_of, state_of}, declared.answers.ConnectionState.ConnectionState}
use Rattle.vs_script.specs.{Play.Event, Script.{Saying, Plays, parse_of}, declared.fault.Refused.Refused}
use Rattle.laws_device.specs.Dropped.{dropped_in}
use Rattle.laws_world.specs.World.{World, first_cid, from_lowest}
use Rattle.vs_play.specs.Answer.{opened_play}
use Rattle.laws_play.specs.{Headline.{device_flows, device_log, driver_log, guest_flows, guest_replies, world_of}, Recorded.fails_in, Said.{received_in, sent_in}}
use Rattle.vs_script.specs.declared.script.Command.TheVariants as command

-- The lines that a text spells, where it is a script of a play.
abbrev pub lines_said : Result Saying Refused → List Event
lines_said (Ok (Plays lines)) = map (λ l. l.1) lines
lines_said _ = []

abbrev pub lines_in : List ℕ → List Event
lines_in text = lines_said (parse_of command.Play text)

-- The bytes of a connection from where they are sent to where they are read, both ways, and whether the driver's log left it open.
pub record Told : Type 0 where
  pub sent : List ℕ
  pub driver_put : List ℕ
  pub device_got : List ℕ
  pub read : List ℕ
  pub wrote : List ℕ
  pub device_put : List ℕ
  pub driver_got : List ℕ
  pub received : List ℕ
  pub left_open : Bool

abbrev pub told_of : List Event → ℕ → Connection → World → Told
told_of lines id c w = record {
  sent = sent_in id lines (opened_play 64 FIRST_PORT);
  driver_put = payload_put Driver c (driver_log w);
  device_got = payload_got Device c (device_log w);
  read = host_read c w.host;
  wrote = host_wrote c w.host;
  device_put = payload_put Device c (device_log w);
  driver_got = payload_got Driver c (driver_log w);
  received = received_in id lines (opened_play 64 FIRST_PORT);
  left_open = is_open Driver first_cid c.flow (driver_log w) (is_among c.flow (guest_replies w));
}

-- Of the first connection of a flow, and of its id.
abbrev pub told_on : List ℕ → ℕ → Flow → Told
told_on text id f = told_of (lines_in text) id (first_of f) (world_of (from_lowest 64) (lines_in text))

-- A client of the host writes `abc`, and the guest answers `x`.
abbrev pub client_flow : Flow
client_flow = host_flow 1234 ASSIGNED_FIRST

abbrev pub client_told : Told
client_told = record {
  sent = codes "x";
  driver_put = codes "x";
  device_got = codes "x";
  read = codes "x";
  wrote = codes "abc";
  device_put = codes "abc";
  driver_got = codes "abc";
  received = codes "abc";
  left_open = true;
}

-- The host writes `x` on the first of two connections. The device reads it and puts it, and then a transport reset ends both: the guest
-- received nothing, and of three connections the one that was opened after the reset is open.
abbrev pub first_flow : Flow
first_flow = host_flow 1024 52

abbrev pub last_flow : Flow
last_flow = host_flow 1026 52

abbrev pub first_told : Told
first_told = record {
  sent = [];
  driver_put = [];
  device_got = [];
  read = [];
  wrote = codes "x";
  device_put = codes "x";
  driver_got = codes "x";
  received = [];
  left_open = false;
}

abbrev pub flows_after : List ℕ → List Flow × List Flow
flows_after text = let w = world_of (from_lowest 64) (lines_in text) in (guest_flows w, device_flows w)

-- The flows of the first two ids, and what the first one's connection is. One that the host refused is gone, and its id keeps its flow. An id
-- that was closed has none, and the next connect gets another id and another flow.
abbrev pub first_names : List ℕ → Option Flow × Option Flow × ConnectionState
first_names text = let s = (world_of (from_lowest 64) (lines_in text)).driver in (flow_of 1 s, flow_of 2 s, state_of 1 s)

abbrev pub refused : List ℕ
refused = codes "connect 52\nturn\npoll\n"

abbrev pub closed_between : List ℕ
closed_between = codes "connect 52\nclose 1\nconnect 52\n"

abbrev pub second_flow : Flow
second_flow = host_flow 1025 52

-- A REQUEST is still on its way at a transport reset, and then has another CID than the guest's. A call of the host fails.
abbrev pub late_request : List ℕ
late_request = codes "connect 52\nreset 9\nhost fail 1\nturn\n"

-- Packets that the device counted as dropped, and those that its log says; faults that it counted, and lines that told of them.
pub record Counted : Type 0 where
  pub dropped : ℕ
  pub dropped_by_log : ℕ
  pub faults : ℕ
  pub told_to_fail : ℕ

abbrev pub counted_on : List ℕ → Counted
counted_on text = let lines = lines_in text in let w = world_of (from_lowest 64) lines in record {
  dropped = w.proxy.device.dropped;
  dropped_by_log = dropped_in first_cid (device_log w);
  faults = w.proxy.device.faults;
  told_to_fail = fails_in lines;
}
