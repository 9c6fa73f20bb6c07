-- The lines of a play: what each does to the world, and what it prints.
use Rattle.std.specs.Prelude.{ℕ, ◌+◌, min, List}
use Rattle.vs_driver_parts.specs.State.{DriverState}
use Rattle.vs_script.specs.{Data.bytes_of, Outside.{Outside, Host}, Play.Event}
use Rattle.laws_world.specs.{Plays.{Line, Said, line}, World.World}
use Rattle.laws_driver.specs.Carried.Calls.{GuestCall, ReplyTo, flow_accepted, flow_opened}
use Rattle.vs_report.specs.GuestLines.{connect_text, listen_text, unlisten_text, accept_text, send_text, recv_text, shutdown_text, close_text, grow_text, state_text, poll_text}
use Rattle.vs_report.specs.{DeviceLines.{growth_text, turn_text, reset_text}, HostLines.{ok_text, client_text, write_text, stream_there_text}}
use Rattle.vs_script.specs.Outside as outside
use Rattle.vs_script.specs.Play as script
use Rattle.laws_driver.specs.Carried.Calls as call
use Rattle.laws_world.specs.Plays as world

-- What a call of the guest's prints, by its reply and the driver after it.
abbrev pub reply_text : (c : GuestCall) → ReplyTo c → DriverState → List ℕ
reply_text (call.Connect port) reply s = connect_text reply (flow_opened reply s)
reply_text (call.Listen port) reply s = listen_text reply
reply_text (call.Unlisten port) reply s = unlisten_text reply
reply_text (call.Accept port) reply s = accept_text reply (flow_accepted reply s)
reply_text (call.Send id bytes) reply s = send_text reply
reply_text (call.Recv id n) reply s = recv_text reply.0 reply.1
reply_text (call.Shutdown id bits) reply s = shutdown_text reply
reply_text (call.Grow id alloc) reply s = grow_text reply
reply_text (call.Close id) reply s = close_text reply
reply_text (call.LookAt id) reply s = state_text reply

-- What a line of the world prints.
abbrev pub said_text : Said → World → List ℕ
said_text (world.Replied c reply) w = reply_text c reply w.driver
said_text (world.HasPolled p) w = poll_text p
said_text (world.HasTurned t) w = turn_text t
said_text (world.WasReset r) w = reset_text r
said_text (world.HasGrown answer) w = growth_text answer
said_text (world.StreamIs n) w = client_text n
said_text (world.Wrote answer) w = write_text answer
said_text (world.IsThere found) w = stream_there_text found

-- The world of a play, and the moment, in milliseconds.
pub record PlayWorld : Type 0 where
  pub world : World
  pub moment : ℕ

-- A line of the world is played.
abbrev pub played_line : Line → PlayWorld → PlayWorld × List ℕ
played_line l p = let r = line l p.world in (record p { world = r.0 }, said_text r.1 r.0)

-- So many milliseconds pass. The moment stands still at the last of its type.
abbrev pub ticked : ℕ → PlayWorld → PlayWorld
ticked ms p = record p { moment = min 18446744073709551615 (p.moment + ms) }

-- The line of the world that a line on the host's programs is.
abbrev pub host_line : Host → Line
host_line (outside.HostListen port) = world.HostListen port
host_line (outside.HostUnlisten port) = world.HostUnlisten port
host_line (outside.HostWrite stream bytes) = world.HostWrite stream (bytes_of bytes)
host_line (outside.HostAllow stream n) = world.HostAllow stream n
host_line (outside.HostEnd stream) = world.HostEnd stream
host_line (outside.HostClosed stream) = world.HostClosed stream
host_line (outside.HostFail n) = world.HostFail n

abbrev pub outside_played : Outside → PlayWorld → PlayWorld × List ℕ
outside_played outside.Turn p = played_line (world.TurnAt p.moment) p
outside_played (outside.Reset cid) p = played_line (world.ResetTo cid) p
outside_played (outside.Tick ms) p = (ticked ms p, ok_text)
outside_played (outside.Grow stream alloc) p = played_line (world.Grow stream alloc) p
outside_played outside.Client p = played_line world.Client p
outside_played (outside.OfHost host) p = played_line (host_line host) p

-- An event line of a script: the world and the moment after it, and what it prints.
abbrev pub event_played : Event → PlayWorld → PlayWorld × List ℕ
event_played (script.Connect port) p = played_line (world.Guest (call.Connect port)) p
event_played (script.Listen port) p = played_line (world.Guest (call.Listen port)) p
event_played (script.Unlisten port) p = played_line (world.Guest (call.Unlisten port)) p
event_played (script.Accept port) p = played_line (world.Guest (call.Accept port)) p
event_played (script.Send id bytes) p = played_line (world.Guest (call.Send id (bytes_of bytes))) p
event_played (script.Recv id len) p = played_line (world.Guest (call.Recv id len)) p
event_played (script.Shutdown id bits) p = played_line (world.Guest (call.Shutdown id bits)) p
event_played (script.Grow id alloc) p = played_line (world.Guest (call.Grow id alloc)) p
event_played (script.Close id) p = played_line (world.Guest (call.Close id)) p
event_played (script.State id) p = played_line (world.Guest (call.LookAt id)) p
event_played script.Poll p = played_line world.Poll p
event_played (script.Around line) p = outside_played line p
