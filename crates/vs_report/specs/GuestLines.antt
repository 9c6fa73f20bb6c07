-- What the lines print that are calls of the guest's driver, each with its LF.
use Rattle.std.specs.Prelude.{ℕ, Bool, true, false, List, ◌++◌, codes, decimal, Option, Some, None, Result, Ok, Err}
use Rattle.vs_flow.specs.declared.flow.Flow.{Flow}
use Rattle.vs_driver_parts.specs.declared.answers.{Accepted.Accepted, Closed.Closed, ConnectError.ConnectError, ConnectionState.ConnectionState, ListenError.ListenError}
use Rattle.vs_driver_parts.specs.declared.answers.{Polled.Polled, Grown.Grown, Received.Received, Sent.Sent, Shut.Shut}
use Rattle.vs_report.specs.Bytes.{data_text}
use Rattle.vs_driver_parts.specs.declared.answers.Accepted.TheVariants as accepted
use Rattle.vs_driver_parts.specs.declared.answers.Closed.TheVariants as closed
use Rattle.vs_driver_parts.specs.declared.answers.ConnectError.TheVariants as refused
use Rattle.vs_driver_parts.specs.declared.answers.ConnectionState.TheVariants as state
use Rattle.vs_driver_parts.specs.declared.answers.ListenError.TheVariants as unlistened
use Rattle.vs_driver_parts.specs.declared.answers.Received.TheVariants as received
use Rattle.vs_driver_parts.specs.declared.answers.Sent.TheVariants as sent
use Rattle.vs_driver_parts.specs.declared.answers.Shut.TheVariants as shut
use Rattle.vs_driver_parts.specs.declared.answers.Grown.TheVariants as rise

-- A connection: its number, its guest port and its host port.
abbrev pub opened_text : ℕ → Flow → List ℕ
opened_text id f = codes "conn " ++ decimal id ++ codes " on " ++ decimal f.guest ++ codes " " ++ decimal f.host ++ codes "\n"

abbrev pub connection_text : ℕ → Option Flow → List ℕ
connection_text id (Some f) = opened_text id f
connection_text id None = codes "unknown\n"

-- connect PORT
abbrev pub refused_text : ConnectError → List ℕ
refused_text (refused.BadCid cid) = codes "bad cid " ++ decimal cid ++ codes "\n"
refused_text (refused.BadPort port) = codes "bad port " ++ decimal port ++ codes "\n"
refused_text (refused.Full n) = codes "full " ++ decimal n ++ codes "\n"
refused_text (refused.PortsSpent port id) = codes "ports spent\n"
refused_text (refused.NoDescriptor n) = codes "no descriptor " ++ decimal n ++ codes "\n"

abbrev pub connect_text : Result ℕ ConnectError → Option Flow → List ℕ
connect_text (Ok id) flow = connection_text id flow
connect_text (Err e) flow = refused_text e

-- listen PORT
abbrev pub listen_text : Result (Unit {0}) ListenError → List ℕ
listen_text (Ok x) = codes "ok\n"
listen_text (Err unlistened.Taken) = codes "taken\n"
listen_text (Err (unlistened.Full n)) = codes "full " ++ decimal n ++ codes "\n"

-- unlisten PORT: whether it was listened on
abbrev pub unlisten_text : Bool → List ℕ
unlisten_text true = codes "ok\n"
unlisten_text false = codes "not listening\n"

-- accept PORT
abbrev pub accept_text : Accepted → Option Flow → List ℕ
accept_text (accepted.Conn id) flow = connection_text id flow
accept_text accepted.None flow = codes "none\n"
accept_text accepted.NotListening flow = codes "not listening\n"

-- send C DATA
abbrev pub send_text : Sent → List ℕ
send_text (sent.Took n) = codes "took " ++ decimal n ++ codes "\n"
send_text sent.Unknown = codes "unknown\n"
send_text sent.NotOpen = codes "not open\n"
send_text sent.Reset = codes "reset\n"
send_text sent.ShutDown = codes "shut down\n"
send_text (sent.NoCredit tx alloc fwd) = codes "no credit " ++ decimal tx ++ codes " " ++ decimal alloc ++ codes " " ++ decimal fwd ++ codes "\n"
send_text (sent.NoDescriptor n) = codes "no descriptor " ++ decimal n ++ codes "\n"

-- recv C N, with the bytes that were read
abbrev pub recv_text : Received → List ℕ → List ℕ
recv_text (received.Got n) bytes = codes "got " ++ decimal n ++ codes " " ++ data_text bytes ++ codes "\n"
recv_text received.Unknown bytes = codes "unknown\n"
recv_text received.End bytes = codes "end\n"
recv_text received.NotOpen bytes = codes "not open\n"
recv_text received.Reset bytes = codes "reset\n"
recv_text received.Empty bytes = codes "empty\n"

-- shutdown C B
abbrev pub shutdown_text : Shut → List ℕ
shutdown_text shut.Done = codes "ok\n"
shutdown_text shut.Unknown = codes "unknown\n"
shutdown_text shut.NotOpen = codes "not open\n"
shutdown_text shut.Reset = codes "reset\n"

-- grow C N
abbrev pub grow_text : Grown → List ℕ
grow_text rise.Done = codes "ok\n"
grow_text rise.Unknown = codes "unknown\n"
grow_text rise.NotOpen = codes "not open\n"
grow_text rise.Reset = codes "reset\n"
grow_text (rise.TooBig most) = codes "too big " ++ decimal most ++ codes "\n"
grow_text (rise.Shrinks now) = codes "shrinks " ++ decimal now ++ codes "\n"

-- close C
abbrev pub close_text : Closed → List ℕ
close_text closed.Done = codes "ok\n"
close_text closed.Unknown = codes "unknown\n"

-- state C
abbrev pub state_text : ConnectionState → List ℕ
state_text state.Asked = codes "asked\n"
state_text state.Answering = codes "answering\n"
state_text state.Live = codes "open\n"
state_text state.Ended = codes "ended\n"
state_text state.Gone = codes "gone\n"
state_text state.Unknown = codes "unknown\n"

-- poll: packets taken and posted, and 1 where a transport reset was taken
abbrev pub reset_text : Bool → List ℕ
reset_text true = codes " 1\n"
reset_text false = codes " 0\n"

abbrev pub poll_text : Polled → List ℕ
poll_text p = codes "polled " ++ decimal p.took ++ codes " " ++ decimal p.posted ++ reset_text p.reset
