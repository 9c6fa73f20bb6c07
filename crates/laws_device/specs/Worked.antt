-- A client's connection on which the REQUEST isn't put, one on which it is, and one whose stream the proxy closed.
use Rattle.std.specs.Prelude.{true, false, [], ◌∷◌, Some, None}
use Rattle.vs_flow.specs.declared.flow.Flow.{Flow}
use Rattle.vs_header.specs.declared.Kind.TheVariants.{Stream as StreamKind}
use Rattle.vs_limits.specs.declared.TheConstants.{ASSIGNED_FIRST, GUEST_CID_MIN, HOST_CID}
use Rattle.vs_outside.specs.{Host.HostContents, Host.Stream, declared.host_net.StreamState.StreamState}
use Rattle.vs_page.specs.{Log.Device, Log.Driver, Log.Log, declared.log.LogEntry.TheVariants.{GotPacket, PutPacket}}
use Rattle.laws_history.specs.declared.packet.Packet.{Packet}
use Rattle.laws_tables.specs.Steps.{request_on}

abbrev pub client_flow : Flow
client_flow = record { guest = 5000; host = ASSIGNED_FIRST; peer = HOST_CID }

abbrev pub client_stream : StreamState → Stream
client_stream state = record {
  label = Some client_flow;
  by_client = true;
  state = state;
  taken = [];
  untaken = [];
  ended = false;
  given = [];
  room = None;
  echoes = false;
  host_closed = false;
  write_shut = false;
}

abbrev pub client_host : StreamState → HostContents
client_host state = record {
  base = [];
  streams = client_stream state ∷ [];
  labelled = 1 ∷ [];
  listening = [];
  prepared = record { untaken = []; ended = false; room = None; echoes = false; host_closed = false };
  to_fail = [];
  starts_to_fail = [];
  starved = false;
  label_calls = 1;
  shut_write_calls = 0;
}

abbrev pub asked_log : Log
asked_log = PutPacket (request_on Device GUEST_CID_MIN client_flow StreamKind) ∷ []

-- A REQUEST of the guest's that tells a byte of payload and has none.
abbrev pub dialed_flow : Flow
dialed_flow = record { guest = 5000; host = 52; peer = HOST_CID }

abbrev pub short_request : Packet
short_request = let p = request_on Driver GUEST_CID_MIN dialed_flow StreamKind in record p { header = record p.header { len = 1 } }

abbrev pub short_log : Log
short_log = GotPacket short_request ∷ []
