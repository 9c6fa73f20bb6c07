-- Two connections of one flow, a connection over a transport reset, and packets and logs that show why the definitions say no less.
use Rattle.std.specs.Prelude.{ℕ, ◌+◌, true, if◌then◌else◌, List, [], ◌∷◌}
use Rattle.vs_conn.specs.{End.{ConnectionEnd, answering, asked, end_after, paid_of, with_payload_forwarded, with_shut}, Follows.{owed_packet, payload_packet}}
use Rattle.vs_flow.specs.{Flow.{host_flow, same_flow}, declared.flow.Flow.Flow}
use Rattle.vs_limits.specs.declared.TheConstants.{ASSIGNED_FIRST, BUF_ALLOC, FIRST_PORT}
use Rattle.vs_header.specs.declared.Kind.TheVariants.{Stream}
use Rattle.laws_history.specs.{History.{Got, History, Put}, declared.packet.Packet.Packet}
use Rattle.vs_page.specs.{Log.{Log, Role, Driver, Device, and_then, flow_got, flow_put}, Open.{cid_of, is_dropped}, declared.log.LogEntry.TheVariants.{GotPacket, Mark, PutPacket}}
use Rattle.laws_tables.specs.{Ends.Ends, Heard.route_of, Both.{Asks, Decides, Happening, MakesReset, Opens, Pays, PutsEvent, Replies, Shuts, Takes, TakesEvent, TakesReset}}
use Rattle.laws_tables.specs.Steps.{accepted, owed_on, refused, reply_on, request_on, taken}
use Rattle.vs_conn.specs.declared.end.Owed.TheVariants as owed

abbrev pub guest_cid : ℕ
guest_cid = 3

-- A connection that the host asked for. The guest answers from another CID, so that its RESPONSE is dropped, and then puts payload from
-- its own.
abbrev pub assigned_flow : Flow
assigned_flow = host_flow FIRST_PORT ASSIGNED_FIRST

abbrev pub asking_end : ConnectionEnd
asking_end = paid_of (asked Stream BUF_ALLOC) owed.Request

abbrev pub host_request : Packet
host_request = request_on Device guest_cid assigned_flow Stream

abbrev pub answering_end : ConnectionEnd
answering_end = answering Stream BUF_ALLOC host_request.header

abbrev pub lost_response : Packet
lost_response = owed_packet answering_end (route_of Driver 9 assigned_flow) owed.Response

abbrev pub payload_after : Packet
payload_after = payload_packet (paid_of answering_end owed.Response) (route_of Driver guest_cid assigned_flow) (104 ∷ 105 ∷ [])

abbrev pub log_with_drop : Log
log_with_drop = GotPacket lost_response ∷ PutPacket host_request ∷ []

-- Two REQUESTs on one flow: the first is refused, and the second accepted while the RST of the first is owed.
abbrev pub guest_flow : Flow
guest_flow = host_flow FIRST_PORT 52

abbrev pub request : Packet
request = request_on Driver guest_cid guest_flow Stream

abbrev pub no_ends : Ends
no_ends = record { entries = []; replies = []; clean = []; next_port = 0; cid = guest_cid }

abbrev pub after_two : Ends
after_two = accepted guest_flow Stream request.header (refused guest_flow Stream no_ends)

abbrev pub log_of_two : Log
log_of_two = GotPacket request ∷ GotPacket request ∷ []

-- The guest asks, and the host's end answers.
abbrev pub host_end : ConnectionEnd
host_end = answering Stream BUF_ALLOC request.header

abbrev pub response : Packet
response = owed_on Device guest_cid guest_flow host_end owed.Response

abbrev pub opening : List Happening
opening =
    record { role = Driver; step = Opens guest_flow Stream }
    ∷ record { role = Device; step = Takes request true }
    ∷ record { role = Device; step = Pays guest_flow host_end owed.Response }
    ∷ record { role = Driver; step = Takes response true }
    ∷ []

-- The guest shuts both directions. The host's end then is over, puts a marked RST, and the guest keeps the flow.
abbrev pub live_end : ConnectionEnd
live_end = end_after asking_end response.header

abbrev pub shut_end : ConnectionEnd
shut_end = with_shut live_end 3

abbrev pub shutdown : Packet
shutdown = owed_on Driver guest_cid guest_flow shut_end (owed.Shutdown 3)

abbrev pub over_end : ConnectionEnd
over_end = end_after (paid_of host_end owed.Response) shutdown.header

abbrev pub marked : Packet
marked = owed_on Device guest_cid guest_flow over_end owed.Rst

abbrev pub closing : List Happening
closing =
    record { role = Driver; step = Decides guest_flow live_end (Shuts 3) }
    ∷ record { role = Driver; step = Pays guest_flow shut_end (owed.Shutdown 3) }
    ∷ record { role = Device; step = Takes shutdown true }
    ∷ record { role = Device; step = Pays guest_flow over_end owed.Rst }
    ∷ record { role = Driver; step = Takes marked true }
    ∷ []

-- The device makes a transport reset, and the guest gets another CID. The driver takes it, and puts an RST for the connection.
abbrev pub new_cid : ℕ
new_cid = 9

abbrev pub resetting : List Happening
resetting =
    record { role = Device; step = MakesReset new_cid }
    ∷ record { role = Device; step = PutsEvent 0 }
    ∷ record { role = Driver; step = TakesEvent 0 }
    ∷ record { role = Driver; step = TakesReset new_cid }
    ∷ record { role = Driver; step = Replies (record { flow = guest_flow; kind = Stream }) [] }
    ∷ record { role = Device; step = Takes (reply_on Driver new_cid (record { flow = guest_flow; kind = Stream })) true }
    ∷ []

-- A CID that comes back. A connection of the guest's is over, on which two bytes were forwarded. The REQUEST of the next is dropped under
-- another CID; its RESPONSE, which says that nothing was forwarded, is put under the first.
abbrev pub hi : Packet
hi = payload_packet live_end (route_of Driver guest_cid guest_flow) (104 ∷ 105 ∷ [])

abbrev pub got_hi : ConnectionEnd
got_hi = with_payload_forwarded (end_after (paid_of host_end owed.Response) hi.header) 2

abbrev pub update : Packet
update = owed_packet got_hi (route_of Device guest_cid guest_flow) owed.CreditUpdate

abbrev pub log_of_return : Log
log_of_return =
    PutPacket response ∷ Mark guest_cid ∷ GotPacket request ∷ Mark new_cid ∷ PutPacket marked ∷ GotPacket shutdown ∷ PutPacket update
    ∷ GotPacket hi ∷ PutPacket response ∷ GotPacket request ∷ []

-- What is heard, if a REQUEST that is dropped ended nothing.
abbrev pub heard_on : Role → ℕ → Flow → Log → History
heard_on role first f [] = []
heard_on role first f (PutPacket p ∷ log) =
    if same_flow f (flow_put role p) then and_then (Put p) (heard_on role first f log) else heard_on role first f log
heard_on role first f (GotPacket p ∷ log) =
    if same_flow f (flow_got role p) then
    (if is_dropped role (cid_of first log) p.header then heard_on role first f log else and_then (Got p) (heard_on role first f log))
    else heard_on role first f log
heard_on role first f (_ ∷ log) = heard_on role first f log

-- A connection that the host labelled, whose REQUEST a transport reset left unput.
abbrev pub unput : List Happening
unput = record { role = Device; step = Asks assigned_flow Stream } ∷ record { role = Device; step = MakesReset new_cid } ∷ []

-- The device decided to shut both directions and told neither, when a guest that breaks the rules puts a marked RST.
abbrev pub host_live : ConnectionEnd
host_live = end_after asking_end (owed_packet answering_end (route_of Driver guest_cid assigned_flow) owed.Response).header

abbrev pub host_shut : ConnectionEnd
host_shut = with_shut host_live 3

abbrev pub false_mark : Packet
false_mark = owed_packet over_end (route_of Driver guest_cid assigned_flow) owed.Rst

abbrev pub kept_falsely : Ends
kept_falsely =
    taken Device assigned_flow host_shut false_mark
    (record no_ends { entries = record { flow = assigned_flow; end = host_shut } ∷ []; next_port = ASSIGNED_FIRST + 1 })

abbrev pub log_of_false_mark : Log
log_of_false_mark =
    GotPacket false_mark ∷ GotPacket (owed_packet answering_end (route_of Driver guest_cid assigned_flow) owed.Response) ∷ PutPacket
    host_request ∷ []

-- A transport reset stands between the guest's SHUTDOWN and the marked RST.
abbrev pub log_over_reset : Log
log_over_reset = GotPacket marked ∷ Mark new_cid ∷ PutPacket shutdown ∷ GotPacket response ∷ PutPacket request ∷ []

-- A guest that breaks the rules puts a marked RST between two REQUESTs, of which the first was refused.
abbrev pub guest_mark : Packet
guest_mark = owed_packet over_end (route_of Driver guest_cid guest_flow) owed.Rst

abbrev pub log_of_mark : Log
log_of_mark = GotPacket request ∷ GotPacket guest_mark ∷ GotPacket request ∷ []

-- It puts payload on a flow that was closed by a marked RST, on which the device is to ask again.
abbrev pub asking_again : Ends
asking_again =
    record no_ends { entries = record { flow = assigned_flow; end = asked Stream BUF_ALLOC } ∷ []; next_port = ASSIGNED_FIRST + 1 }

abbrev pub spoiled : Ends
spoiled = taken Device assigned_flow (asked Stream BUF_ALLOC) payload_after asking_again

abbrev pub log_of_early : Log
log_of_early = GotPacket payload_after ∷ log_of_false_mark
