-- A packet that was put or got, as the end sees it that put it.
use Rattle.std.specs.Prelude.{if◌then◌else◌, List, []}
use Rattle.vs_flow.specs.declared.flow.Flow.{Flow}
use Rattle.laws_history.specs.{declared.packet.Packet.Packet, History.{Entry, Got, History, Put, Side, gots, peer, puts}}
use Rattle.vs_page.specs.{Log.{Log, Role, asks, flow_got, flow_put, history_of, side_of}, declared.log.LogEntry.{LogEntry, TheVariants.{GotPacket, PutPacket}}}

-- The entry in a log, its packet, and its flow.
abbrev pub logged : Entry → LogEntry
logged (Put p) = PutPacket p
logged (Got p) = GotPacket p

abbrev pub packet_of : Entry → Packet
packet_of (Put p) = p
packet_of (Got p) = p

abbrev pub flow_of : Role → Entry → Flow
flow_of role (Put p) = flow_put role p
flow_of role (Got p) = flow_got role p

-- The side of the end that put it.
abbrev pub side_by : Role → Entry → Side
side_by role (Put p) = side_of role (flow_put role p)
side_by role (Got p) = peer (side_of role (flow_got role p))

-- What that end had put, and got, on the packet's connection before. A REQUEST begins one.
abbrev pub earlier : Role → Entry → Log → History
earlier role entry log = if asks entry then [] else history_of role (flow_of role entry) log

abbrev pub sent : Entry → History → List Packet
sent (Put p) h = puts h
sent (Got p) h = gots h

abbrev pub heard : Entry → History → List Packet
heard (Put p) h = gots h
heard (Got p) h = puts h
