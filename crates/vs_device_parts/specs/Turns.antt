-- Reset and opening.
use Rattle.std.specs.Prelude.{ℕ, true, List, [], Some, None, Result, Ok, Err, map}
use Rattle.vs_contents.specs.CallTree.{Done, Ask, bind, for_each}
use Rattle.vs_flow.specs.{Table.{entry_under, slots, emptied, refusal}, declared.{flow.Flow.Flow, table.TableFault.TableFault}}
use Rattle.vs_conn.specs.declared.end.State.{State}
use Rattle.vs_ring_port.specs.{declared.failure.Failure.Failure, Contents.PublishCid}
use Rattle.vs_device_parts.specs.{Calls.{DeviceTree, Ring, Label}, Connections.{with_client, stream_closed}, State.DeviceState, Streams.closing}

-- reset: all streams are closed, by rising slot; table and owed replies are empty; the CID is published, and an event is owed.
abbrev pub close_slot : ℕ → DeviceState → DeviceTree DeviceState
close_slot slot s = elim (entry_under s.table slot) [ None ↦ Done s | Some e ↦ closing e stream_closed s ]

abbrev pub after_reset : ℕ → DeviceState → DeviceState
after_reset cid s = record s { cid = cid; table = emptied s.table; replies = []; event_owed = true }

abbrev pub reset_of : ℕ → DeviceState → DeviceTree (DeviceState × Result (Unit {0}) Failure)
reset_of cid s = elim s.failed [
  | Some f ↦ Done (s, Err f)
  | None ↦ bind (for_each close_slot (slots s.table) s) (λ t. Ask (Ring (PublishCid cid)) (λ _. Done (after_reset cid t, Ok tt)))
]

-- open: the stream of a client is labelled with its flow, and the connection owes REQUEST.
abbrev pub open_of : Flow → ℕ → DeviceState → DeviceTree (DeviceState × Result ℕ TableFault)
open_of flow stream s = elim (refusal s.table flow) [
  | Some fault ↦ Done (s, Err fault)
  | None ↦ Ask (Label stream flow) (λ _. Done (with_client flow stream s, Ok s.table.given))
]

-- The table, by rising slot.
abbrev pub table_shown : DeviceState → List (Flow × State)
table_shown s = map (λ e. (e.flow, e.value.end.state)) s.table.entries
