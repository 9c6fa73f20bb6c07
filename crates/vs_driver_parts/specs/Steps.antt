-- The driver's steps: each moves one page at most, on the pages as they stand.
use Rattle.std.specs.Prelude.{ℕ, ◌==◌, if◌then◌else◌, List, length, Some, None, Result, Ok, Err}
use Rattle.vs_contents.specs.CallTree.{Done, bind}
use Rattle.vs_conn.specs.End.{may_send_of, wanting_credit}
use Rattle.vs_limits.specs.declared.TheConstants.{HOST_CID}
use Rattle.vs_ring_port.specs.declared.queue.Queue.{Queue, TheVariants.{Rx, Tx, Event}}
use Rattle.vs_driver_parts.specs.{declared.answers.{ConnectError.ConnectError, Sent.Sent}, State.{DriverState, DriverEntry, entry_known_as}, Conversations.{DriverTree, start}}
use Rattle.vs_driver_parts.specs.Conversations.{reap_one, take_event, take_packet, put_reply, put_owed, connect_with_page, send_with_page, payload_of, no_credit, send_stopped}
use Rattle.vs_driver_parts.specs.{Conversations.not_sent, Connections.{connect_refusal, with_end}}
use Rattle.vs_driver_parts.specs.declared.answers.Sent.TheVariants as sent

-- It takes one page of a queue, where it still takes any, does what the page asks of it, and stages the page again. A transmit page just
-- comes back.
abbrev pub takes_page : Queue → DriverState → DriverTree DriverState
takes_page Rx s = bind (take_packet (start s)) (λ r. Done r.0.state)
takes_page Tx s = bind (reap_one s) (λ r. Done r.0)
takes_page Event s = bind (take_event (start s)) (λ r. Done r.0.state)

-- It stages the oldest reply, or what a connection owes.
abbrev pub stages_reply : DriverState → DriverTree DriverState
stages_reply s = bind (put_reply (start s)) (λ r. Done r.0.state)

abbrev pub stages_owed : ℕ → DriverState → DriverTree DriverState
stages_owed slot s = bind (put_owed slot (start s)) (λ r. Done r.0.state)

-- connect and send, on the pages as they stand.
abbrev pub connects : ℕ → DriverState → DriverTree (DriverState × Result ℕ ConnectError)
connects port s = elim (connect_refusal HOST_CID port s) [ Some refusal ↦ Done (s, Err refusal) | None ↦ connect_with_page HOST_CID port s ]

abbrev pub sends_with_credit : DriverEntry → ℕ → List ℕ → DriverState → DriverTree (DriverState × Sent)
sends_with_credit e credit bytes s =
    if length bytes == 0 then Done (s, sent.Took 0)
    else if credit == 0 then Done (with_end (wanting_credit e.value.end) e s, no_credit e.value.end)
    else send_with_page e (payload_of credit bytes) s

abbrev pub sends_on : DriverEntry → List ℕ → DriverState → DriverTree (DriverState × Sent)
sends_on e bytes s = elim (may_send_of e.value.end) [
  | Err why ↦ Done (s, send_stopped why)
  | Ok credit ↦ sends_with_credit e credit bytes s
]

abbrev pub sends : ℕ → List ℕ → DriverState → DriverTree (DriverState × Sent)
sends id bytes s = elim (entry_known_as id s) [ None ↦ Done (s, not_sent id s) | Some e ↦ sends_on e bytes s ]
