-- What a play's lines answered, and what they sent and received on an id, by the answers that they printed.
use Rattle.std.specs.Prelude.{ℕ, ◌==◌, if◌then◌else◌, List, [], ◌∷◌, ◌++◌, Result}
use Rattle.vs_driver_parts.specs.{Connections.{recv_of, unread_of_id, close_of}, Conversations.{connect_of, send_of}, Listening.accept_of}
use Rattle.vs_driver_parts.specs.declared.answers.{Accepted.Accepted, Closed.Closed, ConnectError.ConnectError, Received.Received, Sent.Sent}
use Rattle.vs_script.specs.{Data.{Content, bytes_of}, Play.Event}
use Rattle.laws_world.specs.World.{driver_plays}
use Rattle.laws_driver.specs.Carried.{Sent.took, Received.bytes_got}
use Rattle.vs_play.specs.Lines.{PlayWorld, event_played}
use Rattle.vs_script.specs.Play as script

-- The answers of `connect PORT`, `accept PORT` and `close C`.
abbrev pub connect_answer : ℕ → PlayWorld → Result ℕ ConnectError
connect_answer port p = (driver_plays (connect_of port p.world.driver) p.world).0.1

abbrev pub accept_answer : ℕ → PlayWorld → Accepted
accept_answer port p = accept_of port p.world.driver

abbrev pub close_answer : ℕ → PlayWorld → Closed
close_answer id p = close_of id p.world.driver

-- The answer of `send C DATA`.
abbrev pub send_answer : ℕ → Content → PlayWorld → Sent
send_answer id content p = (driver_plays (send_of id (bytes_of content) p.world.driver) p.world).0.1

-- The answer of `recv C N`, and the bytes that it gives.
abbrev pub recv_answer : ℕ → ℕ → PlayWorld → Received
recv_answer id len p = recv_of id len p.world.driver

abbrev pub recv_bytes : ℕ → ℕ → PlayWorld → List ℕ
recv_bytes id len p = bytes_got (recv_answer id len p) (unread_of_id id p.world.driver)

-- The bytes that a line sends on an id: those that a `send` on it took.
abbrev pub sent_by : ℕ → Event → PlayWorld → List ℕ
sent_by id (script.Send other content) p = if id == other then took (bytes_of content) (send_answer other content p) else []
sent_by id _ p = []

-- Those that it receives there: those that a `recv` on it gives.
abbrev pub received_by : ℕ → Event → PlayWorld → List ℕ
received_by id (script.Recv other len) p = if id == other then recv_bytes other len p else []
received_by id _ p = []

-- The same of all lines, in their order.
abbrev pub sent_in : ℕ → List Event → PlayWorld → List ℕ
sent_in id [] p = []
sent_in id (e ∷ es) p = sent_by id e p ++ sent_in id es (event_played e p).0

abbrev pub received_in : ℕ → List Event → PlayWorld → List ℕ
received_in id [] p = []
received_in id (e ∷ es) p = received_by id e p ++ received_in id es (event_played e p).0
