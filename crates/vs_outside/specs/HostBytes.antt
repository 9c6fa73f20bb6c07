-- What the programs of a host wrote and read on a flow, without the two handshake lines of a client (Firecracker's vsock documentation).
use Rattle.std.specs.Prelude.{ℕ, ◌+◌, ◌-◌, ◌==◌, Bool, false, if◌then◌else◌, List, [], filter, drop, position, slice_get, Option}
use Rattle.std.specs.{List.list_any, Prelude.option_and_then, Option.{option_map, option_map_or}}
use Rattle.vs_flow.specs.{declared.flow.Flow.Flow, Connection.Connection, Flow.same_flow}
use Rattle.vs_outside.specs.{declared.passed.TheConstants.LINE_END, Host.Stream, Host.HostContents, Host.stream_at}

-- The bytes after the first line, which ends at the first LF. There are none while the line isn't whole.
abbrev pub after_line : List ℕ → List ℕ
after_line bytes = option_map_or (λ place. drop (place + 1) bytes) (position (λ b. b == LINE_END) bytes) []

-- Whether a line ends in the bytes.
abbrev pub has_line : List ℕ → Bool
has_line bytes = list_any (λ b. b == LINE_END) bytes

-- What the host's program wrote and the proxy took: behind the CONNECT line, where a client made the stream.
abbrev pub wrote_after_connect : Stream → List ℕ
wrote_after_connect s = if s.by_client then after_line s.taken else s.taken

-- What the host's program was given to read: behind the OK line, where a client made the stream.
abbrev pub read_after_ok : Stream → List ℕ
read_after_ok s = if s.by_client then after_line s.given else s.given

-- whether the stream of that id has that label
abbrev pub is_labelled : Flow → HostContents → ℕ → Bool
is_labelled f c id = option_map_or (λ s. option_map_or (same_flow f) s.label false) (stream_at id c) false

-- The ids of the streams with that label, in the order in which streams were labelled.
abbrev pub labelled_with : Flow → HostContents → List ℕ
labelled_with f c = filter (is_labelled f c) c.labelled

-- A connection's stream: its flow's streams are counted from 1, in that order.
abbrev pub stream_of : Connection → HostContents → Option Stream
stream_of k c = option_and_then (λ id. stream_at id c) (slice_get (labelled_with k.flow c) (k.number - 1))

-- The connection that a stream is: its label, and its place among the streams of that label. None, where it has no label.
abbrev pub numbered_in : List ℕ → ℕ → Flow → Option Connection
numbered_in ids id f = option_map (λ place. record { flow = f; number = place + 1 }) (position (λ other. other == id) ids)

abbrev pub connection_at : ℕ → HostContents → Option Connection
connection_at id c =
    option_and_then (λ s. option_and_then (λ f. numbered_in (labelled_with f c) id f) s.label) (stream_at id c)

-- What the host wrote on a connection's stream, and what it read there. Nothing, where there is no such stream.
abbrev pub host_wrote : Connection → HostContents → List ℕ
host_wrote k c = option_map_or wrote_after_connect (stream_of k c) []

abbrev pub host_read : Connection → HostContents → List ℕ
host_read k c = option_map_or read_after_ok (stream_of k c) []
