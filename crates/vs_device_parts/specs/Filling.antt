-- Packets that are put on the receive queue, step by step.
use Rattle.std.specs.Prelude.{ℕ, Bool, true, false, if◌then◌else◌, List, [], take, Some, None}
use Rattle.vs_contents.specs.CallTree.{Done, bind, for_each}
use Rattle.vs_conn.specs.declared.end.Owed.{Owed}
use Rattle.vs_flow.specs.Table.{entry_under, slots}
use Rattle.vs_header.specs.declared.Header.{Header}
use Rattle.vs_outside.specs.declared.host_net.StreamRead.{StreamRead}
use Rattle.vs_device_parts.specs.{declared.fill.Fill.Fill, Calls.DeviceTree, Receiving.{Filling, hold, put_on, read_stream, round_from, serve_slot}, State.DeviceState}
use Rattle.vs_conn.specs.declared.end.Owed.TheVariants as owed
use Rattle.vs_outside.specs.declared.host_net.StreamRead.TheVariants as read

-- The device, and what was done so far.
abbrev pub filling_of : DeviceState → Fill → Filling
filling_of s fill = record { state = s; put = fill.put; read = fill.read; over = fill.over }

-- A packet without payload is put where a chain is or becomes held. It tells whether it was put.
abbrev pub put_header : Header → Filling → DeviceTree (Filling × Bool)
put_header h r =
    bind (hold r) (λ q. elim q.state.chain [ None ↦ Done (q, false) | Some chain ↦ bind (put_on chain h [] q) (λ p. Done (p, true)) ])

abbrev pub is_rst : Owed → Bool
is_rst owed.Rst = true
is_rst _ = false

-- What the connection in a slot reads of its stream.
abbrev pub read_slot : ℕ → Filling → DeviceTree Filling
read_slot slot r = elim (entry_under r.state.table slot) [ None ↦ Done r | Some e ↦ read_stream e r ]

-- The round over all connections.
abbrev pub serve_all : Filling → DeviceTree Filling
serve_all r = for_each serve_slot (round_from r.state.last_put (slots r.state.table)) r

abbrev pub serve_rest : Filling → DeviceTree Filling
serve_rest r = if r.over then Done r else serve_all r

-- The bytes that a read into a buffer gave.
abbrev pub bytes_read : StreamRead → List ℕ → List ℕ
bytes_read (read.Got n) out = take n out
bytes_read _ out = []
