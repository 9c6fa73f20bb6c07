-- What a round of the device's thread says, by the answer of its turn.
use Rattle.std.specs.Prelude.{Bool, ◌||◌, nat_lt}
use Rattle.vs_ring_port.specs.declared.queue.Queue.TheVariants.{Rx, Tx, Event}
use Rattle.vs_proxy_parts.specs.{Used.has_used, declared.answers.Turn.Turn, declared.answers.Turned.Turned}
use Rattle.vs_embedding.specs.declared.monitor.Served.{Served}
use Rattle.vs_embedding.specs.declared.monitor.Served.TheVariants as served
use Rattle.vs_proxy_parts.specs.declared.answers.Turn.TheVariants as turn

-- Chains were returned on one of the queues.
abbrev pub interrupts : Turned → Bool
interrupts t = has_used Rx t || (has_used Tx t || has_used Event t)

-- A turn moved something.
abbrev pub moved : Turned → Bool
moved t =
    interrupts t || (nat_lt 0 t.read || (nat_lt 0 t.wrote || (nat_lt 0 t.opened || (nat_lt 0 t.closed || nat_lt 0 t.hands))))

abbrev pub served_by : Turn → Served
served_by (turn.Turned t) = served.Turned (interrupts t) (moved t)
served_by (turn.Failed f) = served.NeedsReset f
