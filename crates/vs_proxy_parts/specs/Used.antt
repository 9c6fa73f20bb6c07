-- The queues on which a turn returned chains.
use Rattle.std.specs.Prelude.{Bool, nat_lt}
use Rattle.vs_ring_port.specs.declared.queue.Queue.{Queue, TheVariants.Rx, TheVariants.Tx, TheVariants.Event}
use Rattle.vs_proxy_parts.specs.declared.answers.Turned.{Turned}

-- Each packet that was put is a chain of rx, each one that was taken a chain of tx.
abbrev pub has_used : Queue → Turned → Bool
has_used Rx t = nat_lt 0 t.put
has_used Tx t = nat_lt 0 t.took
has_used Event t = t.event
