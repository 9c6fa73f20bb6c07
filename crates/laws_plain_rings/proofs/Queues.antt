-- One of the three queues, and the others.
use Rattle.std.proofs.{Common.◌≡◌, Common.false, Common.arith, lemmas.Grind.common_steps}
use Rattle.vs_ring_port.specs.{Chains.same_queue, declared.queue.Queue.Queue}

-- what is so of one queue and of each other is so of all
pub of_each : (P : Queue → Type 0) (queue : Queue) → P queue → ((q : Queue) → same_queue queue q ≡ false → P q) → (q : Queue) → P q
of_each P queue here others q = grind (arith, common_steps)

pub turned : (q r : Queue) → same_queue q r ≡ false → same_queue r q ≡ false
turned q r other = grind (arith, common_steps)
