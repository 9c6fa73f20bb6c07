-- Accesses that change nothing.
use Rattle.std.proofs.lemmas.Grind.{common_steps}
use Rattle.std.proofs.Common.{arith, ◌≡◌, ℕ, [], refl}
use Rattle.vs_guest_mem.specs.Memory.{Memory, accessed}
use Rattle.vs_ring_port.specs.declared.queue.Queue.{Queue, TheVariants.Rx}
use Rattle.vs_ring_list.specs.Ends.{Ends}
use Rattle.vs_ring_plain.specs.Device.{with_memory}
use Rattle.laws_plain_rings.{specs.{Parts.PartsState, Shown.shown, Tie.{AreTied, areas_of, shown_of, start_of}}, proofs.Spots.{seen_same, quietly_wrote}}
use Rattle.laws_plain_rings.proofs.{Spots.{IsQuietly}, Assemble.{step, held_after}, QueueSteps.tie_same}

pub quietly_accessed : (m : Memory) (k : ℕ) → m.changes ≡ [] → IsQuietly m (accessed m k)
quietly_accessed m k still = grind (arith, common_steps)

module _ (p : PartsState) (w : Ends) (tied : AreTied p w) (new : Memory) (quietly : IsQuietly p.device.memory new) where
  pub seen : (r : Queue) → shown (areas_of p r) (start_of p r) new ≡ shown_of p r
  seen r = seen_same (areas_of p r) (start_of p r) p.device.memory new quietly.base quietly.bytes

  pub quiet_step : AreTied (record p { device = with_memory p.device new }) w
  quiet_step =
      let wrote = quietly_wrote tied.laid Rx [] quietly in
      let x = tied.queues Rx in
      step p w tied Rx p.rx new p.device.turns.rx p.device.held w.driver.staged.rx w.lists.rx w.driver.entries w.device.entries
      w.device.held refl refl wrote (x.0, x.1, tie_same x.2 tied.laid.nonzero tied.laid.divides _ wrote.own) (λ r other. refl)
      (held_after p w tied Rx [] new wrote (λ id some. tt)) tied.logs
