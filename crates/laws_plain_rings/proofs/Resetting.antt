-- The guest's CID is published.
use Rattle.std.proofs.Common.{◌≡◌, ℕ, ◌+◌, ◌*◌, refl, sym, ap, ◌∙◌, Some, arith}
use Rattle.vs_guest_mem.specs.Memory.{bytes_at}
use Rattle.vs_ring_port.specs.{Contents.PublishCid, declared.queue.Queue.{Queue, TheVariants.{Rx, Tx, Event}}}
use Rattle.vs_ring_list.specs.Ends.{Ends}
use Rattle.vs_plain_driver.specs.Queue.{DriverQueueState}
use Rattle.laws_plain_rings.{specs.{Calls.after_device, Parts.{PartsState, driver_at}, Tie.{AreTied, IsTiedAt, areas_of, shown_of, start_in, start_of}}, proofs.Spots.laid_same}
use Rattle.laws_plain_rings.proofs.Held.{held_moved}

module _ (p : PartsState) (w : Ends) (tied : AreTied p w) (cid : ℕ) where
  abbrev new : PartsState
  new = record p { cid = cid }

  same_driver : (r : Queue) → driver_at r new ≡ driver_at r p
  same_driver queue = search arith

  starts : (r : Queue) → start_of new r ≡ start_of p r
  starts r = ap (λ (x : DriverQueueState). start_in x.pages_at) (same_driver r)

  queues : (r : Queue) → IsTiedAt new (after_device (PublishCid cid) w) r
  queues Rx = tied.queues Rx
  queues Tx = tied.queues Tx
  queues Event = tied.queues Event

  pub tied_reset : AreTied new (after_device (PublishCid cid) w)
  tied_reset = record {
    still = tied.still;
    laid = laid_same p.device.size (areas_of p) (start_of p) (start_of new) p.device.memory p.device.memory starts refl refl tied.laid;
    there = λ r. ap (λ (x : DriverQueueState). x.pages_at) (same_driver r) ∙ tied.there r ∙ ap (λ (a : ℕ). Some a) (sym (starts r));
    sizes = λ r. ap (λ (x : DriverQueueState). x.n) (same_driver r) ∙ tied.sizes r;
    size = tied.size;
    cid = refl;
    queues = queues;
    held = held_moved (start_of p) (start_of new) starts (shown_of p) (shown_of new) p.device.held w.device.held
        (λ r id some c few. ap (λ (a : ℕ). bytes_at p.device.memory (a + 4096 * id) c) (starts r)) tied.held;
    logs = record {
      driver_fair = tied.logs.driver_fair;
      device_fair = tied.logs.device_fair;
      tx = tied.logs.tx;
      rx = tied.logs.rx;
      event = tied.logs.event;
      no_event = tied.logs.no_event;
    };
  }
