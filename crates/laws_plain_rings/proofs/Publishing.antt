-- The staged pages of a queue are published, and the guest's CID is loaded.
use Rattle.std.proofs.{Common.{◌≡◌, ℕ, ◌+◌, ◌%◌, ◌^◌, Bool, true, false, cond, [], ◌∷◌, ◌++◌, refl, sym, ap, ◌∙◌, subst, arith}, lemmas.Bool.Decides.nat_tests}
use Rattle.std.specs.Prelude.{◌==◌}
use Rattle.byteorder.specs.Endian.{little_bytes, little_number}
use Rattle.vs_guest_mem.specs.Memory.{Memory, after_write}
use Rattle.vs_header.proofs.RoundTrip.{little_number-little_bytes}
use Rattle.vs_page.specs.{Fair.IsFairLog, Log.Driver}
use Rattle.vs_ring_port.specs.{DriverCalls.{LoadCid, Publish}, EndLog.{entries_published, pages_at}, Lists.{Lists, queue_of}, declared.queue.Queue.Queue}
use Rattle.vs_ring_list.{specs.Ends.Ends, proofs.Ties.{tied-load, tied-publish}}
use Rattle.vs_ring_plain.specs.Device.{turns_at}
use Rattle.vs_plain_driver.specs.Queue.{DriverQueueState, published_memory, published_queue}
use Rattle.laws_plain_rings.specs.{Tie.{AreTied, areas_of, shown_of, start_of}, Calls.after_driver, Parts.{PartsState, driver_at, published_parts}, Shown.shown}
use Rattle.laws_plain_rings.proofs.{Assemble.{driver_form_is, step, held_after, parts_form}, QueueSteps.tie_published, Spots.{AvailIdx, Wrote, wrote, read_back, quietly_wrote}}
use Rattle.laws_plain_rings.proofs.Spots.{quietly_now}

module _ (p : PartsState) (w : Ends) (tied : AreTied p w) where
  module _ (queue : Queue) (fair : IsFairLog Driver (entries_published queue (pages_at queue w.driver.staged) w.driver.entries)) where
    abbrev q : DriverQueueState
    q = driver_at queue p

    abbrev n : ℕ
    n = p.device.size

    abbrev m : Memory
    m = p.device.memory

    abbrev I : ℕ
    I = (areas_of p queue).avail + 2

    abbrev index : ℕ
    index = (q.published + q.staged) % 2 ^ 16

    abbrev stored : Memory
    stored = after_write m I (little_bytes 2 index)

    -- what the memory is then
    record IsPublished (new : Memory) : Type 0 where
      written : Wrote n (areas_of p) (start_of p) queue (AvailIdx ∷ []) m new
      avail : (shown (areas_of p queue) (start_of p queue) new).avail ≡ index

    is_published : (b : Bool) → (q.staged == 0) ≡ b → IsPublished (cond b m stored)
    is_published true none = record {
      written = quietly_wrote tied.laid queue (AvailIdx ∷ []) (quietly_now m tied.still);
      avail = same_index;
    }
      where
        same_index : (shown_of p queue).avail ≡ index
        same_index =
            let t = (tied.queues queue).2 in
            let zero_staged : q.staged ≡ 0 = grind (arith, nat_tests, none) in
            omega (arith, t.avail, t.published, zero_staged)
    is_published false some = record {
      written = wrote tied.laid queue AvailIdx tt I (little_bytes 2 index) (omega arith) (omega arith) tied.still;
      avail = ap (little_number 2) (read_back tied.laid queue AvailIdx tt I (little_bytes 2 index) (omega arith) (omega arith))
          ∙ little_number-little_bytes 2 index (omega arith);
    }

    published : (new : Memory) → IsPublished new → AreTied (parts_form queue (published_queue q) new (turns_at queue p.device.turns)
        p.device.held p) (after_driver (Publish queue) w)
    published new is =
        let x = tied.queues queue in
        let staged = pages_at queue w.driver.staged in
        let l : Lists = record (queue_of queue w.lists) { given = (queue_of queue w.lists).given ++ staged } in
        step p w tied queue (published_queue q) new (turns_at queue p.device.turns) p.device.held [] l
        (entries_published queue staged w.driver.entries) w.device.entries w.device.held refl refl is.written
        (x.0, x.1, tie_published x.2 tied.laid.nonzero tied.laid.divides _ is.written.own is.avail) (λ r other. refl)
        (held_after p w tied queue _ new is.written (λ j some. (tt, tt)))
        (tied-publish queue staged w.lists w.driver.entries w.device.entries tied.logs fair)

    pub tied_published : AreTied (published_parts queue p) (after_driver (Publish queue) w)
    tied_published =
        subst (λ (x : PartsState). AreTied x (after_driver (Publish queue) w)) (sym (driver_form_is queue (published_queue q) _ p))
        (published (published_memory (areas_of p queue) q m) (is_published (q.staged == 0) refl))

  pub tied_loaded : AreTied p (after_driver LoadCid w)
  tied_loaded = record {
    still = tied.still;
    laid = tied.laid;
    there = tied.there;
    sizes = tied.sizes;
    size = tied.size;
    cid = tied.cid;
    queues = tied.queues;
    held = tied.held;
    logs = tied-load w.lists.cid w.lists w.driver.entries w.device.entries tied.logs;
  }
