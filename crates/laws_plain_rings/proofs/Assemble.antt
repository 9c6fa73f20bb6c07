-- Both ends put together from their queues.
use Rattle.std.proofs.lemmas.Grind.{common_steps}
use Rattle.std.proofs.Common.{◌≡◌, ℕ, ◌+◌, ◌*◌, ◌<◌, ◌≤◌, false, List, Some, refl, sym, ap, ◌∙◌, subst, arith}
use Rattle.vs_guest_mem.specs.Memory.{Memory, bytes_at}
use Rattle.vs_page.specs.Log.{Log}
use Rattle.vs_ring_port.specs.{Chains.{Held, same_queue}, EndLog.{pages_at, with_pages}, Lists.{Lists, queue_of, with_queue}, declared.queue.Queue.Queue}
use Rattle.vs_ring_list.specs.{Ends.Ends, Sound.IsTied}
use Rattle.vs_ring_plain.specs.{Device.{HeldChain, turns_at, with_turns}, declared.turns.Turns.Turns}
use Rattle.vs_plain_driver.specs.Queue.{DriverQueueState}
use Rattle.laws_plain_rings.specs.{Parts.{PartsState, driver_at, with_driver, with_parts_memory}, Queue.{IsQueueTied, times}, Shown.{Shown, shown}, Tie.{AreHeldAs, AreTied}}
use Rattle.laws_plain_rings.{specs.Tie.{IsTiedAt, areas_of, heads_of, shown_of, start_in, start_of}, proofs.{Held.{held_kept, held_moved}, QueueSteps.tie_same, Queues.of_each}}
use Rattle.laws_plain_rings.proofs.{Spots.{laid_same, Wrote, Spot, DiffersAll, PageOf}}

-- one queue of both ends, as its tie sees it
pub record QueueParts : Type 0 where
  pub n : ℕ
  pub at : ℕ
  pub s : Shown
  pub q : DriverQueueState
  pub t : Turns
  pub heads : List ℕ
  pub staged : List (List ℕ)
  pub l : Lists

abbrev pub parts_at : PartsState → Ends → Queue → QueueParts
parts_at p w queue = record {
  n = p.device.size;
  at = start_of p queue;
  s = shown_of p queue;
  q = driver_at queue p;
  t = turns_at queue p.device.turns;
  heads = heads_of queue p.device.held;
  staged = pages_at queue w.driver.staged;
  l = queue_of queue w.lists;
}

abbrev pub TieOf : Queue → QueueParts → Type 0
TieOf queue v = (out : List ℕ) × (back : List ℕ) × IsQueueTied queue v.n v.at v.s v.q v.t v.heads v.staged v.l out back

-- Both ends with what each has of one queue changed, and the memory and the chains held.
abbrev pub parts_form : Queue → DriverQueueState → Memory → Turns → List HeldChain → PartsState → PartsState
parts_form queue q m t held p = record {
  device = record p.device { memory = m; turns = with_turns queue t p.device.turns; held = held };
  rx = (with_driver queue q p).rx;
  tx = (with_driver queue q p).tx;
  event = (with_driver queue q p).event;
  cid = p.cid;
}

abbrev pub ends_form : Queue → List (List ℕ) → Lists → Log → Log → List Held → Ends → Ends
ends_form queue staged l sent got held w =
    record w {
      lists = with_queue queue l w.lists;
      driver = record w.driver { entries = sent; staged = with_pages queue staged w.driver.staged };
      device = record w.device { entries = got; held = held };
    }

-- one of them alone changed
pub driver_form_is : (queue : Queue) (q : DriverQueueState) (m : Memory) (p : PartsState)
    → with_driver queue q (with_parts_memory m p) ≡ parts_form queue q m (turns_at queue p.device.turns) p.device.held p
driver_form_is queue q m p = search arith

pub device_form_is : (queue : Queue) (m : Memory) (t : Turns) (held : List HeldChain) (p : PartsState)
    → record p { device = record p.device { memory = m; turns = with_turns queue t p.device.turns; held = held } }
    ≡ parts_form queue (driver_at queue p) m t held p
device_form_is queue m t held p = search arith

module _ (p : PartsState) (w : Ends) (tied : AreTied p w) (queue : Queue) where
  -- chains that are held lie where they lay
  pub held_after : (xs : List Spot) (m : Memory) → Wrote p.device.size (areas_of p) (start_of p) queue xs p.device.memory m
      → ((id : ℕ) → 0 < times id (heads_of queue p.device.held) → DiffersAll xs (PageOf id))
      → AreHeldAs (start_of p) (λ r. shown (areas_of p r) (start_of p r) m) p.device.held w.device.held
  held_after xs m wrote free =
      held_kept (start_of p) (shown_of p) (λ r. shown (areas_of p r) (start_of p r) m) p.device.held w.device.held (of_each (λ r.
      (id : ℕ) → 0 < times id (heads_of r p.device.held) → (c : ℕ) → c ≤ 4096
      → bytes_at m (start_of p r + 4096 * id) c ≡ bytes_at p.device.memory (start_of p r + 4096 * id) c) queue
      (λ id some c few. wrote.own.page id c (below queue id some) few (free id some))
      (λ r other id some c few. (wrote.other r other).page id c (below r id some) few tt)) tied.held
    where
      below : (r : Queue) (id : ℕ) → 0 < times id (heads_of r p.device.held) → id < p.device.size
      below r id some = ((tied.queues r).2.pages id (omega (arith, some))).0

  module _ (q : DriverQueueState) (m : Memory) (t : Turns) (held : List HeldChain) (staged : List (List ℕ)) (l : Lists) (sent got : Log)
      (gs : List Held) where
    abbrev new : PartsState
    new = parts_form queue q m t held p

    abbrev then : Ends
    then = ends_form queue staged l sent got gs w

    abbrev changed : QueueParts
    changed = record {
      n = p.device.size;
      at = start_in q.pages_at;
      s = shown (areas_of p queue) (start_in q.pages_at) m;
      q = q;
      t = t;
      heads = heads_of queue held;
      staged = staged;
      l = l;
    }

    abbrev kept : Queue → QueueParts
    kept r = record (parts_at p w r) { s = shown (areas_of p r) (start_of p r) m; heads = heads_of r held }

    parts_here : parts_at new then queue ≡ changed
    parts_here = grind (arith, common_steps)

    parts_beside : (r : Queue) → same_queue queue r ≡ false → parts_at new then r ≡ kept r
    parts_beside r other = grind (arith, common_steps)

    lists_stay : (r : Queue) → ((with_queue r l w.lists).size ≡ w.lists.size) × ((with_queue r l w.lists).cid ≡ w.lists.cid)
    lists_stay r = search arith

    -- both ends are tied after it
    pub step : {xs : List Spot} → q.n ≡ (driver_at queue p).n → q.pages_at ≡ (driver_at queue p).pages_at
        → Wrote p.device.size (areas_of p) (start_of p) queue xs p.device.memory m → TieOf queue changed
        → ((r : Queue) → same_queue queue r ≡ false → heads_of r held ≡ heads_of r p.device.held)
        → AreHeldAs (start_of p) (λ r. shown (areas_of p r) (start_of p r) m) held gs → IsTied (with_queue queue l w.lists) sent got
        → AreTied new then
    step n_is at_is wrote tie heads holds logs = record {
      still = wrote.still;
      laid = laid_same p.device.size (areas_of p) (start_of p) (start_of new) m m starts refl refl wrote.laid;
      there = λ r. pages_there r ∙ tied.there r ∙ ap (λ (a : ℕ). Some a) (sym (starts r));
      sizes = of_each (λ r. (driver_at r new).n ≡ p.device.size) queue
          (ap (λ (v : QueueParts). v.q.n) parts_here ∙ n_is ∙ tied.sizes queue)
          (λ r other. ap (λ (v : QueueParts). v.q.n) (parts_beside r other) ∙ tied.sizes r);
      size = (lists_stay queue).0 ∙ tied.size;
      cid = (lists_stay queue).1 ∙ tied.cid;
      queues = of_each (λ r. IsTiedAt new then r) queue (subst (λ (v : QueueParts). TieOf queue v) (sym parts_here) tie)
          (λ r other. subst (λ (v : QueueParts). TieOf r v) (sym (parts_beside r other)) (other_tie r other));
      held = held_moved (start_of p) (start_of new) starts (λ r. shown (areas_of p r) (start_of p r) m) (shown_of new) held gs
          (λ r id some c few. ap (λ (a : ℕ). bytes_at m (a + 4096 * id) c) (starts r)) holds;
      logs = logs;
    }
      where
        pages_there : (r : Queue) → (driver_at r new).pages_at ≡ (driver_at r p).pages_at
        pages_there = of_each (λ r. (driver_at r new).pages_at ≡ (driver_at r p).pages_at) queue
            (ap (λ (v : QueueParts). v.q.pages_at) parts_here ∙ at_is)
            (λ r other. ap (λ (v : QueueParts). v.q.pages_at) (parts_beside r other))

        starts : (r : Queue) → start_of new r ≡ start_of p r
        starts r = ap start_in (pages_there r)

        other_tie : (r : Queue) → same_queue queue r ≡ false → TieOf r (kept r)
        other_tie r other =
            let x = tied.queues r in
            subst (λ (hs : List ℕ). TieOf r (record (parts_at p w r) { s = shown (areas_of p r) (start_of p r) m; heads = hs }))
            (sym (heads r other)) (x.0, x.1, tie_same x.2 tied.laid.nonzero tied.laid.divides _ (wrote.other r other))
