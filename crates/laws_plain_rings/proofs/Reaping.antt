-- A page is reaped, or none.
use Rattle.std.proofs.lemmas.Grind.{common_steps}
use Rattle.std.proofs.Common.{◌≡◌, ℕ, ◌+◌, ◌*◌, ◌%◌, ◌^◌, ◌<◌, Bool, true, false, cond, List, [], ◌∷◌, ◌++◌, length, Option, None, Some, refl, sym, ap, ◌∙◌, subst, arith}
use Rattle.std.{proofs.lemmas.Bool.Decides.nat_tests, specs.Prelude.{◌-◌, ◌≤◌, ◌==◌, ◌||◌, min, nat_le, nat_lt, set, slice_index_or}}
use Rattle.vs_guest_mem.specs.Memory.{Memory, bytes_at}
use Rattle.vs_layout.specs.{Entry.used_elem_of, Layout.used_elem, declared.entry.UsedElem.UsedElem}
use Rattle.vs_ring_port.specs.{Lists.{Lists, all_but_oldest, next_back, oldest, queue_of}, declared.queue.Queue.{Queue}, DriverCalls.Reap}
use Rattle.vs_ring_port.specs.EndLog.{entries_reaped, pages_at}
use Rattle.vs_ring_list.{specs.Ends.Ends, proofs.Ties.tied-reap}
use Rattle.vs_ring_plain.specs.{Chain.ahead, Device.turns_at}
use Rattle.vs_plain_driver.specs.Queue.{DriverQueueState, flight_in, next_elem, numbered, page_back, reaped_page, reaped_queue, used_ahead}
use Rattle.laws_plain_rings.specs.{Parts.{PartsState, driver_at, reaped_parts, used_in, with_driver}, Tie.{AreTied, areas_of, heads_of, shown_of, start_of}, Calls.after_driver}
use Rattle.laws_plain_rings.{specs.{Queue.{HasPage, IsBack, IsQueueTied}, Shown.Shown}, proofs.{QueueReturns.{id_has, row, tie_reaped}, Assemble.{ends_form, step, parts_form}}}
use Rattle.laws_plain_rings.proofs.{Assemble.driver_form_is, QueueSteps.{out_count, back_count}, Taking.chosen, Spots.{quietly_wrote, quietly_now}}

first_of : {A : Type 0} (b : Bool) (x y : A) → b ≡ true → cond b x y ≡ x
first_of b x y on = rw on refl

pub or_false : (a b c : Bool) → a ≡ false → b ≡ false → c ≡ false → (a || b || c) ≡ false
or_false a b c fa fb fc = rw (fa, fb, fc) refl

or_first : (a b c : Bool) → a ≡ true → (a || b || c) ≡ true
or_first a b c on = rw on refl

module _ (p : PartsState) (w : Ends) (tied : AreTied p w) (queue : Queue) where
  abbrev q : DriverQueueState
  q = driver_at queue p

  abbrev n : ℕ
  n = p.device.size

  abbrev m : Memory
  m = p.device.memory

  abbrev s : Shown
  s = shown_of p queue

  abbrev l : Lists
  l = queue_of queue w.lists

  -- none was returned
  module _ (none : l.back ≡ []) where
    used_is : (used_ahead (areas_of p queue) q m == 0) ≡ true
    used_is =
        let t = (tied.queues queue).2 in
        let same : ahead s.used q.reaped ≡ 0 = omega (arith, t.used, t.returned, t.small, ap length none) in ap (λ (k : ℕ). k == 0) same

    none_used : used_in queue p ≡ None
    none_used = first_of _ None _ (or_first _ _ _ used_is)

    none_parts : reaped_parts queue p ≡ p
    none_parts = grind (arith, common_steps, none_used)

    none_ends : after_driver (Reap queue) w ≡ w
    none_ends = grind (arith, common_steps)

  -- the page that was returned first
  module _ (page : List ℕ) (pages : List (List ℕ)) (back_is : l.back ≡ page ∷ pages) (id : ℕ) (ids out : List ℕ)
      (tie : IsQueueTied queue n (start_of p queue) s q (turns_at queue p.device.turns) (heads_of queue p.device.held) (pages_at queue
      w.driver.staged) l
      out (id ∷ ids)) where
    has : (id < n) × HasPage q.pages id
    has = id_has tied.laid.nonzero tied.laid.divides back_is tie

    first : IsBack s (q.reaped % n) page id
    first = (row tied.laid.nonzero tied.laid.divides back_is tie).0

    next_is : next_elem (areas_of p queue) q m ≡ record { id = id; len = length page }
    next_is = ap (λ (k : ℕ). used_elem_of (bytes_at m (used_elem (areas_of p queue) (q.reaped % k)).at 8)) (tied.sizes queue) ∙ first.elem

    more : ahead s.used q.reaped ≡ length l.back
    more = omega (arith, tie.used, tie.returned, tie.small, tie.all, tied.laid.limit, back_count tie)

    index_moved : (used_ahead (areas_of p queue) q m == 0) ≡ false
    index_moved = grind (arith, nat_tests, more, ap length back_is)

    not_too_far : nat_lt (flight_in q - q.staged) (used_ahead (areas_of p queue) q m) ≡ false
    not_too_far = grind (arith, nat_tests, less)
      where
        less : ahead s.used q.reaped ≤ flight_in q - q.staged
        less = omega (arith, more, tied.sizes queue, tie.all, tie.staged_count, out_count tie, back_count tie)

    within : nat_le q.n id ≡ false
    within = grind (arith, nat_tests, has.0, tied.sizes queue)

    used_some : used_in queue p ≡ Some (id, has.1.0)
    used_some =
        chosen _ None (numbered (next_elem (areas_of p queue) q m).id (slice_index_or q.pages (next_elem (areas_of p queue) q m).id None))
        (or_false _ _ _ index_moved not_too_far (ap (λ (e : UsedElem). nat_le q.n e.id) next_is ∙ within))
        ∙ ap (λ (e : UsedElem). numbered e.id (slice_index_or q.pages e.id None)) next_is ∙ ap (numbered id) has.1.1

    short : min (length page) 4096 ≡ length page
    short = omega (arith, first.fits)

    page_is : reaped_page (areas_of p queue) q m (used_in queue p) ≡ Some page
    page_is =
        ap (reaped_page (areas_of p queue) q m) used_some
        ∙ ap (λ (o : Option ℕ). Some (page_back o id (min (next_elem (areas_of p queue) q m).len 4096) has.1.0 m)) (tied.there queue)
        ∙ ap (λ (e : UsedElem). Some (bytes_at m (start_of p queue + 4096 * id) (min e.len 4096))) next_is
        ∙ ap (λ (k : ℕ). Some (bytes_at m (start_of p queue + 4096 * id) k)) short ∙ ap (λ (bytes : List ℕ). Some bytes) first.bytes

    abbrev then : DriverQueueState
    then = record q { pages = set q.pages id None; free = q.free ++ id ∷ []; reaped = (q.reaped + 1) % 2 ^ 16 }

    new_is : reaped_parts queue p ≡ parts_form queue then m (turns_at queue p.device.turns) p.device.held p
    new_is = ap (λ (o : Option (ℕ × List ℕ)). with_driver queue (reaped_queue q o) p) used_some ∙ driver_form_is queue then m p

    ends_is : (r : Queue) → after_driver (Reap r) w
        ≡ ends_form r (pages_at r w.driver.staged) (record (queue_of r w.lists) { back = all_but_oldest (queue_of r w.lists).back })
        (entries_reaped r (next_back r w.lists) w.driver.entries) w.device.entries w.device.held w
    ends_is queue = search arith

    some_tied : AreTied (reaped_parts queue p) (after_driver (Reap queue) w)
    some_tied =
        let wrote = quietly_wrote tied.laid queue [] (quietly_now m tied.still) in
        subst (λ (x : PartsState). AreTied x (after_driver (Reap queue) w)) (sym new_is)
        (subst (λ (x : Ends). AreTied (parts_form queue then m (turns_at queue p.device.turns) p.device.held p) x) (sym (ends_is queue))
        (step p w tied queue then m (turns_at queue p.device.turns) p.device.held (pages_at queue w.driver.staged)
        (record l { back = all_but_oldest l.back }) (entries_reaped queue (next_back queue w.lists) w.driver.entries) w.device.entries
        w.device.held refl refl wrote (
          out,
          ids,
          subst (λ (b : List (List ℕ)). IsQueueTied queue n (start_of p queue) s then (turns_at queue p.device.turns) (heads_of queue
              p.device.held)
              (pages_at queue w.driver.staged) (record l { back = b }) out ids) (ap all_but_oldest (sym back_is))
              (tie_reaped tied.laid.nonzero tied.laid.divides back_is tie),
        )
        (λ r other. refl) tied.held (tied-reap w.lists w.driver.entries w.device.entries tied.logs queue)))

  -- the page is the one that was returned first, or none where none was
  pub record Reaps : Type 0 where
    pub page : reaped_page (areas_of p queue) q m (used_in queue p) ≡ next_back queue w.lists
    pub tied_then : AreTied (reaped_parts queue p) (after_driver (Reap queue) w)

  pub reaps : Reaps
  reaps = let x = tied.queues queue in by l.back refl x.1 x.0 x.2
    where
      by : (back : List (List ℕ)) → l.back ≡ back → (ids out : List ℕ) → IsQueueTied queue n (start_of p queue) s q (turns_at queue
          p.device.turns)
          (heads_of queue p.device.held) (pages_at queue w.driver.staged) l out ids → Reaps
      by [] none ids out tie = record {
        page = ap (reaped_page (areas_of p queue) q m) (none_used none) ∙ ap oldest (sym none);
        tied_then = subst (λ (x : PartsState). AreTied x (after_driver (Reap queue) w)) (sym (none_parts none))
            (subst (λ (x : Ends). AreTied p x) (sym (none_ends none)) tied);
      }
      by (page ∷ pages) back_is [] out tie = absurd (omega (arith, back_count tie, ap length back_is))
      by (page ∷ pages) back_is (id ∷ ids) out tie = record {
        page = page_is page pages back_is id ids out tie ∙ ap oldest (sym back_is);
        tied_then = some_tied page pages back_is id ids out tie;
      }
