use Rattle.std.proofs.{lemmas.{Bool.Decides.nat_tests, List.{length-set, Elements.All-push}}, Common.{rules, ◌∙◌, ap, ℕ, ◌<◌, length, arith}}
use Rattle.vs_plain_driver.proofs.driver_queue.DriverQueue.reap.Goals as goal

pub invariant_of-self-2 : goal.invariant_of-self-2
invariant_of-self-2 c = record {
  room = search rules;
  sound = record {
    nonzero = c.self.invariant.sound.nonzero;
    limit = c.self.invariant.sound.limit;
    pages = length-set c.self.inside.pages.items c.load_element-element.result.id c.take.new.self ∙ c.self.invariant.sound.pages;
    free = rw c.push_back_reserved.ensures.items (All-push (λ (k : ℕ). k < c.self.inside.n) c.self.inside.free.items
        c.load_element-element.result.id c.self.invariant.sound.free (grind (arith, nat_tests, c.if-element-self.false)));
    within = grind (
      arith,
      nat_tests,
      ap length c.push_back_reserved.ensures.items,
      c.if-more-eq0.false,
      c.if-more-in_flight.false,
      c.in_flight.ensures.value,
      c.in_flight.ensures.staged,
      c.self.invariant.sound.within,
    );
    published = search rules;
    reaped = search rules;
  };
}
