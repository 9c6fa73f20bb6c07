use Rattle.std.proofs.{Common.{rules, ◌≡◌, ◌∷◌, ◌∙◌, Some, ap, ℕ, ◌<◌, List, length, All, subst, arith}, lemmas.List.{length-set, Elements.All-tail}}
use Rattle.vs_plain_driver.proofs.driver_queue.DriverQueue.stage.Goals as goal

pub invariant_of-self-2 : goal.invariant_of-self-2
invariant_of-self-2 c = record {
  room = search rules;
  sound = record {
    nonzero = c.self.invariant.sound.nonzero;
    limit = c.self.invariant.sound.limit;
    pages = length-set c.self.inside.pages.items c.in-Some.id (Some c.args.page) ∙ c.self.invariant.sound.pages;
    free = All-tail (λ (k : ℕ). k < c.self.inside.n) c.in-Some.id c.pop_front.new.self.items
        (subst (λ (xs : List ℕ). All (λ (k : ℕ). k < c.self.inside.n) xs) items c.self.invariant.sound.free);
    within = omega (arith, c.self.invariant.sound.within, ap length items);
    published = search rules;
    reaped = search rules;
  };
}
  where
    items : c.self.inside.free.items ≡ c.in-Some.id ∷ c.pop_front.new.self.items
    items = search rules
