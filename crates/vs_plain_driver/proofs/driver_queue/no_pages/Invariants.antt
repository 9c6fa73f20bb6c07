use Rattle.std.{proofs.Common.◌≡◌, proofs.Common.◌≤◌, proofs.Common.None, proofs.Common.replicate, specs.Vec.vec_capacity}
use Rattle.vs_plain_driver.proofs.driver_queue.no_pages.Given as goal

abbrev pub invariant-loop : goal.invariant-loop
invariant-loop l = record {
  items : l.pages.items ≡ replicate l.counter None;
  room : l.n ≤ vec_capacity l.pages;
}
