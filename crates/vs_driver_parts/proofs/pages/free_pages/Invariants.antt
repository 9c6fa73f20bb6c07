use Rattle.std.{proofs.Common.{◌≡◌, [], length, vec_capacity}, specs.List.All}
use Rattle.vs_driver_parts.proofs.pages.free_pages.Given as goal

abbrev pub invariant-loop : goal.invariant-loop
invariant-loop l = record {
  many : length l.pages.items ≡ l.counter;
  empty : All (λ page. page ≡ []) l.pages.items;
  room : vec_capacity l.pages ≡ l.size;
}
