use Rattle.std.proofs.Common.{◌≡◌, ℕ, ◌-◌, ◌<◌, ◌≤◌, length, get_or}
use Rattle.vs_outside.proofs.fail_list.count_down.Given as goal

abbrev pub invariant-loop-n : goal.invariant-loop-n
invariant-loop-n l = record {
  as_many : length l.n-items ≡ length l.fn.calls.items;
  nearer : (k : ℕ) → k < l.n-index → get_or l.n-items k 0 ≡ get_or l.fn.calls.items k 0 - 1;
  as_before : (k : ℕ) → l.n-index ≤ k → get_or l.n-items k 0 ≡ get_or l.fn.calls.items k 0;
}
