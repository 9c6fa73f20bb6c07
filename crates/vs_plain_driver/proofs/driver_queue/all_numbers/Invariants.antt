use Rattle.std.{proofs.Common.◌≡◌, proofs.Common.◌≤◌, proofs.Common.length, specs.List.range_with_len, specs.VecDeque.deque_capacity}
use Rattle.vs_plain_driver.proofs.driver_queue.all_numbers.Given as goal

abbrev pub invariant-loop-number : goal.invariant-loop-number
invariant-loop-number l = record {
  items : l.numbers.items ≡ range_with_len 0 l.number;
  count : length l.numbers.items ≡ l.number;
  room : l.n ≤ deque_capacity l.numbers;
}
