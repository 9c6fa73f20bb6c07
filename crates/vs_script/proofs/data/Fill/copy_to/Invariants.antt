use Rattle.std.proofs.Common.{◌≡◌, ◌≤◌, ◌-◌, length, take, drop}
use Rattle.vs_script.specs.Data.{filled_bytes}
use Rattle.vs_script.proofs.data.Fill.copy_to.Given as goal

-- the bytes so far, and the rest as it was
abbrev pub invariant-loop-done : goal.invariant-loop-done
invariant-loop-done l = record {
  within : l.done ≤ l.count;
  long : length l.out ≡ length l.fn.out;
  copied : take l.done l.out ≡ take l.done (drop l.from (filled_bytes l.self.n l.self.start));
  rest : drop l.done l.out ≡ drop l.done l.fn.out;
}

abbrev pub decreases-loop-done : goal.decreases-loop-done
decreases-loop-done l = l.count - l.done
