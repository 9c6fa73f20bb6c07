use Rattle.std.proofs.Common.{◌≡◌, ◌≤◌, ◌-◌, ◌++◌, take, drop}
use Rattle.vs_script.specs.Data.{filled_bytes}
use Rattle.vs_script.proofs.data.Fill.push_to.Given as goal

-- the bytes so far
abbrev pub invariant-loop-done : goal.invariant-loop-done
invariant-loop-done l = record {
  within : l.done ≤ l.count;
  pushed : l.out.items ≡ l.fn.out.items ++ take l.done (drop l.from (filled_bytes l.self.n l.self.start));
}

abbrev pub decreases-loop-done : goal.decreases-loop-done
decreases-loop-done l = l.count - l.done
