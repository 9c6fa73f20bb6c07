use Rattle.std.proofs.Common.{◌≡◌, vec_len}
use Rattle.vs_apps.proofs.resting.rests.Given as goal

abbrev pub invariant-loop : goal.invariant-loop
invariant-loop l = vec_len l.rests ≡ l.counter
