use Rattle.std.proofs.Common.{◌≡◌, ◌≤◌, length, vec_len}
use Rattle.vs_apps.proofs.threads.fn.work_all.scope.Given as goal

abbrev pub invariant-loop-k : goal.invariant-loop-k
invariant-loop-k g l = (vec_len l.own ≤ length g.N.RunName.script) × (vec_len l.own ≡ l.k-end)
