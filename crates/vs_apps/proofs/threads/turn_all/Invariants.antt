use Rattle.std.proofs.Common.{◌≡◌, ◌≤◌, length, vec_len}
use Rattle.vs_apps.proofs.threads.turn_all.Given as goal

abbrev pub invariant-loop : goal.invariant-loop
invariant-loop g l = (vec_len l.own ≤ length g.N.RunName.script) × (g.D.Turning.lent l.device ≡ g.D.Turning.lent l.fn.device)
