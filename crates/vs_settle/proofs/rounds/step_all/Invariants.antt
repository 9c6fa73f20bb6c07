use Rattle.std.proofs.Common.{◌≡◌, false}
use Rattle.vs_apps.specs.Guests.{run_in}
use Rattle.laws_apps.specs.Rounds.{AllStand}
use Rattle.vs_settle.proofs.rounds.step_all.Given as goal

-- the apps so far
abbrev pub invariant-loop-k : goal.invariant-loop-k
invariant-loop-k g l = l.moved ≡ false → AllStand g.N.RunName.script l.k (run_in l.fn.guests) (run_in l.guests)
