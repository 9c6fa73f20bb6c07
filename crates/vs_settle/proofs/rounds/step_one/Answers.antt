use Rattle.vs_apps.specs.Guests.{run_in}
use Rattle.vs_settle.proofs.Rounding.{step_stands}
use Rattle.vs_settle.proofs.rounds.step_one.Goals as goal

pub returns : goal.returns
returns g c =
    step_stands g.N.RunName.script c.args.k c.step-stepped.result.0 c.step-stepped.result.1 (run_in c.args.guests.now) (run_in c.step-stepped.new.self) c.has_stepped.result
    c.has_stepped.ensures c.step-stepped.ensures
