use Rattle.std.proofs.{Common.{◌≡◌, ◌≤◌, ℕ, length, subst, arith, rules}, lemmas.List.length-take-le}
use Rattle.vs_apps_parts.specs.declared.progress.TheConstants.{SLICE}
use Rattle.laws_apps.specs.Calls.{CallsAs, run_of}
use Rattle.laws_driver.specs.Carried.Calls as call
use Rattle.vs_apps.proofs.receiving.recv.Goals as goal

pub returns-clause-calls : goal.returns-clause-calls
returns-clause-calls c = λ script ring apps.
    let long : length c.args.buffer.now ≡ SLICE = search rules in
    let within : c.args.len ≤ length c.args.buffer.now = omega (arith, long, c.requires.few) in
    subst (λ (n : ℕ). CallsAs script c.args.app (call.Recv c.args.id n) c.receive_by.result
    (run_of c.args.driver.now ring apps c.args.journal.now) (run_of c.receive_by.new.driver ring apps c.receive_by.new.journal))
    (length-take-le c.args.len c.args.buffer.now within) (c.receive_by.ensures.calls script ring apps)
