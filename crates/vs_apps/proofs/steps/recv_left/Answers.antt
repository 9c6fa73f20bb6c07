use Rattle.std.{proofs.{Common.arith, lemmas.Bool.Decides.nat_tests}, specs.Prelude.nat_lt}
use Rattle.laws_apps.proofs.Stepping.{one_if}
use Rattle.vs_apps.proofs.steps.recv_left.Goals as goal

pub returns-then-progress-len-clause-calls : goal.returns-then-progress-len-clause-calls
returns-then-progress-len-clause-calls c = λ script ring apps.
    one_if script c.args.app (nat_lt c.args.progress.got c.args.len) _ c.recv_next.result _ _ (grind (arith, nat_tests, c.if-progress-len.true))
    (c.recv_next.ensures.calls script ring apps)
