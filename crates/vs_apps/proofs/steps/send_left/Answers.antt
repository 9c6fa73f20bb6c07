use Rattle.std.{proofs.{Common.arith, lemmas.Bool.Decides.nat_tests}, specs.Prelude.nat_lt}
use Rattle.vs_script.specs.Data.{content_of, size_of}
use Rattle.laws_apps.proofs.Stepping.{one_if}
use Rattle.vs_apps.proofs.steps.send_left.Goals as goal

pub returns-then-progress-len-clause-calls : goal.returns-then-progress-len-clause-calls
returns-then-progress-len-clause-calls g c = λ script apps is.
    one_if script c.args.app (nat_lt c.args.progress.sent (size_of (content_of c.args.content.now))) _ c.send_next.result _ _
    (grind (arith, nat_tests, c.len.ensures.size, c.if-progress-len.true)) (c.send_next.ensures.calls script apps is)
