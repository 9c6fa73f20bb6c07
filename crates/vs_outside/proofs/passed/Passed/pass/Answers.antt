use Rattle.vs_outside.proofs.Lines.{kept_more}
use Rattle.vs_outside.proofs.passed.Passed.pass.Goals as goal

pub returns-clause-kept : goal.returns-clause-kept
returns-clause-kept c by_client is =
    let old = c.args.self.now in
    kept_more by_client old.bytes.items c.args.bytes.now c.behind_line-behind.result.now _ old.kept _ old.line_over _ is c.behind_line-behind.ensures
    c.then-self-2.ensures c.is_line_over-self.ensures c.then-self.ensures
