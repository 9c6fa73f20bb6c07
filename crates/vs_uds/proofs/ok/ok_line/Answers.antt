use Rattle.std.proofs.Common.{ℕ, List, ap, subst, sym, ◌∙◌, arith, rules, length}
use Rattle.vs_uds.{specs.OkLine.IsOkLine, proofs.OkLines.{IsOkLine-ok_text, ok_answers-IsOkLine, length-ok_text}}
use Rattle.vs_uds.proofs.ok.ok_line.Goals as goal

pub returns-clause-bytes : goal.returns-clause-bytes
returns-clause-bytes c = search rules

pub returns-clause-line : goal.returns-clause-line
returns-clause-line c =
    let P : List ℕ → Type 0 = λ text. IsOkLine text c.args.port in
    subst P (sym (returns-clause-bytes c)) (IsOkLine-ok_text c.args.port (omega arith))

pub returns-clause-back : goal.returns-clause-back
returns-clause-back c = ok_answers-IsOkLine _ c.args.port (returns-clause-line c)

pub returns-clause-whole : goal.returns-clause-whole
returns-clause-whole c large = ap length (returns-clause-bytes c) ∙ length-ok_text c.args.port large (omega arith)
