use Rattle.std.proofs.Common.{ℕ, List, subst, sym, arith, rules}
use Rattle.vs_uds.{specs.ConnectLine.IsConnectLine, proofs.ConnectLines.{IsConnectLine-connect_text, connect_answers-IsConnectLine}}
use Rattle.vs_uds.proofs.connect.connect_line.Goals as goal

pub returns-clause-bytes : goal.returns-clause-bytes
returns-clause-bytes c = search rules

pub returns-clause-line : goal.returns-clause-line
returns-clause-line c =
    let P : List ℕ → Type 0 = λ text. IsConnectLine text c.args.port in
    subst P (sym (returns-clause-bytes c)) (IsConnectLine-connect_text c.args.port (omega arith))

pub returns-clause-back : goal.returns-clause-back
returns-clause-back c = connect_answers-IsConnectLine _ c.args.port (returns-clause-line c)
