use Rattle.std.proofs.{Common.{◌≡◌, ◌+◌, arith}, lemmas.List.take_rest}
use Rattle.vs_script.proofs.Pieces.{line_end, lines_of-first, lines_of-only}
use Rattle.vs_script.proofs.script.next_line.Goals as goal

pub returns-then-end-text-clause-lines : goal.returns-then-end-text-clause-lines
returns-then-end-text-clause-lines c =
    let text = c.args.text.now in
    let place : c.place_of-end.result ≡ line_end text = c.place_of-end.ensures.place in
    rw (take_rest text (c.place_of-end.result + 1), place) (lines_of-first text (omega arith))

pub returns-else-end-text-clause-lines : goal.returns-else-end-text-clause-lines
returns-else-end-text-clause-lines c =
    let text = c.args.text.now in
    let place : c.place_of-end.result ≡ line_end text = c.place_of-end.ensures.place in
    lines_of-only text c.requires (omega arith)
