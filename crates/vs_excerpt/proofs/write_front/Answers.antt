use Rattle.std.proofs.{Common.{◌∙◌, arith}, lemmas.Bool.Decides.nat_tests}
use Rattle.vs_excerpt.proofs.Keeping.{front_full, front_more}
use Rattle.vs_excerpt.proofs.write_front.Goals as goal

pub returns-then-count : goal.returns-then-count
returns-then-count c = λ bytes is count.
    c.write_from.ensures ∙ front_more bytes c.args.piece.now c.args.front.now c.args.count is count (grind (arith, nat_tests, c.if-count.true))

pub returns-else-count : goal.returns-else-count
returns-else-count c = λ bytes is count. is ∙ front_full bytes c.args.piece.now (grind (arith, nat_tests, c.if-count.false, count))
