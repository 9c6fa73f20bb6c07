use Rattle.std.proofs.{Common.{◌≡◌, ◌≢◌, length, eqb-true, sym, ap, ◌∙◌}, lemmas.Bool.eqb-false}
use Rattle.vs_script.proofs.Pieces.{trimmed, words_of-some, words_of-none}
use Rattle.vs_script.proofs.words.next_word.Goals as goal

pub returns-then-is_empty : goal.returns-then-is_empty
returns-then-is_empty c =
    let rest : c.trimmed-line.result.now ≡ trimmed c.args.line.now = c.trimmed-line.ensures in
    words_of-none c.args.line.now (ap length (sym rest) ∙ eqb-true _ 0 (sym c.is_empty.ensures ∙ c.if-is_empty.true))

pub returns : goal.returns
returns c =
    let rest : c.trimmed-line.result.now ≡ trimmed c.args.line.now = c.trimmed-line.ensures in
    let some : length c.trimmed-line.result.now ≢ 0 = eqb-false _ 0 (sym c.is_empty.ensures ∙ c.if-is_empty.false) in
    rw (c.split_at.ensures.front, c.split_at.ensures.back, c.place_of.ensures.place, rest) (words_of-some c.args.line.now (rw rest at some))
