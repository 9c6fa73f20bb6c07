use Rattle.std.proofs.{Common.{◌≡◌, rules, tests, ◌∙◌, ◌≤◌, length, refl, le-leb, sym, arith}, lemmas.{Bool.eqb-false, Iterator.YieldsList-from_slice}}
use Rattle.std.{proofs.lemmas.Iterator.Search.all_from_yields_List, specs.{Char.is_ascii_digit, Str.all_ascii_digits}}
use Rattle.vs_words.proofs.Numerals.{all_ascii_digits-is}
use Rattle.vs_words.proofs.number.is_digits.Goals as goal

pub returns-then-not-is_empty : goal.returns-then-not-is_empty
returns-then-not-is_empty c =
    let digits : c.all.result ≡ all_ascii_digits c.args.word.now =
    all_from_yields_List is_ascii_digit _ _ c.all.result c.all.ensures.ran (YieldsList-from_slice c.args.word.now cc) (λ x b q k. search
    (rules, tests))
    ∙ all_ascii_digits-is c.args.word.now in
    let other = eqb-false _ 0 (sym c.is_empty.ensures ∙ c.if-not-is_empty.true) in
    let some : 1 ≤ length c.args.word.now = omega arith in
    rw (digits, le-leb _ _ some) refl
