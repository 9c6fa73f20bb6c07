use Rattle.std.proofs.{Common.{◌≡◌, ◌≤◌, length, rules, tests, refl, sym, ◌∙◌, arith, le-leb}, lemmas.{Bool.eqb-false, Iterator.YieldsList-from_slice}}
use Rattle.std.{proofs.lemmas.Iterator.Search.all_from_yields_List, specs.{Char.is_ascii_digit, List.list_all}}
use Rattle.vs_uds.proofs.scan.is_numeral.Goals as goal

pub returns-then-text-le-DIGITS_MAX : goal.returns-then-text-le-DIGITS_MAX
returns-then-text-le-DIGITS_MAX c =
    let digits : c.all.result ≡ list_all is_ascii_digit c.args.text.now =
    all_from_yields_List is_ascii_digit _ _ c.all.result c.all.ensures.ran
    (YieldsList-from_slice c.args.text.now cc) (λ x b q k. search (rules, tests)) in
    let other = eqb-false _ 0 (sym c.is_empty.ensures ∙ c.if-text-le-DIGITS_MAX.true.0) in
    let some : 1 ≤ length c.args.text.now = omega arith in
    rw (digits, le-leb _ _ some, le-leb _ _ c.if-text-le-DIGITS_MAX.true.1) refl
