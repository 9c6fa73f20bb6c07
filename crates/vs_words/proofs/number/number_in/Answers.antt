use Rattle.std.{proofs.Common.{◌≡◌, sym, ◌∙◌, false, true, arith}, specs.Str.Parse.ParsesUnsigned}
use Rattle.vs_words.{specs.Numbers.{is_digits, has_leading_zero}, proofs.Numerals.within-err}
use Rattle.vs_words.proofs.number.number_in.Goals as goal

pub returns-in_err-value-clause-value : goal.returns-in_err-value-clause-value
returns-in_err-value-clause-value c =
    let digits : is_digits c.args.word.now ≡ true = rw (← c.as_bytes.ensures.value) (sym c.is_digits.ensures ∙ c.if-not-is_digits.false) in
    let leading : has_leading_zero c.args.word.now ≡ false =
    rw (← c.as_bytes-else-not-is_digits.ensures.value) (sym c.has_leading_zero.ensures ∙ c.if-has_leading_zero.false) in
    let read : ParsesUnsigned 32 10 c.args.word.now c.parse.result = c.parse.ensures.value.0 in
    rw (c.from_residual.ensures, digits, leading)
    (sym (within-err c.args.low c.args.high c.args.word.now c.parse.result digits (omega arith) read (sym c.ok.ensures.value
    ∙ c.in_err-value.was)))
