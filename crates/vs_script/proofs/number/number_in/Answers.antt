use Rattle.std.{proofs.Common.{◌≡◌, sym, ◌∙◌, true, arith}, specs.Str.Parse.ParsesUnsigned}
use Rattle.vs_script.{specs.Field.is_numeral, proofs.Numerals.{IsUtf8-numeral, no_err-text, text_from-some, number_in-err}}
use Rattle.vs_script.proofs.number.number_in.Goals as goal

pub returns-in_err-ok : goal.returns-in_err-ok
returns-in_err-ok c =
    let numeral : is_numeral c.args.word.now ≡ true = sym c.is_numeral.ensures ∙ c.if-not-is_numeral.false in
    absurd (no_err-text _ _ _ _ c.from_utf8.ensures.cases (IsUtf8-numeral c.args.word.now numeral) (sym c.ok.ensures.value ∙ c.in_err-ok.was))

pub returns-in_err-value-clause-value : goal.returns-in_err-value-clause-value
returns-in_err-value-clause-value c =
    let numeral : is_numeral c.args.word.now ≡ true = sym c.is_numeral.ensures ∙ c.if-not-is_numeral.false in
    let text : c.in_ok-ok.field-0.now ≡ c.args.word.now = (text_from-some _ _ _ _ c.from_utf8.ensures.cases (sym c.ok.ensures.value ∙ c.in_ok-ok.was)).0 in
    let read : ParsesUnsigned 64 10 c.args.word.now c.parse.result = rw text at c.parse.ensures.value.0 in
    rw c.from_residual-in_err-value.ensures
    (sym (number_in-err c.args.low c.args.high c.args.word.now c.parse.result numeral (omega arith) read (sym c.ok-2.ensures.value ∙ c.in_err-value.was)))
