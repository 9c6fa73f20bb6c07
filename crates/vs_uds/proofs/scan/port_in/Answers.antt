use Rattle.std.{proofs.Common.{◌≡◌, sym, ◌∙◌, true}, specs.Str.Parse.ParsesUnsigned}
use Rattle.vs_uds.{specs.Port.is_numeral, proofs.Ports.{IsUtf8-numeral, no_err-text, result_ok-parse, text_from-some}}
use Rattle.vs_uds.proofs.scan.port_in.Goals as goal

pub returns-in_err-ok : goal.returns-in_err-ok
returns-in_err-ok c =
    let numeral : is_numeral c.args.text.now ≡ true = sym c.is_numeral.ensures ∙ c.if-not-is_numeral.false in
    let failed = sym c.ok.ensures.value ∙ c.in_err-ok.was in
    absurd (no_err-text _ _ _ _ c.from_utf8.ensures.cases (IsUtf8-numeral c.args.text.now numeral) failed)

pub returns : goal.returns
returns c =
    let numeral : is_numeral c.args.text.now ≡ true = sym c.is_numeral.ensures ∙ c.if-not-is_numeral.false in
    let text : c.in_ok-ok.field-0.now ≡ c.args.text.now =
    (text_from-some _ _ _ _ c.from_utf8.ensures.cases (sym c.ok.ensures.value ∙ c.in_ok-ok.was)).0 in
    let read : ParsesUnsigned 32 10 c.args.text.now c.parse.result = rw text at c.parse.ensures.value.0 in
    c.ok-2.ensures.value ∙ result_ok-parse c.args.text.now c.parse.result numeral read
