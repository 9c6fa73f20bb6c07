use Rattle.std.proofs.{Common.{◌+◌, ◌∙◌, Bor, List, ap, map, take}, lemmas.List.{map-append, take_more}}
use Rattle.clap.specs.Words.{Text, app_of}
use Rattle.vs_words.proofs.Rules.{one_option}
use Rattle.vs_words.proofs.options.command_with.Goals as goal

pub loop-option-preserved : goal.loop-option-preserved
loop-option-preserved c =
    let i = c.loop-option.option-index in
    let texts = λ (ns : List (Bor Text)). map (λ n. n.now) ns in
    one_option c.args.name.now (texts (take i c.args.names.now)) (texts (take (i + 1) c.args.names.now)) _ (app_of c.loop-option.command)
    (app_of c.in_ok-command.command) (ap texts (take_more c.args.names.now i _ c.loop-option-test.true) ∙ map-append _ (take i c.args.names.now) _)
    c.loop-option.invariant c.in_ok-command.ensures
