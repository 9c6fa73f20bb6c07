use Rattle.std.proofs.Common.{◌≡◌, map, arith, Err}
use Rattle.clap.specs.Words.{app_of, kind_of}
use Rattle.vs_words.{specs.Errors.error_of, proofs.Readings.{err_said, ok_reads, texts_behind}}
use Rattle.vs_words.proofs.options.options.Goals as goal

pub returns : goal.returns
returns c =
    ok_reads c.args.name.now (map (λ n. n.now) c.args.names.now) (app_of c.in_ok-command.command) c.in_ok-command.ensures c.requires _
    (texts_behind c.args.words.now) c.in_ok-try_get_matches_from.field-0 c.in_ok-try_get_matches_from.ensures.matches
    (λ e. c.in_ok-try_get_matches_from.ensures.kinds e)

pub returns-in_err-try_get_matches_from : goal.returns-in_err-try_get_matches_from
returns-in_err-try_get_matches_from c =
    let error = c.in_err-try_get_matches_from.field-0.0 in
    let result = c.from_residual-in_err-try_get_matches_from.result in
    let said : result ≡ Err (error_of (kind_of error)) = grind (arith, c.from_residual-in_err-try_get_matches_from.ensures) in
    err_said c.args.name.now (map (λ n. n.now) c.args.names.now) (app_of c.in_ok-command.command) c.in_ok-command.ensures c.requires _
    (texts_behind c.args.words.now) error result (λ e. c.in_err-try_get_matches_from.ensures.kinds e) said
