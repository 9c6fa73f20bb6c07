use Rattle.std.proofs.{Common.{◌≡◌, ◌==◌, not, rules, tests, refl}, lemmas.{Iterator.{YieldsList-from_slice, Search.position_from_yields_List}, List.take_rest}}
use Rattle.std.specs.List.{position, position_or_len}
use Rattle.vs_script.proofs.Pieces.{unwrap_or-position}
use Rattle.vs_script.proofs.words.trimmed.Goals as goal

pub returns : goal.returns
returns c =
    let line = c.args.line.now in
    let found : c.position.result ≡ position (λ b. not (b == 32)) line =
    position_from_yields_List (λ b. not (b == 32)) _ _ c.position.result c.position.ensures.ran (YieldsList-from_slice line cc) (λ x b q k. search (rules, tests)) in
    let place : c.unwrap_or-start.result ≡ position_or_len (λ b. not (b == 32)) line =
    rw (c.unwrap_or-start.ensures, found) (unwrap_or-position (λ b. not (b == 32)) line) in
    rw (take_rest line c.unwrap_or-start.result, place) refl
