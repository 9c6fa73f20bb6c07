use Rattle.std.{proofs.{Common.{◌≡◌, ◌==◌, rules, tests}, lemmas.Iterator.{YieldsList-from_slice, Search.position_from_yields_List}}, specs.List.position}
use Rattle.vs_script.proofs.Pieces.{unwrap_or-position}
use Rattle.vs_script.proofs.words.place_of.Goals as goal

pub returns-clause-place : goal.returns-clause-place
returns-clause-place c =
    let found : c.position.result ≡ position (λ b. b == c.args.byte) c.args.bytes.now =
    position_from_yields_List (λ b. b == c.args.byte) _ _ c.position.result c.position.ensures.ran (YieldsList-from_slice c.args.bytes.now cc) (λ x b q k. search (rules, tests)) in
    let place = unwrap_or-position (λ b. b == c.args.byte) c.args.bytes.now in
    rw (c.unwrap_or.ensures, found) place
