use Rattle.std.proofs.{Common.{◌++◌, take, ap, ◌∙◌, arith}, lemmas.List.take_all}
use Rattle.vs_script.{specs.Data.{bytes_of, content_of}, proofs.Filling.is_long}
use Rattle.vs_script.proofs.data.Data.to_vec.Goals as goal

pub returns : goal.returns
returns c =
    let all = bytes_of (content_of c.args.self.now) in
    c.in_ok-push_to.ensures ∙ ap (λ xs. xs ++ take c.len-2.result all) c.in_ok-bytes.ensures.items
    ∙ take_all c.len-2.result all (omega (arith, is_long (content_of c.args.self.now), c.len-2.ensures.size))
