use Rattle.std.proofs.{Common.{rules, ◌∙◌}, lemmas.List.Sorted.answers_always}
use Rattle.vs_flow.proofs.Entries.{searched}
use Rattle.vs_flow.proofs.table.found_in.Goals as goal

pub returns : goal.returns
returns c =
    let facts = c.binary_search_by_key.ensures in
    let by_key = facts.position (λ k. k.0) (answers_always _ _ _ (λ f a r g called. search rules)) in
    c.ok.ensures.value ∙ searched c.args.keys.now c.args.slot _ c.requires.rising facts.bound by_key
