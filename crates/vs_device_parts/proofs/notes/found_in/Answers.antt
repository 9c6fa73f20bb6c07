use Rattle.std.proofs.{Common.{rules, ◌∙◌}, lemmas.List.Sorted.answers_always}
use Rattle.vs_device_parts.proofs.Noting.{searched}
use Rattle.vs_device_parts.proofs.notes.found_in.Goals as goal

pub returns : goal.returns
returns c =
    let facts = c.binary_search_by_key.ensures in
    let by_key = facts.position (λ n. n.slot) (answers_always _ _ _ (λ f a r g called. search rules)) in
    c.ok.ensures.value ∙ searched c.args.notes.now c.args.slot _ c.requires.rising facts.bound by_key
