use Rattle.std.proofs.{Common.{rules}, lemmas.Fn.{filter_same}}
use Rattle.vs_flow.proofs.clean_pairs.CleanPairs.keep_host.Goals as goal

pub returns : goal.returns
returns c = rw (← c.self.view_is) (filter_same _ _ _ (λ x b f' k. search rules) _ _ c.retain.ensures.filtered)
