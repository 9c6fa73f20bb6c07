use Rattle.std.{proofs.Common.{◌≡◌, Some, None, sym, subst, ◌∙◌, rules}, specs.List.position}
use Rattle.vs_flow.{specs.Flow.same_flow, proofs.Oldest.{IsPlaceOfOldest, oldest_at}}
use Rattle.vs_flow.proofs.clean_pairs.CleanPairs.remove.Goals as goal

pub returns-in-Some : goal.returns-in-Some
returns-in-Some c =
    let fs = c.self.inside.flows.items in
    let at : position (same_flow c.args.flow) fs ≡ Some c.in-Some.place = search rules in
    let there = subst (IsPlaceOfOldest (same_flow c.args.flow) fs) at (oldest_at (same_flow c.args.flow) fs) in
    rw (← c.self.view_is) (c.remove.ensures.items ∙ there.1)

pub returns-in_default : goal.returns-in_default
returns-in_default c =
    let fs = c.self.inside.flows.items in
    let at : position (same_flow c.args.flow) fs ≡ None = search rules in
    let nowhere = subst (IsPlaceOfOldest (same_flow c.args.flow) fs) at (oldest_at (same_flow c.args.flow) fs) in
    rw (← c.self.view_is) (sym nowhere.1)
