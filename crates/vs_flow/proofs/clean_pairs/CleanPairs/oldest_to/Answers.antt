use Rattle.std.{proofs.{Common.{◌≡◌, length, Some, None, refl, sym, subst, ◌∙◌, rules}, lemmas.Option.slice_get_read}, specs.List.position}
use Rattle.vs_flow.{specs.CleanPairs.goes_to, proofs.Oldest.{IsPlaceOfOldest, oldest_at}}
use Rattle.vs_flow.proofs.clean_pairs.CleanPairs.oldest_to.Goals as goal

pub returns-in_err-place : goal.returns-in_err-place
returns-in_err-place c =
    let at : position (goes_to c.args.peer c.args.port) c.self.inside.flows.items ≡ None = search rules in
    let nowhere = subst (IsPlaceOfOldest (goes_to c.args.peer c.args.port) c.self.inside.flows.items) at (oldest_at (goes_to c.args.peer c.args.port) c.self.inside.flows.items) in
    rw (← c.self.view_is) (c.from_residual.ensures ∙ sym nowhere.0)

pub returns : goal.returns
returns c =
    let fs = c.self.inside.flows.items in
    let at : position (goes_to c.args.peer c.args.port) fs ≡ Some c.in_ok-place.place = search rules in
    let there = subst (IsPlaceOfOldest (goes_to c.args.peer c.args.port) fs) at (oldest_at (goes_to c.args.peer c.args.port) fs) in
    rw (← c.self.view_is) (sym (slice_get_read fs (length fs) c.in_ok-place.place c.index.result.now refl there.2 c.index.ensures) ∙ there.0)
