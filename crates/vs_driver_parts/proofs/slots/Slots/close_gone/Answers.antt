use Rattle.std.{proofs.Common.{◌≡◌, List, ◌==◌, Some, None, refl, sym, ap, ◌∙◌, rules}, specs.{List.position, Option.option_map}}
use Rattle.vs_driver_parts.{specs.{State.GoneConnection, Held.HeldSlots, contracts.slots.Slots.the_view}, proofs.{Lists.{found_nowhere, found_slice}, GoneChanges.closed_at}}
use Rattle.vs_driver_parts.proofs.GoneChanges.{closed_nowhere}
use Rattle.vs_driver_parts.proofs.slots.Slots.close_gone.Goals as goal

pub returns-in-Some-clause-flow : goal.returns-in-Some-clause-flow
returns-in-Some-clause-flow c =
    let gone = c.self.inside.gone.items in
    let at : position (λ (x : GoneConnection). x.id == c.args.id) gone ≡ Some c.in-Some.place = search rules in
    c.release.ensures.flow ∙ rw (← c.self.view_is) (ap (option_map (λ (g : GoneConnection). g.flow)) (sym (found_slice (λ (x : GoneConnection). x.id == c.args.id) gone c.in-Some.place at)))

pub returns-in-Some-clause-left : goal.returns-in-Some-clause-left
returns-in-Some-clause-left c =
    let s = c.self.inside in
    let at : position (λ (x : GoneConnection). x.id == c.args.id) s.gone.items ≡ Some c.in-Some.place = search rules in
    c.release.ensures.left ∙ rw (← c.self.view_is) (ap (λ (gone : List GoneConnection). let h : HeldSlots = the_view s in record h { gone = gone })
    (sym (closed_at c.args.id s.gone.items c.self.invariant.numbers.distinct c.in-Some.place at)))

pub returns-in-None-clause-flow : goal.returns-in-None-clause-flow
returns-in-None-clause-flow c =
    let at : position (λ (x : GoneConnection). x.id == c.args.id) c.self.inside.gone.items ≡ None = search rules in
    rw (← c.self.view_is, found_nowhere (λ (x : GoneConnection). x.id == c.args.id) c.self.inside.gone.items at) refl

pub returns-in-None-clause-left : goal.returns-in-None-clause-left
returns-in-None-clause-left c =
    let at : position (λ (x : GoneConnection). x.id == c.args.id) c.self.inside.gone.items ≡ None = search rules in
    let s = c.self.inside in
    rw (← c.self.view_is) (ap (λ (gone : List GoneConnection). let h : HeldSlots = the_view s in record h { gone = gone }) (sym (closed_nowhere c.args.id s.gone.items at)))
