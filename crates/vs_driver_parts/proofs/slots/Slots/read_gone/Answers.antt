use Rattle.std.{proofs.Common.{◌≡◌, List, ◌==◌, Some, None, min, length, take, drop, ◌++◌, sym, ap, ◌∙◌, rules}, specs.List.{position, find}}
use Rattle.vs_driver_parts.{specs.{State.GoneConnection, Held.HeldSlots, contracts.slots.Slots.the_view}, proofs.{Lists.{found_nowhere, one_passes}, GoneChanges.first_gone}}
use Rattle.vs_driver_parts.proofs.GoneChanges.{read_empty, read_there, read_nowhere}
use Rattle.vs_driver_parts.proofs.slots.Slots.read_gone.Goals as goal

pub returns-in-Some-clause-count : goal.returns-in-Some-clause-count
returns-in-Some-clause-count c = λ g found.
    let gone = c.self.inside.gone.items in
    let at : position (λ (x : GoneConnection). x.id == c.args.id) gone ≡ Some c.in-Some.place = search rules in
    let first = first_gone c.args.id gone c.self.invariant.numbers.distinct c.in-Some.place c.index_mut-gone.result.now at c.index_mut-gone.ensures.value in
    let there : find (λ (x : GoneConnection). x.id == c.args.id) gone ≡ Some g = rw (← c.self.view_is) at found in
    let both : Some c.index_mut-gone.result.now ≡ Some g = sym first.found ∙ there in
    let same : c.index_mut-gone.result.now ≡ g = cc in
    c.read.ensures.count ∙ ap (λ (x : GoneConnection). min (length c.args.out.now) (length x.unread)) same

pub returns-in-Some-clause-moved : goal.returns-in-Some-clause-moved
returns-in-Some-clause-moved c = λ g found.
    let gone = c.self.inside.gone.items in
    let at : position (λ (x : GoneConnection). x.id == c.args.id) gone ≡ Some c.in-Some.place = search rules in
    let first = first_gone c.args.id gone c.self.invariant.numbers.distinct c.in-Some.place c.index_mut-gone.result.now at c.index_mut-gone.ensures.value in
    let there : find (λ (x : GoneConnection). x.id == c.args.id) gone ≡ Some g = rw (← c.self.view_is) at found in
    let both : Some c.index_mut-gone.result.now ≡ Some g = sym first.found ∙ there in
    let same : c.index_mut-gone.result.now ≡ g = cc in
    c.read.ensures.moved ∙ ap (λ (x : GoneConnection). take c.read.result x.unread ++ drop c.read.result c.args.out.now) same

pub returns-in-Some-clause-left : goal.returns-in-Some-clause-left
returns-in-Some-clause-left c =
    let s = c.self.inside in
    let at : position (λ (x : GoneConnection). x.id == c.args.id) s.gone.items ≡ Some c.in-Some.place = search rules in
    rw (← c.self.view_is) (ap (λ (gone : List GoneConnection). let h : HeldSlots = the_view s in record h { gone = gone })
    (sym (read_there c.args.id s.gone.items c.self.invariant.numbers.distinct c.in-Some.place c.index_mut-gone.result.now at c.index_mut-gone.ensures.value
    (length c.args.out.now) c.read.new.self c.read.ensures.left)))

pub returns-in-None-clause-count : goal.returns-in-None-clause-count
returns-in-None-clause-count c = λ g found.
    let at : position (λ (x : GoneConnection). x.id == c.args.id) c.self.inside.gone.items ≡ None = search rules in
    let there : find (λ (x : GoneConnection). x.id == c.args.id) c.self.inside.gone.items ≡ Some g = rw (← c.self.view_is) at found in
    let none = found_nowhere (λ (x : GoneConnection). x.id == c.args.id) c.self.inside.gone.items at in
    absurd (cc)

pub returns-in-None-clause-left : goal.returns-in-None-clause-left
returns-in-None-clause-left c =
    let at : position (λ (x : GoneConnection). x.id == c.args.id) c.self.inside.gone.items ≡ None = search rules in
    let s = c.self.inside in
    rw (← c.self.view_is) (ap (λ (gone : List GoneConnection). let h : HeldSlots = the_view s in record h { gone = gone }) (sym (read_nowhere c.args.id s.gone.items _ at)))

pub returns-in-Some-clause-empty : goal.returns-in-Some-clause-empty
returns-in-Some-clause-empty c = λ g found empty.
    let gone = c.self.inside.gone.items in
    let there : find (λ (x : GoneConnection). x.id == c.args.id) gone ≡ Some g = rw (← c.self.view_is) at found in
    let same = read_empty c.args.id (length c.args.out.now) gone g (one_passes (λ (x : GoneConnection). x.id) c.args.id gone c.self.invariant.numbers.distinct) there empty in
    returns-in-Some-clause-left c ∙ rw (← c.self.view_is) (ap (λ (gone : List GoneConnection). let h : HeldSlots = the_view c.self.inside in record h { gone = gone }) same)
