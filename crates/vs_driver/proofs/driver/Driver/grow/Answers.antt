use Rattle.std.proofs.Common.{sym, ap, ◌∙◌}
use Rattle.vs_driver.{specs.contracts.driver.Driver.the_view, proofs.Kept.kept, proofs.Pipes.others_by}
use Rattle.vs_driver.proofs.Growing.{known_grow_kept, known_grow_others, known_told, told_by, unchanged_grown}
use Rattle.vs_driver_parts.proofs.Known.{KnownAt, known_at, grow_known, after_grow_known}
use Rattle.vs_driver_parts.specs.{Connections.grown_by, Connections.unread_of_id, State.DriverState, declared.answers.Grown.Grown}
use Rattle.laws_driver.proofs.Changing.{grow_changes}
use Rattle.vs_flow.specs.Table.{IsTable}
use Rattle.vs_driver.proofs.driver.Driver.grow.Goals as goal

pub returns-in-Some-clause-answer : goal.returns-in-Some-clause-answer
returns-in-Some-clause-answer c =
    let k : KnownAt c.args.id c.in-Some.slot c.args.self.now = rw (← c.self.view_is) (known_at c.args.id c.in-Some.slot (the_view c.self.inside) c.in-Some.ensures.sound c.in-Some.ensures.slot) in
    c.grow_in.ensures.answer k.entry k.found ∙ sym (grow_known c.args.id c.args.self.now k.entry k.known c.args.alloc)

pub returns-in-Some-clause-state : goal.returns-in-Some-clause-state
returns-in-Some-clause-state c =
    let s : DriverState = c.args.self.now in
    let k : KnownAt c.args.id c.in-Some.slot s = rw (← c.self.view_is) (known_at c.args.id c.in-Some.slot (the_view c.self.inside) c.in-Some.ensures.sound c.in-Some.ensures.slot) in
    c.grow_in.ensures.state k.entry k.found
    ∙ (ap (λ (a : Grown). grown_by a c.args.alloc k.entry s) (c.grow_in.ensures.answer k.entry k.found)
    ∙ sym (after_grow_known c.args.id s k.entry k.known c.args.alloc))

pub returns-in-Some-clause-told : goal.returns-in-Some-clause-told
returns-in-Some-clause-told c =
    let s : DriverState = c.args.self.now in
    let k : KnownAt c.args.id c.in-Some.slot s = rw (← c.self.view_is) (known_at c.args.id c.in-Some.slot (the_view c.self.inside) c.in-Some.ensures.sound c.in-Some.ensures.slot) in
    let sound : IsTable s.table = rw (← c.self.view_is) c.in-Some.ensures.sound in
    told_by c.args.id c.args.alloc s c.grow_in.new.self c.grow_in.result (returns-in-Some-clause-answer c) (returns-in-Some-clause-state c)
    (known_told c.args.id s k.entry sound k.known c.args.alloc)

pub returns-in-Some-clause-others : goal.returns-in-Some-clause-others
returns-in-Some-clause-others c =
    let s : DriverState = c.args.self.now in
    let k : KnownAt c.args.id c.in-Some.slot s = rw (← c.self.view_is) (known_at c.args.id c.in-Some.slot (the_view c.self.inside) c.in-Some.ensures.sound c.in-Some.ensures.slot) in
    let sound : IsTable s.table = rw (← c.self.view_is) c.in-Some.ensures.sound in
    others_by c.args.id s c.grow_in.new.self _ (returns-in-Some-clause-state c) (known_grow_others c.args.id s k.entry sound k.known c.args.alloc)

pub returns-in-Some-clause-kept : goal.returns-in-Some-clause-kept
returns-in-Some-clause-kept c =
    let s : DriverState = c.args.self.now in
    let k : KnownAt c.args.id c.in-Some.slot s = rw (← c.self.view_is) (known_at c.args.id c.in-Some.slot (the_view c.self.inside) c.in-Some.ensures.sound c.in-Some.ensures.slot) in
    let sound : IsTable s.table = rw (← c.self.view_is) c.in-Some.ensures.sound in
    ap (unread_of_id c.args.id) (returns-in-Some-clause-state c) ∙ known_grow_kept c.args.id s k.entry sound k.known c.args.alloc

pub returns-in-Some-clause-unchanged : goal.returns-in-Some-clause-unchanged
returns-in-Some-clause-unchanged c =
    let k : KnownAt c.args.id c.in-Some.slot c.args.self.now = rw (← c.self.view_is) (known_at c.args.id c.in-Some.slot (the_view c.self.inside) c.in-Some.ensures.sound c.in-Some.ensures.slot) in
    unchanged_grown c.grow_in.result c.args.alloc k.entry c.args.self.now c.grow_in.new.self (c.grow_in.ensures.state k.entry k.found)

pub returns-in-Some-clause-honest : goal.returns-in-Some-clause-honest
returns-in-Some-clause-honest c = λ hosts first r honest.
    kept hosts first c.args.self.now _ _ r (grow_changes c.args.id c.args.alloc c.args.self.now) (returns-in-Some-clause-state c) honest
