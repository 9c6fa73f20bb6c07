use Rattle.std.proofs.Common.{sym, ap, ◌∙◌}
use Rattle.vs_driver.{proofs.{Pipes.{dropped_by, known_dropped, known_kept, known_shutdown_others, others_by, unchanged_by}, Kept.kept}, specs.contracts.driver.Driver.the_view}
use Rattle.vs_driver_parts.{proofs.Known.{KnownAt, known_at, shutdown_known, after_shutdown_known}, specs.{Connections.unread_of_id, State.DriverState}}
use Rattle.laws_driver.proofs.Changing.{shutdown_changes}
use Rattle.vs_flow.specs.Table.{IsTable}
use Rattle.vs_driver.proofs.driver.Driver.shutdown.Goals as goal

pub returns-in-Some-clause-answer : goal.returns-in-Some-clause-answer
returns-in-Some-clause-answer c =
    let k : KnownAt c.args.id c.in-Some.slot c.args.self.now = rw (← c.self.view_is) (known_at c.args.id c.in-Some.slot (the_view c.self.inside) c.in-Some.ensures.sound c.in-Some.ensures.slot) in
    c.shutdown_in.ensures.answer k.entry k.found ∙ sym (shutdown_known c.args.id c.args.self.now k.entry k.known)

pub returns-in-Some-clause-state : goal.returns-in-Some-clause-state
returns-in-Some-clause-state c =
    let k : KnownAt c.args.id c.in-Some.slot c.args.self.now = rw (← c.self.view_is) (known_at c.args.id c.in-Some.slot (the_view c.self.inside) c.in-Some.ensures.sound c.in-Some.ensures.slot) in
    c.shutdown_in.ensures.state k.entry k.found ∙ sym (after_shutdown_known c.args.id c.args.self.now k.entry k.known c.args.bits)

pub returns-in-Some-clause-others : goal.returns-in-Some-clause-others
returns-in-Some-clause-others c =
    let s : DriverState = c.args.self.now in
    let k : KnownAt c.args.id c.in-Some.slot s = rw (← c.self.view_is) (known_at c.args.id c.in-Some.slot (the_view c.self.inside) c.in-Some.ensures.sound c.in-Some.ensures.slot) in
    let sound : IsTable s.table = rw (← c.self.view_is) c.in-Some.ensures.sound in
    others_by c.args.id s c.shutdown_in.new.self _ (returns-in-Some-clause-state c) (known_shutdown_others c.args.id s k.entry sound k.known c.args.bits)

pub returns-in-Some-clause-unchanged : goal.returns-in-Some-clause-unchanged
returns-in-Some-clause-unchanged c =
    let k : KnownAt c.args.id c.in-Some.slot c.args.self.now = rw (← c.self.view_is) (known_at c.args.id c.in-Some.slot (the_view c.self.inside) c.in-Some.ensures.sound c.in-Some.ensures.slot) in
    unchanged_by k.entry.value.end.state c.args.bits k.entry c.args.self.now c.shutdown_in.new.self c.shutdown_in.result
    (c.shutdown_in.ensures.answer k.entry k.found) (c.shutdown_in.ensures.state k.entry k.found)

pub returns-in-Some-clause-dropped : goal.returns-in-Some-clause-dropped
returns-in-Some-clause-dropped c =
    let s : DriverState = c.args.self.now in
    let k : KnownAt c.args.id c.in-Some.slot s = rw (← c.self.view_is) (known_at c.args.id c.in-Some.slot (the_view c.self.inside) c.in-Some.ensures.sound c.in-Some.ensures.slot) in
    let sound : IsTable s.table = rw (← c.self.view_is) c.in-Some.ensures.sound in
    dropped_by c.args.id c.args.bits s c.shutdown_in.new.self c.shutdown_in.result (returns-in-Some-clause-answer c) (returns-in-Some-clause-state c)
    (known_dropped c.args.id s k.entry sound k.known c.args.bits)

pub returns-in-Some-clause-kept : goal.returns-in-Some-clause-kept
returns-in-Some-clause-kept c = λ going still.
    let s : DriverState = c.args.self.now in
    let k : KnownAt c.args.id c.in-Some.slot s = rw (← c.self.view_is) (known_at c.args.id c.in-Some.slot (the_view c.self.inside) c.in-Some.ensures.sound c.in-Some.ensures.slot) in
    let sound : IsTable s.table = rw (← c.self.view_is) c.in-Some.ensures.sound in
    ap (unread_of_id c.args.id) (returns-in-Some-clause-state c) ∙ known_kept c.args.id s k.entry sound k.known c.args.bits going still

pub returns-in-Some-clause-honest : goal.returns-in-Some-clause-honest
returns-in-Some-clause-honest c = λ hosts first r honest.
    kept hosts first c.args.self.now _ _ r (shutdown_changes c.args.id c.args.bits c.args.self.now) (returns-in-Some-clause-state c) honest
