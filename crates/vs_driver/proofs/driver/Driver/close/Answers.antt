use Rattle.std.proofs.Common.{◌≡◌, None, is_some, sym, ap, ◌∙◌, rules}
use Rattle.vs_driver_parts.{specs.{State.{DriverEntry, DriverState, entry_known_as}, Connections.{after_close, state_of}}, proofs.Known.{KnownAt, known_at, close_known}}
use Rattle.vs_driver_parts.proofs.Known.{after_close_known, unmapped}
use Rattle.vs_driver.{specs.contracts.driver.Driver.the_view, proofs.{Kept.kept, Pipes.{gone_close_others, gone_close_unknown, known_close_others, others_by}}}
use Rattle.laws_driver.proofs.Changing.{close_changes}
use Rattle.vs_flow.specs.Table.{IsTable}
use Rattle.vs_driver.proofs.driver.Driver.close.Goals as goal

pub returns-in-Some-clause-answer : goal.returns-in-Some-clause-answer
returns-in-Some-clause-answer c =
    let k : KnownAt c.args.id c.in-Some.slot c.args.self.now = rw (← c.self.view_is) (known_at c.args.id c.in-Some.slot (the_view c.self.inside) c.in-Some.ensures.sound c.in-Some.ensures.slot) in
    c.close_in.ensures.answer (ap is_some k.found) ∙ sym (close_known c.args.id c.args.self.now k.entry k.known)

pub returns-in-Some-clause-state : goal.returns-in-Some-clause-state
returns-in-Some-clause-state c =
    let k : KnownAt c.args.id c.in-Some.slot c.args.self.now = rw (← c.self.view_is) (known_at c.args.id c.in-Some.slot (the_view c.self.inside) c.in-Some.ensures.sound c.in-Some.ensures.slot) in
    c.close_in.ensures.state k.entry k.found k.id_is ∙ sym (after_close_known c.args.id c.args.self.now k.entry k.known)

pub returns-in-Some-clause-others : goal.returns-in-Some-clause-others
returns-in-Some-clause-others c =
    let s : DriverState = c.args.self.now in
    let k : KnownAt c.args.id c.in-Some.slot s = rw (← c.self.view_is) (known_at c.args.id c.in-Some.slot (the_view c.self.inside) c.in-Some.ensures.sound c.in-Some.ensures.slot) in
    let sound : IsTable s.table = rw (← c.self.view_is) c.in-Some.ensures.sound in
    others_by c.args.id s c.close_in.new.self _ (returns-in-Some-clause-state c) (known_close_others c.args.id s k.entry sound k.known)

pub returns-in-Some-clause-unknown : goal.returns-in-Some-clause-unknown
returns-in-Some-clause-unknown c =
    let k : KnownAt c.args.id c.in-Some.slot c.args.self.now = rw (← c.self.view_is) (known_at c.args.id c.in-Some.slot (the_view c.self.inside) c.in-Some.ensures.sound c.in-Some.ensures.slot) in
    c.close_in.ensures.unknown k.entry k.found k.id_is

pub returns-in-Some-clause-honest : goal.returns-in-Some-clause-honest
returns-in-Some-clause-honest c =
    λ hosts first r honest. kept hosts first _ _ _ r (close_changes c.args.id c.args.self.now) (returns-in-Some-clause-state c) honest

pub returns-in-None-clause-others : goal.returns-in-None-clause-others
returns-in-None-clause-others c =
    let s : DriverState = c.args.self.now in
    let unknown : entry_known_as c.args.id s ≡ None = unmapped (λ (e : DriverEntry). e.slot) (entry_known_as c.args.id s) (rw (← c.self.view_is) (search rules)) in
    let is : c.close_gone.new.self ≡ after_close c.args.id s = search rules in
    others_by c.args.id s c.close_gone.new.self _ is (gone_close_others c.args.id s unknown)

pub returns-in-None-clause-unknown : goal.returns-in-None-clause-unknown
returns-in-None-clause-unknown c =
    let s : DriverState = c.args.self.now in
    let unknown : entry_known_as c.args.id s ≡ None = unmapped (λ (e : DriverEntry). e.slot) (entry_known_as c.args.id s) (rw (← c.self.view_is) (search rules)) in
    let is : c.close_gone.new.self ≡ after_close c.args.id s = search rules in
    ap (state_of c.args.id) is ∙ gone_close_unknown c.args.id s unknown

pub returns-in-None-clause-honest : goal.returns-in-None-clause-honest
returns-in-None-clause-honest c = λ hosts first r honest.
    let t : DriverState = c.close_gone.new.self in
    let is : t ≡ after_close c.args.id c.args.self.now = search rules in
    kept hosts first _ t _ r (close_changes c.args.id c.args.self.now) is honest
