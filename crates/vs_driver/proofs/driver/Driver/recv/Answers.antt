use Rattle.std.proofs.Common.{◌≡◌, ℕ, List, None, length, sym, ap, ◌∙◌, rules}
use Rattle.vs_driver_parts.{specs.{State.{DriverEntry, DriverState, entry_known_as}, Connections.{bytes_read, after_recv, recv_of, unread_of_id}}, proofs.Known.{KnownAt, known_at}}
use Rattle.vs_driver_parts.proofs.Known.{recv_known, unread_known, after_recv_known, unmapped}
use Rattle.vs_driver.{proofs.{Pipes.{others_by, pipe_by, known_recv_others, known_recv_pipe, gone_recv_others, gone_recv_pipe}, Kept.kept}, specs.contracts.driver.Driver.the_view}
use Rattle.vs_flow.specs.Table.{IsTable}
use Rattle.laws_driver.proofs.Changing.{recv_changes}
use Rattle.vs_driver.proofs.driver.Driver.recv.Goals as goal

pub returns-in-Some-clause-answer : goal.returns-in-Some-clause-answer
returns-in-Some-clause-answer c =
    let k : KnownAt c.args.id c.in-Some.slot c.args.self.now = rw (← c.self.view_is) (known_at c.args.id c.in-Some.slot (the_view c.self.inside) c.in-Some.ensures.sound c.in-Some.ensures.slot) in
    c.recv_in.ensures.answer k.entry k.found ∙ sym (recv_known c.args.id c.args.self.now k.entry k.known (length c.args.out.now))

pub returns-in-Some-clause-bytes : goal.returns-in-Some-clause-bytes
returns-in-Some-clause-bytes c =
    let k : KnownAt c.args.id c.in-Some.slot c.args.self.now = rw (← c.self.view_is) (known_at c.args.id c.in-Some.slot (the_view c.self.inside) c.in-Some.ensures.sound c.in-Some.ensures.slot) in
    c.recv_in.ensures.bytes k.entry k.found ∙ ap (λ (unread : List ℕ). bytes_read unread c.args.out.now) (sym (unread_known c.args.id c.args.self.now k.entry k.known))

pub returns-in-Some-clause-state : goal.returns-in-Some-clause-state
returns-in-Some-clause-state c =
    let k : KnownAt c.args.id c.in-Some.slot c.args.self.now = rw (← c.self.view_is) (known_at c.args.id c.in-Some.slot (the_view c.self.inside) c.in-Some.ensures.sound c.in-Some.ensures.slot) in
    c.recv_in.ensures.state k.entry k.found ∙ sym (after_recv_known c.args.id c.args.self.now k.entry k.known (length c.args.out.now))

pub returns-in-Some-clause-pipe : goal.returns-in-Some-clause-pipe
returns-in-Some-clause-pipe c =
    let s : DriverState = c.args.self.now in
    let k : KnownAt c.args.id c.in-Some.slot s = rw (← c.self.view_is) (known_at c.args.id c.in-Some.slot (the_view c.self.inside) c.in-Some.ensures.sound c.in-Some.ensures.slot) in
    let sound : IsTable s.table = rw (← c.self.view_is) c.in-Some.ensures.sound in
    pipe_by c.args.id s c.recv_in.new.self c.args.out.now c.recv_in.new.out c.recv_in.result (returns-in-Some-clause-answer c) (returns-in-Some-clause-bytes c)
    (returns-in-Some-clause-state c) (known_recv_pipe c.args.id s k.entry sound k.known c.args.out.now)

pub returns-in-Some-clause-others : goal.returns-in-Some-clause-others
returns-in-Some-clause-others c =
    let s : DriverState = c.args.self.now in
    let k : KnownAt c.args.id c.in-Some.slot s = rw (← c.self.view_is) (known_at c.args.id c.in-Some.slot (the_view c.self.inside) c.in-Some.ensures.sound c.in-Some.ensures.slot) in
    let sound : IsTable s.table = rw (← c.self.view_is) c.in-Some.ensures.sound in
    others_by c.args.id s c.recv_in.new.self _ (returns-in-Some-clause-state c) (known_recv_others c.args.id s k.entry sound k.known (length c.args.out.now))

pub returns-in-Some-clause-honest : goal.returns-in-Some-clause-honest
returns-in-Some-clause-honest c = λ hosts first r honest.
    kept hosts first _ _ _ r (recv_changes c.args.id (length c.args.out.now) c.args.self.now) (returns-in-Some-clause-state c) honest

pub returns-in-None-clause-pipe : goal.returns-in-None-clause-pipe
returns-in-None-clause-pipe c =
    let s : DriverState = c.args.self.now in
    let unknown : entry_known_as c.args.id s ≡ None = unmapped (λ (e : DriverEntry). e.slot) (entry_known_as c.args.id s) (rw (← c.self.view_is) (search rules)) in
    let answers : c.recv_gone.result ≡ recv_of c.args.id (length c.args.out.now) s = search rules in
    let gives : c.recv_gone.new.out ≡ bytes_read (unread_of_id c.args.id s) c.args.out.now = search rules in
    let leaves : c.recv_gone.new.self ≡ after_recv c.args.id (length c.args.out.now) s = search rules in
    pipe_by c.args.id s c.recv_gone.new.self c.args.out.now c.recv_gone.new.out c.recv_gone.result answers gives leaves
    (gone_recv_pipe c.args.id s unknown c.args.out.now)

pub returns-in-None-clause-others : goal.returns-in-None-clause-others
returns-in-None-clause-others c =
    let s : DriverState = c.args.self.now in
    let unknown : entry_known_as c.args.id s ≡ None = unmapped (λ (e : DriverEntry). e.slot) (entry_known_as c.args.id s) (rw (← c.self.view_is) (search rules)) in
    let leaves : c.recv_gone.new.self ≡ after_recv c.args.id (length c.args.out.now) s = search rules in
    others_by c.args.id s c.recv_gone.new.self _ leaves (gone_recv_others c.args.id s unknown (length c.args.out.now))

pub returns-in-None-clause-honest : goal.returns-in-None-clause-honest
returns-in-None-clause-honest c = λ hosts first r honest.
    let t : DriverState = c.recv_gone.new.self in
    let is : t ≡ after_recv c.args.id (length c.args.out.now) c.args.self.now = search rules in
    kept hosts first _ t _ r (recv_changes c.args.id (length c.args.out.now) c.args.self.now) is honest
