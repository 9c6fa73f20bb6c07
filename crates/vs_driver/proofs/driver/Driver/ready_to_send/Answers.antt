use Rattle.std.proofs.Common.{◌≡◌, None, is_some, ap, rules}
use Rattle.vs_driver_parts.{specs.State.{DriverEntry, entry_known_as}, proofs.Known.{KnownAt, known_at, unmapped}}
use Rattle.vs_driver.{specs.contracts.driver.Driver.the_view, proofs.Sending.{ready_known, ready_unknown}}
use Rattle.vs_driver.proofs.driver.Driver.ready_to_send.Goals as goal

pub ready_in-requires : goal.ready_in-requires
ready_in-requires c =
    let k : KnownAt c.args.id c.in-Some.slot c.args.self.now = rw (← c.self.view_is)
    (known_at _ _ (the_view c.self.inside) c.in-Some.ensures.sound c.in-Some.ensures.slot) in
    record { held = ap is_some k.found }

pub returns-in-Some-clause-ready : goal.returns-in-Some-clause-ready
returns-in-Some-clause-ready c =
    let k : KnownAt c.args.id c.in-Some.slot c.args.self.now = rw (← c.self.view_is)
    (known_at _ _ (the_view c.self.inside) c.in-Some.ensures.sound c.in-Some.ensures.slot) in
    ready_known c.args.id c.args.bytes.now c.args.self.now k.entry c.ready_in.new.self c.ready_in.result k.known
    (c.ready_in.ensures.ready k.entry k.found)

pub returns-in-None-clause-ready : goal.returns-in-None-clause-ready
returns-in-None-clause-ready c =
    let unknown : entry_known_as c.args.id c.args.self.now ≡ None = unmapped (λ (e : DriverEntry). e.slot) _
    (rw (← c.self.view_is) (search rules)) in
    ready_unknown c.args.id c.args.bytes.now c.args.self.now c.not_sent.result unknown c.not_sent.ensures
