use Rattle.std.proofs.Common.{◌≡◌, sym, ap, ◌∙◌, rules}
use Rattle.vs_flow.specs.Table.{Table}
use Rattle.vs_device_parts.specs.{Growing.after_grow, State.DeviceConnection}
use Rattle.vs_device.{specs.contracts.device.Device.the_view, proofs.Growing.grown_there}
use Rattle.vs_device_parts.specs.declared.answers.Grown.TheVariants as rise
use Rattle.vs_device.proofs.device.Device.grow_in.Goals as goal

pub returns-then-eq-clause-state : goal.returns-then-eq-clause-state
returns-then-eq-clause-state c =
    let d = c.self.inside in
    let done : c.grow_answer-answer.result ≡ rise.Done = search rules in
    let its = sym c.in-Some.ensures in
    ap (λ (t : Table DeviceConnection). the_view (record d { slots = t })) (c.grow.ensures.left c.in-Some.connection.now its)
    ∙ (grown_there c.args.slot c.args.alloc (the_view d) c.in-Some.connection.now its (sym c.grow_answer-answer.ensures ∙ done)
    ∙ ap (after_grow c.args.slot c.args.alloc) c.self.view_is)
