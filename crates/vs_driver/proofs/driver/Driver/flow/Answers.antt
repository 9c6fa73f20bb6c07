use Rattle.std.{proofs.Common.{◌≡◌, Some, sym, ap, subst, ◌∙◌}, specs.Option.option_map}
use Rattle.vs_flow.specs.declared.flow.Flow.{Flow}
use Rattle.vs_driver_parts.{specs.{State.{DriverEntry, DriverState, entry_known_as}, Connections.flow_of}, proofs.Known.{unmapped, known_at, flow_known, flow_gone}}
use Rattle.vs_driver.specs.contracts.driver.Driver.{the_view}
use Rattle.vs_driver.proofs.driver.Driver.flow.Goals as goal

pub returns-in-Some : goal.returns-in-Some
returns-in-Some c =
    let s : DriverState = the_view c.self.inside in
    let k = known_at c.args.id c.in-Some.slot s c.in-Some.ensures.sound c.in-Some.ensures.slot in
    let P : DriverState → Type 0 = λ x. c.flow_of.result ≡ flow_of c.args.id x in
    subst P c.self.view_is (c.flow_of.ensures ∙ (ap (option_map (λ (e : DriverEntry). e.flow)) k.found ∙ sym (flow_known c.args.id s k.entry k.known)))

pub returns-in_ok-gone_as-in-None : goal.returns-in_ok-gone_as-in-None
returns-in_ok-gone_as-in-None c =
    let s : DriverState = the_view c.self.inside in
    let unknown = unmapped (λ (e : DriverEntry). e.slot) (entry_known_as c.args.id s) c.in-None.ensures.slot in
    let P : DriverState → Type 0 = λ x. Some c.flow.result ≡ flow_of c.args.id x in
    subst P c.self.view_is (ap (λ (f : Flow). Some f) c.flow.ensures ∙ sym (flow_gone c.args.id s unknown c.in_ok-gone_as-in-None.field-0.now (sym c.in_ok-gone_as-in-None.ensures)))
