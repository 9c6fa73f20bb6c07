use Rattle.std.proofs.Common.{◌≡◌, None, sym, ap, subst, ◌∙◌}
use Rattle.vs_driver_parts.{proofs.Known.unmapped, specs.{State.{DriverState, GoneConnection, gone_known_as}, Held.HeldSlots, Connections.gone_closed}}
use Rattle.vs_driver.{specs.contracts.driver.Driver.the_view, proofs.Reading.gone_closed_none}
use Rattle.vs_driver.proofs.driver.Driver.close_gone.Goals as goal

pub returns-in-None-clause-state : goal.returns-in-None-clause-state
returns-in-None-clause-state c =
    let d = c.self.inside in
    let s : DriverState = the_view d in
    let none : gone_known_as c.args.id s ≡ None = unmapped (λ (g : GoneConnection). g.flow) (gone_known_as c.args.id s) c.in-None.ensures.flow in
    let P : DriverState → Type 0 = λ x. the_view (record d { slots = c.close_gone.new.self }) ≡ gone_closed c.args.id x in
    subst P c.self.view_is (ap (λ (h : HeldSlots). the_view (record d { slots = h })) c.in-None.ensures.none ∙ sym (gone_closed_none c.args.id s none))
