use Rattle.std.proofs.Common.{◌≡◌, ℕ, Some, sym, ap, ◌∙◌}
use Rattle.vs_driver_parts.{proofs.Ids.{value_of, has_slot}, specs.{State.{DriverConnection, DriverEntry, DriverState}, Held.HeldSlots, Connections.with_connection}}
use Rattle.vs_driver.{specs.contracts.driver.Driver.the_view, proofs.Sending.{there, may_send_live, if_there}}
use Rattle.vs_flow.specs.Table.{entry_under}
use Rattle.vs_conn.specs.End.{wanting_credit}
use Rattle.vs_credit.specs.Credit.{free_of}
use Rattle.vs_conn.specs.declared.end.State.TheVariants as state
use Rattle.vs_driver.proofs.driver.Driver.no_credit.Goals as goal

pub want_credit-requires-clause-live : goal.want_credit-requires-clause-live
want_credit-requires-clause-live c =
    let d = c.self.inside in
    let t = there (entry_under c.args.self.now.table c.args.slot) c.requires.held in
    let e : DriverEntry = t.one in
    let found : entry_under d.slots.table c.args.slot ≡ Some e = ap (λ (s : DriverState). entry_under s.table c.args.slot) c.self.view_is ∙ t.is in
    let may = may_send_live e.value.end 0 (c.requires.credit e t.is) in
    if_there (λ (x : DriverConnection). x.end.state ≡ state.Live) d.slots.table c.args.slot e found may.live

pub want_credit-requires-clause-none : goal.want_credit-requires-clause-none
want_credit-requires-clause-none c =
    let d = c.self.inside in
    let t = there (entry_under c.args.self.now.table c.args.slot) c.requires.held in
    let e : DriverEntry = t.one in
    let found : entry_under d.slots.table c.args.slot ≡ Some e = ap (λ (s : DriverState). entry_under s.table c.args.slot) c.self.view_is ∙ t.is in
    let may = may_send_live e.value.end 0 (c.requires.credit e t.is) in
    if_there (λ (x : DriverConnection). free_of x.end.credit ≡ 0) d.slots.table c.args.slot e found may.free

pub returns-clause-state : goal.returns-clause-state
returns-clause-state c = λ e is.
    let d = c.self.inside in
    let s : DriverState = the_view d in
    let found : entry_under d.slots.table c.args.slot ≡ Some e = rw (← c.self.view_is) at is in
    let slots = c.want_credit.ensures.left e.value (value_of d.slots.table c.args.slot e found) in
    let v : DriverConnection = e.value in
    rw (← c.self.view_is) (ap (λ (h : HeldSlots). the_view (record d { slots = h })) slots
    ∙ ap (λ (n : ℕ). with_connection n (record v { end = wanting_credit v.end }) s) (sym (has_slot d.slots.table c.args.slot e found)))
