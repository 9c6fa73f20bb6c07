use Rattle.std.{proofs.Common.{◌≡◌, ◌≤◌, Option, Some, ap, subst, ◌∙◌, rules}, specs.Prelude.IfSome}
use Rattle.vs_conn.specs.End.{view_of}
use Rattle.vs_flow.specs.Table.{entry_under}
use Rattle.vs_driver_parts.{proofs.Ids.{value_of, has_slot}, specs.{State.{DriverConnection, DriverState}, Held.HeldSlots}}
use Rattle.vs_driver.{specs.contracts.driver.Driver.the_view, proofs.Growing.{grown_there, may_by}}
use Rattle.vs_conn.specs.declared.end.State.TheVariants as state
use Rattle.vs_driver_parts.specs.declared.answers.Grown.TheVariants as rise
use Rattle.vs_driver.proofs.driver.Driver.grow_in.Goals as goal

pub grow-requires-clause-live : goal.grow-requires-clause-live
grow-requires-clause-live c =
    let done : c.grow_answer-answer.result ≡ rise.Done = search rules in
    let may = may_by c.in-Some.connection.now.end c.args.alloc _ _ c.end-end.ensures c.grow_answer-answer.ensures done in
    subst (λ (o : Option DriverConnection). IfSome o (λ x. x.end.state ≡ state.Live)) c.in-Some.ensures may.live

pub grow-requires-clause-rises : goal.grow-requires-clause-rises
grow-requires-clause-rises c =
    let done : c.grow_answer-answer.result ≡ rise.Done = search rules in
    let may = may_by c.in-Some.connection.now.end c.args.alloc _ _ c.end-end.ensures c.grow_answer-answer.ensures done in
    subst (λ (o : Option DriverConnection). IfSome o (λ x. x.end.credit.alloc ≤ c.args.alloc)) c.in-Some.ensures may.rises

pub grow-requires-clause-most : goal.grow-requires-clause-most
grow-requires-clause-most c =
    let done : c.grow_answer-answer.result ≡ rise.Done = search rules in
    (may_by c.in-Some.connection.now.end c.args.alloc _ _ c.end-end.ensures c.grow_answer-answer.ensures done).most

pub returns-clause-answer : goal.returns-clause-answer
returns-clause-answer c = λ e found.
    let there : entry_under c.self.inside.slots.table c.args.slot ≡ Some e = rw (← c.self.view_is) at found in
    let both : Some c.in-Some.connection.now ≡ Some e.value = c.in-Some.ensures ∙ value_of c.self.inside.slots.table c.args.slot e there in
    let same : c.in-Some.connection.now ≡ e.value = cc in
    c.grow_answer-answer.ensures e.value.end (c.end-end.ensures ∙ ap (λ (x : DriverConnection). view_of x.end) same)

pub returns-clause-state : goal.returns-clause-state
returns-clause-state c = λ e found.
    let d = c.self.inside in
    let s : DriverState = the_view d in
    let there : entry_under d.slots.table c.args.slot ≡ Some e = rw (← c.self.view_is) at found in
    let slots = c.grow.ensures.left e.value (value_of d.slots.table c.args.slot e there) in
    let done : c.grow_answer-answer.result ≡ rise.Done = search rules in
    rw (← c.self.view_is) (ap (λ (h : HeldSlots). the_view (record d { slots = h })) slots
    ∙ grown_there c.args.slot c.args.alloc e s c.grow_answer-answer.result done (has_slot d.slots.table c.args.slot e there))
