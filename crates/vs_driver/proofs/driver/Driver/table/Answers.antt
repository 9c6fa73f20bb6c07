use Rattle.std.proofs.{Common.{List, ◌<◌, ◌≤◌, ◌^◌, map, length, sym, subst, arith, rules}, lemmas.List.length-map}
use Rattle.vs_conn.specs.declared.end.State.{State}
use Rattle.vs_flow.specs.declared.flow.Flow.{Flow}
use Rattle.vs_driver_parts.specs.{State.DriverEntry, State.DriverState, Connections.table_shown}
use Rattle.laws_driver.{specs.Honest.AgreesWith, specs.Honest.IsLeftOpen, proofs.Shown.left_open}
use Rattle.vs_driver.specs.contracts.driver.Driver.{the_view}
use Rattle.vs_driver.proofs.driver.Driver.table.Goals as goal

pub returns-clause-countable : goal.returns-clause-countable
returns-clause-countable c =
    let entries : List DriverEntry = c.self.inside.slots.table.entries in
    let shown : DriverEntry → Flow × State = λ x. (x.flow, x.value.end.state) in
    let few : length entries ≤ 64 = search rules in
    let countable : length (map shown entries) < 2 ^ 64 = omega (arith, length-map entries shown, few) in
    countable

pub returns-clause-open : goal.returns-clause-open
returns-clause-open c = λ hosts first l agrees.
    let s : DriverState = the_view c.self.inside in
    let seen : AgreesWith hosts first s l = subst (λ (x : DriverState). AgreesWith hosts first x l) (sym c.self.view_is) agrees in
    subst (λ (x : DriverState). IsLeftOpen first (table_shown s) x.replies l) c.self.view_is (left_open hosts first s l seen)
