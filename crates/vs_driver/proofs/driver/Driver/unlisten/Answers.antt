use Rattle.std.proofs.Common.{◌≡◌, ℕ, List, length, drop, get_or, ◌<◌, ◌≤◌, ◌+◌, sym, ap, subst, ◌∙◌, rules}
use Rattle.vs_driver_parts.specs.{State.{DriverState, Listener}, Connections.{waiting_on, all_closed, after_close, without_listener}}
use Rattle.vs_driver.{specs.contracts.driver.Driver.the_view, proofs.Kept.kept, proofs.Reading.closed_next, proofs.Reading.closed_ended}
use Rattle.laws_driver.proofs.Changing.{unlisten_changes}
use Rattle.vs_driver.proofs.driver.Driver.unlisten.Goals as goal

pub loop-id-preserved : goal.loop-id-preserved
loop-id-preserved c =
    let xs = c.as_slice-id-items.result.now in
    let i = c.loop-id.id-index in
    let within : i < length xs = search rules in
    let waiting : xs ≡ c.all_waiting-waiting.result.items = search rules in
    let is : xs ≡ waiting_on c.args.port c.args.self.now = subst (λ (x : DriverState). xs ≡ waiting_on c.args.port x) c.self.view_is (waiting ∙ c.all_waiting-waiting.ensures) in
    let ids = waiting_on c.args.port c.args.self.now in
    let below : i < length ids = rw (← is) within in
    let element : get_or xs i 0 ≡ get_or ids i 0 = ap (λ (l : List ℕ). get_or l i 0) is in
    let next : all_closed (drop i ids) c.loop-id.self ≡ all_closed (drop (i + 1) ids) (after_close (get_or ids i 0) c.loop-id.self) = closed_next ids i 0 c.loop-id.self below in
    let closed : c.close.new.self ≡ after_close (get_or ids i 0) c.loop-id.self = c.close.ensures.state ∙ ap (λ (n : ℕ). after_close n c.loop-id.self) element in
    ap (λ (n : DriverState). all_closed (drop (i + 1) ids) n) closed ∙ (sym next ∙ c.loop-id.invariant)

pub returns-clause-state : goal.returns-clause-state
returns-clause-state c =
    let d = c.self-2.inside in
    let xs = c.as_slice-id-items.result.now in
    let i = c.loop-id.id-index in
    let ends : length xs ≤ i = search rules in
    let waiting : xs ≡ c.all_waiting-waiting.result.items = search rules in
    let is : xs ≡ waiting_on c.args.port c.args.self.now = subst (λ (x : DriverState). xs ≡ waiting_on c.args.port x) c.self.view_is (waiting ∙ c.all_waiting-waiting.ensures) in
    let all : c.loop-id.self ≡ all_closed (waiting_on c.args.port c.args.self.now) c.args.self.now =
    sym (closed_ended (waiting_on c.args.port c.args.self.now) i c.loop-id.self (rw (← is) ends)) ∙ c.loop-id.invariant in
    ap (λ (l : List Listener). the_view (record d { listeners = l })) c.unlisten.ensures
    ∙ ap (λ (x : DriverState). record x { listeners = without_listener c.args.port x.listeners }) (c.self-2.view_is ∙ all)

pub returns-clause-honest : goal.returns-clause-honest
returns-clause-honest c =
    λ hosts first r honest. kept hosts first c.args.self.now _ _ r (unlisten_changes c.args.port c.args.self.now) (returns-clause-state c) honest
