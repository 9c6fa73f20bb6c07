use Rattle.std.{proofs.{Common.{◌≡◌, sym, ap, subst, ◌∙◌, rules, tests}, lemmas.Iterator.{Search.find_from_yields_List, YieldsList-from_slice}}, specs.List.find}
use Rattle.std.specs.Option.{option_copied}
use Rattle.vs_driver_parts.specs.{State.DriverState, Listening.is_answered, Connections.waiting_on}
use Rattle.vs_driver.proofs.Reading.{next_is}
use Rattle.vs_driver.proofs.driver.Driver.next_accepted.Goals as goal

pub returns : goal.returns
returns c =
    let s : DriverState = c.args.self.now in
    let xs = c.waiting-waiting.result.now in
    let found : option_copied c.find.result ≡ find (is_answered s) xs =
    find_from_yields_List (is_answered s) _ _ c.find.result c.find.ensures.ran (YieldsList-from_slice xs cc)
    (λ x b q k. search (rules, tests)) in
    let is : xs ≡ waiting_on c.args.port s = subst (λ (x : DriverState). xs ≡ waiting_on c.args.port x) c.self.view_is
    c.waiting-waiting.ensures in
    c.copied.ensures ∙ (found ∙ (ap (find (is_answered s)) is ∙ sym (next_is c.args.port s)))
