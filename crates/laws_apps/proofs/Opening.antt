-- The flows that a journal's entries tell of the connections that they opened.
use Rattle.std.proofs.lemmas.Grind.{common_steps}
use Rattle.std.proofs.Common.{◌≡◌, ℕ, zero, suc, ◌≤◌, ◌==◌, Bool, List, [], ◌∷◌, ◌++◌, Option, Some, None, Result, Ok, Err, subst, arith, slice_set}
use Rattle.std.{proofs.lemmas.{Bool.Decides.nat_tests, Option.{get_or_from_slice_get, slice_get_within}}, specs.Option.option_map}
use Rattle.vs_flow.{specs.{Connection.Connection}, proofs.{Entries.found_passes, Lookups.find_place}}
use Rattle.vs_page.specs.Log.{Log}
use Rattle.vs_driver_parts.specs.{State.{DriverEntry, DriverState, GoneConnection, entry_known_as, gone_known_as}, Connections.flow_of}
use Rattle.vs_driver_parts.specs.declared.answers.{Accepted.Accepted, ConnectError.ConnectError}
use Rattle.laws_tables.proofs.Slots.{found_by}
use Rattle.laws_driver.specs.{Honest.slots_of, Carried.{Calls.{flow_accepted, flow_opened}, Received.{Account, AreReceived, ReceivedOn}}}
use Rattle.vs_apps_parts.specs.{Journals.entry_waited, declared.journal.{Called.Called, Deed.Deed, Entry.Entry, WaitsFor.WaitsFor}}
use Rattle.laws_apps.specs.{Accounts.{EntryTells, HasOne, IsAccepted, IsConnected, TellFlows, TellsFlow}, Runs.HasFlow}
use Rattle.vs_driver_parts.specs.declared.answers.Accepted.TheVariants as accepted
use Rattle.vs_apps_parts.specs.declared.journal.Deed.TheVariants as deed

-- Where ids that had connections keep them, all that was told of them stays so.
module _ (a b : ℕ → Connection) (stay : (id : ℕ) → 1 ≤ (a id).number → b id ≡ a id) where
  told_stays : (c : Called) → TellsFlow a c → TellsFlow b c
  told_stays c is = grind (arith, common_steps)

  deed_stays : (d : Deed) → elim d as (λ _. Type 0) [ deed.Called c ↦ TellsFlow a c | deed.Waited times why ↦ Unit {0} ]
      → elim d as (λ _. Type 0) [ deed.Called c ↦ TellsFlow b c | deed.Waited times why ↦ Unit {0} ]
  deed_stays (deed.Called c) is = told_stays c is
  deed_stays (deed.Waited times why) is = tt

  pub flows_stay : (es : List Entry) → TellFlows a es → TellFlows b es
  flows_stay [] are = tt
  flows_stay (e ∷ es) are = (deed_stays e.deed are.0, flows_stay es are.1)

-- An entry more, and a wait in place of another entry.
module _ (opened : ℕ → Connection) where
  pub flows_snoc : (es : List Entry) (e : Entry) → TellFlows opened es → EntryTells opened e → TellFlows opened (es ++ e ∷ [])
  flows_snoc [] e are is = (is, tt)
  flows_snoc (x ∷ es) e are is = (are.0, flows_snoc es e are.1 is)

  pub flows_set : (k times : ℕ) (why : WaitsFor) (es : List Entry) (place : ℕ) → TellFlows opened es
      → TellFlows opened (slice_set es place (entry_waited k times why))
  flows_set k times why [] place are = tt
  flows_set k times why (x ∷ es) zero are = (tt, are.1)
  flows_set k times why (x ∷ es) (suc place) are = (are.0, flows_set k times why es place are.1)

-- The flow by which the driver knows an id is that of the id's connection.
module _ (a : Account) (log : Log) (s : DriverState) (account : AreReceived a log (slots_of s)) where
  held_has : (id : ℕ) (e : DriverEntry) → entry_known_as id s ≡ Some e → HasOne a.opened id (Some e.flow)
  held_has id e known = grind (arith, common_steps, found_by, found_passes, nat_tests)

  gone_has : (id : ℕ) (g : GoneConnection) → gone_known_as id s ≡ Some g → HasOne a.opened id (Some g.flow)
  gone_has id g found =
      let test : GoneConnection → Bool = λ h. h.id == id in
      let place = find_place test s.gone g found in
      let on = subst (ReceivedOn a log) (get_or_from_slice_get s.gone place.0 g g place.1)
      (account.left place.0 g (slice_get_within s.gone place.0 g place.1)) in
      subst (λ (i : ℕ). HasOne a.opened i (Some g.flow)) (grind (arith, nat_tests, (found_passes test s.gone g found))) (on.some, on.flow)

  gone_by : (id : ℕ) (o : Option GoneConnection) → gone_known_as id s ≡ o → HasOne a.opened id (option_map (λ g. g.flow) o)
  gone_by id None is = tt
  gone_by id (Some g) is = gone_has id g is

  flow_has : (id : ℕ) → HasOne a.opened id (flow_of id s)
  flow_has id = grind (arith, common_steps, gone_by, held_has)

  connected_has : (r : Result ℕ ConnectError) → IsConnected a.opened r (flow_opened r s)
  connected_has (Ok id) = flow_has id
  connected_has (Err why) = tt

  accepted_has : (r : Accepted) → IsAccepted a.opened r (flow_accepted r s)
  accepted_has (accepted.Conn id) = flow_has id
  accepted_has r = tt

  pub called_has : (c : Called) → HasFlow c s → TellsFlow a.opened c
  called_has c = grind (arith, common_steps, connected_has, accepted_has)
