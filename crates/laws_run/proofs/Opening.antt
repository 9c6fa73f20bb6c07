-- All connections that apps opened have the flows that the entries tell.
use Rattle.std.proofs.lemmas.Grind.{common_steps}
use Rattle.std.proofs.Common.{arith}
use Rattle.std.proofs.{Common.{ℕ, ◌==◌, Bool, cond, List, [], ◌∷◌, Option, Some, None, Result, Ok, Err}, lemmas.List.Elements.{All-append, All-cons, All-nil}}
use Rattle.std.specs.List.{All, flat_map, range_with_len}
use Rattle.vs_flow.specs.{Connection.Connection, declared.flow.Flow.Flow}
use Rattle.vs_driver_parts.specs.declared.answers.{Accepted.Accepted, ConnectError.ConnectError}
use Rattle.vs_apps_parts.specs.declared.journal.{Called.Called, Deed.Deed, Entry.Entry}
use Rattle.laws_apps.specs.Accounts.{HasOne, IsAccepted, IsConnected, TellFlows, TellsFlow}
use Rattle.vs_run_report.specs.Connections.{listed, opened_all, opened_as, opened_by, opened_by_accept, opened_by_connect, opened_in, opened_of}
use Rattle.vs_run_report.specs.declared.connection.Opened.{Opened}
use Rattle.vs_driver_parts.specs.declared.answers.Accepted.TheVariants as accepted
use Rattle.vs_apps_parts.specs.declared.journal.Called.TheVariants as called
use Rattle.vs_apps_parts.specs.declared.journal.Deed.TheVariants as deed

flat_all : {A B : Type 0} (P : B → Type 0) (f : A → List B) (xs : List A) → ((x : A) → All P (f x)) → All P (flat_map f xs)
flat_all P f [] each = All-nil P
flat_all P f (x ∷ xs) each = All-append P (f x) (flat_map f xs) (each x) (flat_all P f xs each)

module _ (opened : ℕ → Connection) where
  abbrev IsOf : Opened → Type 0
  IsOf o = HasOne opened o.id (Some o.flow)

  abbrev IsOfAny : Option Opened → Type 0
  IsOfAny None = Unit {0}
  IsOfAny (Some o) = IsOf o

  as_is : (id : ℕ) (flow : Option Flow) → HasOne opened id flow → IsOfAny (opened_as id flow)
  as_is id None has = tt
  as_is id (Some f) has = has

  connect_is : (r : Result ℕ ConnectError) (flow : Option Flow) → IsConnected opened r flow → IsOfAny (opened_by_connect r flow)
  connect_is (Ok id) flow is = as_is id flow is
  connect_is (Err why) flow is = tt

  accept_is : (r : Accepted) (flow : Option Flow) → IsAccepted opened r flow → IsOfAny (opened_by_accept r flow)
  accept_is r flow is = grind (arith, common_steps, as_is)

  called_is : (c : Called) → TellsFlow opened c → IsOfAny (opened_in c)
  called_is c is = grind (arith, common_steps, connect_is, accept_is)

  by_is : (b : Bool) (d : Deed) → elim d as (λ _. Type 0) [ deed.Called c ↦ TellsFlow opened c | deed.Waited times why ↦ Unit {0} ]
      → IsOfAny (cond b (elim d as (λ _. Option Opened) [ deed.Called c ↦ opened_in c | deed.Waited times why ↦ None ]) None)
  by_is b d is = grind (arith, common_steps, called_is)

  listed_is : (o : Option Opened) → IsOfAny o → All IsOf (listed o)
  listed_is None is = All-nil IsOf
  listed_is (Some o) is = All-cons IsOf o [] is (All-nil IsOf)

  of_app : (k : ℕ) (es : List Entry) → TellFlows opened es → All IsOf (opened_of k es)
  of_app k [] are = All-nil IsOf
  of_app k (e ∷ es) are =
      All-append IsOf (listed (opened_by k e)) (opened_of k es) (listed_is (opened_by k e) (by_is (e.app == k) e.deed are.0)) (of_app k es are.1)

  pub all_opened : (count : ℕ) (es : List Entry) → TellFlows opened es → All IsOf (opened_all count es)
  all_opened count es are = flat_all IsOf (λ k. opened_of k es) (range_with_len 0 count) (λ k. of_app k es are)
