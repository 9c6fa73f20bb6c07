-- Which ids have a line: those that an app was given; and an id that was closed was given, and a port that is listened on stands in the script.
use Rattle.std.proofs.Common.{◌≡◌, ℕ, zero, suc, ◌+◌, ◌<◌, ◌≤◌, ◌||◌, Bool, true, false, cond, List, [], ◌∷◌, length, get_or, Option, Some, None, Ok, Err, refl, sym, ap, subst}
use Rattle.std.proofs.{Common.{◌∙◌, arith, slice_get}, lemmas.{Bool.{eq-eqb, eqb-true}, List.{Folds.list_any-append, FromFn.{get_or-range_with_len, length-range_with_len}}}}
use Rattle.std.specs.List.{flat_map, list_any, range_with_len}
use Rattle.vs_flow.specs.Connection.{Connection}
use Rattle.vs_script.specs.App.{Listen}
use Rattle.laws_driver.specs.Carried.Calls.{GuestCall, Journal, ReplyTo, names}
use Rattle.vs_apps_parts.specs.{Journals.{calls_of, calls_of_app, made_by, made_by_app, made_of}, Scripts.{RunScript, acts_of}, declared.journal.{Called.Called, Deed.Deed}}
use Rattle.vs_apps_parts.specs.declared.journal.Entry.{Entry}
use Rattle.laws_apps.specs.{Accounts.{HasOne, TellFlows, TellsFlow}, Runs.{IsRunOf, Run, app_at}, Placed.{AreOwned, NamesFlow, NamesOne, given_by, some_did, was_closed, was_given}}
use Rattle.laws_apps.{specs.Placed.was_listened, proofs.{Named.{app_did, closed_given, did_append, listened_there}, Placed.{one_of, or_first, or_second}}}
use Rattle.vs_run_report.specs.{Connections.{listed, opened_all, opened_by, opened_in, opened_of}, declared.connection.Opened.Opened}
use Rattle.vs_driver_parts.specs.declared.answers.Accepted.TheVariants as accepted
use Rattle.vs_apps_parts.specs.declared.journal.Called.TheVariants as called
use Rattle.vs_apps_parts.specs.declared.journal.Deed.TheVariants as deed

plain : (b : Bool) → (b || false) ≡ true → b ≡ true
plain true is = refl
plain false is = is

-- An app of the script did what some call did.
module _ (by : (call : GuestCall) → ReplyTo call → Option ℕ) (m : ℕ) (script : RunScript) (bytes : List ℕ) where
  pub record AppDid (n : ℕ) (es : List Entry) : Type 0 where
    pub app : ℕ
    pub less : app < n
    pub did : some_did by m (calls_of_app app script bytes es) ≡ true

  pub did_app : (n : ℕ) (es : List Entry) → AreOwned n es → some_did by m (calls_of script bytes es) ≡ true → AppDid n es
  did_app n [] owned is = absurd cc
  did_app n (e ∷ es) owned is =
      one_of false (some_did by m (calls_of script bytes es)) (some_did by m (made_by script bytes e)) (AppDid n (e ∷ es))
      (sym (did_append by m (calls_of script bytes es) (made_by script bytes e)) ∙ is) (λ no_way. absurd cc)
      (λ older. let r = did_app n es owned.1 older in record {
        app = r.app;
        less = r.less;
        did = did_append by m (calls_of_app r.app script bytes es) (made_by_app r.app script bytes e) ∙ or_first (some_did by m (calls_of_app r.app script bytes es)) _ r.did;
      })
      (λ now. record {
        app = e.app;
        less = owned.0.app;
        did = did_append by m (calls_of_app e.app script bytes es) (made_by_app e.app script bytes e)
            ∙ or_second (some_did by m (calls_of_app e.app script bytes es)) _
            (ap (λ (b : Bool). some_did by m (cond b (made_by script bytes e) [])) (eq-eqb e.app e.app refl) ∙ now);
      })

-- A run's ids that were closed were given, and its ports that are listened on stand in its script.
module _ (first : ℕ) (script : RunScript) (run : Run) (is : IsRunOf first script run) (owned : AreOwned (length script) run.entries) where
  pub closed_was_given : (id : ℕ) → 1 ≤ id → was_closed id (calls_of script run.bytes run.entries) ≡ true → was_given id (calls_of script run.bytes run.entries) ≡ true
  closed_was_given id some closed =
      let r = did_app _ id script run.bytes (length script) run.entries owned closed in
      let played = is.follows r.app r.less in
      app_did given_by id script run.bytes r.app run.entries
      (subst (λ (js : Journal). was_given id js ≡ true) played.2 (closed_given id some (acts_of r.app script) played.0 (app_at r.app run).progress played.1
      (subst (λ (js : Journal). was_closed id js ≡ true) (sym played.2) r.did)))

  pub listened_in : (port : ℕ) → was_listened port (calls_of script run.bytes run.entries) ≡ true
      → (k : ℕ) × (k < length script) × (i : ℕ) × (slice_get (acts_of k script) i ≡ Some (Listen port))
  listened_in port listened =
      let r = did_app _ port script run.bytes (length script) run.entries owned listened in
      let played = is.follows r.app r.less in
      let there = listened_there port (acts_of r.app script) played.0 (app_at r.app run).progress played.1
      (subst (λ (js : Journal). was_listened port js ≡ true) (sym played.2) r.did) in
      (r.app, r.less, there.0, there.1)

-- An id that was given has a line, for which holds what holds of its connection.
module _ (script : RunScript) (bytes : List ℕ) (opened : ℕ → Connection) (n id : ℕ) (test : Opened → Bool)
    (holds : (o : Opened) → HasOne opened o.id (Some o.flow) → o.id ≡ id → test o ≡ true) where
  record IsOpened (c : Called) : Type 0 where
    line : Opened
    is : opened_in c ≡ Some line
    passes : test line ≡ true

  opened_by_it : (k : ℕ) (c : Called) → TellsFlow opened c → NamesFlow c
      → names id (given_by (made_of script bytes k c).call (made_of script bytes k c).reply) ≡ true → IsOpened c
  opened_by_it k (called.Connect port (Ok i) (Some f)) tells named is =
      record { line = record { id = i; flow = f }; is = refl; passes = holds (record { id = i; flow = f }) tells (sym (eqb-true id i is)) }
  opened_by_it k (called.Connect port (Ok i) None) tells named is = absurd named
  opened_by_it k (called.Connect port (Err why) flow) tells named is = absurd cc
  opened_by_it k (called.Accept port (accepted.Conn i) (Some f)) tells named is =
      record { line = record { id = i; flow = f }; is = refl; passes = holds (record { id = i; flow = f }) tells (sym (eqb-true id i is)) }
  opened_by_it k (called.Accept port (accepted.Conn i) None) tells named is = absurd named
  opened_by_it k (called.Accept port accepted.None flow) tells named is = absurd cc
  opened_by_it k (called.Accept port accepted.NotListening flow) tells named is = absurd cc
  opened_by_it k (called.Listen port answer) tells named is = absurd cc
  opened_by_it k (called.Send i at from len answer) tells named is = absurd cc
  opened_by_it k (called.Recv i len from answer) tells named is = absurd cc
  opened_by_it k (called.Shutdown i bits answer) tells named is = absurd cc
  opened_by_it k (called.Grow i alloc answer) tells named is = absurd cc
  opened_by_it k (called.Close i answer) tells named is = absurd cc
  opened_by_it k (called.LookAt i answer) tells named is = absurd cc

  record HasLine (es : List Entry) : Type 0 where
    app : ℕ
    less : app < n
    any : list_any test (opened_of app es) ≡ true

  line_here : (e : Entry) (es : List Entry) → e.app < n → (d : Deed) → e.deed ≡ d → elim d as (λ _. Type 0) [ deed.Called c ↦ TellsFlow opened c | deed.Waited times why ↦ Unit {0} ]
      → NamesOne d → some_did given_by id (elim d as (λ _. Journal) [ deed.Called c ↦ made_of script bytes e.app c ∷ [] | deed.Waited times why ↦ [] ]) ≡ true
      → HasLine (e ∷ es)
  line_here e es less (deed.Waited times why) at tells named is = absurd cc
  line_here e es less (deed.Called c) at tells named is =
      let o = opened_by_it e.app c tells named (plain (names id (given_by (made_of script bytes e.app c).call (made_of script bytes e.app c).reply)) is) in
      record {
        app = e.app;
        less = less;
        any = list_any-append test (listed (opened_by e.app e)) (opened_of e.app es)
            ∙ or_first (list_any test (listed (opened_by e.app e))) _
            (ap (λ (b : Bool). list_any test (listed (cond b (elim e.deed as (λ _. Option Opened) [ deed.Called x ↦ opened_in x | deed.Waited times why ↦ None ]) None)))
            (eq-eqb e.app e.app refl)
            ∙ ap (λ (d : Deed). list_any test (listed (elim d as (λ _. Option Opened) [ deed.Called x ↦ opened_in x | deed.Waited times why ↦ None ]))) at
            ∙ ap (λ (x : Option Opened). list_any test (listed x)) o.is ∙ ap (λ (b : Bool). b || false) o.passes);
      }

  line_in : (es : List Entry) → AreOwned n es → TellFlows opened es → was_given id (calls_of script bytes es) ≡ true → HasLine es
  line_in [] owned tells is = absurd cc
  line_in (e ∷ es) owned tells is =
      one_of false (was_given id (calls_of script bytes es)) (was_given id (made_by script bytes e)) (HasLine (e ∷ es))
      (sym (did_append given_by id (calls_of script bytes es) (made_by script bytes e)) ∙ is) (λ no_way. absurd cc)
      (λ older. let r = line_in es owned.1 tells.1 older in record {
        app = r.app;
        less = r.less;
        any = list_any-append test (listed (opened_by r.app e)) (opened_of r.app es) ∙ or_second (list_any test (listed (opened_by r.app e))) _ r.any;
      })
      (λ now. line_here e es owned.0.app e.deed refl tells.0 owned.0.flow now)

  any_flat : {A : Type 0} (f : A → List Opened) (xs : List A) (i : ℕ) (d : A) → i < length xs → list_any test (f (get_or xs i d)) ≡ true
      → list_any test (flat_map f xs) ≡ true
  any_flat f [] i d less is = absurd (omega (arith, less))
  any_flat f (x ∷ xs) zero d less is = list_any-append test (f x) (flat_map f xs) ∙ or_first (list_any test (f x)) _ is
  any_flat f (x ∷ xs) (suc i) d less is =
      list_any-append test (f x) (flat_map f xs) ∙ or_second (list_any test (f x)) _ (any_flat f xs i d (omega (arith, less)) is)

  plus : (k : ℕ) → 0 + k ≡ k
  plus k = omega arith

  pub given_line : (es : List Entry) → AreOwned n es → TellFlows opened es → was_given id (calls_of script bytes es) ≡ true → list_any test (opened_all n es) ≡ true
  given_line es owned tells is =
      let r = line_in es owned tells is in
      any_flat (λ k. opened_of k es) (range_with_len 0 n) r.app 0 (subst (λ (m : ℕ). r.app < m) (sym (length-range_with_len 0 n)) r.less)
      (subst (λ (k : ℕ). list_any test (opened_of k es) ≡ true) (sym (get_or-range_with_len 0 n r.app 0 r.less ∙ plus r.app)) r.any)
