-- Two tables with the same flows have as many connections.
use Rattle.std.proofs.{Common.{◌≡◌, ◌+◌, ◌==◌, ℕ, Bool, true, false, List, [], ◌∷◌, length, refl, sym, ap, ◌∙◌, subst, arith}, lemmas.{Bool.{eq-eqb, eqb-true}, List.length-map}}
use Rattle.vs_flow.specs.{Flow.same_flow, declared.flow.Flow.Flow}
use Rattle.vs_limits.specs.declared.TheConstants.{HOST_CID}
use Rattle.vs_page.{specs.Log.{Device, Driver, Role}, proofs.Flows.{same_is, same_self}}
use Rattle.laws_tables.{specs.{Both.{Both, at}, Ends.{AreDistinct, FlowEnd, flows_of, is_among, without}}, proofs.Entries.{among_flows, without_distinct, without_none}}
use Rattle.laws_tables.proofs.{Entries.without_own, Tables.{IsOnce, once_rest, only_end, own_none}}
use Rattle.laws_rest.{specs.Rest.{IsAtRest, IsWithHost}, proofs.Resting.same_flows}

length_without : (f : Flow) (ys : List Flow) → AreDistinct ys → is_among f ys ≡ true → length ys ≡ length (without f ys) + 1
length_without f [] once there = absurd cc
length_without f (y ∷ ys) once there = by (same_flow f y) refl (length_without f ys once.1)
  where
    by : (b : Bool) → same_flow f y ≡ b → (is_among f ys ≡ true → length ys ≡ length (without f ys) + 1)
        → length (y ∷ ys) ≡ length (without f (y ∷ ys)) + 1
    by true same rest =
        let none : is_among f ys ≡ false = subst (λ g. is_among g ys ≡ false) (sym (same_is f y same)) once.0 in
        let whole = ap length (without_none f ys none) in rw same (omega (arith, whole))
    by false other rest = let r = rest (rw other at there) in rw other (omega (arith, r))

among_without : (f g : Flow) (ys : List Flow) → same_flow g f ≡ false → is_among g (without f ys) ≡ is_among g ys
among_without f g [] other = refl
among_without f g (y ∷ ys) other = by (same_flow f y) refl (among_without f g ys other)
  where
    by : (b : Bool) → same_flow f y ≡ b → is_among g (without f ys) ≡ is_among g ys → is_among g (without f (y ∷ ys)) ≡ is_among g (y ∷ ys)
    by true same rest =
        let apart : same_flow g y ≡ false = subst (λ h. same_flow g h ≡ false) (same_is f y same) other in rw same (rw apart rest)
    by false differs rest = rw differs (rw rest refl)

as_many : (xs ys : List Flow) → AreDistinct xs → AreDistinct ys → ((f : Flow) → is_among f xs ≡ is_among f ys) → length xs ≡ length ys
as_many [] [] once once_there same = refl
as_many [] (y ∷ ys) once once_there same =
    let own : is_among y (y ∷ ys) ≡ true = rw (same_self y) refl in
    let no : false ≡ true = same y ∙ own in absurd cc
as_many (x ∷ xs) ys once once_there same =
    let there : is_among x ys ≡ true = sym (same x) ∙ (rw (same_self x) refl) in
    let len = length_without x ys once_there there in
    let rest = as_many xs (without x ys) once.1 (without_distinct x ys once_there) (λ f. by f (same_flow f x) refl) in
    omega (arith, len, rest)
  where
    by : (f : Flow) (b : Bool) → same_flow f x ≡ b → is_among f xs ≡ is_among f (without x ys)
    by f true is = subst (λ g. is_among g xs ≡ is_among g (without x ys)) (sym (same_is f x is)) (once.0 ∙ sym (without_own x ys))
    by f false other =
        let here : is_among f (x ∷ xs) ≡ is_among f xs = rw other refl in sym here ∙ same f ∙ sym (among_without x f ys other)

distinct : (xs : List FlowEnd) → IsOnce xs → AreDistinct (flows_of xs)
distinct [] once = tt
distinct (x ∷ xs) once = (among_flows x.flow xs (own_none x xs once), distinct xs (once_rest x xs once))

-- On a flow that isn't one with the host neither has a connection.
all_flows : (first : ℕ) (b : Both) → ((role : Role) → IsWithHost (at role b).part) → IsAtRest first b → (f : Flow)
    → is_among f (flows_of b.driver.part.entries) ≡ is_among f (flows_of b.device.part.entries)
all_flows first b hosts r f = by (f.peer == HOST_CID) refl
  where
    none : (role : Role) → (f.peer == HOST_CID) ≡ false → (c : Bool) → is_among f (flows_of (at role b).part.entries) ≡ c → c ≡ false
    none role other false is = refl
    none role other true is =
        let no : true ≡ false = sym (eq-eqb f.peer HOST_CID (hosts role f is)) ∙ other in absurd cc

    by : (c : Bool) → (f.peer == HOST_CID) ≡ c → is_among f (flows_of b.driver.part.entries) ≡ is_among f (flows_of b.device.part.entries)
    by true host = same_flows first b f (eqb-true f.peer HOST_CID host) r
    by false other = none Driver other (is_among f (flows_of b.driver.part.entries)) refl
        ∙ sym (none Device other (is_among f (flows_of b.device.part.entries)) refl)

pub same_numbers : (first : ℕ) (b : Both) → ((role : Role) → IsWithHost (at role b).part) → IsAtRest first b
    → length b.driver.part.entries ≡ length b.device.part.entries
same_numbers first b hosts r =
    sym (length-map b.driver.part.entries (λ x. x.flow))
    ∙ as_many (flows_of b.driver.part.entries) (flows_of b.device.part.entries) (of Driver) (of Device) (all_flows first b hosts r)
    ∙ length-map b.device.part.entries (λ x. x.flow)
  where
    of : (role : Role) → AreDistinct (flows_of (at role b).part.entries)
    of role =
        distinct (at role b).part.entries (λ f e more is. only_end role first (at role b).part (at role b).log f e more (r.matches role).flows is)
