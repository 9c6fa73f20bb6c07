-- The table of an end that matches its log.
use Rattle.std.proofs.Common.{◌≡◌, ◌≢◌, ℕ, zero, suc, ◌<◌, length, slice_index_or, is_some, Option, None, Bool, true, false, ◌&&◌, ◌||◌, not, List, [], ◌∷◌, refl, sym, ap}
use Rattle.std.{proofs.{Common.{◌∙◌, subst, arith}, lemmas.{Grind.common_steps, List.Kept.AllPairs-cons}}, specs.List.AllPairs}
use Rattle.vs_conn.specs.{End.ConnectionEnd, Follows.Follows}
use Rattle.vs_flow.specs.{Flow.same_flow, declared.flow.Flow.Flow}
use Rattle.laws_history.specs.History.{History, Side, puts, gots}
use Rattle.vs_page.specs.{Log.{Log, Role, Driver, side_of}, Open.{Phase, is_open, left_kind, open_kind, phase_of, phase_reset}, declared.log.LogEntry.TheVariants.Mark}
use Rattle.vs_page.proofs.Flows.{same_self}
use Rattle.laws_tables.specs.{Ends.{Ends, FlowEnd, begun_flows, ends_of, flows_of, is_among, is_new, new_flows, replied}, Heard.heard_of, Matches.{IsLeftOn, MatchesFlows}}
use Rattle.laws_tables.{specs.Steps.{HasEnd, HasNone}, proofs.OnFlow.{IsFirst, end_asks, end_follows}}

abbrev any_begun : List ConnectionEnd → Bool
any_begun [] = false
any_begun (e ∷ es) = not (is_new e) || any_begun es

begun_among : (f : Flow) (xs : List FlowEnd) → is_among f (begun_flows xs) ≡ any_begun (ends_of f xs)
begun_among f [] = refl
begun_among f (x ∷ xs) = let rest = begun_among f xs in grind (arith, common_steps)

left_begun : (role : Role) (side : Side) (h : History) (kind : Option ℕ) (reply_owed : Bool) (ends : List ConnectionEnd)
    → IsLeftOn role side h kind reply_owed ends → any_begun ends ≡ (is_some kind && not reply_owed)
left_begun = grind (arith, common_steps)

-- The flows of the connections that have begun are those that are open.
pub table_open : (role : Role) (first : ℕ) (part : Ends) (log : Log) (f : Flow) → MatchesFlows role first part log
    → is_among f (begun_flows part.entries) ≡ is_open role first f log (is_among f (replied part.replies))
table_open role first part log f m =
    begun_among f part.entries
    ∙ left_begun role (side_of role f) (heard_of role first f log) (left_kind role first f log) (is_among f (replied part.replies))
    (ends_of f part.entries)
    (m.on f)

-- All of the driver's have begun.
pub driver_begun : (first : ℕ) (part : Ends) (log : Log) (f : Flow) (e : ConnectionEnd) → MatchesFlows Driver first part log
    → HasEnd f e part
    → is_new e ≡ false
driver_begun first part log f e m has = grind (arith, common_steps)

pub end_begun : (role : Role) (first : ℕ) (part : Ends) (log : Log) (f : Flow) (e : ConnectionEnd) → MatchesFlows role first part log
    → HasEnd f e part
    → is_new e ≡ false → let h = heard_of role first f log in Follows (side_of role f) (puts h) (gots h) e
end_begun role first part log f e m has old =
    (end_follows role (side_of role f) (heard_of role first f log) (left_kind role first f log) (is_among f (replied part.replies))
    (ends_of f part.entries) e (m.on f) has old).follows

all_begun : (xs : List FlowEnd) → ((f : Flow) (e : ConnectionEnd) → ends_of f xs ≡ e ∷ [] → is_new e ≡ false)
    → ((f : Flow) (e : ConnectionEnd) (more : List ConnectionEnd) → ends_of f xs ≡ e ∷ more → more ≡ []) → (f : Flow)
    → is_among f (flows_of xs) ≡ is_among f (begun_flows xs)
all_begun xs old one f = by_ends (ends_of f xs) refl where
  any_flow : (f : Flow) (xs : List FlowEnd) → ends_of f xs ≡ [] → is_among f (flows_of xs) ≡ false
  any_flow f [] none = refl
  any_flow f (x ∷ xs) none = let rest = any_flow f xs in grind (arith, common_steps)

  some_flow : (f : Flow) (e : ConnectionEnd) (more : List ConnectionEnd) (xs : List FlowEnd) → ends_of f xs ≡ e ∷ more
      → is_among f (flows_of xs) ≡ true
  some_flow f e more [] is = absurd cc
  some_flow f e more (x ∷ xs) is = let rest = some_flow f e more xs in grind (arith, common_steps)

  by_ends : (es : List ConnectionEnd) → ends_of f xs ≡ es → is_among f (flows_of xs) ≡ is_among f (begun_flows xs)
  by_ends [] is = any_flow f xs is ∙ sym (begun_among f xs ∙ ap any_begun is)
  by_ends (e ∷ more) is =
      let none = one f e more is in
      let begun = old f e (is ∙ ap (λ es. e ∷ es) none) in
      let b = begun_among f xs ∙ ap any_begun is in
      some_flow f e more xs is ∙ sym (b ∙ (grind (arith, common_steps)))

pub only_end : (role : Role) (first : ℕ) (part : Ends) (log : Log) (f : Flow) (e : ConnectionEnd) (more : List ConnectionEnd)
    → MatchesFlows role first part log
    → ends_of f part.entries ≡ e ∷ more → more ≡ []
only_end role first part log f e more m is = grind (arith, common_steps)

pub driver_open : (first : ℕ) (part : Ends) (log : Log) (f : Flow) → MatchesFlows Driver first part log
    → is_among f (flows_of part.entries) ≡ is_open Driver first f log (is_among f (replied part.replies))
driver_open first part log f m =
    all_begun part.entries (λ g e has. driver_begun first part log g e m has)
    (λ g e more is. only_end Driver first part log g e more m is) f
    ∙ table_open Driver first part log f m

-- A flow without an end isn't open.
pub none_open : (role : Role) (first : ℕ) (part : Ends) (log : Log) (f : Flow) → MatchesFlows role first part log → HasNone f part
    → is_open role first f log (is_among f (replied part.replies)) ≡ false
none_open role first part log f m none = sym (table_open role first part log f m) ∙ begun_among f part.entries ∙ ap any_begun none

-- After a transport reset no connection is left that has begun.
none_among : (fs : List Flow) → ((f : Flow) → is_among f fs ≡ false) → fs ≡ []
none_among [] none = refl
none_among (f ∷ fs) none = let own = same_self f in let n = none f in absurd (grind (arith, common_steps))

pub reset_closed : (ph : Phase) → open_kind (phase_reset ph) ≡ None
reset_closed = grind (arith, common_steps)

pub reset_empty : (role : Role) (first cid : ℕ) (part : Ends) (log : Log) → MatchesFlows role first part (Mark cid ∷ log)
    → begun_flows part.entries ≡ []
reset_empty role first cid part log m =
    none_among (begun_flows part.entries) (λ f. table_open role first part (Mark cid ∷ log) f m
    ∙ ap (λ (k : Option ℕ). is_some k && not (is_among f (replied part.replies))) (reset_closed (phase_of role first f log)))

-- At most one end a flow.
abbrev pub IsOnce : List FlowEnd → Type 0
IsOnce xs = (f : Flow) (e : ConnectionEnd) (more : List ConnectionEnd) → ends_of f xs ≡ e ∷ more → more ≡ []

pub once_rest : (x : FlowEnd) (xs : List FlowEnd) → IsOnce (x ∷ xs) → IsOnce xs
once_rest x xs once f e more is =
    let one = once f x.end (e ∷ more) in
    let two = once f e more in
    grind (arith, common_steps)

no_flow_at : (f : Flow) (xs : List FlowEnd) (k : ℕ) (d : FlowEnd) → ends_of f xs ≡ [] → k < length xs → f ≢ (slice_index_or xs k d).flow
no_flow_at f [] k d none less is = absurd (omega (arith, less))
no_flow_at f (x ∷ xs) zero d none less is =
    let own : same_flow f x.flow ≡ true = subst (λ g. same_flow f g ≡ true) is (same_self f) in absurd (grind (arith, common_steps))
no_flow_at f (x ∷ xs) (suc k) d none less is =
    let rest : ends_of f xs ≡ [] = (grind (arith, common_steps)) in no_flow_at f xs k d rest (omega (arith, less)) is

pub own_none : (x : FlowEnd) (xs : List FlowEnd) → IsOnce (x ∷ xs) → ends_of x.flow xs ≡ []
own_none x xs once = once x.flow x.end (ends_of x.flow xs) (rw (same_self x.flow) refl)

all_distinct : (xs : List FlowEnd) → IsOnce xs → AllPairs (λ d e. d.flow ≢ e.flow) xs
all_distinct [] once = λ i j d before less. absurd (omega (arith, less))
all_distinct (x ∷ xs) once =
    AllPairs-cons (λ d e. d.flow ≢ e.flow) x xs (λ k d less. no_flow_at x.flow xs k d (own_none x xs once) less)
    (all_distinct xs (once_rest x xs once))

pub table_distinct : (role : Role) (first : ℕ) (part : Ends) (log : Log) → MatchesFlows role first part log
    → AllPairs (λ d e. d.flow ≢ e.flow) part.entries
table_distinct role first part log m = all_distinct part.entries (λ f e more is. only_end role first part log f e more m is)

-- A connection that has not begun is one that asks, on a flow on which nothing is awaited.
pub end_new : (role : Role) (first : ℕ) (part : Ends) (log : Log) (f : Flow) (e : ConnectionEnd) → MatchesFlows role first part log
    → HasEnd f e part
    → is_new e ≡ true → IsFirst (side_of role f) (heard_of role first f log) (left_kind role first f log)
    (is_among f (replied part.replies)) e
end_new role first part log f e m has new =
    end_asks role (side_of role f) (heard_of role first f log) (left_kind role first f log) (is_among f (replied part.replies))
    (ends_of f part.entries) e (m.on f) has new

-- Each connection has begun or is new.
begun_or_new : (f : Flow) (xs : List FlowEnd) → is_among f (flows_of xs) ≡ (is_among f (begun_flows xs) || is_among f (new_flows xs))
begun_or_new f [] = refl
begun_or_new f (x ∷ xs) = let rest = begun_or_new f xs in grind (arith, common_steps)

pub all_open : (role : Role) (first : ℕ) (part : Ends) (log : Log) (f : Flow) → MatchesFlows role first part log
    → is_among f (flows_of part.entries) ≡
    (is_open role first f log (is_among f (replied part.replies)) || is_among f (new_flows part.entries))
all_open role first part log f m =
    begun_or_new f part.entries ∙ ap (λ b. b || is_among f (new_flows part.entries)) (table_open role first part log f m)
